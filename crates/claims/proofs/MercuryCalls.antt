-- Demand 1 for the Mercury 206: each check that fails leaves the output as it stood, and each number is the table's.
use mathlib.Core.Path.{◌≡◌, refl}
use mathlib.Core.Bool.{true}
use mathlib.Core.List.{List}
use Prim.Native.Nat.{ℕ}
use lib.Dec.{leb}
use lib.ListN.{length}
use Rattle.std.specs.Prelude.{Err, Ok, Result}
use Rattle.test_laws.proofs.Test.{either}
use Rattle.frame.specs.Layout.{longest}
use Rattle.claims.specs.Demand1.{in_table, Ends, EndsBy}
use Rattle.mercury.specs.Command.{command_of, is_known}
use Rattle.mercury.specs.Form.{request_form}
use Rattle.mercury.specs.Layout.{bare_size}
use Rattle.mercury.specs.Reply as reply
use Rattle.mercury.specs.Request as request
use Rattle.mercury.specs.declared.command.Command.{Command}
use Rattle.mercury.specs.declared.reply.Decoded.{Decoded}
use Rattle.mercury.specs.declared.reply.DecodeError.{DecodeError}
use Rattle.mercury.specs.declared.form.Fault.{Fault}
use Rattle.mercury.specs.declared.reply.DecodeError.TheVariants.{Malformed, NotDecimal}
use Rattle.mercury_bench.specs.Meter.{is_within}
use Rattle.mercury_bench.specs.Reply as bench
use Rattle.mercury_bench.specs.declared.meter.Meter.{Meter}

-- 0, whatever was done; a number of the table, and nothing done
pub done : {A : Type 0} (before after : A) → Ends 0 before after
unfolding in_table
done before after = record { in-table = refl; unchanged = λ n. absurd (n refl) }

-- a number of the table with nothing done, for the checks that fail
pub stays : {A : Type 0} (number : ℕ) (x : A) → in_table number ≡ true → Ends number x x
stays number x t = record { in-table = t; unchanged = λ n. refl }

-- the Mercury's `decode` of demand 1: each answer of its reader has a number of the table
pub decode : (d : Result Decoded DecodeError) → in_table (reply.number_of d) ≡ true
unfolding in_table
decode (Ok figures) = refl
decode (Err (Malformed fault)) = refl
decode (Err NotDecimal) = refl

-- the Mercury's `put_request` of demand 1: one that is refused leaves the lent output
pub put_request : (address code : ℕ) (out : List ℕ) → EndsBy request.number_of out (request.requested address code out)
unfolding request.requested in_table
put_request address code out =
    let P = EndsBy request.number_of out in
    either P (leb bare_size (length out)) (either P (is_known (command_of code)) (done out _) (stays 40 out refl)) (stays 1 out refl)

heard : (f : Result Unit Fault) (c : Command) (m : Meter) (out : List ℕ) → EndsBy bench.number_of out (bench.heard f c m out)
unfolding bench.heard in_table
heard (Ok tt) c m out = done out _
heard (Err fault) c m out = stays 40 out refl

-- the Mercury's `answer` of demand 1: a request that the bench refuses leaves the lent output
pub answer : (m : Meter) (q out : List ℕ) → EndsBy bench.number_of out (bench.answered m q out)
unfolding bench.answered in_table
answer m q out =
    let P = EndsBy bench.number_of out in
    either P (leb longest (length out)) (either P (is_within m) (heard (request_form m.address q) (bench.command_in q) m out) (stays 27 out refl)) (stays 1 out refl)
