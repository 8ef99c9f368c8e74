-- Demand 1 of the Mercury 206's functions for C: each hands over its call's number, and a refusal leaves count and length with the memory.
use mathlib.Core.Path.{refl, ap₂}
use mathlib.Core.List.{List}
use Prim.Native.Nat.{ℕ}
use lib.Dec.{ltb}
use lib.ListN.{length}
use Rattle.std.specs.Prelude.{Err, Ok, Result}
use Rattle.test_laws.proofs.Test.{either}
use Rattle.refusal.specs.Outcome.{Outcome}
use Rattle.byte_numbers.specs.Place.{written}
use Rattle.mercury.specs.Command.{command_of}
use Rattle.mercury.specs.Reply as reply
use Rattle.mercury.specs.declared.reply.Decoded.{Decoded}
use Rattle.mercury.specs.declared.reply.DecodeError.{DecodeError}
use Rattle.mercury.specs.declared.reply.DecodeError.TheVariants.{Malformed, NotDecimal}
use Rattle.mercury_bench.specs.Reply as bench
use Rattle.mercury_bench.specs.declared.meter.Meter.{Meter}
use Rattle.mercury_bench.specs.declared.reply.AnswerError.{AnswerError}
use Rattle.mercury_bench.specs.declared.reply.AnswerError.TheVariants.{TooShort, OutOfRange, Silent}
use Rattle.c_mercury.specs.Calls as c
use Rattle.claims.specs.Demand1.{in_table, Ends}
use Rattle.claims.proofs.MercuryCalls as calls

-- demand 1 of the request for C: a refused one leaves the output
pub request : (address code : ℕ) (out : List ℕ) → let o = c.request_for_c address code out in Ends o.result out o.left
unfolding c.request_for_c
request address code out =
    let e = calls.put_request address code out in
    record { in-table = e.in-table; unchanged = e.unchanged }

decoded : (d : Result Decoded DecodeError) (count : ℕ) (row : List ℕ)
    → Ends {A = ℕ × List ℕ} (reply.number_of d) (count, row) (c.count_after d count, written row 0 (c.figure_row d))
unfolding c.figure_row written
decoded (Ok figures) count row = calls.done (count, row) _
decoded (Err (Malformed fault)) count row = calls.stays 40 (count, row) (calls.decode (Err (Malformed fault)))
decoded (Err NotDecimal) count row = calls.stays 41 (count, row) (calls.decode (Err NotDecimal))

-- demand 1 of the decoding for C: a refused one leaves count and row
pub decode : (address code : ℕ) (y row : List ℕ) (count : ℕ) → let o = c.decode_for_c address code y row count in
    Ends {A = ℕ × List ℕ} o.result (count, row) o.left
unfolding c.decode_for_c in_table
decode address code y row count =
    either (λ (o : Outcome ℕ (ℕ × List ℕ)). Ends {A = ℕ × List ℕ} o.result (count, row) o.left) (ltb (length row) (c.figures_for (command_of code)))
    (calls.stays 1 (count, row) refl) (decoded (reply.decoded_of address code y) count row)

answered : (a : Result ℕ AnswerError) (length : ℕ) (out left : List ℕ) → Ends (bench.number_of a) out left
    → Ends {A = ℕ × List ℕ} (bench.number_of a) (length, out) (c.length_after a length, left)
answered (Ok n) length out left e = calls.done (length, out) _
answered (Err TooShort) length out left e = record { in-table = e.in-table; unchanged = λ n. ap₂ (λ (k : ℕ) (l : List ℕ). (k, l)) refl (e.unchanged n) }
answered (Err OutOfRange) length out left e = record { in-table = e.in-table; unchanged = λ n. ap₂ (λ (k : ℕ) (l : List ℕ). (k, l)) refl (e.unchanged n) }
answered (Err (Silent fault)) length out left e = record { in-table = e.in-table; unchanged = λ n. ap₂ (λ (k : ℕ) (l : List ℕ). (k, l)) refl (e.unchanged n) }

-- demand 1 of the answer for C: a refused one leaves length and output
pub answer : (m : Meter) (q out : List ℕ) (length : ℕ) → let o = c.answer_for_c m q out length in
    Ends {A = ℕ × List ℕ} o.result (length, out) o.left
unfolding c.answer_for_c
answer m q out length = let o = bench.answered m q out in answered o.result length out o.left (calls.answer m q out)
