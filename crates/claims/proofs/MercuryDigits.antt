-- A well-formed reply is taken exactly where every half-byte of its figures is a digit.
use mathlib.Core.Path.{◌≡◌, refl, ap, ◌∙◌}
use mathlib.Core.Bool.{Bool, true, false, cond, ◌&&◌, false≢true}
use mathlib.Core.List.{List, ◌++◌}
use Prim.Native.Nat.{ℕ}
use lib.Dec.{lit≤}
use lib.ListN.{take, drop}
use Rattle.std.specs.Prelude.{None, Ok, Option, Some}
use Rattle.packed_decimal.specs.Packed.{is_packed, value_of}
use Rattle.packed_decimal.proofs.PackedLaws.{packed-append, decimal-kind}
use Rattle.mercury.specs.Command.{command_of, is_known}
use Rattle.mercury.specs.Data.{tariffs_by, tariffs_of, load_by, load_of, frequency_by, frequency_of, rest_of}
use Rattle.mercury.specs.Form.{reply_form}
use Rattle.mercury.specs.Reply.{figures_of, formed, decoded_of, number_of}
use Rattle.mercury.specs.declared.command.Command.{Command}
use Rattle.mercury.specs.declared.command.Command.TheVariants.{Tariffs, Load, Frequency, Unknown}
use Rattle.mercury.specs.declared.units.Rest.{Rest}
use Rattle.mercury.proofs.DataLaws.{in-fours, in_three}
use Rattle.mercury.proofs.ReplyLaws.{accepted}
use Rattle.claims.specs.MercuryInverse.{digit_bytes}

-- a number where a test passes
abbrev kind : Bool → ℕ → Option ℕ
kind b n = cond b (Some n) None

four-kinds : (p q r s : Bool) (a b c e : ℕ) → number_of (tariffs_by (kind p a) (kind q b) (kind r c) (kind s e)) ≡ cond (p && (q && (r && s))) 0 41
unfolding tariffs_by
four-kinds true true true true a b c e = refl
four-kinds true true true false a b c e = refl
four-kinds true true false s a b c e = refl
four-kinds true false r s a b c e = refl
four-kinds false q r s a b c e = refl

three-kinds : (p q r : Bool) (a b c : ℕ) → number_of (load_by (kind p a) (kind q b) (kind r c)) ≡ cond (p && (q && r)) 0 41
unfolding load_by
three-kinds true true true a b c = refl
three-kinds true true false a b c = refl
three-kinds true false r a b c = refl
three-kinds false q r a b c = refl

one-kind : (p : Bool) (a : ℕ) (rest : Rest) → number_of (frequency_by (kind p a) rest) ≡ cond p 0 41
unfolding frequency_by
one-kind true a rest = refl
one-kind false a rest = refl

tariffs-digits : (d : List ℕ) → number_of (tariffs_of d) ≡ cond (is_packed (take 16 d)) 0 41
unfolding tariffs_of
tariffs-digits d =
    let A = take 4 d in
    let B = take 4 (drop 4 d) in
    let C = take 4 (drop 8 d) in
    let D = take 4 (drop 12 d) in
    let all : is_packed (take 16 d) ≡ (is_packed A && (is_packed B && (is_packed C && is_packed D))) =
    ap is_packed (in-fours d) ∙ packed-append A (B ++ (C ++ D))
    ∙ ap (λ (b : Bool). is_packed A && b) (packed-append B (C ++ D) ∙ ap (λ (b : Bool). is_packed B && b) (packed-append C D)) in
    rw (decimal-kind d 0 4 (lit≤ tt), decimal-kind d 4 4 (lit≤ tt), decimal-kind d 8 4 (lit≤ tt), decimal-kind d 12 4 (lit≤ tt), all)
    (four-kinds (is_packed A) (is_packed B) (is_packed C) (is_packed D) (value_of A) (value_of B) (value_of C) (value_of D))

load_digits : (d : List ℕ) → number_of (load_of d) ≡ cond (is_packed (take 7 d)) 0 41
unfolding load_of
load_digits d =
    let A = take 2 d in
    let B = take 2 (drop 2 d) in
    let C = take 3 (drop 4 d) in
    let all : is_packed (take 7 d) ≡ (is_packed A && (is_packed B && is_packed C)) =
    ap is_packed (in_three d) ∙ packed-append A (B ++ C) ∙ ap (λ (b : Bool). is_packed A && b) (packed-append B C) in
    rw (decimal-kind d 0 2 (lit≤ tt), decimal-kind d 2 2 (lit≤ tt), decimal-kind d 4 3 (lit≤ tt), all)
    (three-kinds (is_packed A) (is_packed B) (is_packed C) (value_of A) (value_of B) (value_of C))

frequency-digits : (d : List ℕ) → number_of (frequency_of d) ≡ cond (is_packed (take 2 d)) 0 41
unfolding frequency_of
frequency-digits d = rw (decimal-kind d 0 2 (lit≤ tt)) (one-kind (is_packed (take 2 d)) (value_of (take 2 d)) (rest_of d))

figures-digits : (c : Command) (d : List ℕ) → is_known c ≡ true → number_of (figures_of c d) ≡ cond (is_packed (take (digit_bytes c) d)) 0 41
unfolding figures_of
figures-digits Tariffs d k = tariffs-digits d
figures-digits Load d k = load_digits d
figures-digits Frequency d k = frequency-digits d
figures-digits Unknown d k = absurd (false≢true k)

-- CR 1's `digits`: a well-formed reply is 0 where every half-byte of its figures is a digit, else 41
pub digits : (address code : ℕ) (y : List ℕ) → reply_form address code y ≡ Ok tt
    → number_of (decoded_of address code y) ≡ cond (is_packed (take (digit_bytes (command_of code)) (drop 5 y))) 0 41
unfolding decoded_of formed
digits address code y e = rw e (figures-digits (command_of code) (drop 5 y) (accepted address code y e).known)
