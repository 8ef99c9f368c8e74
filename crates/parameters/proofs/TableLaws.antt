-- What follows from the table. A law that is the same for every parameter is a test that antt computes over all rows.
use mathlib.Core.Path.{◌≡◌, refl, sym, ap, ◌∙◌}
use mathlib.Core.Bool.{Bool, true, ◌&&◌}
use mathlib.Core.List.{List, [], ◌∷◌}
use Prim.Native.Nat.{ℕ, ◌≤◌}
use lib.Dec.{eqb, leb, lit≤}
use borrow.Author.Tests.{leb-true}
use Rattle.test_laws.proofs.Test.{both, either}
use Rattle.parameters.specs.Table.{parameter_row, code_of, first_of, parameters, parameter_of, by_phase, reply_bytes}
use Rattle.parameters.specs.declared.code.Parameter.{Parameter}
use Rattle.parameters.specs.declared.code.Reading.{Reading}
use Rattle.parameters.specs.declared.code.Reading.TheVariants.{Stored, Displayed}
use Rattle.parameters.specs.declared.code.Parameter.TheVariants.{ActivePower, ReactivePower, Address, Telemetry, SummerDate, WinterDate, Clock, DisplayMask, Slice, Password, SixSlices, Unknown}
use Rattle.parameters.specs.declared.table.Fields.{Fields}
use Rattle.parameters.specs.declared.table.Fields.TheVariants.{Unused, Phase, Slot, SixSlots}

-- a parameter's code leads back to it
pub code-leads-back : (p : Parameter) → parameter_of (code_of p) ≡ p
unfolding parameter_of first_of
code-leads-back ActivePower = refl
code-leads-back ReactivePower = refl
code-leads-back Address = refl
code-leads-back Telemetry = refl
code-leads-back SummerDate = refl
code-leads-back WinterDate = refl
code-leads-back Clock = refl
code-leads-back DisplayMask = refl
code-leads-back Slice = refl
code-leads-back Password = refl
code-leads-back SixSlices = refl
code-leads-back Unknown = refl

-- ---- a test that every row passes

-- whether a test holds of each of some parameters, and of the unknown one
unfoldable pub all : (Parameter → Bool) → List Parameter → Bool
all t [] = t Unknown
all t (p ∷ ps) = t p && all t ps

first_passes : (t : Parameter → Bool) (ps : List Parameter) (n : ℕ) → all t ps ≡ true → t (first_of ps n) ≡ true
unfolding all first_of
first_passes t [] n h = h
first_passes t (p ∷ ps) n h =
    let b = both (t p) (all t ps) h in
    either (λ (x : Parameter). t x ≡ true) (eqb n (code_of p)) b.0 (first_passes t ps n b.1)

-- a test that antt computed over the whole table holds of any parameter
pub every-row : (t : Parameter → Bool) → all t parameters ≡ true → (p : Parameter) → t p ≡ true
unfolding parameter_of
every-row t h p = ap t (sym (code-leads-back p)) ∙ first_passes t parameters (code_of p) h

-- ---- bytes

-- six rows are the most
phase-small : (f : Fields) (detail whole : ℕ) → whole ≤ 48 → by_phase f detail whole 4 ≤ 48
phase-small Phase detail whole h = either (λ (n : ℕ). n ≤ 48) (eqb detail 0) h (lit≤ tt)
phase-small Unused detail whole h = h
phase-small Slot detail whole h = h
phase-small SixSlots detail whole h = h

-- no reply has more data than 48 bytes, with either function
pub reply-small : (reading : Reading) (p : Parameter) (detail : ℕ) → reply_bytes reading p detail ≤ 48
unfolding reply_bytes all
reply-small Displayed p detail = lit≤ tt
reply-small Stored p detail =
    phase-small (parameter_row p).fields detail (parameter_row p).reply_bytes
    (leb-true _ _ (every-row (λ (p : Parameter). leb (parameter_row p).reply_bytes 48) refl p))
