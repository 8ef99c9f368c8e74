-- What follows from the definitions of specs/Day.antt, for proofs alone: no contract cites it.
use Prim.Native.Nat.{ℕ, ◌≤◌}
use native.Mathlib.Omega.{arith}
use mathlib.Core.Path.{◌≡◌, refl, sym, ◌∙◌}
use mathlib.Core.Bool.{Bool, true, false, not}
use lib.Dec.{eqb}
use borrow.Author.Tests.{eqb-true, eq-eqb, ne_eqb, not-true, not-false}
use Rattle.slots.specs.Day.{is_minutes, slots_of}

-- no day has more
abbrev pub slots_most : ℕ
slots_most = 96

-- ---- laws

-- an interval that is none has no slots
pub slots-or-none : (m : ℕ) → eqb (slots_of m) 0 ≡ not (is_minutes m)
unfolding slots_of is_minutes
slots-or-none m = go (eqb m 15) refl (eqb m 30) refl
  where
    go : (a : Bool) → eqb m 15 ≡ a → (b : Bool) → eqb m 30 ≡ b → eqb (slots_of m) 0 ≡ not (is_minutes m)
    go true e b f = rw (eqb-true m 15 e)
    go false e true f = rw (eqb-true m 30 f)
    go false e false f = rw (e, f)

-- the same of the number that a count of the slots found
pub no-minutes : (m n : ℕ) → n ≡ slots_of m → n ≡ 0 → is_minutes m ≡ false
no-minutes m n p z = not-true (is_minutes m) (sym (slots-or-none m) ∙ eq-eqb (slots_of m) 0 (sym p ∙ z))

-- a day that has slots has a legal interval: what a test of the slots alone tells
pub some-minutes : (m n : ℕ) → n ≡ slots_of m → (n ≡ 0 → ⊥) → is_minutes m ≡ true
some-minutes m n p z = not-false (is_minutes m) (sym (slots-or-none m) ∙ ne_eqb (slots_of m) 0 (λ q. z (p ∙ q)))

-- 96, so that a slot is a byte and a log's cells are few
pub slots-at-most : (m : ℕ) → slots_of m ≤ slots_most
unfolding slots_of is_minutes
slots-at-most m = go (eqb m 15) refl (eqb m 30) refl
  where
    go : (a : Bool) → eqb m 15 ≡ a → (b : Bool) → eqb m 30 ≡ b → slots_of m ≤ slots_most
    go true e b f = rw (eqb-true m 15 e) (omega arith)
    go false e true f = rw (eqb-true m 30 f) (omega arith)
    go false e false f = rw (e, f) (omega arith)
