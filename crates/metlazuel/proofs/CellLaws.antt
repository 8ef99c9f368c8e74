-- What C is told of the next gap can be read in one way: the slots of a day end long before the number that stands for none.
use Rattle.std.specs.Prelude.{None, Option, Some}
use mathlib.Core.Path.{◌≡◌, refl}
use Prim.Native.Nat.{ℕ}
use native.Mathlib.Omega.{arith}
use Rattle.energy_log.specs.View.{View}
use Rattle.polling.specs.Next.{next_gap}
use Rattle.polling.specs.declared.next.Wanted.TheVariants.{Gaps}
use Rattle.polling.proofs.NextLaws.{NextIs, next-is, next-bounds}
use Rattle.metlazuel.specs.CellCalls.{slot_of}

module _ (v : View) (day from : ℕ) where
  -- 255 says that there is none
  pub none_told : slot_of (next_gap v day from) ≡ 255 → next_gap v day from ≡ None
  unfolding slot_of
  none_told e = go (next_gap v day from) refl
    where
      go : (x : Option ℕ) → next_gap v day from ≡ x → next_gap v day from ≡ None
      go None p = p
      go (Some j) p =
          let same : j ≡ 255 = simp p at e in
          absurd (omega (arith, (next-bounds Gaps v day from j p).1))

  -- any other number is the first gap's slot
  pub slot-told : (slot_of (next_gap v day from) ≡ 255 → ⊥) → NextIs Gaps v day from (slot_of (next_gap v day from))
  unfolding slot_of
  slot-told n = go (next_gap v day from) refl
    where
      go : (x : Option ℕ) → next_gap v day from ≡ x → NextIs Gaps v day from (slot_of (next_gap v day from))
      go None p = absurd (n (rw p refl))
      go (Some j) p = rw p (next-is Gaps v day from j p)
