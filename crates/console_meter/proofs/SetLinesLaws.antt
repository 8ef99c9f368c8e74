-- What follows from the definitions of specs/Lines.antt, for proofs alone: no contract cites it.
use Prim.Native.Nat.{ℕ, zero, suc, ◌-◌, ◌<◌, ◌≤◌}
use native.Mathlib.Omega.{arith}
use mathlib.Core.Path.{◌≡◌}
use Rattle.meter_record.specs.Record.{second_of}
use Rattle.meter_record.specs.declared.record.Record.{Record}
use Rattle.console_meter.specs.SetLines.{record_after, later_by}

-- ---- laws for the walks

-- `seconds_later`: one second passes, and the loop goes on
pub later-on : (n : ℕ) (r : Record) → 0 < n → later_by (n - 1) (record_after (second_of r) r) ≡ later_by n r
unfolding later_by
later-on zero r h = let none : ⊥ = omega arith in absurd none
later-on (suc n) r h = let e : suc n - 1 ≡ n = omega arith in rw e

-- none is left
pub later-done : (n : ℕ) (r : Record) → n ≤ 0 → r ≡ later_by n r
unfolding later_by
later-done n r h = let e : n ≡ 0 = omega arith in rw e
