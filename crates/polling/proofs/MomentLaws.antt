-- What follows from the definitions of specs/Moment.antt, and of Standing.antt, for proofs alone: no contract
-- cites it.
use Prim.Native.Nat.{ℕ, ◌+◌, ◌<◌, ◌≤◌}
use native.Mathlib.Omega.{arith}
use mathlib.Core.Path.{◌≡◌, refl}
use mathlib.Core.Bool.{Bool, true, false, cond, ◌&&◌}
use lib.Dec.{ltb}
use Rattle.calendar.specs.Date.{is_date, day_number, century_days}
use Rattle.calendar.proofs.DateLaws.{number-below}
use Rattle.calendar.specs.declared.date.Date.{Date}
use Rattle.polling.specs.Moment.{days_to}
use Rattle.season_nights.specs.Night.{night_of, is_autumn}
use Rattle.polling.specs.Standing.{over_at}

-- no date lies beyond the hundred years
days-below : (d : Date) → days_to d < century_days
unfolding days_to
days-below d = go (is_date d) refl
  where
    go : (b : Bool) → is_date d ≡ b → cond b (day_number d) 0 < century_days
    go true e = number-below d e
    go false e = omega arith

-- so that the minutes of a date's days fit 32 bits, for `moment_of` and `standing_of`
pub days-most : (d : Date) (n : ℕ) → n ≡ days_to d → n < century_days
days-most d n e = rw e (days-below d)

-- an interval is over at its end or at 03:00
pub over-most : (d : Date) (e n : ℕ) → n ≡ over_at d e → n ≤ e + 180
unfolding over_at
over-most d e n p = rw p (go (is_autumn (night_of d) && (ltb 120 e && ltb e 180)))
  where
    go : (b : Bool) → cond b 180 e ≤ e + 180
    go true = omega arith
    go false = omega arith
