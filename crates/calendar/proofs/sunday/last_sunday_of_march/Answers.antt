-- `last_sunday_of_march` meets its contract: March comes after February and has 31 days, the last of which had that weekday in 2000, computed.
use native.Mathlib.Omega.{arith}
use mathlib.Core.Path.{refl}
use Rattle.calendar.specs.Count.{starts}
use Rattle.calendar.specs.Date.{leap, month_lengths, days_in_month, length_of, day_number}
use Rattle.calendar.proofs.sunday.last_sunday_of_march.Goals as goal

pub last_sunday-requires : goal.last_sunday-requires
unfolding day_number starts length_of days_in_month month_lengths leap
last_sunday-requires c = record { lt_month = omega arith; month_value = refl; first_value = refl }
