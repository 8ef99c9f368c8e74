-- `walk_day` meets its contract by what it asks for: the slots of a day, and the day's night.
use mathlib.Core.Path.{refl}
use Rattle.energy_log.proofs.walk.walk_day.Goals as goal

pub returns : goal.returns
returns c = rw (c.night_on.ensures, c.slots_of.ensures) refl
