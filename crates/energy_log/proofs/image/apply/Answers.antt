-- Each arm is the clause of `applied` for its case.
use Rattle.energy_log.specs.Image.{applied}
use Rattle.energy_log.proofs.image.apply.Goals as goal

pub returns-in-Put : goal.returns-in-Put
unfolding applied
returns-in-Put c =
    simp (c.in-Put.is, c.put_cell.ensures)

pub returns-in-Lapses : goal.returns-in-Lapses
unfolding applied
returns-in-Lapses c =
    simp (c.in-Lapses.is, c.put_lapses.ensures)

pub returns-in-None : goal.returns-in-None
unfolding applied
returns-in-None c = simp c.in-None.is
