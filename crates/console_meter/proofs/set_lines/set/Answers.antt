-- `set` meets its contract: the arm of `ratio` is the branch of `set_by` for its place among the names.
use mathlib.Core.Path.{sym}
use Rattle.console_meter.specs.SetLines.{set_line, set_by}
use Rattle.text.specs.Ascii.{ascii}
use Rattle.console_meter.proofs.set_lines.set.Goals as goal

pub returns-in-4 : goal.returns-in-4
unfolding ascii set_line set_by
returns-in-4 c = rw (sym c.word.ensures, sym c.place_of.ensures, c.in-4.is, c.ratio.ensures)
