-- `put_marks` meets its contract: the loop keeps that the marks of the slots left, written at the next place, give all (`marks-on`).
use Rattle.day_report.proofs.StripLaws.{marks_from}
use Rattle.day_report.specs.Strip.{marks_at, day_marks}
use Rattle.energy_log.specs.Image.{cell_at}
use Rattle.slots.specs.Day.{slots_of}
use Rattle.byte_numbers.specs.Place.{written}
use mathlib.Core.Path.{◌≡◌}
use Prim.Native.Nat.{◌+◌, ◌*◌, ◌-◌}
use Rattle.day_report.proofs.strip.put_marks.Given as goal

abbrev pub invariant-loop-slot : goal.invariant-loop-slot
invariant-loop-slot l =
    let n = slots_of l.h.minutes in
    written l.out (marks_at + l.slot) (marks_from l.h (cell_at l.log) (l.day * n + l.slot) (n - l.slot))
    ≡ written l.initial.out marks_at (day_marks (cell_at l.log) l.h l.day)
