-- `put_marked` meets its contract: the room is `put_text`'s own test; date, space, marks and line feed, each put where the one before ends, are the
-- strip (`written-strip`).
use Rattle.std.specs.Prelude.{Ok}
use Prim.Native.Nat.{ℕ, ◌+◌, ◌<◌, ◌≤◌}
use native.Mathlib.Omega.{arith}
use mathlib.Core.List.{List, [], ◌∷◌}
use mathlib.Core.Path.{◌≡◌, sym, ap, ap₂, ◌∙◌}
use borrow.Author.Tests.{le-leb, lt-leb}
use lib.ListN.{length}
use Rattle.byte_numbers.specs.Place.{written}
use Rattle.refusal.specs.Outcome.{outcome}
use Rattle.energy_log.specs.Image.{cell_at}
use Rattle.day_report.proofs.StripLaws.{length-strip, length-day-marks, written-strip}
use Rattle.day_report.specs.Strip.{marks_at, day_marks, strip_of}
use Rattle.day_report.specs.Text.{put_text, space, line_feed, date_size}
use Rattle.day_report.proofs.strip.put_marked.Goals as goal

pub returns-then-out-end : goal.returns-then-out-end
unfolding put_text
returns-then-out-end c =
    let args = c.args in
    let cell = cell_at args.log.now in
    let strip = strip_of args.date (day_marks cell args.h args.day) in
    let short : length args.out.now < length strip =
    omega (arith, c.if-out-end.true, c.slots_of-slots.ensures, length-strip args.date (day_marks cell args.h args.day), length-day-marks cell args.h args.day) in
    simp (lt-leb _ _ short)

pub returns : goal.returns
unfolding put_text
returns c =
    let put-marks = c.put_marks in
    let if1 = c.if-out-end in
    let slots-of = c.slots_of-slots in
    let args = c.args in
    let slots = slots-of.result in
    let marks = day_marks (cell_at args.log.now) args.h args.day in
    let strip = strip_of args.date marks in
    let count : length marks ≡ slots = length-day-marks (cell_at args.log.now) args.h args.day ∙ sym slots-of.ensures in
    let size : marks_at + slots + 1 ≡ length strip = omega (arith, count, length-strip args.date marks) in
    let fits : length strip ≤ length args.out.now = omega (arith, if1.false, size) in
    let text =
    c.put_byte-2.ensures
    ∙ ap (λ (x : List ℕ). written x (marks_at + slots) (line_feed ∷ []))
    (put-marks.ensures
    ∙ ap (λ (x : List ℕ). written x marks_at marks) (c.put_byte.ensures ∙ ap (λ (x : List ℕ). written x date_size (space ∷ [])) c.put_date.ensures))
    ∙ written-strip args.out.now args.date marks slots count in
    simp (le-leb _ _ fits) (ap₂ (λ (k : ℕ) (x : List ℕ). outcome (Ok k) x) size text)
