-- `put_marks` meets its contract: the loop keeps that the marks of the slots left, written at the next place, give all (`marks-on`).
use Rattle.day_report.proofs.StripLaws.{marks_from, day-marks, marks-on, marks-end}
use Rattle.day_report.specs.Strip.{mark, marks_at}
use Rattle.energy_log.specs.Image.{cell_at}
use Rattle.energy_log.proofs.WalkLaws.{stands-there}
use Rattle.season_nights.specs.Night.{missing}
use Rattle.energy_log.specs.declared.walk.Walk.{Walk}
use Rattle.slots.specs.Day.{slots_of}
use Rattle.byte_numbers.specs.Place.{written}
use mathlib.Core.List.{List}
use mathlib.Core.Bool.{Bool, not}
use mathlib.Core.Path.{◌≡◌, sym, ap, ap₂, ◌∙◌}
use native.Mathlib.Nat.{add-zero}
use native.Mathlib.Omega.{arith}
use Prim.Native.Nat.{ℕ, ◌+◌, ◌*◌, ◌-◌, ◌<◌}
use Rattle.day_report.proofs.strip.put_marks.Goals as goal

pub loop-slot-init : goal.loop-slot-init
loop-slot-init c =
    let args = c.args in
    ap₂ (λ (k : ℕ) (m : List ℕ). written args.out.now k m) (add-zero marks_at) (day-marks (cell_at args.log.now) args.h args.day)

pub loop-slot-preserved : goal.loop-slot-preserved
loop-slot-preserved c =
    let args = c.args in
    let turn = c.loop-slot in
    let i = turn.slot in
    let n = slots_of args.h.minutes in
    let first = args.day * n in
    let cell = cell_at args.log.now in
    let l : i < n = omega (arith, c.loop-slot-test.true, ap (λ (x : Walk). x.slots) c.walk_day-first.ensures) in
    let place : c.index_of.result ≡ first + i = c.index_of.ensures ∙ ap (λ (x : Walk). x.day * x.slots + i) c.walk_day-first.ensures in
    let gone = c.is_missing-missing.ensures ∙ ap (λ (x : Walk). missing x.night args.h.minutes i) c.walk_day-first.ensures in
    let own : c.mark_at-mark.result ≡ mark _ (cell (first + i)) =
    c.mark_at-mark.ensures ∙ ap₂ (λ (b : Bool) (k : ℕ). mark b (cell k)) (ap not gone ∙ sym (stands-there args.h cell (λ j. 0) args.day i l)) place in
    ap (λ (x : List ℕ). written x (marks_at + (i + 1)) (marks_from args.h cell (first + (i + 1)) (n - (i + 1)))) c.put_byte.ensures
    ∙ marks-on args.h cell first i n l _ turn.out own ∙ turn.invariant

pub returns : goal.returns
unfolding written
returns c =
    let turn = c.loop-slot in
    let args = c.args in
    sym (ap (written turn.out (marks_at + turn.slot)) (marks-end args.h (cell_at args.log.now) _ _ (omega (arith, c.loop-slot-test.false, ap (λ (x : Walk). x.slots) c.walk_day-first.ensures))))
    ∙ turn.invariant
