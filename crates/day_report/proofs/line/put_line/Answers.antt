-- `put_line` meets its contract: a line has at most 88 bytes, so the local buffer's front is the whole of it (`front-written`).
use Rattle.day_report.proofs.TextLaws.{front-written}
use Rattle.day_report.specs.Text.{line_text, put_text, line_most}
use lib.Seq.{length-take-le}
use lib.ListN.{length, take}
use Prim.Native.Nat.{ℕ}
use mathlib.Core.Path.{sym, ap, ◌∙◌}
use mathlib.Core.List.{List}
use Prim.Native.Nat.{◌≤◌}
use native.Mathlib.Omega.{arith}
use Rattle.day_report.proofs.line.put_line.Goals as goal

pub slice_bounds-line-end : goal.slice_bounds-line-end
slice_bounds-line-end c = omega (arith, c.write_line-n.ensures.2)

pub slice_bounds-put_text-end : goal.slice_bounds-put_text-end
slice_bounds-put_text-end c =
    let write-line = c.write_line-n in
    sym (length-take-le write-line.result write-line.new.line (omega (arith, write-line.auto.line, write-line.ensures.2)))

pub returns : goal.returns
returns c =
    let write-line = c.write_line-n in
    let start = c.args in
    let line = c.write_line-n.ensures in
    let room : length (line_text start.date start.row) ≤ line_most = omega (arith, write-line.ensures.1, write-line.ensures.2) in
    c.put_text.ensures
    ∙ ap (λ (text : List ℕ). put_text text start.out.now)
    (ap (take write-line.result) write-line.ensures.0 ∙ front-written _ (line_text start.date start.row) _ write-line.ensures.1 room)
