-- `put_next_line` meets its contract: the line is that of `read_line`, and only a line of the page is put (`line-below`).
use Rattle.std.specs.Prelude.{Result}
use Rattle.day_report.specs.declared.answer.ReportError.{ReportError}
use Rattle.day_rows.specs.LogAndRows.{log_and_rows}
use Rattle.report_page.proofs.PageLaws.{line-below}
use Rattle.report_page.specs.Page.{next_line, goes_on}
use Rattle.day_report.specs.Text.{text_number}
use Rattle.refusal.specs.Outcome.{Outcome}
use Prim.Native.Nat.{ℕ}
use mathlib.Core.List.{List}
use mathlib.Core.Path.{ap, sym, ◌∙◌}
use Rattle.report_page.proofs.page.put_next_line.Goals as goal

pub behind-requires : goal.behind-requires
behind-requires c =
    let at-args = c.args in
    λ e. line-below _ (log_and_rows at-args.room.now at-args.figures.now) _ at-args.out.now
    (sym (ap (λ (o : Outcome (Result ℕ ReportError) (List ℕ)). text_number o.result) c.put_read_line-answer.ensures) ∙ e)

pub returns : goal.returns
unfolding next_line
returns c =
    let at-put-read-line = c.put_read_line-answer in
    let at-args = c.args in
    rw c.behind.ensures (ap (λ (o : Outcome (Result ℕ ReportError) (List ℕ)). goes_on at-args.page o) at-put-read-line.ensures)
