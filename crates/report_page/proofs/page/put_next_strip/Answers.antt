-- `put_next_strip` meets its contract: the strip is that of `read_strip`, and only a day of the log has one (`strip-below`).
use Rattle.std.specs.Prelude.{Result}
use Rattle.day_report.specs.declared.answer.ReportError.{ReportError}
use Rattle.report_page.proofs.PageLaws.{strip-below}
use Rattle.report_page.specs.Page.{next_strip, goes_on}
use Rattle.day_report.specs.Text.{text_number}
use Rattle.refusal.specs.Outcome.{Outcome}
use Prim.Native.Nat.{ℕ}
use mathlib.Core.List.{List}
use mathlib.Core.Path.{ap, sym, ◌∙◌}
use Rattle.report_page.proofs.page.put_next_strip.Goals as goal

pub behind-requires : goal.behind-requires
behind-requires c =
    let at-args = c.args in
    λ e. strip-below _ at-args.room.now _ at-args.out.now
    (sym (ap (λ (o : Outcome (Result ℕ ReportError) (List ℕ)). text_number o.result) c.put_read_strip-answer.ensures) ∙ e)

pub returns : goal.returns
unfolding next_strip
returns c =
    let at-put-read-strip = c.put_read_strip-answer in
    let at-args = c.args in
    rw c.behind.ensures (ap (λ (o : Outcome (Result ℕ ReportError) (List ℕ)). goes_on at-args.page o) at-put-read-strip.ensures)
