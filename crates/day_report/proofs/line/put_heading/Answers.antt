-- `put_heading` meets its contract: the bytes handed to `put_text` are those of `heading_text`.
use Rattle.text.specs.Ascii.{ascii}
use Rattle.day_report.specs.Text.{heading_text}
use Rattle.day_report.proofs.line.put_heading.Goals as goal

pub returns : goal.returns
unfolding ascii heading_text
returns c = c.put_text.ensures
