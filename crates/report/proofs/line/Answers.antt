-- `line` meets its contract: what is handed over is what `put_next_line` just put, which is that line of the file (`line-put`).
use Rattle.report_page.proofs.PageLaws.{line_read, line-put}
use Rattle.day_rows.specs.LogAndRows.{log_and_rows}
use Rattle.report.proofs.line.Goals as goal

pub line_of-requires : goal.line_of-requires
line_of-requires c =
    let at-args = c.args in
    let at-put-next-line = c.put_next_line-next in
    let at_pre = c.requires in
    let given = log_and_rows at-args.room.now at-args.figures.now in
    let put = line-put at-args.file.now at-args.page given _ at-put-next-line.result _ at_pre at-put-next-line.ensures in
    record { before = _; put = rw c.in-Ok.is at put }

pub returns : goal.returns
returns c =
    let at-args = c.args in
    let at-put-next-line = c.put_next_line-next in
    line_read at-args.file.now at-args.page (log_and_rows at-args.room.now at-args.figures.now) _ at-put-next-line.result _ at-put-next-line.ensures
