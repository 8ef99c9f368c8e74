-- `strip` meets its contract: what is handed over is what `put_next_strip` just put, which is that strip of the file (`strip-put`).
use Rattle.report_page.proofs.PageLaws.{strip-read, strip-put}
use Rattle.day_rows.specs.LogAndRows.{log_and_rows}
use Rattle.report.proofs.strip.Goals as goal

pub strip_of-requires : goal.strip_of-requires
strip_of-requires c =
    let at-args = c.args in
    let at-put-next-strip = c.put_next_strip-next in
    let at_pre = c.requires in
    let given = log_and_rows at-args.room.now at-args.figures.now in
    let put = strip-put at-args.file.now at-args.page given _ at-put-next-strip.result _ at_pre at-put-next-strip.ensures in
    record { before = _; put = rw c.in-Ok.is at put }

pub returns : goal.returns
returns c =
    let at-args = c.args in
    let at-put-next-strip = c.put_next_strip-next in
    strip-read at-args.file.now at-args.page (log_and_rows at-args.room.now at-args.figures.now) _ at-put-next-strip.result _ at-put-next-strip.ensures
