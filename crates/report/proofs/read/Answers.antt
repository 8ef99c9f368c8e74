-- `read` meets its contract: the file is read into room for the longest log and its figures, all zeros.
use Rattle.report_page.specs.Page.{room, figures_room}
use Rattle.report.proofs.read.Goals as goal

pub shown-requires : goal.shown-requires
unfolding room figures_room
shown-requires c =
    let at-read-file = c.read_file-answer in
    at-read-file.ensures
