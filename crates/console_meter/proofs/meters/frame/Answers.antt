-- `frame` meets its contract: what `read_bytes` read picks the clause of `frame_in`.
use mathlib.Core.Path.{sym}
use borrow.Author.Tests.{eq-eqb}
use Rattle.console_meter.specs.Lines.{frame_line, frame_in, frame_of}
use Rattle.console_meter.proofs.meters.frame.Goals as goal

pub returns-in-Some : goal.returns-in-Some
unfolding frame_line frame_in frame_of
returns-in-Some c =
    rw (sym c.spaces.ensures, eq-eqb _ _ c.if-spaces-ne1.false, sym c.word.ensures, sym c.read_bytes.ensures, c.in-Some.is, sym c.part.ensures) c.frame_of.ensures

pub returns-in-None : goal.returns-in-None
unfolding frame_line frame_in frame_of
returns-in-None c =
    rw (sym c.spaces.ensures, eq-eqb _ _ c.if-spaces-ne1.false, sym c.word.ensures, sym c.read_bytes.ensures, c.in-None.is, c.unread-in-None.ensures)
