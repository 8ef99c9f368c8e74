-- The row has room, and the count is the one that the request foretells (`count-foretold`).
use borrow.Author.Tests.{le-ltb}
use Rattle.metlazuel.specs.WireCalls.{decode_for_c}
use Rattle.metlazuel.proofs.WireLaws.{count-foretold}
use Rattle.metlazuel.proofs.wire_calls.decode.Goals as goal

pub returns : goal.returns
unfolding decode_for_c
returns c =
    let count = c.figures_for-foretold.ensures in
    let subject = c.subject_of.ensures in
    let room = simp (count, subject) at (le-ltb _ _ c.if-figures-foretold.false) in
    simp (
      room,
      c.count_after.ensures,
      c.received_after.ensures,
      c.result_after.ensures,
      c.put_figures.ensures,
      c.number-number.ensures,
      count,
      subject,
      c.decode-decoded.ensures,
      count-foretold,
    )
