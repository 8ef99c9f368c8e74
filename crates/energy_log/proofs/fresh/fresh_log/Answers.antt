-- `fresh_log` meets its contract: `is_header` and the room are the cases of `fresh_of`; a header and zeros behind it are the image (`fresh-written`).
use Rattle.energy_log.specs.Fresh.{fresh_of}
use Rattle.log_header.proofs.HeaderLaws.{header-in}
use Rattle.energy_log.proofs.FreshLaws.{fresh-written}
use Rattle.byte_numbers.proofs.PlaceLaws.{length-written}
use Rattle.refusal.specs.Outcome.{outcome}
use borrow.Author.Tests.{le-leb, lt-leb}
use mathlib.Core.Path.{sym, ap}
use Rattle.energy_log.proofs.fresh.fresh_log.Goals as goal

pub returns-then-not-is_header : goal.returns-then-not-is_header
unfolding fresh_of
returns-then-not-is_header c = simp (sym c.is_header.ensures, c.if-not-is_header.true)

pub returns-then-out-length : goal.returns-then-out-length
unfolding fresh_of
returns-then-out-length c =
    simp (sym c.is_header.ensures, c.if-not-is_header.false, sym c.length_of-length.ensures, lt-leb _ _ c.if-out-length.true)

pub write_gaps-requires : goal.write_gaps-requires
write_gaps-requires c =
    (rw c.length_of-length.ensures (header-in c.args.h), rw (c.write_header.ensures, length-written) c.if-out-length.false)

pub returns : goal.returns
unfolding fresh_of
returns c =
    let length = c.length_of-length.ensures in
    let image = fresh-written c.args.out.now _ _ c.args.h _ length c.write_header.ensures c.write_gaps.ensures in
    simp (sym c.is_header.ensures, c.if-not-is_header.false, sym length, le-leb _ _ c.if-out-length.false) (ap (outcome _) image)
