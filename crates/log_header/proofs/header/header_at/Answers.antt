-- `header_at` meets its contract: each field is the byte or number at the place that `header_at` names.
use Rattle.log_header.specs.Header.{header_at}
use Rattle.log_header.proofs.header.header_at.Goals as goal

pub returns : goal.returns
unfolding header_at
returns c =
    let byte_at = c.byte_at in
    let byte-at2 = c.byte_at-2 in
    let byte-at3 = c.byte_at-3 in
    let byte-at4 = c.byte_at-4 in
    simp (c.byte_at-6.ensures, c.u16_at.ensures, c.byte_at-5.ensures, byte-at4.ensures, byte-at3.ensures, byte-at2.ensures, byte_at.ensures)
