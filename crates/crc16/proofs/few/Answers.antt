-- `few` meets its contract: the last four bytes, shifted down past those that are among the first four, stand above them in the number (`few-number`).
use Rattle.crc16.proofs.Short.{few-number}
use Rattle.crc16.proofs.few.Goals as goal

pub returns : goal.returns
returns c =
    let pre = c.requires in
    let start = c.args in
    rw (c.u32_at-last.ensures, c.u32_at-low.ensures) (few-number start.bytes.now (λ i. (c.type_inv.bytes i).fits) pre.0 pre.1)
