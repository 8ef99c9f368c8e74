-- `u32_at` meets its contract: a number of four bytes is the upper two times 65,536 and the lower two (`number_at-split`); past the end it is 0.
use mathlib.Core.Path.{sym}
use native.Mathlib.Omega.{arith}
use Rattle.byte_numbers.proofs.PlaceLaws.{number_at-split, number_at-past}
use Rattle.byte_numbers.proofs.u32_at.Goals as goal

pub returns-then-at-s : goal.returns-then-at-s
returns-then-at-s c =
    let s = c.args.s.now in
    let at = c.args.at in
    omega (arith, number_at-split s at 2 2, c.u16_at-high.ensures, c.u16_at-low.ensures)

pub returns-else-at-s : goal.returns-else-at-s
returns-else-at-s c = sym (number_at-past _ _ _ c.if-at-s.false)
