-- `u16_at` meets its contract: a number of two bytes is the second byte times 256 and the first (`number_at-split`); past the end it is 0.
use mathlib.Core.Path.{sym}
use Prim.Native.Nat.{◌+◌}
use native.Mathlib.Omega.{arith}
use Rattle.byte_numbers.proofs.PlaceLaws.{number_at-split, number_at-past, number_at-one}
use Rattle.byte_numbers.proofs.u16_at.Goals as goal

pub returns-then-at-s : goal.returns-then-at-s
returns-then-at-s c =
    let s = c.args.s.now in
    let at = c.args.at in
    omega (arith, number_at-split s at 1 1, number_at-one s at, number_at-one s (at + 1), c.byte_at-high.ensures, c.byte_at-low.ensures)

pub returns-else-at-s : goal.returns-else-at-s
returns-else-at-s c = sym (number_at-past _ _ _ c.if-at-s.false)
