-- `put_u16` meets its contract: remainder and quotient by 256 are the number's two bytes, stored one behind the other (`written-split`).
use mathlib.Core.Path.{sym, ap, ap₂, ◌∙◌}
use mathlib.Core.List.{List}
use Prim.Native.Nat.{ℕ, ◌+◌, ◌/◌, ◌%◌}
use native.Mathlib.Omega.{arith}
use Rattle.byte_numbers.proofs.NumberLaws.{bytes_of-one}
use Rattle.byte_numbers.specs.Place.{written}
use Rattle.byte_numbers.proofs.PlaceLaws.{written-past, written-split}
use Rattle.byte_numbers.proofs.put_u16.Goals as goal

pub returns-then-at-out : goal.returns-then-at-out
returns-then-at-out c =
    let put_byte = c.put_byte in
    let s = c.args.out.now in
    let at = c.args.at in
    let n = c.args.n in
    c.put_byte-then-at-out.ensures
    ∙ ap₂ (λ (x y : List ℕ). written x (at + 1) y)
    (put_byte.ensures ∙ ap (written s at) (sym (bytes_of-one (n % 256) (omega arith))))
    (sym (bytes_of-one (n / 256) (omega (arith, c.ranges.n))))
    ∙ written-split s at 1 1 n

pub returns-else-at-out : goal.returns-else-at-out
returns-else-at-out c = sym (written-past _ _ _ c.if-at-out.false)
