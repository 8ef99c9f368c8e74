-- `put_u64` meets its contract: the four low bytes and, behind them, the four high ones are the number's eight (`written-split`); past the end nothing.
use mathlib.Core.Path.{sym, ap, ◌∙◌}
use mathlib.Core.List.{List}
use Prim.Native.Nat.{ℕ, ◌+◌, ◌/◌}
use Rattle.byte_numbers.specs.Number.{bytes_of}
use Rattle.byte_numbers.specs.Place.{written}
use Rattle.byte_numbers.proofs.PlaceLaws.{written-past, written-split}
use Rattle.byte_numbers.proofs.put_u64.Goals as goal

pub returns-then-at-out : goal.returns-then-at-out
returns-then-at-out c =
    let put-u32 = c.put_u32 in
    let at = c.args.at in
    let n = c.args.n in
    c.put_u32-then-at-out.ensures
    ∙ ap (λ (x : List ℕ). written x (at + 4) (bytes_of 4 (n / 4294967296))) put-u32.ensures
    ∙ written-split c.args.out.now at 4 4 n

pub returns-else-at-out : goal.returns-else-at-out
returns-else-at-out c = sym (written-past _ _ _ c.if-at-out.false)
