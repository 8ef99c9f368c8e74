-- `put_hex` meets its contract: the loop keeps that the text of the bytes left, put at the next place, gives the whole; it ends as the bytes run out.
use mathlib.Core.Path.{sym, ap, ap₂, ◌∙◌}
use mathlib.Core.List.{List, [], ◌∷◌}
use Prim.Native.Nat.{ℕ, suc, ◌+◌}
use native.Mathlib.Omega.{arith}
use native.Mathlib.Numerals.{add-one}
use lib.Seq.{drop-cons}
use lib.ListN.{get_or, drop, drop_of_length-le}
use Rattle.byte_numbers.specs.Place.{written}
use Rattle.byte_numbers.proofs.PlaceLaws.{written-past}
use Rattle.text.specs.Hex.{hex_text}
use Rattle.text.proofs.HexLaws.{written-hex}
use Rattle.text.proofs.hex.put_hex.Goals as goal

pub returns-then-out-place : goal.returns-then-out-place
returns-then-out-place c =
    let loop = c.loop-byte in
    sym (written-past loop.out _ _ (omega arith)) ∙ loop.invariant

pub loop-byte-preserved : goal.loop-byte-preserved
loop-byte-preserved c =
    let l = c.loop-byte in
    let i = l.byte-index in
    let bytes = c.args.bytes.now in
    let rest = drop (suc i) bytes in
    let first = c.put_byte.ensures ∙ ap (λ (y : ℕ). written l.out l.place (y ∷ [])) c.hex_digit.ensures in
    let both = c.put_byte-in-loop-byte.ensures ∙ ap₂ (λ (x : List ℕ) (y : ℕ). written x (l.place + 1) (y ∷ [])) first c.hex_digit-in-loop-byte.ensures in
    rw (add-one i)
    (ap (λ (x : List ℕ). written x (l.place + 2) (hex_text rest)) both
    ∙ written-hex l.out l.place (get_or bytes i 0) rest
    ∙ ap (λ (x : List ℕ). written l.out l.place (hex_text x)) (sym (drop-cons bytes i 0 (omega arith)))
    ∙ l.invariant)

pub returns : goal.returns
unfolding hex_text written
returns c =
    let l = c.loop-byte in
    sym (ap (λ (x : List ℕ). written l.out l.place (hex_text x)) (drop_of_length-le _ c.loop-byte-test.false)) ∙ l.invariant
