-- `number_of` meets its contract: the loop keeps that the value so far, with the bytes left, is the text's; one past 64 bits only grows.
use Rattle.std.specs.Prelude.{Some}
use mathlib.Core.Bool.{true}
use mathlib.Core.Path.{◌≡◌, sym, ap, ◌∙◌}
use Prim.Native.Nat.{◌+◌, ◌-◌, ◌*◌, ◌≤◌}
use native.Mathlib.Omega.{arith}
use lib.ListN.{length, get_or, drop, drop_of_length-le}
use Rattle.text.proofs.ReadingLaws.{not-empty, not-long, not-digits, not-small, a-number, value_grows, value-at, digit_at, no-digit}
use Rattle.text.specs.Decimal.{value_from, value_of, are_digits}
use Rattle.text.proofs.reading.number_of.Goals as goal

pub returns-then-is_empty : goal.returns-then-is_empty
returns-then-is_empty c = grind (arith, not-empty, not-long)

pub returns-then-byte-lt-ZERO : goal.returns-then-byte-lt-ZERO
returns-then-byte-lt-ZERO c =
    let text = c.args.text.now in
    let l = c.loop-byte in
    sym (not-digits text (sym l.invariant.1 ∙ no-digit text l.byte-index c.loop-byte-test.true c.then-byte-lt-ZERO.either))

pub returns-in_err-checked_mul : goal.returns-in_err-checked_mul
returns-in_err-checked_mul c =
    let text = c.args.text.now in
    let l = c.loop-byte in
    let next = l.value * 10 + (get_or text l.byte-index 0 - 48) in
    let all : value_from next (drop (l.byte-index + 1) text) ≡ value_of text = sym (value-at text l.byte-index c.loop-byte-test.true l.value) ∙ l.invariant.2 in
    c.from_residual.ensures ∙ sym (not-small text (omega (arith, all, value_grows next (drop (l.byte-index + 1) text), c.in_err-checked_mul.ensures)))

pub returns-in_err-value : goal.returns-in_err-value
returns-in_err-value c =
    let text = c.args.text.now in
    let l = c.loop-byte in
    let next = l.value * 10 + (get_or text l.byte-index 0 - 48) in
    let all : value_from next (drop (l.byte-index + 1) text) ≡ value_of text = sym (value-at text l.byte-index c.loop-byte-test.true l.value) ∙ l.invariant.2 in
    c.from_residual-in_err-value.ensures
    ∙ sym (not-small text (omega (arith, all, value_grows next (drop (l.byte-index + 1) text), c.in_ok-checked_mul.ensures, c.in_err-value.ensures)))

pub loop-byte-preserved : goal.loop-byte-preserved
loop-byte-preserved c =
    let text = c.args.text.now in
    let l = c.loop-byte in
    let read = c.loop-byte-test.true in
    let next : c.in_ok-value.value ≡ l.value * 10 + (get_or text l.byte-index 0 - 48) = omega (arith, c.in_ok-checked_mul.ensures, c.in_ok-value.ensures) in (
      omega (arith, c.in_ok-checked_mul.ensures, c.in_ok-value.ensures),
      sym (digit_at text l.byte-index read c.if-byte-lt-ZERO.false c.if-byte-gt-NINE.false) ∙ l.invariant.1,
      rw next (sym (value-at text l.byte-index read l.value) ∙ l.invariant.2),
    )

pub returns : goal.returns
unfolding are_digits value_from
returns c =
    let text = c.args.text.now in
    let l = c.loop-byte in
    let end = drop_of_length-le text c.loop-byte-test.false in
    let digits : are_digits text ≡ true = sym l.invariant.1 ∙ ap are_digits end in
    let value : value_of text ≡ l.value = sym l.invariant.2 ∙ ap (value_from l.value) end in
    let some : 1 ≤ length text = grind arith in
    sym (a-number text some (omega arith) digits (omega (arith, value, l.invariant.0)) ∙ ap Some value)
