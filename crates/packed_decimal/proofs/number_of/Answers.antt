-- `number_of` meets its contract: the loop keeps that the number so far, with the bytes left, is the bytes', and below 100 ^ i after i bytes.
use Rattle.std.specs.Prelude.{Some}
use mathlib.Core.Bool.{true, false}
use mathlib.Core.Path.{◌≡◌, sym, ap, ◌∙◌}
use Prim.Native.Nat.{◌/◌, ◌%◌}
use native.Mathlib.Nat.{pow-suc}
use native.Mathlib.Numerals.{add-one}
use native.Mathlib.Omega.{arith}
use lib.ListN.{get_or, drop_of_length-le}
use borrow.Author.Tests.{le-leb}
use Rattle.std.proofs.lemmas.Bool.Decides.{nat_tests}
use Rattle.packed_decimal.specs.Packed.{is_pair, is_packed, value_from, value_of}
use Rattle.packed_decimal.proofs.PackedLaws.{decimal-long, decimal-not, decimal-packed, packed-at, value-at, room-for-more}
use Rattle.packed_decimal.proofs.number_of.Goals as goal

pub returns-then-bytes-gt-MOST_BYTES : goal.returns-then-bytes-gt-MOST_BYTES
returns-then-bytes-gt-MOST_BYTES c = sym (decimal-long c.args.bytes.now c.if-bytes-gt-MOST_BYTES.true)

pub returns-then-byte-gt-LARGEST_DIGIT : goal.returns-then-byte-gt-LARGEST_DIGIT
returns-then-byte-gt-LARGEST_DIGIT c =
    let bytes = c.args.bytes.now in
    let l = c.loop-byte in
    let pair : is_pair (get_or bytes l.byte-index 0) ≡ false = grind (arith, nat_tests) in
    let no : is_packed bytes ≡ false = sym l.invariant.1 ∙ packed-at bytes l.byte-index c.loop-byte-test.true ∙ rw pair in
    sym (decimal-not bytes (omega arith) no)

pub overflow_mul-number : goal.overflow_mul-number
overflow_mul-number c =
    let l = c.loop-byte in
    omega (arith, room-for-more l.byte-index l.number (omega arith) l.invariant.0)

pub overflow_add-number-in-loop-byte : goal.overflow_add-number-in-loop-byte
overflow_add-number-in-loop-byte c =
    let l = c.loop-byte in
    omega (arith, room-for-more l.byte-index l.number (omega arith) l.invariant.0)

pub loop-byte-preserved : goal.loop-byte-preserved
loop-byte-preserved c =
    let bytes = c.args.bytes.now in
    let l = c.loop-byte in
    let read = c.loop-byte-test.true in
    let high = le-leb (get_or bytes l.byte-index 0 / 16) 9 c.if-byte-gt-LARGEST_DIGIT.false in
    let low = le-leb (get_or bytes l.byte-index 0 % 16) 9 c.if-byte-gt-LARGEST_DIGIT-2.false in (
      rw (add-one, pow-suc) (omega arith),
      sym (packed-at bytes l.byte-index read ∙ rw (high, low)) ∙ l.invariant.1,
      sym (value-at bytes l.byte-index read l.number) ∙ l.invariant.2,
    )

pub returns : goal.returns
unfolding is_packed value_from
returns c =
    let bytes = c.args.bytes.now in
    let l = c.loop-byte in
    let end = drop_of_length-le bytes c.loop-byte-test.false in
    let digits : is_packed bytes ≡ true = sym l.invariant.1 ∙ ap is_packed end in
    let value : value_of bytes ≡ l.number = sym l.invariant.2 ∙ ap (value_from l.number) end in
    sym (decimal-packed bytes (omega arith) digits ∙ ap Some value)
