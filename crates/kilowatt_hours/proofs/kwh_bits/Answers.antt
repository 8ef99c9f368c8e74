-- `kwh_bits` meets its contract: the 64 digits are the figure but for a power of two, each unit leaves 24 of them in its branch (`bits-digits`), and
-- the leading zeros tell how many are dropped.
use mathlib.Core.Path.{sym, ap, ◌∙◌}
use Prim.Native.Nat.{ℕ, ◌+◌, ◌-◌, ◌*◌, ◌^◌, ◌<◌}
use native.Mathlib.Nat.{pos_of_ne-zero}
use native.Mathlib.Omega.{arith}
use lib.Count.{count_leading_zeros}
use Rattle.kilowatt_hours.specs.Bits.{kwh_bits}
use Rattle.kilowatt_hours.proofs.BitsLaws.{bits-zero, zeros-few, digits-least, bits-digits}
use Rattle.kilowatt_hours.proofs.kwh_bits.Goals as goal

pub returns-then-n-eq0 : goal.returns-then-n-eq0
returns-then-n-eq0 c = sym (ap kwh_bits c.if-n-eq0.true ∙ bits-zero)

pub overflow_cast-digits : goal.overflow_cast-digits
overflow_cast-digits c = omega (arith, zeros-few c.args.n (pos_of_ne-zero c.if-n-eq0.false) c.ranges.n.fits)

pub overflow_shl-digits : goal.overflow_shl-digits
overflow_shl-digits c = zeros-few c.args.n (pos_of_ne-zero c.if-n-eq0.false) c.ranges.n.fits

pub overflow_sub-result : goal.overflow_sub-result
overflow_sub-result c =
    omega (arith, zeros-few c.args.n (pos_of_ne-zero c.if-n-eq0.false) c.ranges.n.fits)

pub returns-then-digits-lt-LONGER : goal.returns-then-digits-lt-LONGER
returns-then-digits-lt-LONGER c =
    let n = c.args.n in
    let some : 0 < n = pos_of_ne-zero c.if-n-eq0.false in
    let fits : n < 2 ^ 64 = c.ranges.n.fits in
    ap (λ (x : ℕ). (169 - count_leading_zeros 64 n) * 8388608 + x) c.closest_whole.ensures.0
    ∙ sym (bits-digits n 20 some fits (omega (arith, digits-least n some fits)) c.if-digits-lt-LONGER.true)

pub overflow_sub-result-2 : goal.overflow_sub-result-2
overflow_sub-result-2 c =
    omega (arith, zeros-few c.args.n (pos_of_ne-zero c.if-n-eq0.false) c.ranges.n.fits)

pub returns : goal.returns
returns c =
    let n = c.args.n in
    let some : 0 < n = pos_of_ne-zero c.if-n-eq0.false in
    let fits : n < 2 ^ 64 = c.ranges.n.fits in
    ap (λ (x : ℕ). (170 - count_leading_zeros 64 n) * 8388608 + x) c.closest_whole-2.ensures.0
    ∙ sym (bits-digits n 21 some fits c.if-digits-lt-LONGER.false (omega arith))
