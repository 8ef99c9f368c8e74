-- `closest_whole` meets its contract: twice the remainder below the unit, above it or equal to it are the three cases of `nearest`; at a tie an even
-- number stays and an odd one goes up by one, which is what adding its last digit does.
use mathlib.Core.Path.{◌≡◌, sym, ◌∙◌}
use Prim.Native.Nat.{ℕ, ◌+◌, ◌*◌, ◌/◌, ◌%◌, ◌^◌, ◌<◌}
use native.Mathlib.Nat.{mod-lt, div-lt_iff_lt-mul}
use native.Mathlib.Omega.{arith}
use Rattle.std.proofs.lemmas.Bool.Decides.{nat_tests}
use Rattle.kilowatt_hours.proofs.BitsLaws.{nearest-below, nearest-tie, nearest-above}
use Rattle.kilowatt_hours.proofs.closest_whole.Goals as goal

few : (a unit : ℕ) → 0 < unit → a < 2 ^ 24 * unit → a / unit < 2 ^ 24
few a unit p h = (div-lt_iff_lt-mul p).1 h

pub overflow_cast-whole : goal.overflow_cast-whole
overflow_cast-whole c = omega (arith, few c.args.a c.args.unit c.requires.0 c.requires.2)

pub overflow_mul-twice : goal.overflow_mul-twice
overflow_mul-twice c = omega (arith, mod-lt c.args.a c.requires.0)

pub overflow_add-result : goal.overflow_add-result
overflow_add-result c = omega (arith, few c.args.a c.args.unit c.requires.0 c.requires.2)

pub overflow_add-result-in-Greater : goal.overflow_add-result-in-Greater
overflow_add-result-in-Greater c = omega (arith, few c.args.a c.args.unit c.requires.0 c.requires.2)

pub returns-in-Less : goal.returns-in-Less
returns-in-Less c =
    let a = c.args.a in
    let unit = c.args.unit in
    let h : a % unit * 2 < unit = grind (arith, nat_tests, c.in-Less.ensures) in
    (sym (nearest-below (a / unit) (a % unit * 2) unit h), omega (arith, few a unit c.requires.0 c.requires.2))

pub returns-then-whole-eq0 : goal.returns-then-whole-eq0
returns-then-whole-eq0 c =
    let a = c.args.a in
    let unit = c.args.unit in
    let h : a % unit * 2 ≡ unit = grind (arith, nat_tests, c.in-Equal.ensures) in
    let even : a / unit ≡ a / unit + a / unit % 2 = omega (arith, c.if-whole-eq0.true) in
    (even ∙ sym (nearest-tie (a / unit) (a % unit * 2) unit h), omega (arith, few a unit c.requires.0 c.requires.2))

pub returns-else-whole-eq0 : goal.returns-else-whole-eq0
returns-else-whole-eq0 c =
    let a = c.args.a in
    let unit = c.args.unit in
    let h : a % unit * 2 ≡ unit = grind (arith, nat_tests, c.in-Equal.ensures) in
    let odd : a / unit + 1 ≡ a / unit + a / unit % 2 = omega (arith, c.if-whole-eq0.false) in
    (odd ∙ sym (nearest-tie (a / unit) (a % unit * 2) unit h), omega (arith, few a unit c.requires.0 c.requires.2))

pub returns-in-Greater : goal.returns-in-Greater
returns-in-Greater c =
    let a = c.args.a in
    let unit = c.args.unit in
    let h : unit < a % unit * 2 = grind (arith, nat_tests, c.in-Greater.ensures) in
    (sym (nearest-above (a / unit) (a % unit * 2) unit h), omega (arith, few a unit c.requires.0 c.requires.2))
