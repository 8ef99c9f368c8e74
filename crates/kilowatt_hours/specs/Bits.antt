-- Kilowatt-hours as the bits of a 32-bit float. Source: document 02, CR 3: "the exact figure is N x Ke x KI x KU / 1,000,000. The float must be
-- the one nearest to that fraction, ties to even, zero as plus zero; say it over whole numbers." What the nearest one is: specs/Nearest.antt.
use Rattle.std.specs.Prelude.{ℕ, ◌+◌, ◌-◌, ◌*◌, ◌/◌, ◌^◌}
use Rattle.std.specs.Float.Ieee.{size}
use Rattle.std.specs.Float.Ieee.Nearest.{closest}

-- The bits for n / 1,000,000. A float's smallest step is 2 ^ -149: in steps the figure is n * 2 ^ 149 / 1,000,000. Of the binary digits of its whole
-- part (`size` of them) a float has room for 24, so k are dropped, and what is left is rounded to the nearest whole number, a tie to the even one
-- (`closest a b` of the fraction a / b). Where digits are dropped the 24th one is not stored: it counts as one of the exponent.
unfoldable pub kwh_bits : ℕ → ℕ
kwh_bits n =
    let k = size (n * 2 ^ 149 / 1000000) - 24 in
    k * 2 ^ 23 + closest (n * 2 ^ 149) (1000000 * 2 ^ k)
