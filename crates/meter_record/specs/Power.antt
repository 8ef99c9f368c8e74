-- The powers that the bench sets. Source: document 01, "Powers": "The bench sets only finite figures from -1,000,000 to 1,000,000."
use Rattle.std.specs.Prelude.{Bool, ◌&&◌, Float}
use Rattle.std.specs.Float.{binary32}
use Rattle.std.specs.Float.Ieee.{of_bits, le}
use Rattle.wire_values.specs.declared.power.Phases.{Phases}

-- 1,000,000 (`most-is`)
abbrev pub most : Float
most = of_bits binary32 0x49742400

-- -1,000,000 (`least-is`)
abbrev pub least : Float
least = of_bits binary32 0xC9742400

-- what is no number is neither above nor below another
unfoldable pub in_bounds : Float → Bool
in_bounds x = le least x && le x most

unfoldable pub are_powers : Phases → Bool
unfolding in_bounds
are_powers p = in_bounds p.a && in_bounds p.b && in_bounds p.c
