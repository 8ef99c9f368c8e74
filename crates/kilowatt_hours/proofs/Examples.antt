-- Figures computed: 0; the least and 20 milliwatt-hours; 3 and 12 counts at Ke 100; ties at 16,777,217, 16,777,219 and 16,777,223 kWh (the first is
-- 24,929 counts at Ke 673 and KI x KU 1,000,000); the largest that the record's ranges allow, 65,535 x 65,535 x 1,000,000.
use mathlib.Core.Path.{◌≡◌, refl}
use mathlib.Core.List.{List, [], ◌∷◌}
use Prim.Native.Nat.{ℕ, ◌*◌}
use lib.Ieee.{size}
use Rattle.kilowatt_hours.specs.Bits.{kwh_bits}

each : List ℕ → List ℕ
unfolding kwh_bits size
each [] = []
each (n ∷ ns) = kwh_bits n ∷ each ns

small : each (0 ∷ 1 ∷ 20 ∷ 3 * 100 ∷ 12 * 100 ∷ []) ≡ 0x00000000 ∷ 0x358637BD ∷ 0x37A7C5AC ∷ 0x399D4952 ∷ 0x3A9D4952 ∷ []
unfolding each
small = refl

ties : each (24929 * 673 * 1000000 ∷ 16777219 * 1000000 ∷ 16777223 * 1000000 ∷ []) ≡ 0x4B800000 ∷ 0x4B800002 ∷ 0x4B800004 ∷ []
unfolding each
ties = refl

-- the last is the largest number of 64 bits
largest : each (65535 * 65535 * 1000000 ∷ 0xFFFFFFFFFFFFFFFF ∷ []) ≡ 0x4F7FFE00 ∷ 0x558637BD ∷ []
unfolding each
largest = refl
