-- What follows from the definition of specs/Ratios.antt, for proofs alone: no contract cites it.
use mathlib.Core.Path.{◌≡◌}
use mathlib.Core.Bool.{true, ◌&&◌}
use Prim.Native.Nat.{◌*◌, ◌≤◌}
use lib.Dec.{leb}
use borrow.Author.Tests.{leb-true}
use Rattle.test_laws.proofs.Test.{both}
use Rattle.meter_record.specs.Ratios.{are_ratios}
use Rattle.meter_record.specs.declared.record.Ratios.{Ratios}

-- for `shown`: counts and Ke times right ratios make a number that 64 bits hold
pub product-most : (k : Ratios) → are_ratios k ≡ true → k.ki * k.ku ≤ 1000000
unfolding are_ratios
product-most k h = leb-true (k.ki * k.ku) 1000000 (both (leb 1 k.ki && leb 1 k.ku) (leb (k.ki * k.ku) 1000000) h).1
