-- `put_energies` meets its contract: four numbers of four bytes, put one behind the other, are `energies_bytes` (`onward`).
use mathlib.Core.Path.{refl}
use Rattle.byte_numbers.specs.Number.{bytes_of}
use Rattle.byte_numbers.proofs.PlaceLaws.{onward}
use Rattle.wire_values.specs.Displayed.{energies_bytes}
use Rattle.wire_values.proofs.displayed.put_energies.Goals as goal

pub returns : goal.returns
unfolding energies_bytes bytes_of
returns c =
    onward _ _ _ _ _ _ _ c.put_u32.ensures
    (onward _ _ _ _ _ _ _ c.put_u32-2.ensures
    (onward _ _ _ _ _ _ _ c.put_u32-3.ensures c.put_u32-4.ensures refl)
    refl)
    refl
