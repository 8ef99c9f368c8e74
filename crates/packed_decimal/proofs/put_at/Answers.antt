-- `put_at` meets its contract: past the room `written` stores nothing (`written-past`).
use native.Mathlib.Omega.{arith}
use Rattle.byte_numbers.proofs.PlaceLaws.{written-past}
use Rattle.packed_decimal.proofs.put_at.Goals as goal

pub returns-else-at-out : goal.returns-else-at-out
returns-else-at-out c = grind (arith, written-past)
