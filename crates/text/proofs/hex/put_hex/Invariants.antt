-- `put_hex` meets its contract: the loop keeps that the text of the bytes left, put at the next place, gives the whole; it ends as the bytes run out.
use mathlib.Core.Path.{◌≡◌}
use lib.ListN.{drop}
use Rattle.byte_numbers.specs.Place.{written}
use Rattle.text.specs.Hex.{hex_text}
use Rattle.text.proofs.hex.put_hex.Given as goal

abbrev pub invariant-loop-byte : goal.invariant-loop-byte
invariant-loop-byte l = written l.out l.place (hex_text (drop l.byte-index l.bytes)) ≡ written l.initial.out l.at (hex_text l.bytes)
