-- `write_numbers` meets its contract: the loop keeps that the numbers left, written at the next place, give all.
use Rattle.day_report.specs.Text.{numbers_text, date_size}
use Rattle.byte_numbers.specs.Place.{written}
use lib.ListN.{length, drop}
use mathlib.Core.Path.{◌≡◌}
use Prim.Native.Nat.{◌+◌}
use Rattle.day_report.proofs.line.write_numbers.Given as goal

abbrev pub invariant-loop-n : goal.invariant-loop-n
invariant-loop-n l = record {
  text : written l.line l.at (numbers_text (drop l.n-index l.fn.row)) ≡ written l.initial.line date_size (numbers_text l.fn.row);
  end : l.at + length (numbers_text (drop l.n-index l.fn.row)) ≡ date_size + length (numbers_text l.fn.row);
}
