-- `put_count` meets its contract: with the room of all cells the two bytes stored one by one are the number written (`two-put`); without it `put_u16` writes it.
use Rattle.energy_log.proofs.ColumnLaws.{two-put}
use Rattle.byte_numbers.specs.Place.{written}
use Rattle.byte_numbers.specs.Number.{bytes_of}
use native.Mathlib.Omega.{arith}
use Prim.Native.Nat.{ℕ}
use mathlib.Core.Path.{ap, ◌∙◌}
use Rattle.energy_log.proofs.image.put_count.Goals as goal

pub returns-then-size_for-log : goal.returns-then-size_for-log
returns-then-size_for-log c =
    let at-args = c.args in
    let at-fits = c.ranges in
    two-put at-args.log.now _ at-args.x (omega (arith, at-fits.x)) ∙ ap (λ (k : ℕ). written at-args.log.now k (bytes_of 2 at-args.x)) c.count_place-at.ensures
