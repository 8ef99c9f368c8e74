-- `figure_at` meets its contract: a number of so many bytes has two digits for each (`decimal-at-small`).
use Rattle.std.specs.Prelude.{◌≡◌, ◌<◌, ◌^◌, ℕ, List, Option, Some, None, refl, IfOk}
use Rattle.std.specs.Option.{ok_or}
use Rattle.packed_decimal.specs.Packed.{decimal_at}
use Rattle.packed_decimal.proofs.PackedLaws.{decimal-at-small}
use Rattle.mercury.specs.declared.reply.DecodeError.TheVariants.{NotDecimal}
use Rattle.mercury.proofs.data.figure_at.Goals as goal

small : (s : List ℕ) (i width : ℕ) → IfOk (ok_or (decimal_at s i width) NotDecimal) (λ n. n < 100 ^ width)
small s i width = go (decimal_at s i width) refl
  where
    go : (d : Option ℕ) → decimal_at s i width ≡ d → IfOk (ok_or d NotDecimal) (λ n. n < 100 ^ width)
    go (Some n) e = decimal-at-small s i width n e
    go None e = tt

pub returns-clause-small : goal.returns-clause-small
returns-clause-small c = rw (c.ok_or.ensures.value, c.number_at.ensures) (small c.args.bytes.now c.args.at c.args.width)
