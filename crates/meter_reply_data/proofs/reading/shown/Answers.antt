-- `shown` meets its contract: counts and Ke of 16 bits and ratios whose product is at most 1,000,000 make a number that 64 bits hold.
use Prim.Native.Nat.{◌*◌, ◌≤◌}
use mathlib.Core.Path.{◌≡◌, sym, ap, ◌∙◌}
use mir.Facts.{Fits-le, Fits-lit}
use native.Mathlib.Nat.{mul-le-mul}
use Rattle.energy.specs.declared.MilliwattHours.{MilliwattHours}
use Rattle.meter_record.proofs.RatiosLaws.{product-most}
use borrow.Author.Rules.{rules}
use Rattle.meter_reply_data.proofs.reading.shown.Goals as goal

pub overflow_mul-primary : goal.overflow_mul-primary
overflow_mul-primary c =
    let args = c.args in
    let counts : args.counts ≤ 0xFFFF = search rules in
    let ke : args.telemetry.ke ≤ 0xFFFF = search rules in
    let energy : c.number.result ≡ args.counts * args.telemetry.ke =
    c.number.ensures ∙ ap (λ (e : MilliwattHours). e.0) c.energy-energy.ensures in
    let most : c.number.result ≤ 0xFFFF * 0xFFFF = rw energy (mul-le-mul counts ke) in
    let product = product-most args.ratios (sym c.are_ratios.ensures ∙ c.if-not-are_ratios.false) in
    Fits-le (mul-le-mul most product) (Fits-lit tt)
