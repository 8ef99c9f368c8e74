-- `put_switch` meets its contract: the choice's byte and behind it the date, or zeros, are `switch_bytes` (`onward`); past the end nothing is written.
use mathlib.Core.Path.{refl, sym, ap, ◌∙◌}
use mathlib.Core.List.{[], ◌∷◌}
use Prim.Native.Nat.{ℕ}
use Rattle.meter_record_bytes.specs.Time.{switch_bytes, choice_byte, date_or_zeros}
use Rattle.wire_values.specs.Clock.{date_time_bytes}
use Rattle.byte_numbers.specs.Place.{written}
use Rattle.byte_numbers.proofs.PlaceLaws.{onward, written-past}
use Rattle.meter_record_bytes.proofs.time.put_switch.Goals as goal

pub returns-then-at-out : goal.returns-then-at-out
unfolding switch_bytes
returns-then-at-out c =
    let args = c.args in
    let choice-byte = c.choice_byte in
    let put_byte = c.put_byte in
    let date-or-zeros = c.date_or_zeros in
    onward _ _ _ _ _ (choice_byte args.choice ∷ []) (date_time_bytes (date_or_zeros args.choice))
    (put_byte.ensures ∙ ap (λ (b : ℕ). written args.out.now args.at (b ∷ [])) choice-byte.ensures)
    (rw date-or-zeros.ensures at c.put_date_time.ensures) refl

pub returns-else-at-out : goal.returns-else-at-out
returns-else-at-out c = sym (written-past _ _ _ c.if-at-out.false)
