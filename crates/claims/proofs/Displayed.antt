-- What the display shows: the floats of a record within its ranges are those nearest to the exact figures, and the reader finds them again.
use mathlib.Core.Path.{◌≡◌, refl, sym, ap, ◌∙◌}
use mathlib.Core.Bool.{true}
use mathlib.Core.List.{List, ◌++◌}
use Prim.Native.Nat.{ℕ, ◌*◌, ◌^◌, ◌≤◌, ◌<◌}
use native.Mathlib.Omega.{arith}
use native.Mathlib.Nat.{lt_of_le_of_lt, mul_assoc, mul-le-mul, zero-mul}
use lib.Dec.{lit≤}
use Rattle.std.specs.Prelude.{Ok}
use Rattle.kilowatt_hours.specs.Bits.{kwh_bits}
use Rattle.kilowatt_hours.specs.Nearest.{Nearest}
use Rattle.kilowatt_hours.proofs.Claims.{nearest-float}
use Rattle.wire_values.specs.Displayed.{energies_of, energies_bytes}
use Rattle.wire_values.proofs.DisplayedLaws.{Plain, energies_of-bytes}
use Rattle.meter_store.specs.Store.{count_at}
use Rattle.meter_store.proofs.StoreLaws.{RowFits}
use Rattle.meter_record.specs.Ranges.{is_within}
use Rattle.meter_record.specs.Widths.{FitsRecord}
use Rattle.meter_record.specs.declared.record.Ratios.{Ratios}
use Rattle.meter_record.specs.declared.record.Record.{Record}
use Rattle.meter_record.proofs.RangeLaws.{Within, within}
use Rattle.meter_record.proofs.RatiosLaws.{product-most}
use Rattle.meter_reply_data.specs.Reading.{shown_of, displayed_of}
use Rattle.reader.specs.Reply.{energies_figure}
use Rattle.reader.specs.declared.reply.Decoded.TheVariants as decoded
use Rattle.claims.specs.Figures.{own_energy, four_energies}

module _ (r : Record) (w : Within r) where
  -- the exact figure in milliwatt-hours, in the order in which the meter multiplies
  in_order : (n : ℕ) → n * r.telemetry.ke * (r.ratios.ki * r.ratios.ku) ≡ n * r.telemetry.ke * r.ratios.ki * r.ratios.ku
  in_order n = sym (mul_assoc (n * r.telemetry.ke) r.ratios.ki r.ratios.ku)

  shown-own : (n : ℕ) → shown_of r.telemetry r.ratios n ≡ own_energy r.telemetry.ke r.ratios n
  unfolding shown_of
  shown-own n = rw (w.ratios, in_order n) refl

  -- the figures that the meter works out are the exact ones' floats
  pub displayed-own : (row : List ℕ) → displayed_of r row ≡ four_energies r.telemetry.ke r.ratios row
  unfolding displayed_of four_energies
  displayed-own row = rw (shown-own (count_at row 0), shown-own (count_at row 1), shown-own (count_at row 2), shown-own (count_at row 3)) refl

module _ (r : Record) (w : Within r) (f : FitsRecord r) where
  exact_below : (n : ℕ) → n < 65536 → n * r.telemetry.ke * (r.ratios.ki * r.ratios.ku) < 2 ^ 64
  exact_below n h =
      let counts : n ≤ 65535 = omega (arith, h) in
      let ke : r.telemetry.ke ≤ 65535 = omega (arith, f.telemetry.ke) in
      lt_of_le_of_lt (mul-le-mul (mul-le-mul counts ke) (product-most r.ratios w.ratios)) (lit≤ tt)

  nearest-own : (n : ℕ) → n < 65536
      → Nearest (n * r.telemetry.ke * r.ratios.ki * r.ratios.ku) (own_energy r.telemetry.ke r.ratios n).0
  nearest-own n h = nearest-float.nearest _ (rw (sym (in_order r w n)) (exact_below n h))

  plain : (row : List ℕ) → RowFits row → Plain (four_energies r.telemetry.ke r.ratios row)
  unfolding four_energies
  plain row k = record {
    e_plus = (nearest-own (count_at row 0) (k.below 0)).finite;
    e_minus = (nearest-own (count_at row 1) (k.below 1)).finite;
    r_plus = (nearest-own (count_at row 2) (k.below 2)).finite;
    r_minus = (nearest-own (count_at row 3) (k.below 3)).finite;
  }

  -- what the reader finds in the meter's data, whatever stands behind them
  pub displayed-again : (row rest : List ℕ) → RowFits row
      → energies_figure (energies_of (energies_bytes (displayed_of r row) ++ rest)) ≡ Ok (decoded.Displayed (four_energies r.telemetry.ke r.ratios row))
  displayed-again row rest k =
      let own = four_energies r.telemetry.ke r.ratios row in
      rw (displayed-own r w row, energies_of-bytes own rest (plain row k)) refl

-- request 3's `nearest`: a count's float is the one nearest to the exact figure, ties to even
pub nearest : (r : Record) (n : ℕ) → is_within r ≡ true → FitsRecord r → n < 65536
    → Nearest (n * r.telemetry.ke * r.ratios.ki * r.ratios.ku) (own_energy r.telemetry.ke r.ratios n).0
nearest r n h f l = nearest-own r (within r h) f n l

-- request 3's `zero`: a count of 0 is shown as plus zero
pub zero : (ke : ℕ) (k : Ratios) → (own_energy ke k 0).0 ≡ 0
zero ke k =
    let none : 0 * ke * k.ki * k.ku ≡ 0 =
    ap (λ (m : ℕ). m * k.ki * k.ku) (zero-mul ke) ∙ ap (λ (m : ℕ). m * k.ku) (zero-mul k.ki) ∙ zero-mul k.ku in
    ap kwh_bits none ∙ nearest-float.plus_zero
