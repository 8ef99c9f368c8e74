-- Demand 2, the figures: the reader finds the record's own again in the meter's data.
use mathlib.Core.Path.{◌≡◌, refl, ap, ◌∙◌}
use mathlib.Core.Bool.{Bool, true, false, cond}
use mathlib.Core.List.{List, ◌++◌, append_assoc}
use Prim.Native.Nat.{ℕ}
use native.Mathlib.Nat.{mod-eq_of_lt}
use lib.Dec.{eqb}
use Rattle.std.specs.Prelude.{Ok, Result, Option}
use Rattle.byte_numbers.specs.Number.{bytes_of}
use Rattle.byte_numbers.specs.Place.{number_at}
use Rattle.byte_numbers.proofs.PlaceLaws.{number_at-front, number_at-behind-bytes}
use Rattle.wire_values.proofs.ClockLaws.{date_time_of-bytes}
use Rattle.wire_values.proofs.MaskLaws.{mask_of-bytes}
use Rattle.wire_values.specs.Power.{total_of, power_bytes, powers_bytes, power_of, powers_of, FitsPhases}
use Rattle.wire_values.proofs.PowerLaws.{power_of-bytes}
use Rattle.wire_values.proofs.TelemetryLaws.{telemetry_of-bytes}
use Rattle.wire_values.specs.declared.power.Phases.{Phases}
use Rattle.parameters.specs.Table.{reply_bytes}
use Rattle.parameters.specs.declared.code.Parameter.{Parameter}
use Rattle.parameters.specs.declared.code.Parameter.TheVariants as parameter
use Rattle.parameters.specs.declared.code.Reading.{Reading}
use Rattle.parameters.specs.declared.code.Reading.TheVariants.{Stored, Displayed}
use Rattle.request.proofs.RequestLaws.{asked}
use Rattle.request.specs.Subject.{key_of, subject_for, askable, data_bytes}
use Rattle.request.specs.declared.request.Request.{Request}
use Rattle.request.specs.declared.subject.Subject.{Subject}
use Rattle.meter_store.specs.Store.{slice_of, count_at, row_bytes}
use Rattle.meter_store.proofs.StoreLaws.{RowFits}
use Rattle.meter_record.specs.Power.{are_powers}
use Rattle.meter_record.proofs.PowerLaws.{BoundsPhases, powers-bounds, bounds-finite, powers-read}
use Rattle.meter_record.proofs.RangeLaws.{Within}
use Rattle.meter_record.specs.Widths.{FitsRecord}
use Rattle.meter_record.specs.declared.record.Record.{Record}
use Rattle.meter_reply_data.specs.Reading.{phase, power_data, summer_shown, winter_shown, figures_of, figures_as}
use Rattle.wire_values.specs.Row.{row_at}
use Rattle.reader.specs.Reply.{powers_figure, power_figure, phase_figures, read_figures, read_as, figures_of as figures_in}
use Rattle.reader.specs.declared.reply.Decoded.{Decoded}
use Rattle.reader.specs.declared.reply.Decoded.TheVariants as decoded
use Rattle.reader.specs.declared.reply.DecodeError.{DecodeError}
use Rattle.claims.specs.Figures.{own_power, four_counts, own_figures, own_as}
use Rattle.claims.proofs.Displayed.{displayed-again}

-- the data that the reader waits for are as many as the meter sends
pub same_size : (p : Parameter) (q : Request) (slots : ℕ) → askable (subject_for p q slots) ≡ true
    → data_bytes (subject_for p q slots) ≡ reply_bytes q.reading p q.detail
same_size p q slots h = ap data_bytes (asked p q slots h).subject

-- ---- the figures again

-- the reader finds a slice's four counts again in its bytes, whatever stands behind them
pub row-again : (row rest : List ℕ) → RowFits row → row_at (row_bytes row ++ rest) 0 ≡ four_counts row
unfolding row_at four_counts row_bytes
row-again row rest h =
    let A = bytes_of 2 (count_at row 0) in
    let B = bytes_of 2 (count_at row 1) in
    let C = bytes_of 2 (count_at row 2) in
    let D = bytes_of 2 (count_at row 3) in
    let apart : A ++ (B ++ (C ++ D)) ++ rest ≡ A ++ (B ++ (C ++ (D ++ rest))) = simp append_assoc in
    let a : number_at (A ++ (B ++ (C ++ (D ++ rest)))) 0 2 ≡ count_at row 0 =
    number_at-front 2 (count_at row 0) (B ++ (C ++ (D ++ rest))) ∙ mod-eq_of_lt (h.below 0) in
    let b : number_at (A ++ (B ++ (C ++ (D ++ rest)))) 2 2 ≡ count_at row 1 =
    number_at-behind-bytes 2 (count_at row 0) (B ++ (C ++ (D ++ rest))) 0 2
    ∙ number_at-front 2 (count_at row 1) (C ++ (D ++ rest)) ∙ mod-eq_of_lt (h.below 1) in
    let c : number_at (A ++ (B ++ (C ++ (D ++ rest)))) 4 2 ≡ count_at row 2 =
    number_at-behind-bytes 2 (count_at row 0) (B ++ (C ++ (D ++ rest))) 2 2
    ∙ number_at-behind-bytes 2 (count_at row 1) (C ++ (D ++ rest)) 0 2
    ∙ number_at-front 2 (count_at row 2) (D ++ rest) ∙ mod-eq_of_lt (h.below 2) in
    let d : number_at (A ++ (B ++ (C ++ (D ++ rest)))) 6 2 ≡ count_at row 3 =
    number_at-behind-bytes 2 (count_at row 0) (B ++ (C ++ (D ++ rest))) 4 2
    ∙ number_at-behind-bytes 2 (count_at row 1) (C ++ (D ++ rest)) 2 2
    ∙ number_at-behind-bytes 2 (count_at row 2) (D ++ rest) 0 2
    ∙ number_at-front 2 (count_at row 3) rest ∙ mod-eq_of_lt (h.below 3) in
    rw (apart, a, b, c, d)

power-again : (p : Phases) (detail : ℕ) (rest : List ℕ) → FitsPhases p → are_powers p ≡ true
    → phase_figures detail (power_data p detail ++ rest) ≡ own_power p detail
unfolding phase_figures power_data own_power phase
power-again p detail rest f h = go (eqb detail 0) (eqb detail 1) (eqb detail 2)
  where
    b : BoundsPhases p
    b = powers-bounds p h

    figures : Bool → List ℕ → Result Decoded DecodeError
    figures x bs = cond x (powers_figure (powers_of bs)) (power_figure (power_of bs 0))

    go : (x y z : Bool) → figures x (cond x (powers_bytes p) (power_bytes (cond y p.a (cond z p.b p.c))) ++ rest)
        ≡ cond x (Ok (decoded.Powers (record { total = total_of p; phases = p }))) (Ok (decoded.OnePower (cond y p.a (cond z p.b p.c))))
    go true y z = rw (powers-read p rest f h)
    go false true z = rw (power_of-bytes p.a rest f.a (bounds-finite p.a b.a))
    go false false true = rw (power_of-bytes p.b rest f.b (bounds-finite p.b b.b))
    go false false false = rw (power_of-bytes p.c rest f.c (bounds-finite p.c b.c))

-- what the reader finds in the meter's data, whatever stands behind them
pub found-again : (p : Parameter) (r : Record) (s : List ℕ) (q : Request) (slots : ℕ) (rest : List ℕ) → Within r → FitsRecord r
    → RowFits (slice_of s (key_of q)) → askable (subject_for p q slots) ≡ true
    → figures_in (subject_for p q slots) (figures_as q.reading p r s q ++ rest) ≡ own_as q.reading p r s q
unfolding read_as read_figures
found-again p r s q slots rest w f k h =
    ap (λ (x : Option Subject). figures_in x (figures_as q.reading p r s q ++ rest)) (asked p q slots h).subject ∙ found q.reading
  where
    go : (p : Parameter) → read_figures p q.detail (figures_of p r s q ++ rest) ≡ own_figures p r s q
    go parameter.ActivePower = power-again r.active q.detail rest f.active w.active
    go parameter.ReactivePower = power-again r.reactive q.detail rest f.reactive w.reactive
    go parameter.Address = refl
    go parameter.Telemetry = rw (telemetry_of-bytes r.telemetry rest f.telemetry)
    go parameter.SummerDate = rw (date_time_of-bytes (summer_shown r.time) rest)
    go parameter.WinterDate = rw (date_time_of-bytes (winter_shown r.time) rest)
    go parameter.Clock = rw (date_time_of-bytes r.time.clock rest)
    go parameter.DisplayMask = rw (mask_of-bytes r.mask rest f.parameters)
    go parameter.Slice = rw (row-again (slice_of s (key_of q)) rest k)
    go parameter.SixSlices = refl
    go parameter.Password = refl
    go parameter.Unknown = refl

    found : (x : Reading) → read_as x p q.detail (figures_as x p r s q ++ rest) ≡ own_as x p r s q
    found Stored = go p
    found Displayed = displayed-again r w f (slice_of s (key_of q)) rest k
