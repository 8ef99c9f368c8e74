-- Demand 2, a read request and its reply on the wire: the meter's data are bytes, its reply is well formed, and it comes back from the lent output.
use mathlib.Core.Path.{◌≡◌, refl, sym, ap, ◌∙◌}
use mathlib.Core.Bool.{Bool, true, false, cond, ◌&&◌}
use mathlib.Core.List.{List, [], ◌∷◌, ◌++◌}
use Prim.Native.Nat.{ℕ, zero, suc, ◌+◌, ◌*◌, ◌^◌, ◌≤◌, ◌<◌}
use native.Mathlib.Nat.{zero-lt-suc}
use native.Mathlib.Omega.{arith}
use lib.Dec.{eqb, leb, ltb, lit≤}
use lib.ListN.{length, take, get_or}
use borrow.Author.Tests.{eq-eqb}
use Rattle.std.specs.Prelude.{Ok}
use Rattle.test_laws.proofs.Test.{both}
use Rattle.byte_numbers.specs.Number.{Bytes, bytes_of}
use Rattle.byte_numbers.proofs.NumberLaws.{bytes-bytes_of}
use Rattle.byte_numbers.specs.Place.{byte_at, number_at, written}
use Rattle.byte_numbers.proofs.PlaceLaws.{number_at-one, number_at-split, part-written}
use Rattle.calendar.proofs.DateLaws.{ranges, month-length}
use Rattle.calendar.proofs.SundayLaws.{last-sunday}
use Rattle.calendar.specs.Time.{is_time, second_number, century_seconds}
use Rattle.calendar.proofs.TimeLaws.{time-ranges, is-time}
use Rattle.calendar.specs.declared.time.DateTime.{DateTime}
use Rattle.wire_values.specs.Clock.{date_time_bytes}
use Rattle.wire_values.specs.Displayed.{energies_bytes}
use Rattle.wire_values.specs.Mask.{mask_bytes}
use Rattle.wire_values.specs.Power.{total_of, bits_of, power_bytes, powers_bytes}
use Rattle.wire_values.specs.Telemetry.{telemetry_bytes}
use Rattle.wire_values.specs.declared.displayed.Energies.{Energies}
use Rattle.wire_values.specs.declared.power.Phases.{Phases}
use Rattle.frame.specs.Sealing.{framed}
use Rattle.frame.proofs.SealingLaws.{length-framed, crc_fits-framed}
use Rattle.parameters.specs.declared.code.Parameter.{Parameter}
use Rattle.parameters.specs.declared.code.Parameter.TheVariants as parameter
use Rattle.parameters.specs.declared.code.Reading.{Reading}
use Rattle.parameters.specs.declared.code.Reading.TheVariants.{Stored, Displayed}
use Rattle.parameters.specs.Code.{reading_code}
use Rattle.request.specs.Subject.{key_of}
use Rattle.request.specs.declared.request.Request.{Request}
use Rattle.meter_clock.specs.Season.{is_switchable, is_choice, sunday, on_hour, chosen_date}
use Rattle.meter_clock.proofs.SecondLaws.{Fitting, fitting}
use Rattle.meter_clock.specs.declared.season.SwitchDate.{SwitchDate}
use Rattle.meter_clock.specs.declared.season.SwitchDate.TheVariants.{Automatic, ByHand}
use Rattle.slots.specs.declared.key.Key.{Key}
use Rattle.meter_store.specs.Store.{row_at, is_kept, place_of, slice_of, six_of, count_at, row_bytes}
use Rattle.meter_store.proofs.StoreLaws.{RowFits}
use Rattle.meter_record.proofs.RangeLaws.{Within}
use Rattle.meter_record.specs.Widths.{FitsRecord}
use Rattle.meter_record.specs.declared.record.Record.{Record}
use Rattle.meter_reply_data.specs.Reading.{phase, power_data, six_bytes, displayed_of, figures_of, figures_as}
use Rattle.reader.specs.Form.{length_for, function_for, head_of, form_of}
use Rattle.claims.proofs.Reading.{code_below}

-- ---- lists of bytes

-- a list of bytes, put together part by part
pub record OfBytes (xs : List ℕ) : Type 0 where
  pub each : Bytes xs

-- nothing, to begin with
pub nil : OfBytes []
nil = record { each = λ i. zero-lt-suc 255 }

-- a byte before bytes
pub bytes-cons : (x : ℕ) {xs : List ℕ} → x < 256 → OfBytes xs → OfBytes (x ∷ xs)
bytes-cons x {xs} h b = record { each = go }
  where
    go : Bytes (x ∷ xs)
    go zero = h
    go (suc i) = b.each i

together : (xs ys : List ℕ) → Bytes xs → Bytes ys → Bytes (xs ++ ys)
together [] ys b c i = c i
together (x ∷ xs) ys b c zero = b 0
together (x ∷ xs) ys b c (suc i) = together xs ys (λ j. b (suc j)) c i

-- bytes behind bytes
pub append : {xs ys : List ℕ} → OfBytes xs → OfBytes ys → OfBytes (xs ++ ys)
append {xs} {ys} b c = record { each = together xs ys b.each c.each }

-- a number's bytes, whatever the number
pub of_number : (k n : ℕ) → OfBytes (bytes_of k n)
of_number k n = record { each = bytes-bytes_of k n }

-- a count of two bytes fits them
count_fits : (s : List ℕ) (i : ℕ) → Bytes s → number_at s i 2 < 65536
count_fits s i b =
    let e : number_at s i 2 ≡ number_at s (i + 1) 1 * 256 ^ 1 + number_at s i 1 = number_at-split s i 1 1 in
    let h : number_at s (i + 1) 1 ≡ byte_at s (i + 1) = number_at-one s (i + 1) in
    let l : number_at s i 1 ≡ byte_at s i = number_at-one s i in
    omega (arith, e, h, l, b (i + 1), b i)

-- a slice has four counts
pub four-counts : (s : List ℕ) (k : Key)
    → count_at (slice_of s k) 0 ∷ count_at (slice_of s k) 1 ∷ count_at (slice_of s k) 2 ∷ count_at (slice_of s k) 3 ∷ [] ≡ slice_of s k
unfolding slice_of row_at
four-counts s k = go (is_kept s k) refl
  where
    go : (b : Bool) → is_kept s k ≡ b
        → count_at (slice_of s k) 0 ∷ count_at (slice_of s k) 1 ∷ count_at (slice_of s k) 2 ∷ count_at (slice_of s k) 3 ∷ [] ≡ slice_of s k
    go true e = simp e
    go false e = simp e

-- the counts of a slice of a store of bytes fit theirs
pub slice_fits : (s : List ℕ) (k : Key) → Bytes s → RowFits (slice_of s k)
unfolding slice_of row_at
slice_fits s k b = record { four = ap length (sym (four-counts s k)); below = go (is_kept s k) refl }
  where
    small : (i : ℕ) → count_at (row_at s (place_of s k)) i < 65536
    small zero = count_fits s _ b
    small (suc zero) = count_fits s _ b
    small (suc (suc zero)) = count_fits s _ b
    small (suc (suc (suc zero))) = count_fits s _ b
    small (suc (suc (suc (suc i)))) = zero-lt-suc 65535

    none : (i : ℕ) → count_at (0 ∷ 0 ∷ 0 ∷ 0 ∷ []) i < 65536
    none zero = zero-lt-suc 65535
    none (suc zero) = zero-lt-suc 65535
    none (suc (suc zero)) = zero-lt-suc 65535
    none (suc (suc (suc zero))) = zero-lt-suc 65535
    none (suc (suc (suc (suc i)))) = zero-lt-suc 65535

    go : (c : Bool) → is_kept s k ≡ c → (i : ℕ) → count_at (slice_of s k) i < 65536
    go true e i = simp e (small i)
    go false e i = simp e (none i)

-- ---- the meter's data are bytes

-- a time's six fields are bytes
pub time-bytes : (t : DateTime) → is_time t ≡ true → OfBytes (date_time_bytes t)
unfolding date_time_bytes
time-bytes t h =
    let r = time-ranges t h in
    let d = ranges t.date r.date in
    let l = month-length t.date.year t.date.month (record { year-below = d.year-below; month-from = d.month-from; month-to = d.month-to }) in
    bytes-cons t.second (omega (arith, r.second_below))
    (bytes-cons t.minute (omega (arith, r.minute-below))
    (bytes-cons t.hour (omega (arith, r.hour-below))
    (bytes-cons t.date.day (omega (arith, d.day-to, l.at_most))
    (bytes-cons t.date.month (omega (arith, d.month-to))
    (bytes-cons t.date.year (omega (arith, d.year-below)) nil)))))

-- a date that is shown, automatic or written by hand, is a time
shown-is-time : (c : SwitchDate) (y m h : ℕ) → is_choice c ≡ true → y < 100 → 1 ≤ m → m ≤ 12 → h < 24
    → is_time (chosen_date c (on_hour (sunday y m) h)) ≡ true
unfolding is_switchable
shown-is-time Automatic y m h e yb mf mt hb =
    let s = last-sunday y m (record { year-below = yb; month-from = mf; month-to = mt }) in
    is-time _ (record { date = s.valid; hour-below = hb; minute-below = zero-lt-suc 59; second_below = zero-lt-suc 59 })
shown-is-time (ByHand t) y m h e yb mf mt hb =
    let a = both (is_time t && leb 3600 (second_number t)) (ltb (second_number t + 3600) century_seconds) e in
    (both (is_time t) (leb 3600 (second_number t)) a.0).0

powers-bytes : (p : Phases) (detail : ℕ) → OfBytes (power_data p detail)
unfolding power_data powers_bytes power_bytes
powers-bytes p detail = go (eqb detail 0)
  where
    go : (b : Bool) → OfBytes (cond b (powers_bytes p) (power_bytes (phase p detail)))
    go true = append (of_number 4 (bits_of (total_of p))) (append (of_number 4 (bits_of p.a)) (append (of_number 4 (bits_of p.b)) (of_number 4 (bits_of p.c))))
    go false = of_number 4 (bits_of (phase p detail))

-- a slice's data are bytes, whatever its counts
pub row-bytes : (row : List ℕ) → OfBytes (row_bytes row)
unfolding row_bytes
row-bytes row =
    append (of_number 2 (count_at row 0)) (append (of_number 2 (count_at row 1)) (append (of_number 2 (count_at row 2)) (of_number 2 (count_at row 3))))

six-bytes : (rows : List (List ℕ)) → OfBytes (six_bytes rows)
unfolding six_bytes
six-bytes rows =
    let row : (i : ℕ) → OfBytes (row_bytes (get_or rows i [])) = λ i. row-bytes (get_or rows i []) in
    append (row 0) (append (row 1) (append (row 2) (append (row 3) (append (row 4) (row 5)))))

figures-bytes : (p : Parameter) (r : Record) (s : List ℕ) (q : Request) → Within r → FitsRecord r → OfBytes (figures_of p r s q)
unfolding telemetry_bytes mask_bytes
figures-bytes p r s q w f = go p
  where
    t : Fitting r.time
    t = fitting r.time w.time

    y : r.time.clock.date.year < 100
    y = (ranges r.time.clock.date (time-ranges r.time.clock t.clock).date).year-below

    go : (p : Parameter) → OfBytes (figures_of p r s q)
    go parameter.ActivePower = powers-bytes r.active q.detail
    go parameter.ReactivePower = powers-bytes r.reactive q.detail
    go parameter.Address = bytes-cons r.address f.address nil
    go parameter.Telemetry = append (of_number 4 r.telemetry.k) (append (of_number 2 r.telemetry.ke) (of_number 2 r.telemetry.reserve))
    go parameter.SummerDate = time-bytes _ (shown-is-time r.time.summer r.time.clock.date.year 3 2 t.summer y (lit≤ tt) (lit≤ tt) (lit≤ tt))
    go parameter.WinterDate = time-bytes _ (shown-is-time r.time.winter r.time.clock.date.year 10 3 t.winter y (lit≤ tt) (lit≤ tt) (lit≤ tt))
    go parameter.Clock = time-bytes r.time.clock t.clock
    go parameter.DisplayMask =
        append (of_number 4 r.mask.parameters) (bytes-cons r.mask.tariffs f.tariffs (bytes-cons r.mask.directions f.directions nil))
    go parameter.Slice = row-bytes (slice_of s (key_of q))
    go parameter.SixSlices = six-bytes (six_of s (key_of q))
    go parameter.Password = nil
    go parameter.Unknown = nil

energies-bytes : (e : Energies) → OfBytes (energies_bytes e)
unfolding energies_bytes
energies-bytes e =
    append (of_number 4 e.e_plus.0) (append (of_number 4 e.e_minus.0) (append (of_number 4 e.r_plus.0) (of_number 4 e.r_minus.0)))

-- the figures that the meter sends for any read are bytes, if its record is within its ranges
pub as_bytes : (x : Reading) (p : Parameter) (r : Record) (s : List ℕ) (q : Request) → Within r → FitsRecord r → OfBytes (figures_as x p r s q)
as_bytes Stored p r s q w f = figures-bytes p r s q w f
as_bytes Displayed p r s q w f = energies-bytes (displayed_of r (slice_of s (key_of q)))

-- ---- the reply

-- the reply to a read that is done
abbrev pub reply_body : Request → List ℕ → List ℕ
reply_body q figures = q.address ∷ reading_code q.reading ∷ q.parameter ∷ 0 ∷ figures

-- it is well formed for the reader that asked
pub reply-formed : (q : Request) (figures : List ℕ) (n : ℕ) → OfBytes (reply_body q figures) → length figures ≡ n
    → form_of q.address (reading_code q.reading) q.parameter (6 + n) (framed (reply_body q figures)) ≡ Ok tt
unfolding form_of length_for function_for head_of framed
reply-formed q figures n b e =
    let l : length (framed (reply_body q figures)) ≡ 6 + n = length-framed (reply_body q figures) ∙ omega (arith, e) in
    let code = reading_code q.reading in
    simp (
      code_below q.reading,
      eq-eqb _ _ l,
      crc_fits-framed (reply_body q figures) b.each,
      eq-eqb q.address q.address refl,
      eq-eqb code code refl,
      eq-eqb q.parameter q.parameter refl,
    )

-- what was written to the front of a longer output reads back
pub front-again : (out bs : List ℕ) (n : ℕ) → length bs ≡ n → n ≤ length out → take n (written out 0 bs) ≡ bs
front-again out bs n e h =
    ap (λ (k : ℕ). take k (written out 0 bs)) (sym e) ∙ part-written out 0 bs (omega (arith, e))
