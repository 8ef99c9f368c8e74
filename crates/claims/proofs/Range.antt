-- Demand 2, 27: what it refuses no record answers with 0, and what it lets pass some record does.
use mathlib.Core.Path.{◌≡◌, refl, sym, ap, ap₂, ◌∙◌}
use mathlib.Core.Bool.{Bool, true, false, cond, ◌&&◌, ◌||◌, false≢true}
use mathlib.Core.List.{List, [], ◌∷◌}
use Prim.Native.Nat.{ℕ, ◌+◌, ◌≤◌, ◌<◌}
use native.Mathlib.Omega.{arith}
use lib.Dec.{eqb, leb, ltb, lit≤}
use lib.Ieee.{le, fits, of_bits}
use lib.ListN.{length, replicate, length-replicate}
use borrow.Author.Tests.{le-leb, eq-eqb, eqb-false}
use Rattle.std.specs.Prelude.{Err, Float, None, Ok, Option, Result, Some}
use Rattle.test_laws.proofs.Test.{either}
use Rattle.byte_numbers.specs.Place.{byte_at}
use Rattle.calendar.specs.Date.{is_date, days_in_month, month_lengths}
use Rattle.calendar.specs.Time.{is_time}
use Rattle.calendar.specs.declared.time.DateTime.{DateTime}
use Rattle.wire_values.specs.Displayed.{energies_of}
use Rattle.wire_values.specs.Power.{power_of, powers_of}
use Rattle.wire_values.specs.declared.telemetry.Telemetry.{Telemetry}
use Rattle.wire_values.specs.declared.displayed.Energies.{Energies}
use Rattle.wire_values.specs.declared.power.Powers.{Powers}
use Rattle.frame.specs.Sealing.{framed, is_sealed}
use Rattle.frame.proofs.SealingLaws.{length-framed, crc_fits-framed}
use Rattle.parameters.specs.Code.{reading_code}
use Rattle.parameters.specs.Table.{parameter_row, opens_to, parameter_of}
use Rattle.parameters.specs.declared.code.Parameter.{Parameter}
use Rattle.parameters.specs.declared.code.Parameter.TheVariants as parameter
use Rattle.parameters.specs.declared.code.Reading.{Reading}
use Rattle.parameters.specs.declared.code.Reading.TheVariants.{Stored, Displayed}
use Rattle.slots.specs.Day.{is_minutes, slots_of}
use Rattle.slots.proofs.DayLaws.{slots-at-most}
use Rattle.request.proofs.RequestLaws as request
use Rattle.request.proofs.RequestLaws.{subject-wider}
use Rattle.request.specs.Request as making
use Rattle.request.specs.Request.{request_frame, requested}
use Rattle.request.specs.Subject.{subject_of, subject_for, most_slots, askable, data_bytes}
use Rattle.request.specs.declared.request.Request.{Request}
use Rattle.request.specs.declared.subject.Subject.{Subject}
use Rattle.reader.specs.Form.{reply_of}
use Rattle.reader.proofs.FormLaws.{fault-above}
use Rattle.reader.specs.Reply as decoding
use Rattle.reader.specs.Reply.{decoded_of, read_figures, read_as, phase_figures, powers_figure, power_figure, energies_figure, figures_of}
use Rattle.reader.specs.Rows.{reply_data}
use Rattle.reader.specs.declared.reply.Decoded.{Decoded}
use Rattle.reader.specs.declared.reply.DecodeError.{DecodeError}
use Rattle.reader.specs.declared.form.ReplyError.{ReplyError}
use Rattle.reader.specs.declared.form.ReplyError.TheVariants.{Malformed, Refused}
use Rattle.meter_clock.specs.Protection.{is_protection}
use Rattle.meter_clock.specs.Season.{is_fitting}
use Rattle.meter_clock.specs.declared.season.Season.TheVariants.{Winter}
use Rattle.meter_store.specs.Store.{store_bytes}
use Rattle.meter_record.proofs.RangeLaws.{Within, is_within_lem}
use Rattle.meter_record.specs.Power.{in_bounds, are_powers}
use Rattle.meter_record.specs.Ratios.{are_ratios}
use Rattle.meter_record.specs.Ranges.{is_telemetry}
use Rattle.meter_record.specs.Record.{fresh}
use Rattle.meter_record.specs.Widths.{FitsRecord}
use Rattle.meter_record.specs.declared.record.Record.{Record}
use Rattle.meter_command.specs.declared.access.Met.TheVariants.{Own, Zero, Neither}
use Rattle.meter.specs.Reply.{is_sound, met, is_heard, heard}
use Rattle.claims.specs.Demand1.{answer_number}
use Rattle.claims.specs.Demand2.{answered}
use Rattle.claims.specs.Demand2Done.{BytesRequest, Answerable}
use Rattle.claims.proofs.Done.{read_done}
use Rattle.claims.proofs.Fits.{zero-bytes}
use Rattle.claims.proofs.Reading.{code-byte}
use Rattle.claims.proofs.Replies as replies
use Rattle.claims.proofs.Wire.{OfBytes, nil, bytes-cons}

-- ---- what is answered with 0 can be asked

asked-most : (r : Record) (s : List ℕ) (q : Request) (out : List ℕ) → answer_number (answered r s q out) ≡ 0 → askable (subject_of q most_slots) ≡ true
asked-most r s q out h =
    let a = replies.asked r q (replies.passed r s (request_frame q) out h).verdict in
    ap askable (subject-wider q (slots_of r.minutes) (slots-at-most r.minutes) a) ∙ a

-- ---- the reader's 27 is for nothing else

No27 : Result Decoded DecodeError → Type 0
No27 d = decoding.number_of d ≡ 27 → ⊥

phases-no-27 : (detail : ℕ) (bs : List ℕ) → No27 (phase_figures detail bs)
unfolding phase_figures No27
phases-no-27 detail bs = either No27 (eqb detail 0) (all (powers_of bs)) (one (power_of bs 0))
  where
    all : (p : Option Powers) → No27 (powers_figure p)
    all (Some p) h = omega (arith, h)
    all None h = omega (arith, h)

    one : (p : Option Float) → No27 (power_figure p)
    one (Some p) h = omega (arith, h)
    one None h = omega (arith, h)

figures-no-27 : (p : Parameter) (detail : ℕ) (bs : List ℕ) → (parameter_row p).readable ≡ true → No27 (read_figures p detail bs)
unfolding read_figures No27
figures-no-27 parameter.ActivePower detail bs e h = phases-no-27 detail bs h
figures-no-27 parameter.ReactivePower detail bs e h = phases-no-27 detail bs h
figures-no-27 parameter.Address detail bs e h = omega (arith, h)
figures-no-27 parameter.Telemetry detail bs e h = omega (arith, h)
figures-no-27 parameter.SummerDate detail bs e h = omega (arith, h)
figures-no-27 parameter.WinterDate detail bs e h = omega (arith, h)
figures-no-27 parameter.Clock detail bs e h = omega (arith, h)
figures-no-27 parameter.DisplayMask detail bs e h = omega (arith, h)
figures-no-27 parameter.Slice detail bs e h = omega (arith, h)
figures-no-27 parameter.SixSlices detail bs e h = omega (arith, h)
figures-no-27 parameter.Password detail bs e h = false≢true e
figures-no-27 parameter.Unknown detail bs e h = false≢true e

energies-no-27 : (e : Option Energies) → No27 (energies_figure e)
unfolding No27
energies-no-27 (Some e) h = omega (arith, h)
energies-no-27 None h = omega (arith, h)

as-no-27 : (x : Reading) (p : Parameter) (detail : ℕ) (bs : List ℕ) → opens_to x (parameter_row p) ≡ true → No27 (read_as x p detail bs)
unfolding read_as
as-no-27 Stored p detail bs e = figures-no-27 p detail bs e
as-no-27 Displayed p detail bs e = energies-no-27 (energies_of bs)

-- the reader says 27 of no request that can be asked, whatever the reply
pub decoded-no-27 : (q : Request) (y : List ℕ) → askable (subject_of q most_slots) ≡ true → decoding.number_of (decoded_of q y) ≡ 27 → ⊥
unfolding No27 decoded_of subject_of
decoded-no-27 q y a h = go (reply_of q.address (reading_code q.reading) q.parameter (6 + data_bytes (subject_for p q most_slots)) y) refl
  where
    p : Parameter
    p = parameter_of q.parameter

    k : request.Asked p q most_slots
    k = request.asked p q most_slots a

    go : (r : Result Unit ReplyError) → reply_of q.address (reading_code q.reading) q.parameter (6 + data_bytes (subject_for p q most_slots)) y ≡ r → ⊥
    go (Err (Malformed fault)) e = omega (arith, simp (a, e) at h, fault-above fault)
    go (Err (Refused result)) e = omega (arith, simp (a, e) at h)
    go (Ok tt) e =
        let n : decoding.number_of (figures_of (subject_for p q most_slots) (reply_data y)) ≡ 27 = simp (a, e) at h in
        as-no-27 q.reading p q.detail (reply_data y) k.open-to
        (ap (λ (s : Option Subject). decoding.number_of (figures_of s (reply_data y))) (sym k.subject) ∙ n)

-- demand 2's `out_of_range`: no record answers with 0 what the reader gives 27
pub out_of_range : (q : Request) (y : List ℕ) → decoding.number_of (decoded_of q y) ≡ 27
    → (r : Record) (s out : List ℕ) → answer_number (answered r s q out) ≡ 0 → ⊥
unfolding No27
out_of_range q y h r s out z = decoded-no-27 q y (asked-most r s q out z) h

-- what is not askable is 27
not-askable : (q : Request) (y : List ℕ) → askable (subject_of q most_slots) ≡ false → decoding.number_of (decoded_of q y) ≡ 27
unfolding decoded_of
not-askable q y e = simp e

-- ---- a request, and any such bytes, are a frame that its meter hears

-- bytes behind an address, with their CRC, are a frame
framed-sealed : (body : List ℕ) → OfBytes body → 2 ≤ length body → length body ≤ 62 → is_sealed (framed body) ≡ true
unfolding is_sealed
framed-sealed body b least most =
    let l : length (framed body) ≡ length body + 2 = length-framed body in
    ap₂ ◌&&◌ (ap₂ ◌&&◌ (le-leb 4 (length (framed body)) (omega (arith, l, least))) (le-leb (length (framed body)) 64 (omega (arith, l, most)))) (crc_fits-framed body b.each)

framed-address : (a : ℕ) (rest : List ℕ) → byte_at (framed (a ∷ rest)) 0 ≡ a
unfolding framed
framed-address a rest = refl

by-either : (zero own : Bool) → (zero || own) ≡ true → is_heard (cond zero Zero (cond own Own Neither)) ≡ true
by-either true own e = refl
by-either false true e = refl
by-either false false e = absurd (false≢true e)

-- the address that such a frame met
pub met-framed : (r : Record) (a : ℕ) (rest : List ℕ) → OfBytes (a ∷ rest) → 1 ≤ length rest → length rest ≤ 61
    → met r (framed (a ∷ rest)) ≡ cond (eqb a 0) Zero (cond (eqb a r.address) Own Neither)
unfolding met
met-framed r a rest b least most =
    ap₂ (λ (sealed : Bool) (x : ℕ). cond sealed (cond (eqb x 0) Zero (cond (eqb x r.address) Own Neither)) Neither)
    (framed-sealed (a ∷ rest) b (omega (arith, least)) (omega (arith, most))) (framed-address a rest)

-- a meter hears a frame of bytes that has its own address or 0
pub hears-framed : (r : Record) (a : ℕ) (rest : List ℕ) → OfBytes (a ∷ rest) → 1 ≤ length rest → length rest ≤ 61
    → (eqb a 0 || eqb a r.address) ≡ true → heard r (framed (a ∷ rest)) ≡ true
unfolding heard
hears-framed r a rest b least most e = ap is_heard (met-framed r a rest b least most) ∙ by-either (eqb a 0) (eqb a r.address) e

-- so it hears every request to one of these
pub hears-request : (r : Record) (q : Request) → BytesRequest q → (eqb q.address 0 || eqb q.address r.address) ≡ true
    → heard r (request_frame q) ≡ true
unfolding request_frame
hears-request r q k e =
    hears-framed r q.address (reading_code q.reading ∷ q.parameter ∷ q.offset ∷ q.tariff ∷ q.detail ∷ [])
    (bytes-cons q.address k.repeated.address (bytes-cons (reading_code q.reading) (code-byte q.reading) (bytes-cons q.parameter k.repeated.parameter
    (bytes-cons q.offset k.offset (bytes-cons q.tariff k.tariff (bytes-cons q.detail k.detail nil))))))
    (lit≤ tt) (lit≤ tt) e

-- ---- a meter from the factory, of 15 minutes, with the request's address

telemetry : Telemetry
telemetry = record { k = 40000; ke = 1; reserve = 0 }

clock : DateTime
clock = record { date = record { year = 0; month = 1; day = 1 }; hour = 0; minute = 0; second = 0 }

abbrev meter_at : ℕ → Record
meter_at address = fresh address 15 telemetry clock Winter

meter-within : (a : ℕ) → leb 1 a ≡ true → Within (meter_at a)
unfolding fresh telemetry clock is_protection is_fitting is_time is_date days_in_month is_telemetry is_minutes are_powers in_bounds are_ratios month_lengths le of_bits
meter-within a h = record {
  address = h;
  protection = refl;
  time = refl;
  telemetry = refl;
  minutes = refl;
  next = refl;
  active = refl;
  reactive = refl;
  ratios = refl;
}

meter-fits : (a : ℕ) → a < 256 → FitsRecord (meter_at a)
unfolding fresh telemetry fits of_bits
meter-fits a h = record {
  address = h;
  main = lit≤ tt;
  auxiliary = lit≤ tt;
  telemetry = record { k = lit≤ tt; ke = lit≤ tt; reserve = lit≤ tt };
  parameters = lit≤ tt;
  tariffs = lit≤ tt;
  directions = lit≤ tt;
  active = record { a = tt; b = tt; c = tt };
  reactive = record { a = tt; b = tt; c = tt };
  next = lit≤ tt;
  ki = lit≤ tt;
  ku = lit≤ tt;
}

zeros-sound : (r : Record) (n : ℕ) → n ≡ store_bytes → Within r → is_sound r (replicate n 0) ≡ true
unfolding is_sound
zeros-sound r n e w = ap₂ ◌&&◌ (eq-eqb _ _ (length-replicate n 0 ∙ e)) (is_within_lem r w)

minutes-most : (a : ℕ) → slots_of (meter_at a).minutes ≡ most_slots
unfolding fresh slots_of is_minutes
minutes-most a = refl

meter-address : (a : ℕ) → (meter_at a).address ≡ a
unfolding fresh
meter-address a = refl

answers_at : (q : Request) (a : ℕ) → BytesRequest q → a < 256 → leb 1 a ≡ true → (eqb q.address 0 || eqb q.address a) ≡ true
    → askable (subject_of q most_slots) ≡ true → Answerable q
answers_at q a k small from own h =
    let r = meter_at a in
    let s : List ℕ = replicate store_bytes 0 in
    let out : List ℕ = replicate 64 0 in
    record {
      meter = r;
      store = s;
      out = out;
      fits = meter-fits a small;
      bytes = zero-bytes store_bytes;
      answers = read_done r s q out
          (record {
            room = omega (arith, length-replicate {A = ℕ} 64 0);
            sound = zeros-sound r store_bytes refl (meter-within a from);
            hears = hears-request r q k (ap (λ (x : ℕ). eqb q.address 0 || eqb q.address x) (meter-address a) ∙ own);
          })
          (ap (λ (n : ℕ). askable (subject_of q n)) (minutes-most a) ∙ h);
    }

answers-most : (q : Request) → BytesRequest q → askable (subject_of q most_slots) ≡ true → Answerable q
answers-most q k h = go (eqb q.address 0) refl
  where
    go : (b : Bool) → eqb q.address 0 ≡ b → Answerable q
    go true e = answers_at q 1 k (lit≤ tt) refl (ap (λ (b : Bool). b || eqb q.address 1) e) h
    go false e =
        answers_at q q.address k k.repeated.address (le-leb 1 q.address (omega (arith, eqb-false q.address 0 e)))
        (ap₂ ◌||◌ e (eq-eqb q.address q.address refl)) h

-- demand 2's `in_range`: what the reader does not give 27 some record answers with 0
pub in_range : (q : Request) (y : List ℕ) → BytesRequest q → (decoding.number_of (decoded_of q y) ≡ 27 → ⊥) → Answerable q
in_range q y k n = go (askable (subject_of q most_slots)) refl
  where
    go : (b : Bool) → askable (subject_of q most_slots) ≡ b → Answerable q
    go true e = answers-most q k e
    go false e = absurd (n (not-askable q y e))

-- ---- where a request is made

-- demand 2's `out_of_range_made`: the same of 27 where a request is made
pub out_of_range_made : (q : Request) (frame : List ℕ) → making.number_of (requested q frame).result ≡ 27
    → (r : Record) (s out : List ℕ) → answer_number (answered r s q out) ≡ 0 → ⊥
unfolding requested
out_of_range_made q frame h r s out z = go (ltb (length frame) 8) refl
  where
    go : (b : Bool) → ltb (length frame) 8 ≡ b → ⊥
    go true e = omega (arith, simp e at h)
    go false e = omega (arith, simp (e, asked-most r s q out z) at h)

-- demand 2's `in_range_made`: a request that was made some record answers with 0
pub in_range_made : (q : Request) (frame : List ℕ) → BytesRequest q → making.number_of (requested q frame).result ≡ 0 → Answerable q
unfolding requested
in_range_made q frame k h = go (ltb (length frame) 8) refl (askable (subject_of q most_slots)) refl
  where
    go : (a : Bool) → ltb (length frame) 8 ≡ a → (b : Bool) → askable (subject_of q most_slots) ≡ b → Answerable q
    go true e b c = absurd (omega (arith, simp e at h))
    go false e true c = answers-most q k c
    go false e false c = absurd (omega (arith, simp (e, c) at h))
