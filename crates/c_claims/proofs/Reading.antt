-- What C decodes from the bench meter's reply: demand 2 says that the reply decodes to the record's own figures, and these, as a row, are the record's own numbers.
use mathlib.Core.Path.{◌≡◌, refl, sym, ap, subst, ◌∙◌}
use mathlib.Core.Bool.{Bool, true, false, cond, ◌||◌, false≢true}
use mathlib.Core.List.{List}
use mathlib.Core.Logic.{◌⊎◌, inl, inr}
use Prim.Native.Nat.{ℕ, ◌≤◌}
use native.Mathlib.Omega.{arith}
use lib.Dec.{eqb}
use lib.ListN.{length, take}
use borrow.Author.Tests.{le-ltb, eq-eqb, ne_eqb}
use Rattle.std.specs.Prelude.{Ok, Result, Some}
use Rattle.refusal.specs.Outcome.{outcome}
use Rattle.byte_numbers.specs.Number.{Bytes}
use Rattle.byte_numbers.specs.Place.{written}
use Rattle.slots.specs.Day.{slots_of}
use Rattle.slots.proofs.DayLaws.{slots-at-most}
use Rattle.wire_values.specs.declared.power.Phases.{Phases}
use Rattle.frame.proofs.SealingLaws.{length-framed}
use Rattle.parameters.specs.Table.{parameter_row, parameter_of, opens_to}
use Rattle.parameters.specs.declared.code.Function.TheVariants as function
use Rattle.parameters.specs.declared.code.Parameter.{Parameter}
use Rattle.parameters.specs.declared.code.Parameter.TheVariants as parameter
use Rattle.parameters.specs.declared.code.Reading.{Reading}
use Rattle.parameters.specs.declared.code.Reading.TheVariants.{Stored, Displayed}
use Rattle.request.specs.Request.{request_frame, requested}
use Rattle.request.specs.Subject.{key_of, subject_of, most_slots, askable}
use Rattle.request.specs.declared.request.Request.{Request}
use Rattle.request.proofs.RequestLaws as request
use Rattle.reader.specs.Reply.{decoded_of, number_of}
use Rattle.reader.specs.Rows as rows
use Rattle.reader.specs.declared.reply.Decoded.{Decoded}
use Rattle.reader.specs.declared.reply.DecodeError.{DecodeError}
use Rattle.meter_store.specs.Store.{six_of}
use Rattle.meter_record.specs.Widths.{FitsRecord}
use Rattle.meter_record.specs.declared.record.Record.{Record}
use Rattle.meter_record_bytes.specs.Record.{record_of}
use Rattle.meter_command.specs.Command.{function_in}
use Rattle.meter_command.specs.Verdict.{is_done}
use Rattle.meter_reply_data.specs.Reading.{phase}
use Rattle.meter.specs.Reply as reply
use Rattle.meter.specs.declared.reply.Answered.{Answered}
use Rattle.c_values.specs.Row.{figures_for, figure_row, powers_row, time_row, energies_row, counts_row, six_row}
use Rattle.c_values.proofs.RowLaws.{decoded-foretold}
use Rattle.claims.specs.Demand1.{answer_number}
use Rattle.claims.specs.Demand2.{FitsRequest, reply_in, answered}
use Rattle.claims.specs.Figures.{own_power, four_counts, four_energies, own_figures, own_as}
use Rattle.claims.proofs.Claims as claims
use Rattle.claims.proofs.Range.{hears-request}
use Rattle.claims.proofs.Replies.{passed, asked, request-read}
use Rattle.claims.proofs.Wire.{front-again}
use Rattle.metlazuel.specs.Calls.{result_after, received_after}
use Rattle.metlazuel.specs.MeterCalls.{bytes_left, sent_length, answer_for_c}
use Rattle.metlazuel.specs.WireCalls.{count_after, decode_for_c}
use Rattle.c_claims.specs.Reading.{phase_bits, power_numbers, stored_numbers, numbers_as, own_numbers, making, answering, decoding, Asks, Answers, Tells}
use Rattle.c_claims.proofs.WidthLaws.{read_fits}

-- ---- the record's figures as a row

power-row : (p : Phases) (detail : ℕ) (y : List ℕ) → figure_row (own_power p detail) y ≡ power_numbers p detail
unfolding figure_row own_power powers_row power_numbers phase_bits phase
power-row p detail y = go (eqb detail 0) refl
  where
    go : (b : Bool) → eqb detail 0 ≡ b → figure_row (own_power p detail) y ≡ power_numbers p detail
    go true e = rw e refl
    go false e = rw e refl

-- a reply to a request for six slices has the store's
abbrev SixFrom : Parameter → List ℕ → Request → List ℕ → Type 0
SixFrom p s q y = p ≡ parameter.SixSlices → rows.six_of (rows.reply_data y) ≡ six_of s (key_of q)

stored_row : (p : Parameter) (r : Record) (s : List ℕ) (q : Request) (y : List ℕ) → SixFrom p s q y → figure_row (own_figures p r s q) y ≡ stored_numbers p r s q
unfolding figure_row stored_numbers time_row four_counts six_row counts_row six_of
stored_row parameter.ActivePower r s q y six = power-row r.active q.detail y
stored_row parameter.ReactivePower r s q y six = power-row r.reactive q.detail y
stored_row parameter.Address r s q y six = refl
stored_row parameter.Telemetry r s q y six = refl
stored_row parameter.SummerDate r s q y six = refl
stored_row parameter.WinterDate r s q y six = refl
stored_row parameter.Clock r s q y six = refl
stored_row parameter.DisplayMask r s q y six = refl
stored_row parameter.Slice r s q y six = refl
stored_row parameter.SixSlices r s q y six = ap six_row (six refl)
stored_row parameter.Password r s q y six = refl
stored_row parameter.Unknown r s q y six = refl

own_row : (x : Reading) (p : Parameter) (r : Record) (s : List ℕ) (q : Request) (y : List ℕ) → SixFrom p s q y → figure_row (own_as x p r s q) y ≡ numbers_as x p r s q
unfolding numbers_as figure_row energies_row four_energies
own_row Stored p r s q y six = stored_row p r s q y six
own_row Displayed p r s q y six = refl

-- what is open to a function has figures
power-given : (p : Phases) (detail : ℕ) → number_of (own_power p detail) ≡ 0
unfolding own_power
power-given p detail = go (eqb detail 0) refl
  where
    go : (b : Bool) → eqb detail 0 ≡ b → number_of (own_power p detail) ≡ 0
    go true e = rw e refl
    go false e = rw e refl

given : (x : Reading) (p : Parameter) (r : Record) (s : List ℕ) (q : Request) → opens_to x (parameter_row p) ≡ true → number_of (own_as x p r s q) ≡ 0
given Displayed p r s q h = refl
given Stored parameter.ActivePower r s q h = power-given r.active q.detail
given Stored parameter.ReactivePower r s q h = power-given r.reactive q.detail
given Stored parameter.Address r s q h = refl
given Stored parameter.Telemetry r s q h = refl
given Stored parameter.SummerDate r s q h = refl
given Stored parameter.WinterDate r s q h = refl
given Stored parameter.Clock r s q h = refl
given Stored parameter.DisplayMask r s q h = refl
given Stored parameter.Slice r s q h = refl
given Stored parameter.SixSlices r s q h = refl
given Stored parameter.Password r s q h = absurd (false≢true h)
given Stored parameter.Unknown r s q h = absurd (false≢true h)

-- ---- a reply decoded for C

decoded-for-c : (q : Request) (y figures row : List ℕ) (count result size : ℕ) → number_of (decoded_of q y) ≡ 0 → figure_row (decoded_of q y) y ≡ figures
    → length figures ≤ length row → Tells figures row result size (decode_for_c q y row count result size)
unfolding decode_for_c count_after result_after received_after
decoded-for-c q y figures row count result size z e room =
    let many : figures_for (subject_of q most_slots) ≤ length row = subst (λ (n : ℕ). n ≤ length row) (sym (ap length e) ∙ decoded-foretold q y z) room in
    rw (le-ltb _ _ many, z, e) refl

-- ---- the meter's answer for C

-- a read leaves the record's bytes
pub read-leaves : (a : Answered) (f bs : List ℕ) (x : Reading) → function_in f ≡ function.Read x → bytes_left a f bs ≡ bs
unfolding bytes_left
read-leaves a f bs x e = rw e (both_ways (is_done a.verdict))
  where
    both_ways : (b : Bool) → cond b bs bs ≡ bs
    both_ways true = refl
    both_ways false = refl

module _ (bs s : List ℕ) (r : Record) (q : Request) (out : List ℕ) (word : ℕ) (e : record_of bs ≡ Some r)
    (z : answer_number (answered r s q out) ≡ 0) where
  abbrev o : reply.Outcome
  o = answered r s q out

  -- the length that is told is the reply's
  length-told : sent_length o.answer.length word ≡ o.answer.length
  unfolding sent_length
  length-told =
      let whole = (passed r s (request_frame q) out z).whole in
      let some : eqb o.answer.length 0 ≡ false = ne_eqb _ _ (λ n. let w = sym (ap (λ (x : reply.Outcome). x.answer.length) whole) ∙ n in omega (arith, w)) in
      rw some refl

  reply-told : let a = answering bs s (request_frame q) out word in take a.left.0 a.left.3 ≡ reply_in o
  unfolding answer_for_c
  reply-told = rw e (ap (λ (n : ℕ). take n o.out) length-told)

  answers : Answers (answering bs s (request_frame q) out word) bs s
  unfolding answer_for_c
  answers =
      let left = (claims.demand-2).read_changes_nothing q.reading r s (request_frame q) out (request-read q) z in
      record { number = rw e z; kept = rw e (read-leaves o.answer (request_frame q) bs q.reading (request-read q)); store = rw e left.slices }

  module _ (fits : FitsRecord r) (bytes : Bytes s) (k : FitsRequest q) where
    abbrev y : List ℕ
    y = reply_in o

    decoded-own : decoded_of q y ≡ own_as q.reading (parameter_of q.parameter) r s q
    decoded-own = (claims.demand-2).read r s q out fits bytes k z

    decoded-done : number_of (decoded_of q y) ≡ 0
    unfolding subject_of
    decoded-done =
        let p = parameter_of q.parameter in
        let open-to = (request.asked p q (slots_of r.minutes) (asked r q (passed r s (request_frame q) out z).verdict)).open-to in
        ap number_of decoded-own ∙ given q.reading p r s q open-to

    row-own : figure_row (decoded_of q y) y ≡ own_numbers r s q
    row-own =
        ap (λ (d : Result Decoded DecodeError). figure_row d y) decoded-own
        ∙ own_row q.reading (parameter_of q.parameter) r s q y (λ six. (claims.demand-2).six_slices r s q out bytes six z)

    told : (row : List ℕ) (count result size : ℕ) → length (own_numbers r s q) ≤ length row
        → Tells (own_numbers r s q) row result size (decoding q (answering bs s (request_frame q) out word) row count result size)
    told row count result size room =
        ap (λ (x : List ℕ). decode_for_c q x row count result size) reply-told
        ∙ decoded-for-c q y (own_numbers r s q) row count result size decoded-done row-own room

-- `reading`: whatever request the meter answers with 0 is decoded for C to the record's own figures
pub read : (bs s : List ℕ) (r : Record) (q : Request) (out row : List ℕ) (word count result size : ℕ) → Bytes bs → record_of bs ≡ Some r → Bytes s → FitsRequest q
    → let o = answering bs s (request_frame q) out word in let figures = own_numbers r s q in
    o.result ≡ 0 → length figures ≤ length row → Tells figures row result size (decoding q o row count result size)
unfolding answer_for_c
read bs s r q out row word count result size b e bytes k z room =
    let zero : answer_number (answered r s q out) ≡ 0 = rw e at z in
    told bs s r q out word e zero (read_fits bs b r e) bytes k row count result size room

-- ---- and what is asked for is answered

by_address : (own address : ℕ) → (address ≡ own) ⊎ (address ≡ 0) → (eqb address 0 || eqb address own) ≡ true
by_address own address (inl e) = rw (eq-eqb address own e) (or-true (eqb address 0))
  where
    or-true : (a : Bool) → (a || true) ≡ true
    or-true true = refl
    or-true false = refl
by_address own address (inr e) = rw (eq-eqb address 0 e) refl

-- `reading`: a request for figures that a sound meter has is made, answered with 0 and decoded to those figures
pub inquired : (bs s : List ℕ) (r : Record) (q : Request) (room out row : List ℕ) (word count result size : ℕ) → Asks bs s r q
    → 8 ≤ length room → 64 ≤ length out → let figures = own_numbers r s q in length figures ≤ length row
    → let m = making q room in let o = answering bs s (take 8 m.left) out word in
    (m.result ≡ 0) × Answers o bs s × Tells figures row result size (decoding q o row count result size)
unfolding requested request_frame
inquired bs s r q room out row word count result size a asks hears many =
    let slots = slots_of r.minutes in
    let most : askable (subject_of q most_slots) ≡ true = rw (request.subject-wider q slots (slots-at-most r.minutes) a.there) a.there in
    let made : requested q room ≡ outcome (Ok tt) (written room 0 (request_frame q)) = rw (le-ltb (length room) 8 asks, most) refl in
    let frame : take 8 (written room 0 (request_frame q)) ≡ request_frame q = front-again room (request_frame q) 8 (length-framed _) asks in
    let hear = hears-request r q a.fields (by_address r.address q.address a.by) in
    let zero = (claims.demand-2-done).read_done r s q out (record { room = hears; sound = a.sound; hears = hear }) a.there in
    rw (made, frame) (
      refl,
      answers bs s r q out word a.meter zero,
      told bs s r q out word a.meter zero (read_fits bs a.bytes r a.meter) a.store_bytes a.fields.repeated row count result size many,
    )
