-- Demand 2, reads: what an answer with 0 has passed, its reply as the reader takes it, and a refusal frame decoded.
use mathlib.Core.Path.{◌≡◌, refl, sym, ap, ap₂, ◌∙◌}
use mathlib.Core.Bool.{Bool, true, false, false≢true}
use mathlib.Core.List.{List, [], ◌∷◌, ◌++◌, append_assoc}
use Prim.Native.Nat.{ℕ, ◌+◌, ◌≤◌, ◌<◌}
use native.Mathlib.Omega.{arith}
use lib.Dec.{eqb, ltb, lit≤}
use lib.ListN.{length, take, drop}
use borrow.Author.Tests.{ltb-false, le-ltb, eq-eqb}
use Rattle.std.specs.Prelude.{Err, Ok, Result}
use Rattle.test_laws.proofs.Test.{both}
use Rattle.byte_numbers.specs.Number.{Bytes, bytes_of}
use Rattle.byte_numbers.specs.Place.{written}
use Rattle.byte_numbers.proofs.PlaceLaws.{written-fits}
use Rattle.parameters.specs.Code.{reading_code}
use Rattle.parameters.specs.declared.code.Reading.{Reading}
use Rattle.parameters.specs.declared.code.Reading.TheVariants.{Stored, Displayed}
use Rattle.parameters.specs.Table.{parameter_row, opens_to, parameter_of}
use Rattle.parameters.proofs.TableLaws.{reply-small}
use Rattle.frame.specs.Sealing.{framed}
use Rattle.frame.proofs.SealingLaws.{length-framed, crc_fits-framed}
use Rattle.crc16.specs.Crc.{crc_of}
use Rattle.parameters.specs.declared.code.Function.{Function}
use Rattle.parameters.specs.declared.code.Function.TheVariants as function
use Rattle.parameters.specs.declared.code.Parameter.{Parameter}
use Rattle.parameters.specs.declared.code.Parameter.TheVariants as parameter
use Rattle.slots.specs.Day.{slots_of}
use Rattle.slots.proofs.DayLaws.{slots-at-most}
use Rattle.request.specs.Request.{request_frame}
use Rattle.request.proofs.RequestLaws as request
use Rattle.request.proofs.RequestLaws.{subject-wider}
use Rattle.request.specs.Subject.{key_of, fields_fit, subject_of, subject_for, most_slots, askable, data_bytes}
use Rattle.request.specs.declared.request.Request.{Request}
use Rattle.meter_store.specs.Store.{six_of, store_bytes}
use Rattle.meter_record.proofs.RangeLaws.{Within, within}
use Rattle.meter_record.specs.Ranges.{is_within}
use Rattle.meter_record.specs.Widths.{FitsRecord}
use Rattle.meter_record.specs.declared.record.Record.{Record}
use Rattle.meter_command.specs.Judgement.{verdict_of, verdict_by, read_verdict}
use Rattle.meter_command.proofs.JudgementLaws.{read-accepted}
use Rattle.meter_command.specs.Command.{function_in, parameter_byte, parameter_in, request_in, command_of}
use Rattle.meter_command.specs.Verdict.{result_of, is_done}
use Rattle.meter_command.specs.declared.verdict.Refusal.{Refusal}
use Rattle.meter_command.specs.declared.verdict.Refusal.TheVariants.{TooShort, Unsound, Silent, UnknownFunction, UnknownParameter}
use Rattle.meter_command.specs.declared.verdict.Refusal.TheVariants.{NotOpen, WrongLength, ByAddressZero, NoAccess, WrongArgument}
use Rattle.meter_reply_data.specs.Reading.{figures_as, six_bytes, data_of}
use Rattle.meter.specs.Reply as meter
use Rattle.meter.specs.Reply.{is_sound, met, heard, verdict_on, function_for, head_of, done, replied, answer_of}
use Rattle.meter.proofs.ReplyLaws.{length-as, length-head}
use Rattle.reader.specs.Form as form
use Rattle.reader.specs.Form.{length_for, form_of, reply_of}
use Rattle.reader.proofs.FormLaws.{formed-answers}
use Rattle.reader.specs.Rows.{reply_data, six_of as six_in}
use Rattle.reader.specs.Reply.{decoded_of}
use Rattle.reader.specs.declared.reply.DecodeError.TheVariants as decoded_error
use Rattle.claims.specs.Demand1.{answer_number}
use Rattle.claims.specs.Figures.{own_as}
use Rattle.claims.specs.Demand2.{answered, reply_in, FitsRequest}
use Rattle.claims.proofs.Figures.{same_size, found-again}
use Rattle.claims.proofs.Reading.{reading-back, code-byte, refused-byte, code_below, refused-top}
use Rattle.claims.proofs.Six.{six-again}
use Rattle.claims.proofs.Wire.{OfBytes, nil, bytes-cons, slice_fits, as_bytes, reply_body, reply-formed, front-again}

-- ---- what an answer with 0 has passed

-- the verdict that is done is one alone
pub done-only : (v : Result Unit Refusal) → is_done v ≡ true → v ≡ Ok tt
done-only (Ok tt) h = refl
done-only (Err TooShort) h = absurd (false≢true h)
done-only (Err Unsound) h = absurd (false≢true h)
done-only (Err Silent) h = absurd (false≢true h)
done-only (Err UnknownFunction) h = absurd (false≢true h)
done-only (Err UnknownParameter) h = absurd (false≢true h)
done-only (Err NotOpen) h = absurd (false≢true h)
done-only (Err WrongLength) h = absurd (false≢true h)
done-only (Err ByAddressZero) h = absurd (false≢true h)
done-only (Err NoAccess) h = absurd (false≢true h)
done-only (Err WrongArgument) h = absurd (false≢true h)

-- what an answer with 0 has passed: room, a sound meter and the verdict; and the answer whole
pub record Passed (r : Record) (s f out : List ℕ) : Type 0 where
  pub room : 64 ≤ length out
  pub sound : is_sound r s ≡ true
  pub verdict : verdict_on r f ≡ Ok tt
  pub whole : answer_of r s f out ≡ done (Ok tt) r s f out

-- an answer with 0 has passed these
pub passed : (r : Record) (s f out : List ℕ) → answer_number (answer_of r s f out) ≡ 0 → Passed r s f out
unfolding answer_of replied
passed r s f out h = go (ltb (length out) 64) refl (is_sound r s) refl (heard r f) refl (verdict_on r f) refl
  where
    go : (a : Bool) → ltb (length out) 64 ≡ a → (b : Bool) → is_sound r s ≡ b → (c : Bool) → heard r f ≡ c → (v : Result Unit Refusal) → verdict_on r f ≡ v
        → Passed r s f out
    go true e b k c l v m = absurd (omega (arith, simp e at h))
    go false e false k c l v m = absurd (omega (arith, simp (e, k) at h))
    go false e true k false l v m = absurd (omega (arith, simp (e, k, l) at h))
    go false e true k true l (Ok tt) m = record { room = ltb-false (length out) 64 e; sound = k; verdict = m; whole = simp (e, k, l, m) }
    go false e true k true l (Err TooShort) m = absurd (omega (arith, simp (e, k, l, m) at h))
    go false e true k true l (Err Unsound) m = absurd (omega (arith, simp (e, k, l, m) at h))
    go false e true k true l (Err Silent) m = absurd (omega (arith, simp (e, k, l, m) at h))
    go false e true k true l (Err UnknownFunction) m = absurd (omega (arith, simp (e, k, l, m) at h))
    go false e true k true l (Err UnknownParameter) m = absurd (omega (arith, simp (e, k, l, m) at h))
    go false e true k true l (Err NotOpen) m = absurd (omega (arith, simp (e, k, l, m) at h))
    go false e true k true l (Err WrongLength) m = absurd (omega (arith, simp (e, k, l, m) at h))
    go false e true k true l (Err ByAddressZero) m = absurd (omega (arith, simp (e, k, l, m) at h))
    go false e true k true l (Err NoAccess) m = absurd (omega (arith, simp (e, k, l, m) at h))
    go false e true k true l (Err WrongArgument) m = absurd (omega (arith, simp (e, k, l, m) at h))

-- ---- the request's frame, as the meter takes it apart

-- the meter takes a request's frame for a read with the request's function
pub request-read : (q : Request) → function_in (request_frame q) ≡ function.Read q.reading
unfolding request_frame framed
request-read q = reading-back q.reading

-- it finds the request's parameter in the frame
pub request-parameter : (q : Request) → parameter_byte (request_frame q) ≡ q.parameter
unfolding request_frame framed parameter_byte bytes_of
request-parameter q = rw (reading-back q.reading) refl

-- and all of the request's fields
pub request-again : (q : Request) → request_in (request_frame q) ≡ q
unfolding request_frame framed
request-again q = rw (reading-back q.reading) refl

-- what is open, with fields that fit, is asked for
asks-for : (p : Parameter) (q : Request) (slots : ℕ) → opens_to q.reading (parameter_row p) ≡ true → fields_fit (parameter_row p).fields q slots ≡ true
    → askable (subject_for p q slots) ≡ true
unfolding subject_for
asks-for p q slots o g = rw (o, g) refl

-- a request that is answered with 0 asks for something
pub asked : (r : Record) (q : Request) → verdict_on r (request_frame q) ≡ Ok tt → askable (subject_of q (slots_of r.minutes)) ≡ true
unfolding verdict_of verdict_by subject_of
asked r q h =
    let slots = slots_of r.minutes in
    let f = request_frame q in
    let v : read_verdict r (command_of f) ≡ Ok tt = sym (ap (λ (fn : Function). verdict_by fn (met r f) r (command_of f) f) (request-read q)) ∙ h in
    let a = read-accepted r (command_of f) (ap is_done v) in
    ap₂ (λ (n : ℕ) (x : Request). askable (subject_for (parameter_of n) x slots)) (sym (request-parameter q)) (sym (request-again q))
    ∙ asks-for (parameter_in f) (request_in f) slots a.opens a.fits

-- the reply's bytes before its CRC
body : (r : Record) (s : List ℕ) (q : Request)
    → head_of (Ok tt) (command_of (request_frame q)) ++ data_of r s (command_of (request_frame q)) ≡ reply_body q (figures_as q.reading (parameter_of q.parameter) r s q)
unfolding head_of function_for data_of request_frame framed parameter_byte bytes_of
body r s q = rw (reading-back q.reading) refl

length-of-data : (r : Record) (s : List ℕ) (q : Request)
    → length (data_of r s (command_of (request_frame q))) ≡ length (figures_as q.reading (parameter_of q.parameter) r s q)
unfolding data_of request_frame framed parameter_byte bytes_of
length-of-data r s q = rw (reading-back q.reading) refl

figures-small : (p : Parameter) (r : Record) (s : List ℕ) (q : Request) → length (figures_as q.reading p r s q) ≤ 48
figures-small p r s q = rw (length-as q.reading p r s q) (reply-small q.reading p q.detail)

-- the reply, taken from the lent output
pub reply-is : (r : Record) (s : List ℕ) (q : Request) (out : List ℕ) → Passed r s (request_frame q) out
    → reply_in (answered r s q out) ≡ framed (reply_body q (figures_as q.reading (parameter_of q.parameter) r s q))
reply-is r s q out p =
    let f = request_frame q in
    let figures = figures_as q.reading (parameter_of q.parameter) r s q in
    let d : length (data_of r s (command_of f)) ≡ length figures = length-of-data r s q in
    let small : length figures ≤ 48 = figures-small (parameter_of q.parameter) r s q in
    let l : length (framed (reply_body q figures)) ≡ 6 + length (data_of r s (command_of f)) = length-framed (reply_body q figures) ∙ omega (arith, d) in
    ap reply_in p.whole
    ∙ ap (λ (b : List ℕ). take (6 + length (data_of r s (command_of f))) (written out 0 (framed b))) (body r s q)
    ∙ front-again out (framed (reply_body q figures)) (6 + length (data_of r s (command_of f))) l (omega (arith, p.room, d, small))

-- the reader's answer to it
decoded-is : (r : Record) (s : List ℕ) (q : Request) → Within r → FitsRecord r → Bytes s → FitsRequest q
    → askable (subject_of q (slots_of r.minutes)) ≡ true
    → decoded_of q (framed (reply_body q (figures_as q.reading (parameter_of q.parameter) r s q)))
    ≡ own_as q.reading (parameter_of q.parameter) r s q
unfolding decoded_of framed subject_of
decoded-is r s q w f b k h =
    let p = parameter_of q.parameter in
    let slots = slots_of r.minutes in
    let figures = figures_as q.reading p r s q in
    let y = framed (reply_body q figures) in
    let size : length figures ≡ data_bytes (subject_for p q slots) = length-as q.reading p r s q ∙ sym (same_size p q slots h) in
    let bytes : OfBytes (reply_body q figures) =
    bytes-cons q.address k.address (bytes-cons (reading_code q.reading) (code-byte q.reading)
    (bytes-cons q.parameter k.parameter (bytes-cons 0 (lit≤ tt) (as_bytes q.reading p r s q w f)))) in
    let formed = reply-formed q figures (data_bytes (subject_for p q slots)) bytes size in
    let answers = formed-answers q.address (reading_code q.reading) q.parameter (6 + data_bytes (subject_for p q slots)) y formed refl in
    rw (subject-wider q slots (slots-at-most r.minutes) h, h, answers)
    (found-again p r s q slots (bytes_of 2 (crc_of (reply_body q figures))) w f (slice_fits s (key_of q) b) h)

-- demand 2's `read`: what the meter answers with 0 the reader decodes to the record's own figures
pub read : (r : Record) (s : List ℕ) (q : Request) (out : List ℕ) → FitsRecord r → Bytes s → FitsRequest q
    → answer_number (answered r s q out) ≡ 0 → decoded_of q (reply_in (answered r s q out)) ≡ own_as q.reading (parameter_of q.parameter) r s q
unfolding is_sound
read r s q out f b k h =
    let p = passed r s (request_frame q) out h in
    let w = within r (both (eqb (length s) store_bytes) (is_within r) p.sound).1 in
    ap (decoded_of q) (reply-is r s q out p) ∙ decoded-is r s q w f b k (asked r q p.verdict)

-- six slices are asked for with function 3 alone
six-as : (x : Reading) (r : Record) (s : List ℕ) (q : Request) → opens_to x (parameter_row parameter.SixSlices) ≡ true
    → figures_as x parameter.SixSlices r s q ≡ six_bytes (six_of s (key_of q))
six-as Stored r s q h = refl
six-as Displayed r s q h = absurd (false≢true h)

six-stored : (r : Record) (s : List ℕ) (q : Request) → parameter_of q.parameter ≡ parameter.SixSlices
    → askable (subject_of q (slots_of r.minutes)) ≡ true
    → figures_as q.reading (parameter_of q.parameter) r s q ≡ six_bytes (six_of s (key_of q))
unfolding subject_of
six-stored r s q e h =
    let opened = (request.asked (parameter_of q.parameter) q (slots_of r.minutes) h).open-to in
    ap (λ (x : Parameter). figures_as q.reading x r s q) e
    ∙ six-as q.reading r s q (ap (λ (x : Parameter). opens_to q.reading (parameter_row x)) (sym e) ∙ opened)

-- demand 2's `six_slices`: the six rows that the reader takes from the reply are the store's
pub six_slices : (r : Record) (s : List ℕ) (q : Request) (out : List ℕ) → Bytes s
    → parameter_of q.parameter ≡ parameter.SixSlices → answer_number (answered r s q out) ≡ 0
    → six_in (reply_data (reply_in (answered r s q out))) ≡ six_of s (key_of q)
unfolding framed
six_slices r s q out b e h =
    let p = passed r s (request_frame q) out h in
    let figures = six-stored r s q e (asked r q p.verdict) in
    ap (λ (y : List ℕ). six_in (reply_data y)) (reply-is r s q out p ∙ ap (λ (x : List ℕ). framed (reply_body q x)) figures)
    ∙ six-again s (key_of q) (bytes_of 2 (crc_of (reply_body q (six_bytes (six_of s (key_of q)))))) b

-- the same from all of the output, with what stands behind the reply
pub six-in-output : (r : Record) (s : List ℕ) (q : Request) (out : List ℕ) → Bytes s
    → parameter_of q.parameter ≡ parameter.SixSlices → answer_number (answered r s q out) ≡ 0
    → six_in (reply_data (answered r s q out).out) ≡ six_of s (key_of q)
unfolding framed
six-in-output r s q out b e h =
    let p = passed r s (request_frame q) out h in
    let rows = six_bytes (six_of s (key_of q)) in
    let figures = six-stored r s q e (asked r q p.verdict) in
    let crc = bytes_of 2 (crc_of (reply_body q rows)) in
    let frame = framed (reply_body q rows) in
    let small : length rows ≤ 48 = rw (sym figures) (figures-small (parameter_of q.parameter) r s q) in
    let l : length frame ≡ 6 + length rows = length-framed (reply_body q rows) ∙ omega arith in
    let fits : 0 + length frame ≤ length out = omega (arith, l, small, p.room) in
    ap (λ (o : meter.Outcome). six_in (reply_data o.out)) p.whole
    ∙ ap (λ (x : List ℕ). six_in (reply_data (written out 0 (framed x)))) (body r s q ∙ ap (reply_body q) figures)
    ∙ ap (λ (x : List ℕ). six_in (reply_data x)) (written-fits out 0 frame fits)
    ∙ ap six_in (append_assoc rows crc (drop (0 + length frame) out))
    ∙ six-again s (key_of q) (crc ++ drop (0 + length frame) out) b

-- ---- "A refusal frame decodes to 24 with its result"

-- the refusal frame's bytes before its CRC
abbrev refusal_body : Request → ℕ → List ℕ
refusal_body q k = q.address ∷ (128 + reading_code q.reading) ∷ q.parameter ∷ k ∷ []

refusal-decoded : (q : Request) (k : ℕ) → k < 256 → eqb k 0 ≡ false → FitsRequest q → askable (subject_of q most_slots) ≡ true
    → decoded_of q (framed (refusal_body q k)) ≡ Err (decoded_error.MeterRefused k)
unfolding decoded_of reply_of form_of length_for form.function_for form.head_of framed bytes_of
refusal-decoded q k small n f h =
    let code = 128 + reading_code q.reading in
    let bytes : OfBytes (refusal_body q k) =
    bytes-cons q.address f.address (bytes-cons code (refused-byte q.reading) (bytes-cons q.parameter f.parameter (bytes-cons k small nil))) in
    simp (
      h,
      n,
      refused-top q.reading,
      crc_fits-framed (refusal_body q k) bytes.each,
      eq-eqb q.address q.address refl,
      eq-eqb code code refl,
      eq-eqb q.parameter q.parameter refl,
    )

-- the refusal frame that a request gets
refusal-head : (q : Request) (v : Result Unit Refusal) → is_done v ≡ false → head_of v (command_of (request_frame q)) ≡ refusal_body q (result_of v)
unfolding head_of function_for request_frame framed parameter_byte bytes_of
refusal-head q v e = simp (e, reading-back q.reading, code_below q.reading)

-- its result is one that the reader can tell
record Told (k : ℕ) : Type 0 where
  byte : k < 256
  some : eqb k 0 ≡ false

result-told : (v : Result Unit Refusal) → is_done v ≡ false → Told (result_of v)
result-told (Ok tt) e = absurd (false≢true (sym e))
result-told (Err TooShort) e = record { byte = lit≤ tt; some = refl }
result-told (Err Unsound) e = record { byte = lit≤ tt; some = refl }
result-told (Err Silent) e = record { byte = lit≤ tt; some = refl }
result-told (Err UnknownFunction) e = record { byte = lit≤ tt; some = refl }
result-told (Err UnknownParameter) e = record { byte = lit≤ tt; some = refl }
result-told (Err NotOpen) e = record { byte = lit≤ tt; some = refl }
result-told (Err WrongLength) e = record { byte = lit≤ tt; some = refl }
result-told (Err ByAddressZero) e = record { byte = lit≤ tt; some = refl }
result-told (Err NoAccess) e = record { byte = lit≤ tt; some = refl }
result-told (Err WrongArgument) e = record { byte = lit≤ tt; some = refl }

-- and decoded
refusal-of : (q : Request) (v : Result Unit Refusal) → FitsRequest q → askable (subject_of q most_slots) ≡ true → is_done v ≡ false
    → decoded_of q (framed (head_of v (command_of (request_frame q)))) ≡ Err (decoded_error.MeterRefused (result_of v))
refusal-of q v f h e =
    let t = result-told v e in
    ap (λ (body : List ℕ). decoded_of q (framed body)) (refusal-head q v e) ∙ refusal-decoded q (result_of v) t.byte t.some f h

-- a refused command's answer, whole
refused-whole : (r : Record) (s f out : List ℕ) → 64 ≤ length out → is_sound r s ≡ true → heard r f ≡ true → is_done (verdict_on r f) ≡ false
    → answer_of r s f out ≡ meter.refused (verdict_on r f) r s f out
unfolding answer_of replied
refused-whole r s f out room sound hear d = simp (le-ltb (length out) 64 room, sound, hear, d)

-- demand 2's `refused`: the refusal frame that a request gets decodes to 24 with its result
pub refused : (r : Record) (s : List ℕ) (q : Request) (out : List ℕ) → FitsRequest q → askable (subject_of q most_slots) ≡ true
    → 64 ≤ length out → is_sound r s ≡ true → heard r (request_frame q) ≡ true → is_done (verdict_on r (request_frame q)) ≡ false
    → decoded_of q (reply_in (answered r s q out)) ≡ Err (decoded_error.MeterRefused (result_of (verdict_on r (request_frame q))))
refused r s q out f h room sound hear d =
    let v = verdict_on r (request_frame q) in
    let frame = framed (head_of v (command_of (request_frame q))) in
    let l : length frame ≡ 6 = length-framed (head_of v (command_of (request_frame q))) ∙ ap (λ (n : ℕ). n + 2) (length-head v (command_of (request_frame q))) in
    ap (decoded_of q)
    (ap reply_in (refused-whole r s (request_frame q) out room sound hear d) ∙ front-again out frame 6 l (omega (arith, room)))
    ∙ refusal-of q v f h d
