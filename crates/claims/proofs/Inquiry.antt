-- Demand 2 as one call: what `inquire` answers with 0 are the record's own figures. And demand 1 of the same call.
use mathlib.Core.Path.{◌≡◌, refl, sym, ap, ◌∙◌}
use mathlib.Core.Bool.{Bool, true, false, cond}
use mathlib.Core.List.{List}
use Prim.Native.Nat.{ℕ, ◌≤◌}
use native.Mathlib.Omega.{arith}
use lib.Dec.{ltb}
use lib.ListN.{length}
use borrow.Author.Tests.{ltb-false, le-ltb}
use Rattle.std.specs.Prelude.{Err, Ok, Result}
use Rattle.test_laws.proofs.Test.{either}
use Rattle.byte_numbers.specs.Number.{Bytes}
use Rattle.parameters.specs.Table.{parameter_of}
use Rattle.parameters.specs.declared.code.Parameter.TheVariants.{SixSlices}
use Rattle.slots.specs.Day.{slots_of}
use Rattle.slots.proofs.DayLaws.{slots-at-most}
use Rattle.request.proofs.RequestLaws.{subject-wider}
use Rattle.request.specs.Request.{request_frame}
use Rattle.request.specs.Subject.{key_of, subject_of, most_slots, askable}
use Rattle.request.specs.declared.request.Request.{Request}
use Rattle.meter_store.specs.Store.{six_of}
use Rattle.meter_record.specs.Widths.{FitsRecord}
use Rattle.meter_record.specs.declared.record.Record.{Record}
use Rattle.meter_command.specs.Verdict.{number_of, is_done}
use Rattle.meter.specs.Reply.{Outcome, is_sound, heard, verdict_on, replied, answer_of}
use Rattle.reader.specs.Reply.{decoded_of}
use Rattle.reader.specs.Rows.{reply_data, six_of as six_in}
use Rattle.reader.specs.declared.reply.Decoded.{Decoded}
use Rattle.reader.specs.declared.reply.DecodeError.{DecodeError}
use Rattle.reader.specs.declared.reply.DecodeError.TheVariants as decoded_error
use Rattle.meter_round_trip.specs.Inquiry as inquiry
use Rattle.meter_round_trip.specs.Inquiry.{is_silent, told_of, asked}
use Rattle.meter_round_trip.specs.declared.InquiryError.TheVariants.{TooShort, Unsound, Silent}
use Rattle.meter_round_trip.proofs.InquiryLaws.{told-number}
use Rattle.claims.specs.Demand1.{in_table}
use Rattle.claims.specs.Figures.{own_as}
use Rattle.claims.specs.Demand2.{answered, reply_in, FitsRequest}
use Rattle.claims.specs.Demand2Done.{Ready}
use Rattle.claims.proofs.Calls.{decode}
use Rattle.claims.proofs.Done.{read_done}
use Rattle.claims.proofs.Replies.{done-only, passed, read, six-in-output, refused}

-- a reply that the reader takes for a refusal is not told with 0
told-refused : (o : Outcome) (q : Request) (result : ℕ) → decoded_of q (reply_in o) ≡ Err (decoded_error.MeterRefused result)
    → inquiry.number_of (told_of o q).answer ≡ 0 → ⊥
unfolding told_of
told-refused o q result e h = go (is_silent o.answer.verdict) refl
  where
    go : (b : Bool) → is_silent o.answer.verdict ≡ b → ⊥
    go true c = omega (arith, simp c at h)
    go false c = omega (arith, simp (c, e) at h)

-- what a meter that is done answered is told as the reader decodes it
told-done : (o : Outcome) (q : Request) → o.answer.verdict ≡ Ok tt → (told_of o q).answer ≡ inquiry.told (decoded_of q (reply_in o))
unfolding told_of
told-done o q e = simp e

-- the tests before the meter's: 1, 28, 27
pub record Sent (r : Record) (s : List ℕ) (q : Request) (out : List ℕ) : Type 0 where
  pub room : 64 ≤ length out
  pub sound : is_sound r s ≡ true
  pub askable-is : askable (subject_of q most_slots) ≡ true
  pub whole : inquiry.inquired r s q out ≡ told_of (answered r s q out) q

sent : (r : Record) (s : List ℕ) (q : Request) (out : List ℕ) → inquiry.number_of (inquiry.inquired r s q out).answer ≡ 0 → Sent r s q out
unfolding inquiry.inquired asked
sent r s q out h = go (ltb (length out) 64) refl (is_sound r s) refl (askable (subject_of q most_slots)) refl
  where
    go : (a : Bool) → ltb (length out) 64 ≡ a → (b : Bool) → is_sound r s ≡ b → (c : Bool) → askable (subject_of q most_slots) ≡ c → Sent r s q out
    go true e b k c l = absurd (omega (arith, simp e at h))
    go false e false k c l = absurd (omega (arith, simp (e, k) at h))
    go false e true k false l = absurd (omega (arith, simp (e, k, l) at h))
    go false e true k true l = record { room = ltb-false (length out) 64 e; sound = k; askable-is = l; whole = simp (e, k, l) }

-- the meter heard it
silent-told : (r : Record) (s : List ℕ) (q : Request) (out : List ℕ) → 64 ≤ length out → is_sound r s ≡ true → heard r (request_frame q) ≡ false
    → inquiry.number_of (told_of (answered r s q out) q).answer ≡ 0 → ⊥
unfolding answer_of told_of
silent-told r s q out room sound hear h = omega (arith, simp (le-ltb (length out) 64 room, sound, hear) at h)

-- and it is done
done-verdict : (r : Record) (s : List ℕ) (q : Request) (out : List ℕ) → 64 ≤ length out → is_sound r s ≡ true → heard r (request_frame q) ≡ true
    → is_done (verdict_on r (request_frame q)) ≡ true → (answered r s q out).answer.verdict ≡ verdict_on r (request_frame q)
unfolding answer_of replied
done-verdict r s q out room sound hear d = simp (le-ltb (length out) 64 room, sound, hear, d)

-- so the meter's own answer is 0
own-done : (r : Record) (s : List ℕ) (q : Request) (out : List ℕ) → FitsRequest q → inquiry.number_of (inquiry.inquired r s q out).answer ≡ 0
    → (answered r s q out).answer.verdict ≡ Ok tt
own-done r s q out k h = go (heard r (request_frame q)) refl (is_done (verdict_on r (request_frame q))) refl
  where
    t : Sent r s q out
    t = sent r s q out h

    told : inquiry.number_of (told_of (answered r s q out) q).answer ≡ 0
    told = ap (λ (o : inquiry.Outcome). inquiry.number_of o.answer) (sym t.whole) ∙ h

    go : (c : Bool) → heard r (request_frame q) ≡ c → (d : Bool) → is_done (verdict_on r (request_frame q)) ≡ d
        → (answered r s q out).answer.verdict ≡ Ok tt
    go false e d g = absurd (silent-told r s q out t.room t.sound e told)
    go true e false g =
        absurd (told-refused (answered r s q out) q _ (refused r s q out k t.askable-is t.room t.sound e g) told)
    go true e true g = done-verdict r s q out t.room t.sound e g ∙ done-only _ g

-- demand 2's `inquired`: what `inquire` answers with 0 are the record's own figures
pub inquired : (r : Record) (s : List ℕ) (q : Request) (out : List ℕ) → FitsRecord r → Bytes s → FitsRequest q
    → let o = inquiry.inquired r s q out in inquiry.number_of o.answer ≡ 0 → o.answer ≡ inquiry.told (own_as q.reading (parameter_of q.parameter) r s q)
inquired r s q out f b k h =
    let v = own-done r s q out k h in
    ap (λ (o : inquiry.Outcome). o.answer) (sent r s q out h).whole
    ∙ told-done (answered r s q out) q v
    ∙ ap inquiry.told (read r s q out f b k (ap number_of v))

-- the output is the meter's, told or not
told-output : (o : Outcome) (q : Request) → (told_of o q).out ≡ o.out
unfolding told_of
told-output o q = either (λ (x : inquiry.Outcome). x.out ≡ o.out) (is_silent o.answer.verdict) refl refl

-- demand 2's `inquired_six`: the six rows found in all of the output are the store's
pub inquired_six : (r : Record) (s : List ℕ) (q : Request) (out : List ℕ) → Bytes s → FitsRequest q → parameter_of q.parameter ≡ SixSlices
    → let o = inquiry.inquired r s q out in inquiry.number_of o.answer ≡ 0 → six_in (reply_data o.out) ≡ six_of s (key_of q)
inquired_six r s q out b k e h =
    ap (λ (o : inquiry.Outcome). six_in (reply_data o.out)) (sent r s q out h).whole
    ∙ ap (λ (x : List ℕ). six_in (reply_data x)) (told-output (answered r s q out) q)
    ∙ six-in-output r s q out b e (ap number_of (own-done r s q out k h))

-- ---- what asks for figures that the meter has is told them

-- demand 2's `inquired_done`: one that asks for figures that the meter has is told them
pub inquired_done : (r : Record) (s : List ℕ) (q : Request) (out : List ℕ) → Ready r s (request_frame q) out → FitsRecord r → Bytes s → FitsRequest q
    → askable (subject_of q (slots_of r.minutes)) ≡ true → (inquiry.inquired r s q out).answer ≡ inquiry.told (own_as q.reading (parameter_of q.parameter) r s q)
unfolding inquiry.inquired asked
inquired_done r s q out y f b k h =
    let z = read_done r s q out y h in
    let m : askable (subject_of q most_slots) ≡ true = ap askable (subject-wider q (slots_of r.minutes) (slots-at-most r.minutes) h) ∙ h in
    let v : (answered r s q out).answer.verdict ≡ Ok tt = ap (λ (o : Outcome). o.answer.verdict) (passed r s (request_frame q) out z).whole in
    let whole : inquiry.inquired r s q out ≡ told_of (answered r s q out) q = simp (le-ltb (length out) 64 y.room, y.sound, m) in
    ap (λ (o : inquiry.Outcome). o.answer) whole ∙ told-done (answered r s q out) q v ∙ ap inquiry.told (read r s q out f b k z)

-- ---- demand 1

-- demand 1's `inquire`: its number is the table's, whichever part of the call gave it
pub inquire : (r : Record) (s : List ℕ) (q : Request) (out : List ℕ) → in_table (inquiry.number_of (inquiry.inquired r s q out).answer) ≡ true
unfolding inquiry.inquired asked told_of in_table
inquire r s q out =
    go (ltb (length out) 64) (is_sound r s) (askable (subject_of q most_slots)) (is_silent (answered r s q out).answer.verdict)
  where
    d : Result Decoded DecodeError
    d = decoded_of q (reply_in (answered r s q out))

    go : (a b c e : Bool) → in_table (inquiry.number_of (cond a (inquiry.outcome (Err TooShort) s out) (cond b (cond c
        (cond e (inquiry.outcome (Err Silent) (answered r s q out).store (answered r s q out).out) (inquiry.outcome (inquiry.told d) (answered r s q out).store (answered r s q out).out))
        (inquiry.outcome (inquiry.told (Err decoded_error.OutOfRange)) s out)) (inquiry.outcome (Err Unsound) s out))).answer) ≡ true
    go true b c e = refl
    go false false c e = refl
    go false true false e = refl
    go false true true true = refl
    go false true true false = ap in_table (told-number d) ∙ decode d
