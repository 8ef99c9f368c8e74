-- Demand 1, what `inquire` leaves: the store as it was, and the output as it was or with the meter's reply at its front.
use mathlib.Core.Path.{◌≡◌, refl, sym, ap, ◌∙◌}
use mathlib.Core.Bool.{Bool, true, false, cond, false≢true}
use mathlib.Core.List.{List, ◌++◌}
use Prim.Native.Nat.{ℕ}
use lib.Dec.{eqb, ltb}
use lib.ListN.{length}
use borrow.Author.Tests.{ltb-false}
use Rattle.std.specs.Prelude.{Err, Ok, Result}
use Rattle.test_laws.proofs.Test.{either}
use Rattle.byte_numbers.specs.Number.{Bytes}
use Rattle.byte_numbers.specs.Place.{written}
use Rattle.frame.specs.Sealing.{framed}
use Rattle.parameters.specs.Table.{parameter_of}
use Rattle.parameters.specs.declared.code.Parameter.{Parameter}
use Rattle.parameters.specs.declared.code.Parameter.TheVariants as parameter
use Rattle.parameters.specs.declared.code.Reading.{Reading}
use Rattle.parameters.specs.declared.code.Reading.TheVariants.{Stored, Displayed}
use Rattle.request.specs.Request.{request_frame}
use Rattle.request.specs.Subject.{subject_of, most_slots, askable}
use Rattle.request.specs.declared.request.Request.{Request}
use Rattle.meter_record.specs.Widths.{FitsRecord}
use Rattle.meter_record.specs.declared.record.Record.{Record}
use Rattle.meter_command.specs.Verdict.{number_of, is_done}
use Rattle.meter_reply_data.specs.Reading.{data_of}
use Rattle.meter.specs.Effect.{clears, clears_by, store_after}
use Rattle.meter.specs.Reply as meter
use Rattle.meter.specs.Reply.{is_sound, heard, verdict_on, head_of, replied, answer_of}
use Rattle.reader.specs.Form.{fault_number}
use Rattle.reader.specs.declared.form.Fault.{Fault}
use Rattle.reader.specs.declared.form.Fault.TheVariants as fault
use Rattle.reader.specs.Reply as reader
use Rattle.reader.specs.Reply.{decoded_of}
use Rattle.reader.specs.declared.reply.Decoded.{Decoded}
use Rattle.reader.specs.declared.reply.DecodeError.{DecodeError}
use Rattle.reader.specs.declared.reply.DecodeError.TheVariants as decoded_error
use Rattle.meter_round_trip.specs.Inquiry as inquiry
use Rattle.meter_round_trip.specs.Inquiry.{is_silent, told_of, asked, inquired}
use Rattle.meter_round_trip.proofs.InquiryLaws.{told-number}
use Rattle.claims.specs.Demand1Inquire.{no_reply, reply_to}
use Rattle.claims.specs.Demand2.{answered, reply_in, FitsRequest}
use Rattle.claims.specs.Figures.{own_power, own_figures, own_as}
use Rattle.claims.proofs.Answer.{Judged, judged}
use Rattle.claims.proofs.Range.{decoded-no-27}
use Rattle.claims.proofs.Reading.{reading-back}
use Rattle.claims.proofs.Replies.{done-only, read, refused}
use Rattle.meter_command.specs.Command.{command_of}
use Rattle.meter_command.specs.declared.verdict.Refusal.{Refusal}
use Rattle.meter_command.specs.declared.verdict.Refusal.TheVariants as verdict

-- ---- the store

-- a read clears nothing
read-clears-nothing : (s : List ℕ) (q : Request) → store_after s (command_of (request_frame q)) ≡ s
unfolding store_after clears clears_by request_frame framed
read-clears-nothing s q = rw (reading-back q.reading) refl

module _ (r : Record) (s : List ℕ) (q : Request) (out : List ℕ) where
  answered-store : (answered r s q out).store ≡ s
  unfolding answer_of replied
  answered-store =
      let kept : meter.Outcome → Type 0 = λ o. o.store ≡ s in
      either kept (ltb (length out) 64) refl
      (either kept (is_sound r s)
      (either kept (heard r (request_frame q)) (either kept (is_done (verdict_on r (request_frame q))) (read-clears-nothing s q) refl) refl)
      refl)

  told-store : (o : meter.Outcome) → o.store ≡ s → (told_of o q).store ≡ s
  unfolding told_of
  told-store o e = either (λ (x : inquiry.Outcome). x.store ≡ s) (is_silent o.answer.verdict) e e

  -- demand 1's `store_kept`: `inquire` leaves the store, whatever it answers
  pub store_kept : (inquired r s q out).store ≡ s
  unfolding inquired asked
  store_kept =
      let kept : inquiry.Outcome → Type 0 = λ o. o.store ≡ s in
      either kept (ltb (length out) 64) refl
      (either kept (is_sound r s)
      (either kept (askable (subject_of q most_slots)) (told-store (answered r s q out) answered-store) refl)
      refl)

-- ---- the output

fault-replied : (f : Fault) → no_reply (fault_number f) ≡ false
unfolding no_reply
fault-replied (fault.Length n) = refl
fault-replied fault.Crc = refl
fault-replied fault.Address = refl
fault-replied fault.Function = refl
fault-replied fault.Parameter = refl

-- what the reader says of a reply is none of the answers without one, but for 27
no-reply-27 : (d : Result Decoded DecodeError) → (reader.number_of d ≡ 27 → ⊥) → no_reply (reader.number_of d) ≡ false
unfolding no_reply
no-reply-27 (Err decoded_error.OutOfRange) n = absurd (n refl)
no-reply-27 (Err (decoded_error.Malformed f)) n = fault-replied f
no-reply-27 (Err (decoded_error.MeterRefused result)) n = refl
no-reply-27 (Err decoded_error.NotFinite) n = refl
no-reply-27 (Ok figures) n = refl

second : (b : Bool) (x y : List ℕ) → b ≡ false → y ≡ cond b x y
second b x y e = sym (ap (λ (c : Bool). cond c x y) e)

module _ (r : Record) (s : List ℕ) (q : Request) (out : List ℕ) (a : askable (subject_of q most_slots) ≡ true) where
  f : List ℕ
  f = request_frame q

  Left : Result Unit Refusal → inquiry.Outcome → Type 0
  Left v o = o.out ≡ cond (no_reply (inquiry.number_of o.answer)) out (written out 0 (framed (cond (is_done v) (head_of v (command_of f) ++ data_of r s (command_of f)) (head_of v (command_of f)))))

  told : (y w : List ℕ) → w ≡ cond (no_reply (inquiry.number_of (inquiry.told (decoded_of q y)))) out w
  told y w =
      second (no_reply (inquiry.number_of (inquiry.told (decoded_of q y)))) out w
      (ap no_reply (told-number (decoded_of q y)) ∙ no-reply-27 (decoded_of q y) (decoded-no-27 q y a))

  -- a request that the meter heard has a verdict that it answers
  told-left : (v : Result Unit Refusal) → Judged v → Left v (told_of (replied v r s f out) q)
  unfolding Left f Judged told_of replied
  told-left (Ok tt) j = told _ _
  told-left (Err verdict.TooShort) j = absurd (false≢true j)
  told-left (Err verdict.Unsound) j = absurd (false≢true j)
  told-left (Err verdict.Silent) j = absurd (false≢true j)
  told-left (Err verdict.UnknownFunction) j = told _ _
  told-left (Err verdict.UnknownParameter) j = told _ _
  told-left (Err verdict.NotOpen) j = told _ _
  told-left (Err verdict.WrongLength) j = told _ _
  told-left (Err verdict.ByAddressZero) j = told _ _
  told-left (Err verdict.NoAccess) j = told _ _
  told-left (Err verdict.WrongArgument) j = told _ _

  heard-left : Left (verdict_on r f) (told_of (replied (verdict_on r f) r s f out) q)
  heard-left = told-left (verdict_on r f) (judged r f)

-- demand 1's `output`: after `inquire` the output is as it was, or has the meter's reply at its front
pub output : (r : Record) (s : List ℕ) (q : Request) (out : List ℕ) → let o = inquired r s q out in
    o.out ≡ cond (no_reply (inquiry.number_of o.answer)) out (written out 0 (reply_to r s (request_frame q)))
unfolding inquired asked told_of answer_of replied no_reply f Left
output r s q out = go (ltb (length out) 64) refl (is_sound r s) refl (askable (subject_of q most_slots)) refl (heard r (request_frame q)) refl
  where
    go : (a : Bool) → ltb (length out) 64 ≡ a → (b : Bool) → is_sound r s ≡ b → (c : Bool) → askable (subject_of q most_slots) ≡ c
        → (d : Bool) → heard r (request_frame q) ≡ d → let o = inquired r s q out in
        o.out ≡ cond (no_reply (inquiry.number_of o.answer)) out (written out 0 (reply_to r s (request_frame q)))
    go true e b k c l d m = simp e
    go false e false k c l d m = simp (e, k)
    go false e true k false l d m = simp (e, k, l)
    go false e true k true l false m = simp (e, k, l, m)
    go false e true k true l true m = simp (e, k, l, m) (heard-left r s q out l)

-- ---- a refused inquiry: 24 comes with the short refusal frame, any other answer with nothing

own-number : (p : Parameter) (r : Record) (s : List ℕ) (q : Request) → (reader.number_of (own_figures p r s q) ≡ 27 → ⊥)
    → reader.number_of (own_figures p r s q) ≡ 0
unfolding own_power
own-number parameter.ActivePower r s q n = either (λ (d : Result Decoded DecodeError). reader.number_of d ≡ 0) (eqb q.detail 0) refl refl
own-number parameter.ReactivePower r s q n = either (λ (d : Result Decoded DecodeError). reader.number_of d ≡ 0) (eqb q.detail 0) refl refl
own-number parameter.Address r s q n = refl
own-number parameter.Telemetry r s q n = refl
own-number parameter.SummerDate r s q n = refl
own-number parameter.WinterDate r s q n = refl
own-number parameter.Clock r s q n = refl
own-number parameter.DisplayMask r s q n = refl
own-number parameter.Slice r s q n = refl
own-number parameter.SixSlices r s q n = refl
own-number parameter.Password r s q n = absurd (n refl)
own-number parameter.Unknown r s q n = absurd (n refl)

own-as-number : (x : Reading) (p : Parameter) (r : Record) (s : List ℕ) (q : Request) → (reader.number_of (own_as x p r s q) ≡ 27 → ⊥)
    → reader.number_of (own_as x p r s q) ≡ 0
own-as-number Stored p r s q n = own-number p r s q n
own-as-number Displayed p r s q n = refl

not-silent : (v : Result Unit Refusal) → Judged v → is_silent v ≡ false
unfolding Judged
not-silent (Err verdict.Silent) j = absurd (false≢true j)
not-silent (Ok tt) j = refl
not-silent (Err verdict.TooShort) j = refl
not-silent (Err verdict.Unsound) j = refl
not-silent (Err verdict.UnknownFunction) j = refl
not-silent (Err verdict.UnknownParameter) j = refl
not-silent (Err verdict.NotOpen) j = refl
not-silent (Err verdict.WrongLength) j = refl
not-silent (Err verdict.ByAddressZero) j = refl
not-silent (Err verdict.NoAccess) j = refl
not-silent (Err verdict.WrongArgument) j = refl

-- what is not silent is told as the reader decodes it
told-loud : (o : meter.Outcome) (q : Request) → is_silent o.answer.verdict ≡ false → inquiry.number_of (told_of o q).answer ≡ reader.number_of (decoded_of q (reply_in o))
unfolding told_of
told-loud o q e = simp e (told-number (decoded_of q (reply_in o)))

-- the meter's verdict on a request that it heard, whole
heard-verdict : (r : Record) (s f out : List ℕ) → ltb (length out) 64 ≡ false → is_sound r s ≡ true → heard r f ≡ true
    → (answer_of r s f out).answer.verdict ≡ verdict_on r f
unfolding answer_of replied
heard-verdict r s f out e k m = go (is_done (verdict_on r f)) refl
  where
    go : (d : Bool) → is_done (verdict_on r f) ≡ d → (answer_of r s f out).answer.verdict ≡ verdict_on r f
    go true g = simp (e, k, m, g)
    go false g = simp (e, k, m, g)

heard-number : (r : Record) (s : List ℕ) (q : Request) (out : List ℕ) → ltb (length out) 64 ≡ false → is_sound r s ≡ true
    → askable (subject_of q most_slots) ≡ true → heard r (request_frame q) ≡ true
    → inquiry.number_of (inquired r s q out).answer ≡ reader.number_of (decoded_of q (reply_in (answered r s q out)))
unfolding inquired asked
heard-number r s q out e k l m =
    let v = heard-verdict r s (request_frame q) out e k m in
    simp (e, k, l) (told-loud (answered r s q out) q (ap is_silent v ∙ not-silent (verdict_on r (request_frame q)) (judged r (request_frame q))))

-- a request that is done has the record's own figures
done-number : (r : Record) (s : List ℕ) (q : Request) (out : List ℕ) → FitsRecord r → Bytes s → FitsRequest q → ltb (length out) 64 ≡ false
    → is_sound r s ≡ true → askable (subject_of q most_slots) ≡ true → heard r (request_frame q) ≡ true → is_done (verdict_on r (request_frame q)) ≡ true
    → reader.number_of (decoded_of q (reply_in (answered r s q out))) ≡ 0
done-number r s q out w b k e n l m g =
    let v = heard-verdict r s (request_frame q) out e n m ∙ done-only _ g in
    let own = ap reader.number_of (read r s q out w b k (ap number_of v)) in
    own ∙ own-as-number q.reading (parameter_of q.parameter) r s q (λ h. decoded-no-27 q (reply_in (answered r s q out)) l (own ∙ h))

-- demand 1's `refused_output`: a refused inquiry leaves the short refusal frame with 24, else nothing
pub refused_output : (r : Record) (s : List ℕ) (q : Request) (out : List ℕ) → FitsRecord r → Bytes s → FitsRequest q
    → let o = inquired r s q out in let f = request_frame q in (inquiry.number_of o.answer ≡ 0 → ⊥)
    → o.out ≡ cond (eqb (inquiry.number_of o.answer) 24) (written out 0 (framed (head_of (verdict_on r f) (command_of f)))) out
unfolding inquired asked told_of answer_of no_reply
refused_output r s q out w b k n =
    go (ltb (length out) 64) refl (is_sound r s) refl (askable (subject_of q most_slots)) refl (heard r (request_frame q)) refl (is_done (verdict_on r (request_frame q))) refl
  where
    go : (a : Bool) → ltb (length out) 64 ≡ a → (c : Bool) → is_sound r s ≡ c → (d : Bool) → askable (subject_of q most_slots) ≡ d
        → (g : Bool) → heard r (request_frame q) ≡ g → (h : Bool) → is_done (verdict_on r (request_frame q)) ≡ h
        → (inquired r s q out).out ≡ cond (eqb (inquiry.number_of (inquired r s q out).answer) 24) (written out 0 (framed (head_of (verdict_on r (request_frame q)) (command_of (request_frame q))))) out
    go true e c i d l g m h p = simp e
    go false e false i d l g m h p = simp (e, i)
    go false e true i false l g m h p = simp (e, i, l)
    go false e true i true l false m h p = simp (e, i, l, m)
    go false e true i true l true m true p = absurd (n (heard-number r s q out e i l m ∙ done-number r s q out w b k e i l m p))
    go false e true i true l true m false p =
        let y = refused r s q out k l (ltb-false (length out) 64 e) i m p in
        let x : inquiry.number_of (inquired r s q out).answer ≡ 24 = heard-number r s q out e i l m ∙ ap reader.number_of y in
        let f = request_frame q in
        let head = head_of (verdict_on r f) (command_of f) in
        output r s q out
        ∙ ap (λ (j : ℕ). cond (no_reply j) out (written out 0 (reply_to r s f))) x
        ∙ ap (λ (j : Bool). written out 0 (framed (cond j (head ++ data_of r s (command_of f)) head))) p
        ∙ sym (ap (λ (j : ℕ). cond (eqb j 24) (written out 0 (framed head)) out) x)
