-- The steps of an inquiry, from the meter's answer to the reader's.
use Rattle.std.specs.Prelude.{Result, Ok, Err}
use Rattle.std.specs.Result.{IsErrAnd}
use Rattle.reader.specs.declared.reply.DecodeError.{DecodeError}
use Rattle.request.specs.declared.request.RequestError.{RequestError}
use mathlib.Core.Path.{◌≡◌, refl, sym, ap, ◌∙◌}
use mathlib.Core.Bool.{Bool, true, false, cond}
use mathlib.Core.List.{List, ◌++◌, append-nil}
use Prim.Native.Nat.{ℕ, ◌+◌, ◌≤◌}
use native.Mathlib.Omega.{arith}
use lib.Dec.{ltb}
use lib.ListN.{length, take, drop_of_length-le}
use Rattle.refusal.specs.Outcome as pair
use Rattle.byte_numbers.specs.Number.{bytes_of}
use Rattle.byte_numbers.specs.Place.{written}
use Rattle.byte_numbers.proofs.PlaceLaws.{length-written, written-fits}
use Rattle.frame.specs.Sealing.{framed}
use Rattle.request.specs.Request.{request_frame, requested}
use Rattle.request.specs.Subject.{subject_of, most_slots, askable}
use Rattle.request.specs.declared.request.Request.{Request}
use Rattle.meter_record.specs.declared.record.Record.{Record}
use Rattle.meter_command.specs.Verdict.{is_done}
use Rattle.meter.specs.Reply.{is_sound, heard, verdict_on, replied, answer_of}
use Rattle.meter.proofs.ReplyLaws.{answer-short}
use Rattle.meter.specs.declared.reply.Answered.{Answered}
use Rattle.reader.specs.Reply as reader
use Rattle.reader.specs.Reply.{decoded_of}
use Rattle.reader.specs.declared.reply.Decoded.{Decoded}
use Rattle.meter.specs.Reply as meter
use Rattle.meter_round_trip.specs.Inquiry.{number_of, is_silent, outcome, told, told_of, asked}
use Rattle.meter_round_trip.specs.declared.InquiryError.{InquiryError}
use Rattle.meter_round_trip.specs.declared.InquiryError.TheVariants.{Silent, Undecoded}

request-bytes : (q : Request) → length (request_frame q) ≡ 8
unfolding request_frame framed bytes_of
request-bytes q = refl

-- bytes written over as many
written_over : (s bs : List ℕ) → length s ≡ length bs → written s 0 bs ≡ bs
written_over s bs e =
    let h : 0 + length bs ≤ length s = omega (arith, e) in
    written-fits s 0 bs h
    ∙ ap (λ (x : List ℕ). bs ++ x) (drop_of_length-le s {i = 0 + length bs} (omega (arith, e)))
    ∙ append-nil bs

-- eight bytes that a request was put into are its frame
pub frame-whole : (q : Request) (a : Result Unit RequestError) (x s : List ℕ) → length s ≡ 8 → askable (subject_of q most_slots) ≡ true
    → pair.outcome a x ≡ requested q s → x ≡ request_frame q
unfolding requested
frame-whole q a x s l h e =
    ap (λ (o : pair.Outcome (Result Unit RequestError) (List ℕ)). o.left) e ∙ simp (l, h) (written_over s (request_frame q) (l ∙ sym (request-bytes q)))

-- ---- the reply lies within the output

answer-room : (r : Record) (s f out : List ℕ) → length (answer_of r s f out).out ≡ length out
unfolding answer_of replied
answer-room r s f out = go (ltb (length out) 64) refl (is_sound r s) refl (heard r f) refl (is_done (verdict_on r f)) refl
  where
    go : (a : Bool) → ltb (length out) 64 ≡ a → (b : Bool) → is_sound r s ≡ b → (c : Bool) → heard r f ≡ c → (d : Bool) → is_done (verdict_on r f) ≡ d
        → length (answer_of r s f out).out ≡ length out
    go true e b k c l d m = simp e
    go false e false k c l d m = simp (e, k)
    go false e true k false l d m = simp (e, k, l)
    go false e true k true l false m = simp (e, k, l, m, length-written)
    go false e true k true l true m = simp (e, k, l, m, length-written)

-- for `ask`: a reply is no longer than the output that it was written into, so it can be lent on
pub reply-lies : (r : Record) (s f out : List ℕ) (a : Answered) (S O : List ℕ) → 64 ≤ length out
    → meter.outcome a S O ≡ answer_of r s f out → a.length ≤ length O
reply-lies r s f out a S O h e =
    let l : a.length ≡ (answer_of r s f out).answer.length = ap (λ (o : meter.Outcome). o.answer.length) e in
    let m : length O ≡ length out = ap (λ (o : meter.Outcome). length o.out) e ∙ answer-room r s f out in
    omega (arith, l, m, answer-short r s f out)

-- ---- what the meter answered, as it is told

-- what is told has the number that the reader gives it
pub told-number : (d : Result Decoded DecodeError) → number_of (told d) ≡ reader.number_of d
told-number (Ok d) = refl
told-number (Err e) = refl

-- for `ask`: the refusal that `?` makes of the reader's
pub told-err : (x : Result Decoded InquiryError) (e : DecodeError) → IsErrAnd x (λ y. y ≡ Undecoded e) → x ≡ told (Err e)
told-err (Ok d) e h = absurd h
told-err (Err y) e h = ap Err h

-- for `ask`: where the meter kept silent nothing is decoded, and silence is told
pub asked-silent : (r : Record) (s f : List ℕ) (q : Request) (out : List ℕ) (a : Answered) (S O : List ℕ) → f ≡ request_frame q
    → meter.outcome a S O ≡ answer_of r s f out → is_silent a.verdict ≡ true → outcome (Err Silent) S O ≡ asked r s q out
unfolding asked told_of
asked-silent r s f q out a S O p e h =
    let whole : told_of (meter.outcome a S O) q ≡ asked r s q out =
    ap (λ (o : meter.Outcome). told_of o q) (e ∙ ap (λ (x : List ℕ). answer_of r s x out) p) in
    sym (ap (λ (b : Bool). cond b (outcome (Err Silent) S O) (outcome (told (decoded_of q (take a.length O))) S O)) h) ∙ whole

-- for `ask`: where it answered, what its reply decodes to is told
pub asked-told : (r : Record) (s f : List ℕ) (q : Request) (out : List ℕ) (a : Answered) (S O : List ℕ) (d : Result Decoded DecodeError) → f ≡ request_frame q
    → meter.outcome a S O ≡ answer_of r s f out → is_silent a.verdict ≡ false → d ≡ decoded_of q (take a.length O)
    → outcome (told d) S O ≡ asked r s q out
unfolding asked told_of
asked-told r s f q out a S O d p e h k =
    let whole : told_of (meter.outcome a S O) q ≡ asked r s q out =
    ap (λ (o : meter.Outcome). told_of o q) (e ∙ ap (λ (x : List ℕ). answer_of r s x out) p) in
    ap (λ (x : Result Decoded DecodeError). outcome (told x) S O) k
    ∙ sym (ap (λ (b : Bool). cond b (outcome (Err Silent) S O) (outcome (told (decoded_of q (take a.length O))) S O)) h) ∙ whole
