-- The wire's requests and refusals: what a request writes is its frame; and an answer from 10 to 16 is that of a command that was heard and refused, so that
-- its reply is the head alone, with the function's top bit and the number's result.
use mathlib.Core.Path.{◌≡◌, refl, sym, ap, ap₂, ◌∙◌}
use mathlib.Core.Bool.{Bool, true, false, cond, ◌||◌, false≢true}
use mathlib.Core.List.{List, [], ◌∷◌}
use Prim.Native.Nat.{ℕ, ◌≤◌, ◌<◌}
use native.Mathlib.Omega.{arith}
use lib.Dec.{eqb, leb, ltb, lit≤}
use lib.ListN.{length, take}
use borrow.Author.Tests.{ltb-false, ltb-true, lt-leb, le-leb}
use Rattle.std.specs.Prelude.{Err, Ok, Result}
use Rattle.byte_numbers.specs.Place.{byte_at, written}
use Rattle.parameters.specs.Code.{function_of, reading_code}
use Rattle.frame.specs.Sealing.{framed}
use Rattle.frame.proofs.SealingLaws.{length-framed}
use Rattle.parameters.specs.declared.code.Function.TheVariants as function
use Rattle.parameters.specs.declared.code.Reading.TheVariants.{Stored, Displayed}
use Rattle.request.specs.Request.{request_frame, requested, number_of as request_number}
use Rattle.request.specs.Subject.{subject_of, most_slots, askable}
use Rattle.request.specs.declared.request.Request.{Request}
use Rattle.meter_record.specs.declared.record.Record.{Record}
use Rattle.meter_command.specs.Command.{named, parameter_byte, command_of}
use Rattle.meter_command.specs.Verdict.{number_of, result_of, is_done}
use Rattle.meter_command.specs.declared.verdict.Refusal.{Refusal}
use Rattle.meter_command.specs.declared.verdict.Refusal.TheVariants.{TooShort, Unsound, Silent, UnknownFunction, UnknownParameter}
use Rattle.meter_command.specs.declared.verdict.Refusal.TheVariants.{NotOpen, WrongLength, ByAddressZero, NoAccess, WrongArgument}
use Rattle.meter.specs.Reply.{is_sound, heard, verdict_on, function_for, head_of, replied, answer_of}
use Rattle.claims.specs.Demand1.{answer_number}
use Rattle.claims.specs.Demand2.{reply_in}
use Rattle.claims.specs.Wire.{top_bit, Refused, Refusals}
use Rattle.claims.proofs.Wire.{front-again}

-- ---- a request

abbrev body_of : Request → ℕ → List ℕ
body_of q code = q.address ∷ code ∷ q.parameter ∷ q.offset ∷ q.tariff ∷ q.detail ∷ []

request-written : (q : Request) (room : List ℕ) (code : ℕ) → reading_code q.reading ≡ code → request_number (requested q room).result ≡ 0
    → take 8 (requested q room).left ≡ framed (body_of q code)
unfolding requested request_frame
request-written q room code e h = go (ltb (length room) 8) refl (askable (subject_of q most_slots)) refl
  where
    go : (a : Bool) → ltb (length room) 8 ≡ a → (b : Bool) → askable (subject_of q most_slots) ≡ b → take 8 (requested q room).left ≡ framed (body_of q code)
    go true l b k = absurd (omega (arith, simp l at h))
    go false l false k = absurd (omega (arith, simp (l, k) at h))
    go false l true k =
        simp (l, k) (front-again room (framed (body_of q (reading_code q.reading))) 8 (length-framed (body_of q (reading_code q.reading))) (ltb-false (length room) 8 l))
        ∙ ap (λ (c : ℕ). framed (body_of q c)) e

-- the wire's `request`: the eight bytes of a request with function 3, from its fields
pub request : (q : Request) (room : List ℕ) → q.reading ≡ Stored → request_number (requested q room).result ≡ 0
    → take 8 (requested q room).left ≡ framed (body_of q 3)
request q room e h = request-written q room 3 (ap reading_code e) h

-- the wire's `request_displayed`: and with function 4
pub request_displayed : (q : Request) (room : List ℕ) → q.reading ≡ Displayed → request_number (requested q room).result ≡ 0
    → take 8 (requested q room).left ≡ framed (body_of q 4)
request_displayed q room e h = request-written q room 4 (ap reading_code e) h

-- ---- an answer from 10 to 16

-- the result that a number has
result_for : ℕ → ℕ
result_for n = cond (eqb n 10) 1 (cond (eqb n 11) 2 (cond (eqb n 14) 4 (cond (eqb n 16) 4 3)))

record Told (v : Result Unit Refusal) (n : ℕ) : Type 0 where
  refusal : is_done v ≡ false
  result : result_of v ≡ result_for n

told : (v : Result Unit Refusal) (n : ℕ) → number_of v ≡ n → 10 ≤ n → Told v n
unfolding result_for
told (Ok tt) n e l = absurd (omega (arith, e, l))
told (Err TooShort) n e l = absurd (omega (arith, e, l))
told (Err Unsound) n e l = record { refusal = refl; result = ap result_for e }
told (Err Silent) n e l = absurd (omega (arith, e, l))
told (Err UnknownFunction) n e l = record { refusal = refl; result = ap result_for e }
told (Err UnknownParameter) n e l = record { refusal = refl; result = ap result_for e }
told (Err NotOpen) n e l = record { refusal = refl; result = ap result_for e }
told (Err WrongLength) n e l = record { refusal = refl; result = ap result_for e }
told (Err ByAddressZero) n e l = record { refusal = refl; result = ap result_for e }
told (Err NoAccess) n e l = record { refusal = refl; result = ap result_for e }
told (Err WrongArgument) n e l = record { refusal = refl; result = ap result_for e }

top_set : (v : Result Unit Refusal) (n : ℕ) → is_done v ≡ false → function_for v n ≡ top_bit n
unfolding function_for
top_set v n e = go (ltb n 128) refl
  where
    go : (b : Bool) → ltb n 128 ≡ b → function_for v n ≡ top_bit n
    go true l = simp (e, l, lt-leb 128 n (ltb-true n 128 l))
    go false l = simp (e, l, le-leb 128 n (ltb-false n 128 l))

-- a refusal's bytes before its CRC
abbrev refusal_of : List ℕ → ℕ → ℕ → List ℕ
refusal_of f p n = byte_at f 0 ∷ top_bit (byte_at f 1) ∷ p ∷ result_for n ∷ []

head-is : (v : Result Unit Refusal) (f : List ℕ) (n : ℕ) → Told v n → head_of v (command_of f) ≡ refusal_of f (parameter_byte f) n
unfolding head_of
head-is v f n t = ap₂ (λ (x y : ℕ). byte_at f 0 ∷ x ∷ parameter_byte f ∷ y ∷ []) (top_set v (byte_at f 1) t.refusal) t.result

refusal_is : (r : Record) (s f out : List ℕ) (n : ℕ) → answer_number (answer_of r s f out) ≡ n → 10 ≤ n → n ≤ 16
    → reply_in (answer_of r s f out) ≡ framed (refusal_of f (parameter_byte f) n)
unfolding answer_of replied
refusal_is r s f out n h least most = go (ltb (length out) 64) refl (is_sound r s) refl (heard r f) refl
  where
    go : (a : Bool) → ltb (length out) 64 ≡ a → (b : Bool) → is_sound r s ≡ b → (c : Bool) → heard r f ≡ c
        → reply_in (answer_of r s f out) ≡ framed (refusal_of f (parameter_byte f) n)
    go true e b k c l = absurd (omega (arith, least, simp e at h))
    go false e false k c l = absurd (omega (arith, most, simp (e, k) at h))
    go false e true k false l = absurd (omega (arith, least, simp (e, k, l) at h))
    go false e true k true l = heard-one (is_done (verdict_on r f)) refl
      where
        heard-one : (d : Bool) → is_done (verdict_on r f) ≡ d → reply_in (answer_of r s f out) ≡ framed (refusal_of f (parameter_byte f) n)
        heard-one true m = absurd (false≢true (sym (told (verdict_on r f) n (simp (e, k, l, m) at h) least).refusal ∙ m))
        heard-one false m =
            let t = told (verdict_on r f) n (simp (e, k, l, m) at h) least in
            simp (e, k, l, m) (ap (λ (b : List ℕ). take 6 (written out 0 (framed b))) (head-is (verdict_on r f) f n t)
            ∙ front-again out (framed (refusal_of f (parameter_byte f) n)) 6 (length-framed (refusal_of f (parameter_byte f) n)) (omega (arith, ltb-false (length out) 64 e)))

-- the table of results
refused : (r : Record) (s f out : List ℕ) (p : ℕ) → parameter_byte f ≡ p → Refused (answer_of r s f out) (byte_at f 0) (top_bit (byte_at f 1)) p
unfolding result_for
refused r s f out p e = record {
  unknown_function = λ h. by 10 h (lit≤ tt) (lit≤ tt);
  unknown_parameter = λ h. by 11 h (lit≤ tt) (lit≤ tt);
  not_open = λ h. by 12 h (lit≤ tt) (lit≤ tt);
  wrong_length = λ h. by 13 h (lit≤ tt) (lit≤ tt);
  no_access = λ h. by 14 h (lit≤ tt) (lit≤ tt);
  wrong_argument = λ h. by 15 h (lit≤ tt) (lit≤ tt);
  by_zero = λ h. by 16 h (lit≤ tt) (lit≤ tt);
}
  where
    by : (n : ℕ) → answer_number (answer_of r s f out) ≡ n → 10 ≤ n → n ≤ 16
        → reply_in (answer_of r s f out) ≡ framed (refusal_of f p n)
    by n h least most = refusal_is r s f out n h least most ∙ ap (λ (x : ℕ). framed (refusal_of f x n)) e

-- ---- by function

-- a frame of five bytes or more has its parameter at its place, if its function has one; else it has 0 there
pub has-parameter : (f : List ℕ) → named (function_of (byte_at f 1)) ≡ true → 4 < length f → parameter_byte f ≡ byte_at f 2
unfolding parameter_byte
has-parameter f e l = simp (lt-leb (length f) 4 l, e)

no-parameter : (f : List ℕ) → named (function_of (byte_at f 1)) ≡ false → parameter_byte f ≡ 0
unfolding parameter_byte
no-parameter f e = go (leb (length f) 4) refl
  where
    go : (b : Bool) → leb (length f) 4 ≡ b → parameter_byte f ≡ 0
    go true l = simp l
    go false l = simp (l, e)

none-of-six : (a b c d e f : Bool) → (a || b || c || d || e || f) ≡ false
    → cond a (function.Read Stored) (cond b (function.Read Displayed) (cond c function.Change (cond d function.Zero (cond e function.Unlock (cond f function.Lock function.Unknown)))))
    ≡ function.Unknown
none-of-six false false false false false false h = refl
none-of-six true b c d e f h = absurd (false≢true (sym h))
none-of-six false true c d e f h = absurd (false≢true (sym h))
none-of-six false false true d e f h = absurd (false≢true (sym h))
none-of-six false false false true e f h = absurd (false≢true (sym h))
none-of-six false false false false true f h = absurd (false≢true (sym h))
none-of-six false false false false false true h = absurd (false≢true (sym h))

-- the wire's `refusals`: the refusal frame of each number from 10 to 16, by function, for any bytes that follow
pub refusals : (r : Record) (s out : List ℕ) (a : ℕ) → Refusals r s out a
unfolding parameter_byte function_of
refusals r s out a = record {
  read = λ p b c more. refused r s (a ∷ 3 ∷ p ∷ b ∷ c ∷ more) out p (has-parameter (a ∷ 3 ∷ p ∷ b ∷ c ∷ more) refl (omega arith));
  displayed = λ p b c more. refused r s (a ∷ 4 ∷ p ∷ b ∷ c ∷ more) out p (has-parameter (a ∷ 4 ∷ p ∷ b ∷ c ∷ more) refl (omega arith));
  change = λ p b c more. refused r s (a ∷ 16 ∷ p ∷ b ∷ c ∷ more) out p (has-parameter (a ∷ 16 ∷ p ∷ b ∷ c ∷ more) refl (omega arith));
  zeroing = λ p b c more. refused r s (a ∷ 30 ∷ p ∷ b ∷ c ∷ more) out p (has-parameter (a ∷ 30 ∷ p ∷ b ∷ c ∷ more) refl (omega arith));
  unlock = λ more. refused r s (a ∷ 31 ∷ more) out 0 (no-parameter (a ∷ 31 ∷ more) refl);
  lock = λ more. refused r s (a ∷ 32 ∷ more) out 0 (no-parameter (a ∷ 32 ∷ more) refl);
  short = λ fn b c. refused r s (a ∷ fn ∷ b ∷ c ∷ []) out 0 refl;
  unknown = λ fn more h.
      refused r s (a ∷ fn ∷ more) out 0
      (no-parameter (a ∷ fn ∷ more) (ap named (none-of-six (eqb fn 3) (eqb fn 4) (eqb fn 16) (eqb fn 30) (eqb fn 31) (eqb fn 32) h)));
}
