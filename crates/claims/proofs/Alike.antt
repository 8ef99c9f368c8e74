-- Demand 2, what is no change and no zeroing: a command by address 0 is answered as by the meter's own. The verdict and the effect go by a frame's
-- length, and by bytes of the message where the length has them, which the two frames share.
use mathlib.Core.Path.{◌≡◌, refl, sym, ap, ap₂, ◌∙◌}
use mathlib.Core.Bool.{Bool, true, false, cond, ◌&&◌, false≢true}
use mathlib.Core.List.{List, [], ◌∷◌, ◌++◌}
use Prim.Native.Nat.{ℕ, suc, ◌+◌, ◌≤◌, ◌<◌}
use native.Mathlib.Omega.{arith}
use lib.Dec.{eqb, leb, lit≤}
use lib.ListN.{length, drop, get_or-append}
use lib.Seq.{take_at}
use borrow.Author.Tests.{le-ltb, le-leb, leb-true, eq-eqb, ne_eqb, eqb-true}
use Rattle.std.specs.Prelude.{Err, Ok, Result}
use Rattle.test_laws.proofs.Test.{both}
use Rattle.byte_numbers.specs.Number.{Bytes, bytes_of, number}
use Rattle.byte_numbers.specs.Place.{byte_at, number_at, written}
use Rattle.byte_numbers.proofs.PlaceLaws.{take-drop}
use Rattle.crc16.specs.Crc.{crc_of}
use Rattle.parameters.specs.Code.{function_of}
use Rattle.frame.specs.Sealing.{framed, is_sealed}
use Rattle.frame.proofs.SealingLaws.{length-framed, crc_fits-framed}
use Rattle.parameters.specs.Table.{parameter_row, opens_to, parameter_of, known, code_of}
use Rattle.parameters.specs.declared.code.Function.{Function}
use Rattle.parameters.specs.declared.code.Function.TheVariants as function
use Rattle.parameters.specs.declared.code.Parameter.{Parameter}
use Rattle.parameters.specs.declared.code.Parameter.TheVariants as parameter
use Rattle.parameters.specs.declared.code.Reading.{Reading}
use Rattle.parameters.specs.declared.code.Reading.TheVariants.{Stored, Displayed}
use Rattle.parameters.specs.declared.table.Fields.{Fields}
use Rattle.parameters.specs.declared.table.Fields.TheVariants.{Unused, Phase, Slot, SixSlots}
use Rattle.slots.specs.Day.{slots_of}
use Rattle.request.specs.Subject.{unused, is_phase, fields_fit}
use Rattle.request.specs.declared.request.Request.{Request}
use Rattle.meter_clock.specs.Protection.{opened}
use Rattle.meter_store.specs.Store.{cleared, store_bytes}
use Rattle.meter_record.proofs.RangeLaws.{within}
use Rattle.meter_record.specs.Ranges.{is_within}
use Rattle.meter_record.specs.With.{with_protection}
use Rattle.meter_record.specs.declared.record.Passwords.{Passwords}
use Rattle.meter_record.specs.declared.record.Record.{Record}
use Rattle.meter_command.specs.Access.{password_for, level_for, unlock_verdict, lock_verdict}
use Rattle.meter_command.specs.Judgement.{passed, checked, read_verdict, verdict_by, verdict_of}
use Rattle.meter_command.proofs.JudgementLaws.{read-accepted}
use Rattle.meter_command.specs.Command.{named, parameter_byte, parameter_in, reading_of, request_in, command_of}
use Rattle.meter_command.specs.Verdict.{result_of, is_done}
use Rattle.meter_command.specs.declared.access.Met.{Met}
use Rattle.meter_command.specs.declared.access.Met.TheVariants.{Own, Zero, Neither}
use Rattle.meter_command.specs.declared.verdict.Refusal.{Refusal}
use Rattle.meter_command.specs.declared.verdict.Refusal.TheVariants.{WrongLength, NoAccess, WrongArgument}
use Rattle.meter_reply_data.specs.Reading.{figures_of, figures_as, is_read, data_of}
use Rattle.meter.specs.Effect.{after_by, after_of, clears_by, clears, store_after}
use Rattle.meter.specs.Reply as reply
use Rattle.meter.specs.Reply.{is_sound, met, is_heard, heard, function_for, head_of, replied, answer_of}
use Rattle.claims.specs.Demand2ByZero.{changes, frame_by, Alike}
use Rattle.claims.proofs.Wire.{OfBytes, bytes-cons}

-- ---- a frame's length, and its bytes that no address changes

-- a frame by an address is as long as its message and the four bytes around it, whatever the address
pub length-by : (a fn : ℕ) (m : List ℕ) → length (frame_by a fn m) ≡ length m + 4
length-by a fn m =
    let e : suc (suc (length m)) + 2 ≡ length m + 4 = omega arith in
    length-framed (a ∷ fn ∷ m) ∙ e

same_length : (a b fn : ℕ) (m : List ℕ) → length (frame_by a fn m) ≡ length (frame_by b fn m)
same_length a b fn m = length-by a fn m ∙ sym (length-by b fn m)

long : (a fn : ℕ) (m : List ℕ) (n : ℕ) → eqb (length (frame_by a fn m)) (n + 4) ≡ true → length m ≡ n
long a fn m n e = omega (arith, eqb-true (length (frame_by a fn m)) (n + 4) e, length-by a fn m)

byte-by : (a fn : ℕ) (m : List ℕ) (i : ℕ) → i < length m → byte_at (frame_by a fn m) (suc (suc i)) ≡ byte_at m i
unfolding framed
byte-by a fn m i h = get_or-append m (bytes_of 2 (crc_of (a ∷ fn ∷ m))) 0 i h

-- the password of an unlocking frame is its message's last eight bytes, whatever the address
pub number_by : (a fn : ℕ) (m : List ℕ) → length m ≡ 10 → number_at (frame_by a fn m) 4 8 ≡ number (drop 2 m)
unfolding number_at framed
number_by a fn m h =
    let crc = bytes_of 2 (crc_of (a ∷ fn ∷ m)) in
    ap number (take-drop 2 8 (m ++ crc) ∙ ap (drop 2) (take_at m crc 10 h))

same-parameter : (a b fn : ℕ) (m : List ℕ) → parameter_byte (frame_by a fn m) ≡ parameter_byte (frame_by b fn m)
unfolding framed parameter_byte bytes_of
same-parameter a b fn [] = refl
same-parameter a b fn (p ∷ m) = ap (λ (n : ℕ). cond (leb n 4) 0 (cond (named (function_of fn)) p 0)) (same_length a b fn (p ∷ m))

-- ---- a read asks for the same, whatever its address

-- the reading of a function
abbrev reads : ℕ → Reading
reads fn = reading_of (function_of fn)

abbrev asking : Reading → ℕ → ℕ → ℕ → ℕ → ℕ → Request
asking x a p o t d = record { reading = x; address = a; parameter = p; offset = o; tariff = t; detail = d }

abbrev asks : Reading → ℕ → List ℕ → Request
asks x a m = asking x a (byte_at m 0) (byte_at m 1) (byte_at m 2) (byte_at m 3)

request-by : (a fn : ℕ) (m : List ℕ) → length m ≡ 4 → request_in (frame_by a fn m) ≡ asks (reads fn) a m
unfolding framed
request-by a fn m h =
    let f = frame_by a fn m in
    ap₂ (λ (p o : ℕ). asking (reads fn) a p o (byte_at f 4) (byte_at f 5)) (byte-by a fn m 0 (omega (arith, h))) (byte-by a fn m 1 (omega (arith, h)))
    ∙ ap₂ (λ (t d : ℕ). asking (reads fn) a (byte_at m 0) (byte_at m 1) t d) (byte-by a fn m 2 (omega (arith, h))) (byte-by a fn m 3 (omega (arith, h)))

fields_free : (k : Fields) (x : Reading) (a b : ℕ) (m : List ℕ) (slots : ℕ) → fields_fit k (asks x a m) slots ≡ fields_fit k (asks x b m) slots
unfolding unused is_phase
fields_free Unused x a b m slots = refl
fields_free Phase x a b m slots = refl
fields_free Slot x a b m slots = refl
fields_free SixSlots x a b m slots = refl

figures-free : (p : Parameter) (r : Record) (s : List ℕ) (a b : ℕ) (m : List ℕ) → figures_of p r s (asks Stored a m) ≡ figures_of p r s (asks Stored b m)
figures-free parameter.ActivePower r s a b m = refl
figures-free parameter.ReactivePower r s a b m = refl
figures-free parameter.Address r s a b m = refl
figures-free parameter.Telemetry r s a b m = refl
figures-free parameter.SummerDate r s a b m = refl
figures-free parameter.WinterDate r s a b m = refl
figures-free parameter.Clock r s a b m = refl
figures-free parameter.DisplayMask r s a b m = refl
figures-free parameter.Slice r s a b m = refl
figures-free parameter.SixSlices r s a b m = refl
figures-free parameter.Password r s a b m = refl
figures-free parameter.Unknown r s a b m = refl

figures-as : (x : Reading) (p : Parameter) (r : Record) (s : List ℕ) (a b : ℕ) (m : List ℕ) → figures_as x p r s (asks x a m) ≡ figures_as x p r s (asks x b m)
figures-as Stored p r s a b m = figures-free p r s a b m
figures-as Displayed p r s a b m = refl

-- ---- the verdicts

-- an argument counts only where the length is right
cut : (k o l x y : Bool) → (l ≡ true → x ≡ y) → checked k o l true true x ≡ checked k o l true true y
unfolding checked passed
cut false o l x y h = refl
cut true false l x y h = refl
cut true true false x y h = refl
cut true true true x y h = ap (λ (z : Bool). checked true true true true true z) (h refl)

where-long : (l : Bool) (x y z : Result Unit Refusal) → (l ≡ true → x ≡ y) → cond l x z ≡ cond l y z
where-long true x y z h = h refl
where-long false x y z h = refl

read_same : (r : Record) (a b fn : ℕ) (m : List ℕ) → read_verdict r (command_of (frame_by a fn m)) ≡ read_verdict r (command_of (frame_by b fn m))
unfolding read_verdict framed
read_same r a b fn m =
    let slots = slots_of r.minutes in
    let f = frame_by a fn m in
    let g = frame_by b fn m in
    let w = parameter_row (parameter_in g) in
    let fit : Request → Bool = λ q. fields_fit w.fields q slots in
    ap₂ (λ (p n : ℕ). let v = parameter_row (parameter_of p) in checked (known v) (opens_to (reads fn) v) (eqb n 8) true true (fields_fit v.fields (request_in f) slots))
    (same-parameter a b fn m) (same_length a b fn m)
    ∙ cut (known w) (opens_to (reads fn) w) (eqb (length g) 8) (fit (request_in f)) (fit (request_in g))
    (λ e. ap fit (request-by a fn m (long b fn m 4 e)) ∙ fields_free w.fields (reads fn) a b m slots ∙ sym (ap fit (request-by b fn m (long b fn m 4 e))))

abbrev unlocked : Passwords → ℕ → ℕ → ℕ → Result Unit Refusal
unlocked p level n z = cond (leb level 1) (cond (eqb n (password_for p level)) (cond (eqb z 0) (Ok tt) (Err WrongArgument)) (Err NoAccess)) (Err WrongArgument)

unlocked-by : (p : Passwords) (a fn : ℕ) (m : List ℕ) → length m ≡ 10 → let f = frame_by a fn m in
    unlocked p (byte_at f 3) (number_at f 4 8) (byte_at f 2) ≡ unlocked p (byte_at m 1) (number (drop 2 m)) (byte_at m 0)
unlocked-by p a fn m h =
    ap₂ (λ (l n : ℕ). unlocked p l n (byte_at (frame_by a fn m) 2)) (byte-by a fn m 1 (omega (arith, h))) (number_by a fn m h)
    ∙ ap (λ (z : ℕ). unlocked p (byte_at m 1) (number (drop 2 m)) z) (byte-by a fn m 0 (omega (arith, h)))

unlock-same : (p : Passwords) (a b fn : ℕ) (m : List ℕ) → unlock_verdict p (command_of (frame_by a fn m)) (frame_by a fn m) ≡ unlock_verdict p (command_of (frame_by b fn m)) (frame_by b fn m)
unfolding unlock_verdict
unlock-same p a b fn m =
    let f = frame_by a fn m in
    let g = frame_by b fn m in
    let told : List ℕ → Result Unit Refusal = λ x. unlocked p (byte_at x 3) (number_at x 4 8) (byte_at x 2) in
    ap (λ (n : ℕ). cond (eqb n 14) (told f) (Err WrongLength)) (same_length a b fn m)
    ∙ where-long (eqb (length g) 14) (told f) (told g) (Err WrongLength)
    (λ e. unlocked-by p a fn m (long b fn m 10 e) ∙ sym (unlocked-by p b fn m (long b fn m 10 e)))

abbrev locked : ℕ → ℕ → Result Unit Refusal
locked x y = cond (eqb x 0) (cond (eqb y 0) (Ok tt) (Err WrongArgument)) (Err WrongArgument)

locked-by : (a fn : ℕ) (m : List ℕ) → length m ≡ 2 → let f = frame_by a fn m in locked (byte_at f 2) (byte_at f 3) ≡ locked (byte_at m 0) (byte_at m 1)
locked-by a fn m h = ap₂ locked (byte-by a fn m 0 (omega (arith, h))) (byte-by a fn m 1 (omega (arith, h)))

lock-same : (a b fn : ℕ) (m : List ℕ) → lock_verdict (command_of (frame_by a fn m)) ≡ lock_verdict (command_of (frame_by b fn m))
unfolding lock_verdict
lock-same a b fn m =
    let f = frame_by a fn m in
    let g = frame_by b fn m in
    let told : List ℕ → Result Unit Refusal = λ x. locked (byte_at x 2) (byte_at x 3) in
    ap (λ (n : ℕ). cond (eqb n 6) (told f) (Err WrongLength)) (same_length a b fn m)
    ∙ where-long (eqb (length g) 6) (told f) (told g) (Err WrongLength)
    (λ e. locked-by a fn m (long b fn m 2 e) ∙ sym (locked-by b fn m (long b fn m 2 e)))

verdict-same : (g : Function) → changes g ≡ false → (r : Record) (a b fn : ℕ) (m : List ℕ)
    → verdict_by g Zero r (command_of (frame_by a fn m)) (frame_by a fn m) ≡ verdict_by g Own r (command_of (frame_by b fn m)) (frame_by b fn m)
unfolding verdict_by
verdict-same (function.Read reading) c r a b fn m = read_same r a b fn m
verdict-same function.Unlock c r a b fn m = unlock-same r.passwords a b fn m
verdict-same function.Lock c r a b fn m = lock-same a b fn m
verdict-same function.Unknown c r a b fn m = refl
verdict-same function.Change c r a b fn m = absurd (false≢true (sym c))
verdict-same function.Zero c r a b fn m = absurd (false≢true (sym c))

-- ---- what one that is done reads and leaves

data-same : (g : Function) (r : Record) (s : List ℕ) (a b fn : ℕ) (m : List ℕ) → is_done (verdict_by g Own r (command_of (frame_by b fn m)) (frame_by b fn m)) ≡ true
    → let part : ℕ → List ℕ = λ x. cond (is_read g) (figures_as (reads fn) (parameter_in (frame_by x fn m)) r s (request_in (frame_by x fn m))) [] in part a ≡ part b
unfolding verdict_by
data-same (function.Read reading) r s a b fn m d =
    let h = long b fn m 4 (read-accepted r (command_of (frame_by b fn m)) d).length_fits in
    let p = parameter_in (frame_by b fn m) in
    ap₂ (λ (n : ℕ) (q : Request). figures_as (reads fn) (parameter_of n) r s q) (same-parameter a b fn m) (request-by a fn m h)
    ∙ figures-as (reads fn) p r s a b m
    ∙ sym (ap (λ (q : Request). figures_as (reads fn) p r s q) (request-by b fn m h))
data-same function.Unlock r s a b fn m d = refl
data-same function.Lock r s a b fn m d = refl
data-same function.Unknown r s a b fn m d = refl
data-same function.Change r s a b fn m d = refl
data-same function.Zero r s a b fn m d = refl

unlock-long : (l : Bool) (v : Result Unit Refusal) → is_done (cond l v (Err WrongLength)) ≡ true → l ≡ true
unlock-long true v h = refl
unlock-long false v h = absurd (false≢true h)

after_same : (g : Function) → changes g ≡ false → (r : Record) (a b fn : ℕ) (m : List ℕ) → is_done (verdict_by g Own r (command_of (frame_by b fn m)) (frame_by b fn m)) ≡ true
    → after_by g r (command_of (frame_by a fn m)) (frame_by a fn m) ≡ after_by g r (command_of (frame_by b fn m)) (frame_by b fn m)
unfolding verdict_by after_by unlock_verdict
after_same (function.Read reading) c r a b fn m d = refl
after_same function.Unlock c r a b fn m d =
    let f = frame_by b fn m in
    let h = long b fn m 10 (unlock-long (eqb (length f) 14) (unlocked r.passwords (byte_at f 3) (number_at f 4 8) (byte_at f 2)) d) in
    ap (λ (n : ℕ). with_protection r (opened (level_for n))) (byte-by a fn m 1 (omega (arith, h)) ∙ sym (byte-by b fn m 1 (omega (arith, h))))
after_same function.Lock c r a b fn m d = refl
after_same function.Unknown c r a b fn m d = refl
after_same function.Change c r a b fn m d = absurd (false≢true (sym c))
after_same function.Zero c r a b fn m d = absurd (false≢true (sym c))

clears-none : (g : Function) → changes g ≡ false → (p : Parameter) → clears_by g (code_of p) ≡ false
unfolding clears_by
clears-none (function.Read reading) c p = refl
clears-none function.Unlock c p = refl
clears-none function.Lock c p = refl
clears-none function.Unknown c p = refl
clears-none function.Change c p = absurd (false≢true (sym c))
clears-none function.Zero c p = absurd (false≢true (sym c))

-- the store stays
store_by : (s : List ℕ) (a fn : ℕ) (m : List ℕ) → changes (function_of fn) ≡ false → store_after s (command_of (frame_by a fn m)) ≡ s
unfolding store_after clears framed
store_by s a fn m c =
    ap (λ (b : Bool). cond b (cleared s) s) (clears-none (function_of fn) c (parameter_in (frame_by a fn m)))

-- ---- both frames reach the meter

-- a message of bytes that a frame has room for makes a frame with a right length and CRC
pub sealed-by : (a fn : ℕ) (m : List ℕ) → a < 256 → fn < 256 → Bytes m → length m ≤ 60 → is_sealed (frame_by a fn m) ≡ true
unfolding is_sealed
sealed-by a fn m ha hf hm l =
    let n = length-by a fn m in
    let b : OfBytes (a ∷ fn ∷ m) = bytes-cons a ha (bytes-cons fn hf (record { each = hm })) in
    ap₂ ◌&&◌ (ap₂ ◌&&◌ (le-leb 4 (length (frame_by a fn m)) (omega (arith, n))) (le-leb (length (frame_by a fn m)) 64 (omega (arith, n, l))))
    (crc_fits-framed (a ∷ fn ∷ m) b.each)

met-by-zero : (r : Record) (fn : ℕ) (m : List ℕ) → is_sealed (frame_by 0 fn m) ≡ true → met r (frame_by 0 fn m) ≡ Zero
unfolding met framed
met-by-zero r fn m e = ap (λ (b : Bool). cond b Zero Neither) e

-- a frame by the meter's own address, which is not 0, met that address
pub met-by-own : (r : Record) (fn : ℕ) (m : List ℕ) → is_sealed (frame_by r.address fn m) ≡ true → (r.address ≡ 0 → ⊥) → met r (frame_by r.address fn m) ≡ Own
unfolding met framed
met-by-own r fn m e n =
    let own = r.address in
    ap (λ (b : Bool). cond b (cond (eqb own 0) Zero (cond (eqb own own) Own Neither)) Neither) e
    ∙ ap₂ (λ (x y : Bool). cond x Zero (cond y Own Neither)) (ne_eqb own 0 n) (eq-eqb own own refl)

-- a sound meter with room replies to a frame that it hears, by the verdict for the address that was met
pub answered-by : (r : Record) (s f out : List ℕ) (x : Met) → 64 ≤ length out → is_sound r s ≡ true → met r f ≡ x → is_heard x ≡ true
    → answer_of r s f out ≡ replied (verdict_of x r (command_of f) f) r s f out
unfolding answer_of heard
answered-by r s f out x room sound e h = simp (le-ltb (length out) 64 room, sound, e, h)

-- ---- the two replies

module _ (r : Record) (s : List ℕ) (fn : ℕ) (m out : List ℕ) (c : changes (function_of fn) ≡ false) (v : Result Unit Refusal) where
  done-alike : is_done (verdict_by (function_of fn) Own r (command_of (frame_by r.address fn m)) (frame_by r.address fn m)) ≡ true
      → Alike r.address out (reply.done v r s (frame_by 0 fn m) out) (reply.done v r s (frame_by r.address fn m) out)
  unfolding head_of framed data_of after_of
  done-alike d =
      let own = r.address in
      let parts : data_of r s (command_of (frame_by 0 fn m)) ≡ data_of r s (command_of (frame_by own fn m)) = data-same (function_of fn) r s 0 own fn m d in
      record {
        answer = ap₂ (λ (n : ℕ) (x : Record). record { verdict = v; length = 6 + n; after = x }) (ap length parts) (after_same (function_of fn) c r 0 own fn m d);
        slices = store_by s 0 fn m c ∙ sym (store_by s own fn m c);
        rest = function_for v fn ∷ parameter_byte (frame_by 0 fn m) ∷ result_of v ∷ data_of r s (command_of (frame_by 0 fn m));
        by_zero = refl;
        by-own =
            ap₂ (λ (p : ℕ) (d : List ℕ). written out 0 (framed (own ∷ function_for v fn ∷ p ∷ result_of v ∷ d))) (sym (same-parameter 0 own fn m)) (sym parts);
      }

  refused-alike : Alike r.address out (reply.refused v r s (frame_by 0 fn m) out) (reply.refused v r s (frame_by r.address fn m) out)
  unfolding head_of framed
  refused-alike =
      let own = r.address in
      record {
        answer = refl;
        slices = refl;
        rest = function_for v fn ∷ parameter_byte (frame_by 0 fn m) ∷ result_of v ∷ [];
        by_zero = refl;
        by-own = ap (λ (p : ℕ). written out 0 (framed (own ∷ function_for v fn ∷ p ∷ result_of v ∷ []))) (sym (same-parameter 0 own fn m));
      }

  replied-alike : verdict_by (function_of fn) Own r (command_of (frame_by r.address fn m)) (frame_by r.address fn m) ≡ v
      → Alike r.address out (replied v r s (frame_by 0 fn m) out) (replied v r s (frame_by r.address fn m) out)
  unfolding replied
  replied-alike e = go (is_done v) refl
    where
      go : (d : Bool) → is_done v ≡ d → let f = frame_by 0 fn m in let g = frame_by r.address fn m in
          Alike r.address out (cond d (reply.done v r s f out) (reply.refused v r s f out)) (cond d (reply.done v r s g out) (reply.refused v r s g out))
      go true k = done-alike (ap is_done e ∙ k)
      go false k = refused-alike

-- demand 2's `others_alike`, CR 6: what is no change and no zeroing is answered by 0 as by the meter's own address
pub others_alike : (r : Record) (s : List ℕ) (fn : ℕ) (m out : List ℕ) → changes (function_of fn) ≡ false → fn < 256 → Bytes m → length m ≤ 60
    → r.address < 256 → is_sound r s ≡ true → 64 ≤ length out
    → Alike r.address out (answer_of r s (frame_by 0 fn m) out) (answer_of r s (frame_by r.address fn m) out)
unfolding is_sound verdict_of framed
others_alike r s fn m out c hf hm l ha sound room =
    let own = r.address in
    let f = frame_by 0 fn m in
    let g = frame_by own fn m in
    let w = leb-true 1 own (within r (both (eqb (length s) store_bytes) (is_within r) sound).1).address in
    let zero = answered-by r s f out Zero room sound (met-by-zero r fn m (sealed-by 0 fn m (lit≤ tt) hf hm l)) refl in
    let mine = answered-by r s g out Own room sound (met-by-own r fn m (sealed-by own fn m ha hf hm l) (λ e. omega (arith, e, w))) refl in
    let v = verdict_of Own r (command_of g) g in
    let same : verdict_of Zero r (command_of f) f ≡ v = verdict-same (function_of fn) c r 0 own fn m in
    rw (zero ∙ ap (λ (x : Result Unit Refusal). replied x r s f out) same, mine) (replied-alike r s fn m out c v refl)
