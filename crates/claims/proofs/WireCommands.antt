-- The wire's commands: a frame in bytes that names the meter is heard and passes the checks (`change_done` and its like); one that is answered 0 gets its
-- head back, without data, and leaves the effect of its function, worked out from the frame's bytes by place.
use mathlib.Core.Path.{◌≡◌, refl, ap, ◌∙◌}
use mathlib.Core.Bool.{Bool, true, false, ◌&&◌}
use mathlib.Core.List.{List, [], ◌∷◌, ◌++◌}
use Prim.Native.Nat.{ℕ, ◌+◌, ◌*◌, ◌^◌, ◌≤◌, ◌<◌}
use native.Mathlib.Nat.{mod-eq_of_lt}
use native.Mathlib.Omega.{arith}
use lib.Dec.{eqb, leb, ltb, lit≤}
use lib.ListN.{length, take}
use borrow.Author.Tests.{eq-eqb, ne_eqb, eqb-true, leb-true}
use Rattle.std.specs.Prelude.{Ok}
use Rattle.test_laws.proofs.Test.{both}
use Rattle.byte_numbers.specs.Number.{bytes_of}
use Rattle.byte_numbers.specs.Place.{number_at, written}
use Rattle.byte_numbers.proofs.PlaceLaws.{number_at-front}
use Rattle.parameters.specs.Code.{function_of}
use Rattle.frame.specs.Sealing.{framed}
use Rattle.frame.proofs.SealingLaws.{length-framed}
use Rattle.parameters.specs.Table.{parameter_row, parameter_of, first_of}
use Rattle.parameters.specs.declared.code.Function.TheVariants as function
use Rattle.parameters.specs.declared.code.Parameter.{Parameter}
use Rattle.parameters.specs.declared.code.Parameter.TheVariants as parameter
use Rattle.calendar.specs.Time.{is_time, second_number, century_seconds}
use Rattle.calendar.specs.declared.time.DateTime.{DateTime}
use Rattle.crc16.specs.Crc.{crc_of}
use Rattle.wire_values.specs.Clock.{date_time_of, date_time_bytes}
use Rattle.wire_values.specs.Mask.{mask_bytes}
use Rattle.wire_values.proofs.MaskLaws.{mask_of-bytes}
use Rattle.wire_values.specs.Telemetry.{telemetry_bytes, FitsTelemetry}
use Rattle.wire_values.proofs.TelemetryLaws.{telemetry_of-bytes}
use Rattle.wire_values.specs.declared.telemetry.Telemetry.{Telemetry}
use Rattle.meter_clock.specs.Protection.{shut, opened}
use Rattle.meter_clock.specs.Season.{is_switchable}
use Rattle.meter_clock.specs.declared.protection.Level.{Level}
use Rattle.meter_clock.specs.declared.season.SwitchDate.TheVariants.{Automatic, ByHand}
use Rattle.meter_record.proofs.RangeLaws.{within}
use Rattle.meter_record.specs.Ranges.{is_telemetry, is_within}
use Rattle.meter_record.specs.declared.record.Record.{Record}
use Rattle.meter_store.specs.Store.{store_bytes}
use Rattle.meter_command.specs.Access.{is_main, is_open, change_allowed, password_for, level_for}
use Rattle.meter_command.specs.Change.{data_fits, telemetry_fits, changed_to, zeroed_to, passwords_after}
use Rattle.meter_command.proofs.KeepLaws.{changed, zeroed}
use Rattle.meter_command.specs.Judgement.{argument_fits}
use Rattle.meter_command.specs.Command.{function_in, parameter_byte, command_of, detail_in, data_in}
use Rattle.meter_command.specs.declared.access.Met.TheVariants.{Own}
use Rattle.meter_reply_data.specs.Reading.{is_read, data_of}
use Rattle.meter.specs.Effect.{after_by, renewed}
use Rattle.meter.specs.Reply.{is_sound, met, function_for, head_of, answer_of}
use Rattle.claims.specs.Demand1.{answer_number}
use Rattle.claims.specs.Demand2.{reply_in}
use Rattle.claims.specs.Demand2Done.{Ready}
use Rattle.claims.specs.Wire.{Named, Sets, Changes, Protects}
use Rattle.claims.proofs.Changes.{after-done}
use Rattle.claims.proofs.Done.{change_done, zeroing_done, unlock_done, lock_done}
use Rattle.claims.proofs.Range.{met-framed, hears-framed}
use Rattle.claims.proofs.Replies.{passed}
use Rattle.claims.proofs.Wire.{OfBytes, nil, bytes-cons, append, of_number, time-bytes, front-again}
use Rattle.claims.proofs.WireReads.{named-either}
use Rattle.claims.proofs.WireRefusals.{has-parameter}

-- ---- the reply to a command that has no data

command-reply : (r : Record) (s f out : List ℕ) → is_read (function_in f) ≡ false → answer_number (answer_of r s f out) ≡ 0
    → reply_in (answer_of r s f out) ≡ framed (head_of (Ok tt) (command_of f))
unfolding data_of head_of
command-reply r s f out e h =
    let p = passed r s f out h in
    let none : data_of r s (command_of f) ≡ [] = simp e in
    let l : length (framed (head_of (Ok tt) (command_of f))) ≡ 6 = length-framed (head_of (Ok tt) (command_of f)) in
    ap reply_in p.whole ∙ ap (λ (d : List ℕ). take (6 + length d) (written out 0 (framed (head_of (Ok tt) (command_of f) ++ d)))) none
    ∙ front-again out (framed (head_of (Ok tt) (command_of f))) 6 l (omega (arith, p.room))

-- ---- a frame that names the meter

ready : (r : Record) (s out : List ℕ) (a : ℕ) (rest : List ℕ) → Named r s out a → OfBytes rest → 1 ≤ length rest → length rest ≤ 61
    → Ready r s (framed (a ∷ rest)) out
ready r s out a rest n b least most = record {
  room = n.room;
  sound = n.sound;
  hears = hears-framed r a rest (bytes-cons a n.byte b) least most (named-either r.address a n.by);
}

-- its own address, which is not 0
met-own : (r : Record) (s out rest : List ℕ) → Named r s out r.address → OfBytes rest → 1 ≤ length rest → length rest ≤ 61
    → met r (framed (r.address ∷ rest)) ≡ Own
unfolding is_sound
met-own r s out rest n b least most =
    let w = within r (both (eqb (length s) store_bytes) (is_within r) n.sound).1 in
    let some : eqb r.address 0 ≡ false = ne_eqb r.address 0 (omega (arith, leb-true 1 r.address w.address)) in
    met-framed r r.address rest (bytes-cons r.address n.byte b) least most ∙ simp (some, eq-eqb r.address r.address refl)

-- ---- changes

-- what a change needs, from its data
record Needs (r : Record) (p : Parameter) (f bs : List ℕ) : Type 0 where
  bytes : OfBytes bs
  allowed : change_allowed p r.protection.level ≡ true
  fits : argument_fits (parameter_row p) (detail_in f) r.telemetry (data_in f) ≡ true

module _ (r : Record) (s out : List ℕ) where
  abbrev frame : ℕ → ℕ → List ℕ → List ℕ
  frame p detail bs = framed (r.address ∷ 16 ∷ p ∷ detail ∷ bs)

  -- one shape for all parameters: what the change needs, and what the field then holds
  sets : {A : Type 0} (p detail : ℕ) (bs : List ℕ) (able : Bool) (field : Record → A) (value : A) → p < 256 → detail < 256
      → let q = parameter_of p in let f = frame p detail bs in
      (parameter_row q).changeable ≡ true → length bs ≡ (parameter_row q).change_bytes → length bs ≤ 8 → (able ≡ true → Needs r q f bs)
      → field (renewed (changed q r f)) ≡ value
      → Sets r s out r.address f (framed (r.address ∷ 16 ∷ p ∷ 0 ∷ [])) able field value
  unfolding framed function_of head_of function_for after_by
  sets p detail bs able field value pb db c size small needs left =
      let f = frame p detail bs in
      let long : length f ≡ 6 + length bs = length-framed (r.address ∷ 16 ∷ p ∷ detail ∷ bs) ∙ omega arith in
      let e : parameter_byte f ≡ p = has-parameter f refl (omega (arith, long)) in
      let rest : List ℕ = 16 ∷ p ∷ detail ∷ bs in
      record {
        done = λ n able.
            let k = needs able in
            let b : OfBytes rest = bytes-cons 16 (lit≤ tt) (bytes-cons p pb (bytes-cons detail db k.bytes)) in
            change_done r s f out (ready r s out r.address rest n b (omega arith) (omega (arith, small))) (met-own r s out rest n b (omega arith) (omega (arith, small)))
            refl (rw e c) (rw e (long ∙ ap (λ (m : ℕ). 6 + m) size)) (rw e k.allowed) (rw e k.fits);
        bytes = λ h. command-reply r s f out refl h ∙ ap (λ (x : ℕ). framed (r.address ∷ 16 ∷ x ∷ 0 ∷ [])) e;
        after = λ h.
            ap field (after-done r s f out function.Change refl h) ∙ ap (λ (x : ℕ). field (renewed (changed (parameter_of x) r f))) e ∙ left;
      }

  -- a time's six bytes
  times : {A : Type 0} (p detail : ℕ) (t : DateTime) (right : Bool) (field : Record → A) (value : A) → p < 256 → detail < 256
      → let q = parameter_of p in let f = frame p detail (date_time_bytes t) in
      (parameter_row q).changeable ≡ true → 6 ≡ (parameter_row q).change_bytes → ((l : Level) → change_allowed q l ≡ is_main l)
      → argument_fits (parameter_row q) (detail_in f) r.telemetry (data_in f) ≡ right
      → (right ≡ true → is_time t ≡ true) → field (renewed (changed q r f)) ≡ value
      → Sets r s out r.address f (framed (r.address ∷ 16 ∷ p ∷ 0 ∷ [])) (is_main r.protection.level && right) field value
  unfolding date_time_bytes
  times p detail t right field value pb db c size access fits time left =
      sets p detail (date_time_bytes t) (is_main r.protection.level && right) field value pb db c size (lit≤ tt)
      (λ e. let k = both (is_main r.protection.level) right e in
      record { bytes = time-bytes t (time k.1); allowed = access r.protection.level ∙ k.0; fits = fits ∙ k.1 })
      left

  switchable-time : (t : DateTime) → is_switchable t ≡ true → is_time t ≡ true
  unfolding is_switchable
  switchable-time t h = (both (is_time t) (leb 3600 (second_number t)) (both _ (ltb (second_number t + 3600) century_seconds) h).0).0

  -- eight bytes of password
  password : (detail : ℕ) (n : ℕ) (field : Record → ℕ) → detail < 256 → let f = frame 37 detail (bytes_of 8 n) in
      argument_fits (parameter_row (parameter_of 37)) (detail_in f) r.telemetry (data_in f) ≡ true
      → field (renewed (changed (parameter_of 37) r f)) ≡ n
      → Sets r s out r.address f (framed (r.address ∷ 16 ∷ 37 ∷ 0 ∷ [])) (is_main r.protection.level) field n
  unfolding parameter_of first_of bytes_of
  password detail n field db fits left =
      sets 37 detail (bytes_of 8 n) (is_main r.protection.level) field n (lit≤ tt) db refl refl (lit≤ tt)
      (λ e. record { bytes = of_number 8 n; allowed = e; fits = fits }) left

  front : (n : ℕ) (rest : List ℕ) → n < 2 ^ 64 → number_at (bytes_of 8 n ++ rest) 0 8 ≡ n
  front n rest h = number_at-front 8 n rest ∙ mod-eq_of_lt h

  telemetry-needs : (t : Telemetry) → FitsTelemetry t → let bs = telemetry_bytes t in
      (is_main r.protection.level && (eqb t.ke r.telemetry.ke && (leb 40000 (t.k * t.ke) && leb (t.k * t.ke) 5000000))) ≡ true
      → Needs r parameter.Telemetry (frame 24 0 bs) bs
  unfolding framed telemetry_bytes argument_fits data_fits telemetry_fits is_telemetry
  telemetry-needs t f e =
      let k = both (is_main r.protection.level) _ e in
      record {
        bytes = append (of_number 4 t.k) (append (of_number 2 t.ke) (of_number 2 t.reserve));
        allowed = k.0;
        fits = ap (λ (x : Telemetry). telemetry_fits x r.telemetry) (telemetry_of-bytes t (bytes_of 2 (crc_of (r.address ∷ 16 ∷ 24 ∷ 0 ∷ telemetry_bytes t))) f) ∙ k.1;
      }

  -- ---- zeroings

  zeroes : {A : Type 0} (p : ℕ) (field : Record → A) (value : A) → p < 256 → let q = parameter_of p in
      (parameter_row q).zeroable ≡ true → field (renewed (zeroed q r)) ≡ value
      → Sets r s out r.address (framed (r.address ∷ 30 ∷ p ∷ 0 ∷ [])) (framed (r.address ∷ 30 ∷ p ∷ 0 ∷ [])) (is_main r.protection.level) field value
  unfolding framed bytes_of function_of parameter_byte head_of function_for after_by
  zeroes p field value pb z left =
      let f = framed (r.address ∷ 30 ∷ p ∷ 0 ∷ []) in
      let rest : List ℕ = 30 ∷ p ∷ 0 ∷ [] in
      let b : OfBytes rest = bytes-cons 30 (lit≤ tt) (bytes-cons p pb (bytes-cons 0 (lit≤ tt) nil)) in
      record {
        done = λ n e. zeroing_done r s f out (ready r s out r.address rest n b (lit≤ tt) (lit≤ tt)) (met-own r s out rest n b (lit≤ tt) (lit≤ tt)) refl z refl e refl;
        bytes = λ h. command-reply r s f out refl h;
        after = λ h. ap field (after-done r s f out function.Zero refl h) ∙ left;
      }

  -- the wire's `changes`: each change and zeroing in bytes, what it needs, its reply and the value that it leaves
  pub changes : Changes r s out
  unfolding framed bytes_of parameter_of first_of argument_fits data_fits changed_to date_time_of date_time_bytes telemetry_bytes mask_bytes passwords_after zeroed_to
  changes = record {
    address = λ n b.
        sets 21 0 (n ∷ []) _ (λ (x : Record). x.address) n (lit≤ tt) (lit≤ tt) refl refl (lit≤ tt)
        (λ e. let k = both (is_open r.protection.level) (leb 1 n) e in record { bytes = bytes-cons n b nil; allowed = k.0; fits = k.1 }) refl;
    telemetry = λ t f.
        sets 24 0 (telemetry_bytes t) _ (λ (x : Record). x.telemetry) t (lit≤ tt) (lit≤ tt) refl refl (lit≤ tt) (telemetry-needs t f)
        (telemetry_of-bytes t (bytes_of 2 (crc_of (r.address ∷ 16 ∷ 24 ∷ 0 ∷ telemetry_bytes t))) f);
    summer = λ t. times 27 0 t (is_switchable t) (λ (x : Record). x.time.summer) (ByHand t) (lit≤ tt) (lit≤ tt) refl refl (λ l. refl) refl (switchable-time t) refl;
    winter = λ t. times 28 0 t (is_switchable t) (λ (x : Record). x.time.winter) (ByHand t) (lit≤ tt) (lit≤ tt) refl refl (λ l. refl) refl (switchable-time t) refl;
    clock = λ t. times 32 2 t (is_time t) (λ (x : Record). x.time.clock) t (lit≤ tt) (lit≤ tt) refl refl (λ l. refl) refl (λ e. e) refl;
    mask = λ m b c d.
        sets 35 0 (mask_bytes m) _ (λ (x : Record). x.mask) m (lit≤ tt) (lit≤ tt) refl refl (lit≤ tt)
        (λ e. record {
          bytes = append (of_number 4 m.parameters) (bytes-cons m.tariffs c (bytes-cons m.directions d nil));
          allowed = e;
          fits = refl;
        })
        (mask_of-bytes m (bytes_of 2 (crc_of (r.address ∷ 16 ∷ 35 ∷ 0 ∷ mask_bytes m))) b);
    main_password = λ n b. password 0 n (λ (x : Record). x.passwords.main.0) (lit≤ tt) refl (front n _ b);
    auxiliary_password = λ n b. password 1 n (λ (x : Record). x.passwords.auxiliary.0) (lit≤ tt) refl (front n _ b);
    summer_zeroed = zeroes 27 (λ (x : Record). x.time.summer) Automatic (lit≤ tt) refl refl;
    winter_zeroed = zeroes 28 (λ (x : Record). x.time.winter) Automatic (lit≤ tt) refl refl;
    slices_zeroed = zeroes 36 (λ (x : Record). x.next) 0 (lit≤ tt) refl refl;
  }

-- ---- protection

module _ (r : Record) (s out : List ℕ) (a : ℕ) where
  unlocks : (level n : ℕ) → level ≤ 1 → n < 2 ^ 64
      → Sets r s out a (framed (a ∷ 31 ∷ 0 ∷ level ∷ bytes_of 8 n)) (framed (a ∷ 31 ∷ 0 ∷ 0 ∷ [])) (eqb n (password_for r.passwords level))
      (λ (x : Record). x.protection) (opened (level_for level))
  unfolding framed bytes_of function_of parameter_byte head_of function_for after_by number_at
  unlocks level n l b =
      let f = framed (a ∷ 31 ∷ 0 ∷ level ∷ bytes_of 8 n) in
      let rest : List ℕ = 31 ∷ 0 ∷ level ∷ bytes_of 8 n in
      let bytes : OfBytes rest = bytes-cons 31 (lit≤ tt) (bytes-cons 0 (lit≤ tt) (bytes-cons level (omega (arith, l)) (of_number 8 n))) in
      let found : number_at f 4 8 ≡ n = number_at-front 8 n (bytes_of 2 (crc_of (a ∷ rest))) ∙ mod-eq_of_lt b in
      record {
        done = λ m e.
            unlock_done r s f out (ready r s out a rest m bytes (lit≤ tt) (lit≤ tt)) refl refl l (found ∙ eqb-true n (password_for r.passwords level) e) refl;
        bytes = λ h. command-reply r s f out refl h;
        after = λ h. ap (λ (x : Record). x.protection) (after-done r s f out function.Unlock refl h);
      }

  locks : Sets r s out a (framed (a ∷ 32 ∷ 0 ∷ 0 ∷ [])) (framed (a ∷ 32 ∷ 0 ∷ 0 ∷ [])) true (λ (x : Record). x.protection) shut
  unfolding framed bytes_of function_of parameter_byte head_of function_for after_by
  locks =
      let f = framed (a ∷ 32 ∷ 0 ∷ 0 ∷ []) in
      let rest : List ℕ = 32 ∷ 0 ∷ 0 ∷ [] in
      let bytes : OfBytes rest = bytes-cons 32 (lit≤ tt) (bytes-cons 0 (lit≤ tt) (bytes-cons 0 (lit≤ tt) nil)) in
      record {
        done = λ m e. lock_done r s f out (ready r s out a rest m bytes (lit≤ tt) (lit≤ tt)) refl refl refl refl;
        bytes = λ h. command-reply r s f out refl h;
        after = λ h. ap (λ (x : Record). x.protection) (after-done r s f out function.Lock refl h);
      }

  -- the wire's `protects`: the protection commands in bytes, by the own address or by 0
  pub protects : Protects r s out a
  unfolding password_for level_for
  protects = record { main = λ n b. unlocks 0 n (lit≤ tt) b; auxiliary = λ n b. unlocks 1 n (lit≤ tt) b; shut = locks }
