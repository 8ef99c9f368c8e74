-- The wire's reads: a read's frame in bytes is a request's, which a meter that it names answers (`read_done`), and its reply is the request's head with
-- the record's figures behind it (`reply-is`): their bytes are those of the page.
use mathlib.Core.Path.{◌≡◌, refl, ap, ◌∙◌}
use mathlib.Core.Bool.{Bool, true, false, cond, ◌||◌}
use mathlib.Core.List.{List, [], ◌∷◌, ◌++◌}
use mathlib.Core.Logic.{◌⊎◌, inl, inr}
use Prim.Native.Nat.{ℕ, ◌-◌, ◌≤◌, ◌<◌}
use native.Mathlib.Omega.{arith}
use lib.Dec.{eqb, leb, lit≤}
use lib.ListN.{length}
use borrow.Author.Tests.{eq-eqb}
use Rattle.std.specs.Prelude.{None, Option}
use Rattle.test_laws.proofs.Test.{both}
use Rattle.byte_numbers.specs.Number.{bytes_of}
use Rattle.parameters.specs.Code.{reading_code}
use Rattle.frame.specs.Sealing.{framed}
use Rattle.parameters.specs.Table.{parameter_of, first_of}
use Rattle.parameters.specs.declared.code.Reading.{Reading}
use Rattle.parameters.specs.declared.code.Reading.TheVariants.{Stored, Displayed}
use Rattle.wire_values.specs.Clock.{date_time_bytes}
use Rattle.wire_values.specs.Displayed.{energies_bytes}
use Rattle.wire_values.specs.Mask.{mask_bytes}
use Rattle.wire_values.specs.Power.{total_of, power_bytes, powers_bytes}
use Rattle.wire_values.specs.Telemetry.{telemetry_bytes}
use Rattle.wire_values.specs.declared.power.Phases.{Phases}
use Rattle.slots.specs.Day.{slots_of}
use Rattle.slots.specs.Key.{is_legal}
use Rattle.slots.proofs.DayLaws.{slots-at-most}
use Rattle.request.specs.Request.{request_frame}
use Rattle.request.specs.Subject.{unused, is_phase, subject_of, subject_for, askable}
use Rattle.request.specs.declared.request.Request.{Request}
use Rattle.request.specs.declared.subject.Subject.{Subject}
use Rattle.meter_clock.specs.declared.season.SwitchDate.{SwitchDate}
use Rattle.meter_clock.specs.Season.{summer_date, winter_date}
use Rattle.meter_store.specs.Store.{key_of, slice_of, six_of, count_at, row_bytes, store_bytes}
use Rattle.meter_record.proofs.RangeLaws.{within}
use Rattle.meter_record.specs.Ranges.{is_within}
use Rattle.meter_record.specs.declared.record.Record.{Record}
use Rattle.meter_reply_data.specs.Reading.{phase, power_data, six_bytes, displayed_of, figures_as}
use Rattle.meter.specs.Reply.{is_sound}
use Rattle.claims.specs.Demand2Done.{BytesRequest}
use Rattle.claims.specs.Figures.{four_energies}
use Rattle.claims.specs.Wire.{Named, Gets, PowersRead, Reads, shown}
use Rattle.claims.proofs.Again.{bounds}
use Rattle.claims.proofs.Displayed.{displayed-own}
use Rattle.claims.proofs.Done.{read_done}
use Rattle.claims.proofs.Range.{hears-request}
use Rattle.claims.proofs.Replies.{passed, reply-is}
use Rattle.claims.proofs.Wire.{reply_body}

-- its own address or 0
pub named-either : (own a : ℕ) → (a ≡ own) ⊎ (a ≡ 0) → (eqb a 0 || eqb a own) ≡ true
named-either own a (inl e) = ap (λ (x : Bool). eqb a 0 || x) (eq-eqb a own e) ∙ or-true (eqb a 0)
  where
    or-true : (x : Bool) → (x || true) ≡ true
    or-true true = refl
    or-true false = refl
named-either own a (inr e) = ap (λ (x : Bool). x || eqb a own) (eq-eqb a 0 e)

module _ (r : Record) (s out : List ℕ) (a : ℕ) (n : Named r s out a) where
  abbrev asks : Reading → ℕ → ℕ → ℕ → ℕ → Request
  asks reading p o t d = record { reading = reading; address = a; parameter = p; offset = o; tariff = t; detail = d }

  -- one shape for all parameters: the data's bytes, and that they are the record's figures
  gets : (reading : Reading) (p o t d : ℕ) (bytes : List ℕ) → p < 256 → o < 256 → t < 256 → d < 256 → let q = asks reading p o t d in
      askable (subject_of q (slots_of r.minutes)) ≡ true → figures_as reading (parameter_of p) r s q ≡ bytes
      → Gets r s out (framed (a ∷ reading_code reading ∷ p ∷ o ∷ t ∷ d ∷ [])) (framed (a ∷ reading_code reading ∷ p ∷ 0 ∷ bytes))
  unfolding request_frame
  gets reading p o t d bytes pb ob tb db h e =
      let q = asks reading p o t d in
      let k : BytesRequest q = record { repeated = record { address = n.byte; parameter = pb }; offset = ob; tariff = tb; detail = db } in
      let hears = hears-request r q k (named-either r.address a n.by) in
      let z = read_done r s q out (record { room = n.room; sound = n.sound; hears = hears }) h in
      record { done = z; bytes = reply-is r s q out (passed r s (request_frame q) out z) ∙ ap (λ (bs : List ℕ). framed (reply_body q bs)) e }

  -- a parameter without fields, and a phase's power
  plain : (p detail : ℕ) (bytes : List ℕ) → p < 256 → detail < 256 → let q = asks Stored p 0 0 detail in
      askable (subject_of q (slots_of r.minutes)) ≡ true → figures_as Stored (parameter_of p) r s q ≡ bytes
      → Gets r s out (framed (a ∷ 3 ∷ p ∷ 0 ∷ 0 ∷ detail ∷ [])) (framed (a ∷ 3 ∷ p ∷ 0 ∷ bytes))
  plain p detail bytes b d h e = gets Stored p 0 0 detail bytes b (lit≤ tt) (lit≤ tt) d h e

  -- a slice, or six, by a key
  keyed : (reading : Reading) (p month day number slots : ℕ) (bytes : List ℕ) → p < 256 → slots ≤ 96 → is_legal (key_of month day number) slots ≡ true
      → let q = asks reading p month day number in askable (subject_of q (slots_of r.minutes)) ≡ true → figures_as reading (parameter_of p) r s q ≡ bytes
      → Gets r s out (framed (a ∷ reading_code reading ∷ p ∷ month ∷ day ∷ number ∷ [])) (framed (a ∷ reading_code reading ∷ p ∷ 0 ∷ bytes))
  keyed reading p month day number slots bytes b most legal h e =
      let k = bounds (key_of month day number) slots most legal in
      gets reading p month day number bytes b k.month k.day k.number h e

  powers : (p : ℕ) (x : Phases) → p < 256 → ((detail : ℕ) → figures_as Stored (parameter_of p) r s (asks Stored p 0 0 detail) ≡ power_data x detail)
      → ((detail : ℕ) → askable (subject_of (asks Stored p 0 0 detail) (slots_of r.minutes)) ≡ leb detail 3) → PowersRead r s out a p x
  unfolding power_data phase powers_bytes power_bytes total_of bytes_of
  powers p x b e h = record {
    all = plain p 0 _ b (lit≤ tt) (h 0) (e 0);
    phase_a = plain p 1 _ b (lit≤ tt) (h 1) (e 1);
    phase_b = plain p 2 _ b (lit≤ tt) (h 2) (e 2);
    phase_c = plain p 3 _ b (lit≤ tt) (h 3) (e 3);
  }

  by-detail : (b : Bool) (f : Option Subject) → askable f ≡ true → askable (cond b f None) ≡ b
  by-detail true f h = h
  by-detail false f h = refl

  active : PowersRead r s out a 8 r.active
  unfolding subject_of subject_for is_phase parameter_of first_of
  active = powers 8 r.active (lit≤ tt) (λ d. refl) (λ d. by-detail (leb d 3) _ refl)

  reactive : PowersRead r s out a 9 r.reactive
  unfolding subject_of subject_for is_phase parameter_of first_of
  reactive = powers 9 r.reactive (lit≤ tt) (λ d. refl) (λ d. by-detail (leb d 3) _ refl)

  shown-is : (row : List ℕ)
      → energies_bytes (displayed_of r row) ≡ shown r (count_at row 0) ++ shown r (count_at row 1) ++ shown r (count_at row 2) ++ shown r (count_at row 3)
  unfolding energies_bytes four_energies is_sound bytes_of
  shown-is row = ap energies_bytes (displayed-own r (within r (both (eqb (length s) store_bytes) (is_within r) n.sound).1) row)

  -- the wire's `reads`: each read in bytes, and the reply of a meter that it names in the record's figures
  pub reads : Reads r s out a
  unfolding subject_of subject_for unused parameter_of first_of telemetry_bytes mask_bytes date_time_bytes row_bytes six_bytes six_of bytes_of
  reads = record {
    active = active;
    reactive = reactive;
    address = plain 21 0 _ (lit≤ tt) (lit≤ tt) refl refl;
    telemetry = plain 24 0 _ (lit≤ tt) (lit≤ tt) refl refl;
    summer = λ e. plain 27 0 _ (lit≤ tt) (lit≤ tt) refl (ap (λ (c : SwitchDate). date_time_bytes (summer_date c r.time.clock.date.year)) e);
    summer_by_hand = λ t e. plain 27 0 _ (lit≤ tt) (lit≤ tt) refl (ap (λ (c : SwitchDate). date_time_bytes (summer_date c r.time.clock.date.year)) e);
    winter = λ e. plain 28 0 _ (lit≤ tt) (lit≤ tt) refl (ap (λ (c : SwitchDate). date_time_bytes (winter_date c r.time.clock.date.year)) e);
    winter_by_hand = λ t e. plain 28 0 _ (lit≤ tt) (lit≤ tt) refl (ap (λ (c : SwitchDate). date_time_bytes (winter_date c r.time.clock.date.year)) e);
    clock = plain 32 0 _ (lit≤ tt) (lit≤ tt) refl refl;
    mask = plain 35 0 _ (lit≤ tt) (lit≤ tt) refl refl;
    slices = λ month day number h. keyed Stored 36 month day number (slots_of r.minutes) _ (lit≤ tt) (slots-at-most r.minutes) h (simp h) refl;
    displayed = λ month day number h.
        keyed Displayed 36 month day number (slots_of r.minutes) _ (lit≤ tt) (slots-at-most r.minutes) h (simp h)
        (shown-is (slice_of s (key_of month day number)));
    six = λ month day number h.
        keyed Stored 40 month day number (slots_of r.minutes - 5) _ (lit≤ tt) (omega (arith, slots-at-most r.minutes)) h (simp h) refl;
  }
