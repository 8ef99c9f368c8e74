-- What a record within its ranges keeps to, part by part, and that the bench's own calls keep it so.
use Rattle.std.specs.Prelude.{Err, Ok, Result}
use Rattle.meter_record.specs.declared.record.RecordError.{RecordError}
use mathlib.Core.Path.{◌≡◌, refl, ap₂}
use mathlib.Core.Bool.{Bool, true, false, ◌&&◌}
use Prim.Native.Nat.{ℕ}
use lib.Dec.{eqb, leb, ltb}
use Rattle.test_laws.proofs.Test.{both}
use Rattle.calendar.specs.declared.time.DateTime.{DateTime}
use Rattle.wire_values.specs.declared.mask.DisplayMask.{DisplayMask}
use Rattle.wire_values.specs.declared.power.Phases.{Phases}
use Rattle.wire_values.specs.declared.telemetry.Telemetry.{Telemetry}
use Rattle.meter_clock.specs.Protection.{is_protection}
use Rattle.meter_clock.specs.Season.{is_fitting}
use Rattle.meter_clock.proofs.SecondLaws.{quiet-fits, next_fits}
use Rattle.meter_clock.specs.declared.protection.Protection.{Protection}
use Rattle.meter_clock.specs.declared.season.Season.{Season}
use Rattle.meter_clock.specs.declared.season.Time.{Time}
use Rattle.slots.specs.Day.{is_minutes}
use Rattle.meter_store.specs.Store.{places}
use Rattle.meter_record.specs.Power.{are_powers}
use Rattle.meter_record.specs.Ranges.{is_telemetry, settings_right, bench_right, is_within}
use Rattle.meter_record.specs.Ratios.{are_ratios}
use Rattle.meter_record.specs.declared.record.Ratios.{Ratios}
use Rattle.meter_record.specs.Record.{later, second_of, made, fresh, with_powers, powers_set, set_powers, with_ratios, set_ratios}
use Rattle.meter_record.specs.With.{remade}
use Rattle.meter_record.specs.declared.record.Passwords.{Passwords}
use Rattle.meter_record.specs.declared.record.Record.{Record}
use Rattle.meter_record.specs.declared.record.RecordError.TheVariants.{OutOfRange, Unsound}

-- every part of a record is in its range
pub record Within (r : Record) : Type 0 where
  pub address : leb 1 r.address ≡ true
  pub protection : is_protection r.protection ≡ true
  pub time : is_fitting r.time ≡ true
  pub telemetry : is_telemetry r.telemetry ≡ true
  pub minutes : is_minutes r.minutes ≡ true
  pub next : ltb r.next places ≡ true
  pub active : are_powers r.active ≡ true
  pub reactive : are_powers r.reactive ≡ true
  pub ratios : are_ratios r.ratios ≡ true

-- the test of a record tells this of each part
pub within : (r : Record) → is_within r ≡ true → Within r
unfolding is_within settings_right bench_right
within r h =
    let k = both (leb 1 r.address && settings_right r && bench_right r) (are_ratios r.ratios) h in
    let a = both (leb 1 r.address && settings_right r) (bench_right r) k.0 in
    let b = both (leb 1 r.address) (settings_right r) a.0 in
    let s = both (is_protection r.protection && is_fitting r.time) (is_telemetry r.telemetry) b.1 in
    let t = both (is_protection r.protection) (is_fitting r.time) s.0 in
    let w = both (is_minutes r.minutes && ltb r.next places && are_powers r.active) (are_powers r.reactive) a.1 in
    let x = both (is_minutes r.minutes && ltb r.next places) (are_powers r.active) w.0 in
    let y = both (is_minutes r.minutes) (ltb r.next places) x.0 in
    record {
      address = b.0;
      protection = t.0;
      time = t.1;
      telemetry = s.1;
      minutes = y.0;
      next = y.1;
      active = x.1;
      reactive = w.1;
      ratios = k.1;
    }

-- and parts that are all in their ranges pass the test
pub is_within_lem : (r : Record) → Within r → is_within r ≡ true
unfolding is_within settings_right bench_right
is_within_lem r w =
    let settings = ap₂ ◌&&◌ (ap₂ ◌&&◌ w.protection w.time) w.telemetry in
    let bench = ap₂ ◌&&◌ (ap₂ ◌&&◌ (ap₂ ◌&&◌ w.minutes w.next) w.active) w.reactive in
    ap₂ ◌&&◌ (ap₂ ◌&&◌ (ap₂ ◌&&◌ w.address settings) bench) w.ratios

-- a record of which what a command can change was changed within the ranges
pub remade-within : (r : Record) (a : ℕ) (p : Protection) (k : Passwords) (t : Time) (y : Telemetry) (m : DisplayMask) (n : ℕ) → Within r
    → leb 1 a ≡ true → is_protection p ≡ true → is_fitting t ≡ true → is_telemetry y ≡ true → ltb n places ≡ true
    → Within (remade r a p k t y m n)
remade-within r a p k t y m n w address protection time telemetry next = record {
  address = address;
  protection = protection;
  time = time;
  telemetry = telemetry;
  minutes = w.minutes;
  next = next;
  active = w.active;
  reactive = w.reactive;
  ratios = w.ratios;
}

-- a second keeps a record within its ranges
pub later-within : (r : Record) → is_within r ≡ true → is_within (later r) ≡ true
unfolding later
later-within r h =
    let w = within r h in
    is_within_lem (later r)
    (remade-within r r.address _ r.passwords _ r.telemetry r.mask r.next w
    w.address (quiet-fits r.protection w.protection) (next_fits r.time w.time) w.telemetry w.next)

-- ---- what a bench call that is done hands back is within its ranges

-- whether a record that a bench call hands back is within its ranges; a refused call hands back none
abbrev pub hands_back : Result Record RecordError → Bool
hands_back (Ok r) = is_within r
hands_back (Err OutOfRange) = true
hands_back (Err Unsound) = true

-- a meter that is made is within its ranges
pub made-within : (address minutes : ℕ) (t : Telemetry) (c : DateTime) (s : Season) → hands_back (made address minutes t c s) ≡ true
unfolding made
made-within address minutes t c s = go (is_within (fresh address minutes t c s)) refl
  where
    go : (b : Bool) → is_within (fresh address minutes t c s) ≡ b → hands_back (made address minutes t c s) ≡ true
    go true e = simp e
    go false e = simp e

-- the record a second later is, too
pub second-within : (r : Record) → hands_back (second_of r) ≡ true
unfolding second_of
second-within r = go (is_within r) refl
  where
    go : (b : Bool) → is_within r ≡ b → hands_back (second_of r) ≡ true
    go true e = simp e (later-within r e)
    go false e = simp e

powers-kept : (r : Record) (a b : Phases) → Within r → are_powers a ≡ true → are_powers b ≡ true → is_within (with_powers r a b) ≡ true
powers-kept r a b w p q =
    is_within_lem (with_powers r a b) (record {
      address = w.address;
      protection = w.protection;
      time = w.time;
      telemetry = w.telemetry;
      minutes = w.minutes;
      next = w.next;
      active = p;
      reactive = q;
      ratios = w.ratios;
    })

-- setting powers keeps the record within its ranges
pub powers-within : (r : Record) (n : ℕ) (p : Phases) → hands_back (set_powers r n p) ≡ true
unfolding set_powers powers_set
powers-within r n p = go (is_within r) refl (are_powers p) refl (eqb n 8) refl (eqb n 9) refl
  where
    go : (a : Bool) → is_within r ≡ a → (b : Bool) → are_powers p ≡ b → (c : Bool) → eqb n 8 ≡ c → (d : Bool) → eqb n 9 ≡ d
        → hands_back (set_powers r n p) ≡ true
    go false e b f c g d h = simp e
    go true e false f c g d h = simp (e, f)
    go true e true f true g d h = simp (e, f, g) (powers-kept r p r.reactive (within r e) f (within r e).reactive)
    go true e true f false g true h = simp (e, f, g, h) (powers-kept r r.active p (within r e) (within r e).active f)
    go true e true f false g false h = simp (e, f, g, h)

ratios-kept : (r : Record) (k : Ratios) → Within r → are_ratios k ≡ true → is_within (with_ratios r k) ≡ true
ratios-kept r k w h =
    is_within_lem (with_ratios r k) (record {
      address = w.address;
      protection = w.protection;
      time = w.time;
      telemetry = w.telemetry;
      minutes = w.minutes;
      next = w.next;
      active = w.active;
      reactive = w.reactive;
      ratios = h;
    })

-- setting the ratios keeps the record within its ranges
pub ratios-within : (r : Record) (k : Ratios) → hands_back (set_ratios r k) ≡ true
unfolding set_ratios
ratios-within r k = go (is_within r) refl (are_ratios k) refl
  where
    go : (a : Bool) → is_within r ≡ a → (b : Bool) → are_ratios k ≡ b → hands_back (set_ratios r k) ≡ true
    go false e b f = simp e
    go true e false f = simp (e, f)
    go true e true f = simp (e, f) (ratios-kept r k (within r e) f)
