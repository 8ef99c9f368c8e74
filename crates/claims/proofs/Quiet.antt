-- Demand 2, protection over seconds and frames: a second takes one of those left, a frame that renews nothing leaves them or shuts.
use mathlib.Core.Path.{◌≡◌, refl, sym, ap, ap₂, subst, ◌∙◌}
use mathlib.Core.Bool.{Bool, true, false, cond, not, ◌&&◌, false≢true}
use mathlib.Core.List.{List, [], ◌∷◌}
use Prim.Native.Nat.{ℕ, zero, suc, ◌-◌, ◌≤◌, ◌<◌}
use native.Mathlib.Omega.{arith}
use lib.Dec.{eqb, leb, ltb}
use lib.ListN.{length}
use borrow.Author.Tests.{eqb-true, eqb-false, lt-ltb, le-ltb, leb-true, leb-false, ltb-true, ltb-false}
use Rattle.test_laws.proofs.Test.{both}
use Rattle.parameters.specs.declared.code.Function.{Function}
use Rattle.parameters.specs.declared.code.Function.TheVariants as function
use Rattle.meter_clock.specs.Protection.{shut, opened, is_running, is_protection, quiet_second}
use Rattle.meter_clock.specs.declared.protection.Level.{Level}
use Rattle.meter_clock.specs.declared.protection.Level.TheVariants.{Shut, Auxiliary, Main}
use Rattle.meter_clock.specs.declared.protection.Protection.{Protection}
use Rattle.meter_store.specs.Store.{store_bytes}
use Rattle.meter_record.proofs.RangeLaws.{within, later-within}
use Rattle.meter_record.specs.Ranges.{is_within}
use Rattle.meter_record.specs.Record.{later, second_of}
use Rattle.meter_record.specs.declared.record.Record.{Record}
use Rattle.meter_command.specs.Judgement.{verdict_by}
use Rattle.meter_command.specs.Command.{function_in}
use Rattle.meter.specs.Reply.{is_sound, answer_of}
use Rattle.meter.proofs.KeepLaws.{answer-sound}
use Rattle.claims.specs.Demand1.{answer_number}
use Rattle.claims.specs.Demand2Second.{record_after, passing, Event, second, frame, after, seconds_in, none_of, renews, renews_or_locks}
use Rattle.claims.proofs.Changes.{read_changes_nothing, lock, refused-leaves, verdict-done}

-- ---- so many of the seconds left

quietly : ℕ → Protection → Protection
quietly n p = cond (ltb n p.left) (record { level = p.level; left = p.left - n }) shut

-- seconds of an open level are left, and none of a shut one
shut-only : (p : Protection) → is_protection p ≡ true → p.left ≤ 0 → p ≡ shut
unfolding is_protection is_running
shut-only p h z = go p.level refl
  where
    none : p.left ≡ 0
    none = omega (arith, z)

    go : (l : Level) → p.level ≡ l → p ≡ shut
    go Shut e = λ i. record { level = e i; left = none i }
    go Auxiliary e = absurd (omega (arith, z, leb-true 1 p.left (both (leb 1 p.left) (leb p.left 240) (rw e at h)).0))
    go Main e = absurd (omega (arith, z, leb-true 1 p.left (both (leb 1 p.left) (leb p.left 240) (rw e at h)).0))

most : (p : Protection) → is_protection p ≡ true → p.left ≤ 240
unfolding is_protection is_running
most p h = go p.level refl
  where
    go : (l : Level) → p.level ≡ l → p.left ≤ 240
    go Shut e = omega (arith, eqb-true p.left 0 (rw e at h))
    go Auxiliary e = leb-true p.left 240 (both (leb 1 p.left) (leb p.left 240) (rw e at h)).1
    go Main e = leb-true p.left 240 (both (leb 1 p.left) (leb p.left 240) (rw e at h)).1

none_yet : (p : Protection) → is_protection p ≡ true → p ≡ quietly 0 p
unfolding quietly
none_yet p h = go (ltb 0 p.left) refl
  where
    go : (b : Bool) → ltb 0 p.left ≡ b → p ≡ quietly 0 p
    go true e =
        let z : p.left ≡ p.left - 0 = omega arith in
        ap (λ (n : ℕ). record { level = p.level; left = n }) z ∙ simp e
    go false e = shut-only p h (ltb-false 0 p.left e) ∙ simp e

one_more : (n : ℕ) (p : Protection) → quietly n (quiet_second p) ≡ quietly (suc n) p
unfolding quietly quiet_second
one_more n p = go (leb p.left 1) refl
  where
    go : (b : Bool) → leb p.left 1 ≡ b → quietly n (quiet_second p) ≡ quietly (suc n) p
    go true e =
        let m = leb-true p.left 1 e in
        simp (e, le-ltb n 0 (omega arith), le-ltb (suc n) p.left (omega arith))
    go false e = simp e (less (ltb n (p.left - 1)) refl (leb-false p.left 1 e))
      where
        less : (c : Bool) → ltb n (p.left - 1) ≡ c → 1 < p.left
            → cond (ltb n (p.left - 1)) (record { level = p.level; left = p.left - 1 - n }) shut ≡ cond (ltb (suc n) p.left) (record { level = p.level; left = p.left - suc n }) shut
        less true f m =
            let k = ltb-true n (p.left - 1) f in
            let q : p.left - 1 - n ≡ p.left - suc n = omega arith in
            simp (f, lt-ltb (suc n) p.left (omega arith), q)
        less false f m =
            let k = ltb-false n (p.left - 1) f in
            simp (f, le-ltb (suc n) p.left (omega arith))

-- ---- seconds alone

after-second : (r : Record) → is_within r ≡ true → record_after (second_of r) r ≡ later r
unfolding second_of
after-second r e = simp e

protects : (r : Record) → is_within r ≡ true → is_protection r.protection ≡ true
protects r e = (within r e).protection

-- demand 2's `quiet`: so many seconds take so many from those left, and the last ends the level
pub quiet : (n : ℕ) (r : Record) → is_within r ≡ true → let p = r.protection in
    (passing n r).protection ≡ cond (ltb n p.left) (record { level = p.level; left = p.left - n }) shut
unfolding passing quietly later
quiet zero r e = none_yet r.protection (protects r e)
quiet (suc n) r e =
    ap (λ (x : Record). (passing n x).protection) (after-second r e)
    ∙ quiet n (later r) (later-within r e)
    ∙ one_more n r.protection

module _ (l : Level) (r : Record) (e : is_within r ≡ true) (p : r.protection ≡ opened l) where
  -- demand 2's `kept_239`, P10: 239 quiet seconds keep the level
  pub kept_239 : (passing 239 r).protection.level ≡ l
  kept_239 = ap (λ (x : Protection). x.level) (quiet 239 r e) ∙ ap (λ (x : Protection). (cond (ltb 239 x.left) (record { level = x.level; left = x.left - 239 }) shut).level) p

  -- demand 2's `ended_240`, P10: the 240th ends it
  pub ended_240 : (passing 240 r).protection ≡ shut
  ended_240 = quiet 240 r e ∙ ap (λ (x : Protection). cond (ltb 240 x.left) (record { level = x.level; left = x.left - 240 }) shut) p

-- ---- frames between

-- what holds of protection, and of protection restored where that is not among these functions, holds after a frame of which none is accepted
module _ (P : Protection → Type 0) (these : Function → Bool) (r : Record) (s f out : List ℕ) where
  abbrev number : ℕ
  number = answer_number (answer_of r s f out)

  abbrev left : Record
  left = (answer_of r s f out).answer.after

  by-frame : these function.Change ≡ true → these function.Zero ≡ true → these function.Unlock ≡ true → not (these (function_in f) && eqb number 0) ≡ true
      → P r.protection → (these function.Lock ≡ false → P shut) → P left.protection
  unfolding verdict_by
  by-frame change zeroing unlock n kept shuts = go (eqb number 0) refl (function_in f) refl
    where
      is_false : (b : Bool) → not (b && true) ≡ true → b ≡ false
      is_false true k = absurd (false≢true k)
      is_false false k = refl

      none : (fn : Function) → function_in f ≡ fn → eqb number 0 ≡ true → these fn ≡ false
      none fn e z = is_false (these fn) (ap₂ (λ (g : Function) (b : Bool). not (these g && b)) (sym e) (sym z) ∙ n)

      same : (x : Record) → left ≡ x → P x.protection → P left.protection
      same x e p = subst (λ (y : Record). P y.protection) (sym e) p

      go : (b : Bool) → eqb number 0 ≡ b → (fn : Function) → function_in f ≡ fn → P left.protection
      go false z fn e = same r (refused-leaves r s f out (eqb-false number 0 z)).after kept
      go true z function.Change e = absurd (false≢true (sym (none function.Change e z) ∙ change))
      go true z function.Zero e = absurd (false≢true (sym (none function.Zero e z) ∙ zeroing))
      go true z function.Unlock e = absurd (false≢true (sym (none function.Unlock e z) ∙ unlock))
      go true z function.Lock e = same _ (lock r s f out e (eqb-true number 0 z)).after (shuts (none function.Lock e z))
      go true z (function.Read reading) e = same r (read_changes_nothing reading r s f out e (eqb-true number 0 z)).after kept
      go true z function.Unknown e = absurd (false≢true (verdict-done r s f out function.Unknown e (eqb-true number 0 z)))

-- a second keeps a meter sound
sound-later : (r : Record) (s : List ℕ) → is_sound r s ≡ true → (is_within r ≡ true) × (is_sound (later r) s ≡ true)
unfolding is_sound
sound-later r s h =
    let a = both (eqb (length s) store_bytes) (is_within r) h in
    (a.1, ap₂ ◌&&◌ a.0 (later-within r a.1))

sound-protects : (r : Record) (s : List ℕ) → is_sound r s ≡ true → is_protection r.protection ≡ true
sound-protects r s h = protects r (sound-later r s h).0

-- what was quiet before the second's record is quiet for it
on : (these : Function → Bool) (r : Record) (s : List ℕ) (es : List Event) → is_sound r s ≡ true → none_of these (record_after (second_of r) r) s es ≡ true
    → none_of these (later r) s es ≡ true
on these r s es h n = ap (λ (x : Record). none_of these x s es) (sym (after-second r (sound-later r s h).0)) ∙ n

runs : (r : Record) (s : List ℕ) (es : List Event) → is_sound r s ≡ true → none_of renews_or_locks r s es ≡ true
    → (after r s es).protection ≡ quietly (seconds_in es) r.protection
unfolding after none_of seconds_in later
runs r s [] h n = none_yet r.protection (sound-protects r s h)
runs r s (second ∷ es) h n =
    let w = sound-later r s h in
    ap (λ (x : Record). (after x s es).protection) (after-second r w.0)
    ∙ runs (later r) s es w.1 (on renews_or_locks r s es h n)
    ∙ one_more (seconds_in es) r.protection
runs r s (frame f out ∷ es) h n =
    let o = answer_of r s f out in
    let b = both _ _ n in
    runs o.answer.after o.store es (answer-sound r s f out h) b.1
    ∙ ap (quietly (seconds_in es))
    (by-frame (λ (p : Protection). p ≡ r.protection) renews_or_locks r s f out refl refl refl b.0 refl (λ k. absurd (false≢true (sym k))))

-- demand 2's `until_then`: protection does not return before the seconds left are over, unless a frame restores it
pub until_then : (r : Record) (s : List ℕ) (es : List Event) → is_sound r s ≡ true → none_of renews_or_locks r s es ≡ true → seconds_in es < r.protection.left
    → (after r s es).protection ≡ record { level = r.protection.level; left = r.protection.left - seconds_in es }
unfolding quietly
until_then r s es h n l = runs r s es h n ∙ simp (lt-ltb (seconds_in es) r.protection.left l)

one_less : (p : Protection) (n : ℕ) → p.left ≤ suc n → (quiet_second p).left ≤ n
unfolding quiet_second
one_less p n h = go (leb p.left 1) refl
  where
    go : (b : Bool) → leb p.left 1 ≡ b → (cond b shut (record { level = p.level; left = p.left - 1 })).left ≤ n
    go true e = omega arith
    go false e = omega (arith, h, leb-false p.left 1 e)

ends : (r : Record) (s : List ℕ) (es : List Event) → is_sound r s ≡ true → none_of renews r s es ≡ true → r.protection.left ≤ seconds_in es
    → (after r s es).protection ≡ shut
unfolding after none_of seconds_in later
ends r s [] h n l = shut-only r.protection (sound-protects r s h) l
ends r s (second ∷ es) h n l =
    let w = sound-later r s h in
    ap (λ (x : Record). (after x s es).protection) (after-second r w.0)
    ∙ ends (later r) s es w.1 (on renews r s es h n) (one_less r.protection (seconds_in es) l)
ends r s (frame f out ∷ es) h n l =
    let o = answer_of r s f out in
    let b = both _ _ n in
    ends o.answer.after o.store es (answer-sound r s f out h) b.1
    (by-frame (λ (p : Protection). p.left ≤ seconds_in es) renews r s f out refl refl refl b.0 l (λ k. omega arith))

-- demand 2's `returns`: after 240 seconds without an accepted change, zeroing or password it has returned, whatever else came
pub returns : (r : Record) (s : List ℕ) (es : List Event) → is_sound r s ≡ true → none_of renews r s es ≡ true → 240 ≤ seconds_in es
    → (after r s es).protection ≡ shut
returns r s es h n l =
    let m = most r.protection (sound-protects r s h) in
    ends r s es h n (omega (arith, m, l))
