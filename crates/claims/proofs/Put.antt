-- Demand 2, slices that are put: a put writes one place, that of its key or the one in turn; a slice's own place comes in turn again after all the others.
use mathlib.Core.Path.{◌≡◌, refl, sym, ap, ◌∙◌}
use mathlib.Core.Bool.{Bool, true, false, cond, not, ◌&&◌, false≢true}
use mathlib.Core.List.{List, [], ◌∷◌}
use Prim.Native.Nat.{ℕ, suc, ◌+◌, ◌-◌, ◌≤◌, ◌<◌}
use native.Mathlib.Omega.{arith}
use lib.Dec.{eqb, ltb, lit≤}
use lib.ListN.{length}
use borrow.Author.Tests.{eqb-true, eqb-false, lt-ltb, le-ltb, ltb-true, ltb-false}
use Rattle.std.specs.Prelude.{Ok, Result}
use Rattle.test_laws.proofs.Test.{both, either}
use Rattle.slots.specs.Day.{slots_of}
use Rattle.slots.proofs.DayLaws.{slots-at-most}
use Rattle.slots.specs.Key.{is_legal}
use Rattle.slots.specs.declared.key.Key.{Key}
use Rattle.reader.specs.declared.reply.Decoded.TheVariants as decoded
use Rattle.meter_store.specs.Store.{places, store_bytes, key_at, same_key, first_from, place_of, is_kept, slice_of, count_at, put_place, put_store, put_next}
use Rattle.meter_store.proofs.FindLaws.{first-has, first-before}
use Rattle.meter_store.proofs.StoreLaws.{put-then-read, put-keeps-others, key-there, key-elsewhere, put-in-range}
use Rattle.meter_record.proofs.RangeLaws.{within}
use Rattle.meter_record.specs.Ranges.{is_within}
use Rattle.meter_record.specs.With.{with_next}
use Rattle.meter_record.specs.declared.record.Record.{Record}
use Rattle.meter_record.specs.declared.record.RecordError.{RecordError}
use Rattle.meter.specs.Bench.{slice_put}
use Rattle.meter.specs.Reply.{is_sound}
use Rattle.meter.proofs.KeepLaws.{hands_back, put-sound}
use Rattle.claims.specs.Demand2Again.{slice_read}
use Rattle.claims.specs.Demand2Put.{Slice, Meter, put_all, none_has, Fits, slice_back}
use Rattle.claims.specs.Demand2Second.{record_after}
use Rattle.claims.specs.Figures.{four_counts}
use Rattle.claims.proofs.Again.{own, slice-bytes, slice-askable, slice-figures, put_is}
use Rattle.claims.proofs.Second.{missed}

-- ---- keys

same_key_lem : (a b : Key) → same_key a b ≡ true → a ≡ b
unfolding same_key
same_key_lem a b h =
    let x = both (eqb a.month b.month && eqb a.day b.day) (eqb a.number b.number) h in
    let y = both (eqb a.month b.month) (eqb a.day b.day) x.0 in
    let m = eqb-true a.month b.month y.0 in
    let d = eqb-true a.day b.day y.1 in
    let n = eqb-true a.number b.number x.1 in
    λ i. record { month = m i; day = d i; number = n i }

differs : (a b : Key) → (a ≡ b → ⊥) → same_key a b ≡ false
differs a b n = missed (same_key a b) (λ e. n (same_key_lem a b e))

-- the place that a put writes has another key than j, if the one in turn has, where it is put there
free : (s : List ℕ) (next : ℕ) (k j : Key) → same_key k j ≡ false → (is_kept s k ≡ false → same_key (key_at s next) j ≡ false)
    → same_key (key_at s (put_place s next k)) j ≡ false
unfolding put_place is_kept place_of
free s next k j d n = go (ltb (first_from s k 0 places) places) refl
  where
    go : (b : Bool) → ltb (first_from s k 0 places) places ≡ b → same_key (key_at s (cond b (first_from s k 0 places) next)) j ≡ false
    go true e =
        let own = same_key_lem (key_at s (first_from s k 0 places)) k (first-has s k 0 places (ltb-true (first_from s k 0 places) places e)) in
        ap (λ (x : Key). same_key x j) own ∙ d
    go false e = n e

-- ---- a sound meter's slice, as it is read

slice-read : (m : Meter) (k : Key) (row room : List ℕ) → Fits m → is_sound m.kept m.store ≡ true → is_legal k (slots_of m.kept.minutes) ≡ true
    → 64 ≤ length room → slice_of m.store k ≡ row → slice_back m k room ≡ Ok (decoded.Slice (four_counts row))
slice-read m k row room f sound legal space e =
    let r = m.kept in
    let slots = slots_of r.minutes in
    own r m.store (slice_read r 36 k) room f.numbers f.bytes (slice-bytes r 36 k slots f.numbers (lit≤ tt) (slots-at-most r.minutes) legal) space sound
    refl (slice-askable r k slots legal)
    ∙ slice-figures r m.store k row e

record Whole (r : Record) (s : List ℕ) : Type 0 where
  long : length s ≡ store_bytes
  next : r.next < places

whole : (r : Record) (s : List ℕ) → is_sound r s ≡ true → Whole r s
unfolding is_sound
whole r s h =
    let a = both (eqb (length s) store_bytes) (is_within r) h in
    record { long = eqb-true (length s) store_bytes a.0; next = ltb-true r.next places (within r a.1).next }

-- demand 2's `others_stay`: a slice of another key reads as before, but for the one in the place in turn
pub others_stay : (m : Meter) (x : Record) (k j : Key) (row room : List ℕ) → let o = slice_put m.kept m.store k row in let n : Meter = record { kept = x; store = o.left } in
    o.result ≡ Ok x → Fits m → Fits n → is_legal j (slots_of m.kept.minutes) ≡ true → (j ≡ k → ⊥)
    → (is_kept m.store k ≡ false → key_at m.store m.kept.next ≡ j → ⊥) → 64 ≤ length room → slice_back n j room ≡ slice_back m j room
others_stay m x k j row room h f g legal d n space =
    let r = m.kept in
    let s = m.store in
    let o = slice_put r s k row in
    let p = put_is r x s k row h in
    let w = whole r s p.sound in
    let other = differs k j (λ e. d (sym e)) in
    let place = free s r.next k j other (λ e. differs (key_at s r.next) j (n e)) in
    let same : slice_of o.left j ≡ slice_of s j = ap (λ (t : List ℕ). slice_of t j) p.left ∙ put-keeps-others s r.next k j row w.long w.next other place in
    let sound : is_sound x o.left ≡ true = ap (λ (z : Result Record RecordError). hands_back z o.left) (sym h) ∙ put-sound r s k row in
    let still : is_legal j (slots_of x.minutes) ≡ true = ap (λ (i : ℕ). is_legal j (slots_of i)) p.after ∙ legal in
    slice-read (record { kept = x; store = o.left }) j (slice_of s j) room g sound still space same
    ∙ sym (slice-read m j (slice_of s j) room f p.sound legal space refl)

-- ---- a slice lasts until its place comes in turn again

-- how many places come in turn before place p, from the next one on
turns : ℕ → ℕ → ℕ
turns next p = cond (ltb p next) (p + places - next) (p - next)

-- the slice stands at place p alone, which n puts do not reach
record Stays (k : Key) (row : List ℕ) (p n : ℕ) (m : Meter) : Type 0 where
  sound : is_sound m.kept m.store ≡ true
  legal : is_legal k (slots_of m.kept.minutes) ≡ true
  there : slice_of m.store k ≡ row
  only : (i : ℕ) → same_key (key_at m.store i) k ≡ true → i < places → i ≡ p
  ahead : n ≤ turns m.kept.next p

abbrev put : Meter → Slice → Meter
put m q = let o = slice_put m.kept m.store q.key q.counts in record { kept = record_after o.result m.kept; store = o.left }

abbrev putting : Meter → Slice → Meter
putting m q =
    let r = m.kept in
    record { kept = with_next r (put_next m.store r.next q.key); store = put_store m.store r.next q.key q.counts }

put-ways : (P : Meter → Type 0) (m : Meter) (q : Slice) → is_sound m.kept m.store ≡ true → P m
    → (is_sound (putting m q).kept (putting m q).store ≡ true → P (putting m q)) → P (put m q)
unfolding slice_put
put-ways P m q sound same new = go (is_legal q.key (slots_of m.kept.minutes)) refl
  where
    go : (b : Bool) → is_legal q.key (slots_of m.kept.minutes) ≡ b → P (put m q)
    go true e = simp (sound, e) (new (simp (sound, e) at (put-sound m.kept m.store q.key q.counts)))
    go false e = simp (sound, e) same

-- a turn
turn : (next p n : ℕ) → p < places → next < places → suc n ≤ turns next p → n ≤ turns (cond (ltb (next + 1) places) (next + 1) 0) p
unfolding turns
turn next p n hp hn l = go (ltb p next) refl (ltb (next + 1) places) refl l
  where
    go : (a : Bool) → ltb p next ≡ a → (b : Bool) → ltb (next + 1) places ≡ b → suc n ≤ cond a (p + places - next) (p - next)
        → n ≤ turns (cond b (next + 1) 0) p
    go true e true f l = simp (lt-ltb p (next + 1) (omega (arith, ltb-true p next e))) (omega (arith, l, ltb-true (next + 1) places f))
    go true e false f l = simp (le-ltb p 0 (omega arith)) (omega (arith, l, ltb-false (next + 1) places f, hn))
    go false e true f l = simp (le-ltb p (next + 1) (omega (arith, l))) (omega (arith, l))
    go false e false f l = absurd (omega (arith, l, ltb-false (next + 1) places f, hp))

not_yet : (next p n : ℕ) → suc n ≤ turns next p → next ≡ p → ⊥
unfolding turns
not_yet next p n l e = go (ltb p next) refl l
  where
    go : (a : Bool) → ltb p next ≡ a → suc n ≤ cond a (p + places - next) (p - next) → ⊥
    go true f l = omega (arith, e, ltb-true p next f)
    go false f l = omega (arith, e, l)

-- what a put of another key leaves of it
module _ (k : Key) (row : List ℕ) (p n : ℕ) (hp : p < places) (m : Meter) (q : Slice) (d : same_key q.key k ≡ false) (z : Stays k row p (suc n) m) where
  abbrev s : List ℕ
  s = m.store

  abbrev next : ℕ
  next = m.kept.next

  w : Whole m.kept s
  w = whole m.kept s z.sound

  abbrev at : ℕ
  at = put_place s next q.key

  other_place : same_key (key_at s at) k ≡ false
  other_place =
      free s next q.key k d (λ e. missed (same_key (key_at s next) k) (λ h. not_yet next p n z.ahead (z.only next h w.next)))

  still-only : (i : ℕ) → same_key (key_at (putting m q).store i) k ≡ true → i < places → i ≡ p
  unfolding put_store
  still-only i h l = go (eqb at i) refl
    where
      go : (b : Bool) → eqb at i ≡ b → i ≡ p
      go true e =
          let new = key-there s q.key q.counts at w.long (put-in-range s next q.key w.next) in
          let same : same_key (key_at (putting m q).store at) k ≡ true = ap (λ (x : ℕ). same_key (key_at (putting m q).store x) k) (eqb-true at i e) ∙ h in
          absurd (false≢true (sym d ∙ ap (λ (x : Key). same_key x k) (sym new) ∙ same))
      go false e = z.only i (ap (λ (x : Key). same_key x k) (sym (key-elsewhere s q.key q.counts at i (eqb-false at i e))) ∙ h) l

  still-ahead : n ≤ turns (put_next s next q.key) p
  unfolding put_next
  still-ahead =
      either (λ (x : ℕ). n ≤ turns x p) (is_kept s q.key) (omega (arith, z.ahead)) (turn next p n hp w.next z.ahead)

  step : Stays k row p n (put m q)
  step =
      put-ways (Stays k row p n) m q z.sound
      (record { sound = z.sound; legal = z.legal; there = z.there; only = z.only; ahead = omega (arith, z.ahead) })
      (λ sound. record {
        sound = sound;
        legal = z.legal;
        there = put-keeps-others s next q.key k q.counts w.long w.next d other_place ∙ z.there;
        only = still-only;
        ahead = still-ahead;
      })

all : (k : Key) (row : List ℕ) (p : ℕ) → p < places → (m : Meter) (ps : List Slice) → none_has k ps ≡ true → Stays k row p (length ps) m
    → Stays k row p 0 (put_all m ps)
unfolding put_all none_has
all k row p hp m [] n z = z
all k row p hp m (q ∷ ps) n z =
    let b = both _ _ n in
    all k row p hp (put m q) ps b.1 (step k row p (length ps) hp m q (is_false (same_key q.key k) b.0) z)
  where
    is_false : (b : Bool) → not b ≡ true → b ≡ false
    is_false true k = absurd (false≢true k)
    is_false false k = refl

-- a slice that was not there stands in the place that was in turn, and all others come before it again
module _ (m : Meter) (q : Slice) (sound : is_sound m.kept m.store ≡ true) (legal : is_legal q.key (slots_of m.kept.minutes) ≡ true)
    (absent : is_kept m.store q.key ≡ false) (four : length q.counts ≡ 4) (below : (i : ℕ) → count_at q.counts i < 65536) where
  abbrev here : ℕ
  here = m.kept.next

  put-here : put_place m.store here q.key ≡ here
  unfolding put_place
  put-here = simp absent

  none_before : (i : ℕ) → i < places → same_key (key_at m.store i) q.key ≡ false
  unfolding is_kept place_of
  none_before i l =
      let e = ltb-false (first_from m.store q.key 0 places) places absent in
      first-before m.store q.key 0 places i (omega arith) (omega (arith, e, l))

  only_here : (i : ℕ) → same_key (key_at (putting m q).store i) q.key ≡ true → i < places → i ≡ here
  unfolding put_store
  only_here i h l = go (eqb (put_place m.store here q.key) i) refl
    where
      go : (b : Bool) → eqb (put_place m.store here q.key) i ≡ b → i ≡ here
      go true e = sym (eqb-true (put_place m.store here q.key) i e) ∙ put-here
      go false e =
          let kept = key-elsewhere m.store q.key q.counts (put_place m.store here q.key) i (eqb-false (put_place m.store here q.key) i e) in
          absurd (false≢true (sym (none_before i l) ∙ ap (λ (x : Key). same_key x q.key) (sym kept) ∙ h))

  all_others : 2975 ≤ turns (put_next m.store here q.key) here
  unfolding put_next turns
  all_others = simp absent (go (ltb (here + 1) places) refl)
    where
      go : (b : Bool) → ltb (here + 1) places ≡ b → 2975 ≤ turns (cond b (here + 1) 0) here
      go true e = simp (lt-ltb here (here + 1) (omega arith)) (omega (arith, ltb-true (here + 1) places e))
      go false e = simp (le-ltb here 0 (omega arith)) (omega (arith, ltb-false (here + 1) places e))

  first : Stays q.key q.counts here 2975 (put m q)
  unfolding slice_put
  first =
      simp (sound, legal)
      (record {
        sound = simp (sound, legal) at (put-sound m.kept m.store q.key q.counts);
        legal = legal;
        there = put-then-read m.store here q.key q.counts (whole m.kept m.store sound).long (whole m.kept m.store sound).next (record { four = four; below = below });
        only = only_here;
        ahead = all_others;
      })

  -- demand 2's `lasts`: a slice that was not there is still read after fewer than 2,976 others
  pub lasts : (ps : List Slice) (room : List ℕ) → none_has q.key ps ≡ true → length ps < 2976
      → let n = put_all m (q ∷ ps) in Fits n → 64 ≤ length room → slice_back n q.key room ≡ Ok (decoded.Slice (four_counts q.counts))
  unfolding put_all
  lasts ps room none l fits space =
      let f = first in
      let z = all q.key q.counts here (whole m.kept m.store sound).next (put m q) ps none
      (record { sound = f.sound; legal = f.legal; there = f.there; only = f.only; ahead = omega (arith, f.ahead, l) }) in
      slice-read (put_all m (q ∷ ps)) q.key q.counts room fits z.sound z.legal space z.there
