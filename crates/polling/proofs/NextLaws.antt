-- What the interval asked for next is, that it is one of the log's, and that there is none where none is found.
use Rattle.std.specs.Prelude.{None, Option, Some}
use Rattle.std.specs.Option.{MatchOption}
use Rattle.log_cell.specs.declared.cell.Cell.{Cell}
use Prim.Native.Nat.{ℕ, zero, suc, ◌+◌, ◌*◌, ◌-◌, ◌<◌, ◌≤◌}
use native.Mathlib.Omega.{arith}
use mathlib.Core.Path.{◌≡◌, refl, sym, ap, ap₂, ◌∙◌}
use mathlib.Core.Bool.{Bool, true, false, cond, ◌&&◌, false≢true}
use mathlib.Core.List.{List, ◌∷◌}
use lib.Dec.{ltb}
use lib.Arith.{digits_mod}
use lib.ListN.{drop, drop_of_length-le}
use lib.Seq.{drop-cons}
use borrow.Author.Tests.{ltb-true, ltb-false, lt-ltb}
use Rattle.slots.specs.Day.{slots_of}
use Rattle.slots.proofs.DayLaws.{slots_most, slots-at-most}
use Rattle.log_header.specs.Header.{if_sound}
use Rattle.log_header.specs.Interval.{interval_of, if_at, exists}
use Rattle.log_header.proofs.IntervalLaws.{InLog, in-log, interval-at, exists-index}
use Rattle.energy_log.specs.Walk.{Place, place_at, day_walk}
use Rattle.energy_log.proofs.WalkLaws.{length_seen, seen_at}
use Rattle.energy_log.specs.View.{View}
use Rattle.log_header.specs.declared.header.Header.{Header}
use Rattle.log_cell.specs.declared.cell.Cell.TheVariants.{Gap, Empty, Measured}
use Rattle.polling.specs.Next.{is_wanted, asks_for, asks_at, first_asked, next_in, next_wanted}
use Rattle.polling.specs.declared.next.Wanted.{Wanted}
use Rattle.polling.specs.declared.next.Wanted.TheVariants.{Gaps}

-- of the gaps alone, what is wanted is one
pub gap_is : (c : Option Cell) → is_wanted Gaps c ≡ true → c ≡ Some Gap
unfolding is_wanted
gap_is (Some Gap) e = refl
gap_is (Some Empty) e = absurd (false≢true e)
gap_is (Some (Measured a b c d)) e = absurd (false≢true e)
gap_is None e = absurd (false≢true e)

-- ---- the walk's turns

module _ (w : Wanted) (h : Header) (cell : ℕ → Option Cell) (d : ℕ) where
  abbrev slots : ℕ
  slots = slots_of h.minutes

  abbrev seen : ℕ → Place
  seen k = place_at h cell (λ i. 0) (d * slots + k)

  -- a day outside the log has no slot that is asked for
  pub none-outside : (k : ℕ) → ltb d h.days ≡ false → asks_for w h cell d k ≡ false
  unfolding asks_for interval_of
  none-outside k e = rw e refl

  -- the place of a day's slot is asked for where the slot is
  pub place-asks : (k : ℕ) → k < slots → ltb d h.days ≡ true → asks_at w (seen k) ≡ asks_for w h cell d k
  unfolding asks_for interval_of
  place-asks k l e = ap (λ (b : Bool). b && is_wanted w (cell (d * slots + k))) (exists-index h d k l) ∙ go (exists h d k) refl
    where
      go : (b : Bool) → exists h d k ≡ b
          → (b && is_wanted w (cell (d * slots + k))) ≡ if_at (cond (ltb d h.days && ltb k slots && exists h d k) (Some (d * slots + k)) None) false (λ i. is_wanted w (cell i))
      go true q = simp (e, lt-ltb k slots l, q)
      go false q = simp (e, lt-ltb k slots l, q)

  -- the places from slot k on are its own and those from the next one on
  places-from : (k : ℕ) → k < slots → drop k (day_walk h cell d) ≡ seen k ∷ drop (k + 1) (day_walk h cell d)
  places-from k l =
      let size = length_seen (place_at h cell (λ i. 0)) slots (d * slots) in
      let e : suc k ≡ k + 1 = omega arith in
      drop-cons (day_walk h cell d) k (seen 0) (omega (arith, size))
      ∙ ap₂ (λ (p : Place) (m : ℕ). p ∷ drop m (day_walk h cell d)) (seen_at (place_at h cell (λ i. 0)) (seen 0) slots (d * slots) k l) e

  turn : (k : ℕ) → k < slots → next_in w h cell d k ≡ cond (asks_for w h cell d k) (Some k) (next_in w h cell d (k + 1))
  unfolding next_in first_asked
  turn k l = go (ltb d h.days) refl
    where
      go : (b : Bool) → ltb d h.days ≡ b
          → cond b (first_asked w (drop k (day_walk h cell d))) None
          ≡ cond (asks_for w h cell d k) (Some k) (cond b (first_asked w (drop (k + 1) (day_walk h cell d))) None)
      go true e =
          ap (first_asked w) (places-from k l)
          ∙ ap₂ (λ (b : Bool) (s : ℕ). cond b (Some s) (first_asked w (drop (k + 1) (day_walk h cell d)))) (place-asks k l e) (digits_mod d l)
      go false e = sym (ap (λ (b : Bool). cond b (Some k) None) (none-outside k e))

  module _ (k : ℕ) (l : k < slots) where
    -- for the loop: a slot that is asked for is the one found
    pub walk-stops : asks_for w h cell d k ≡ true → next_in w h cell d k ≡ Some k
    walk-stops e = turn k l ∙ simp e

    -- for the loop: a slot that is not asked for is passed, and the rest is as before
    pub walk-on : asks_for w h cell d k ≡ false → next_in w h cell d (k + 1) ≡ next_in w h cell d k
    walk-on e = sym (turn k l ∙ simp e)

  -- for the loop: past the day's last slot nothing is found
  pub walk_ends : (k : ℕ) → slots ≤ k → next_in w h cell d k ≡ None
  unfolding next_in first_asked
  walk_ends k l =
      let size = length_seen (place_at h cell (λ i. 0)) slots (d * slots) in
      ap (λ (ps : List Place). cond (ltb d h.days) (first_asked w ps) None) (drop_of_length-le (day_walk h cell d) {i = k} (omega (arith, size)))
      ∙ go (ltb d h.days)
    where
      go : (b : Bool) → cond {A = Option ℕ} b None None ≡ None
      go true = refl
      go false = refl

  -- a run of slots that are not asked for is passed
  passed-run : (n k : ℕ) → k + n ≤ slots → ((i : ℕ) → k ≤ i → i < k + n → asks_for w h cell d i ≡ false) → next_in w h cell d (k + n) ≡ next_in w h cell d k
  passed-run zero k l none = let e : k + 0 ≡ k = omega arith in ap (next_in w h cell d) e
  passed-run (suc n) k l none =
      let e : k + suc n ≡ k + 1 + n = omega arith in
      ap (next_in w h cell d) e
      ∙ passed-run n (k + 1) (omega arith) (λ i a b. none i (omega arith) (omega arith))
      ∙ walk-on k (omega arith) (none k (omega arith) (omega arith))

  -- for the search: the first slot from k on that is asked for is the one found, and without one there is none
  pub found-said : (k end : ℕ) → end ≡ slots → (r : Option ℕ)
      → MatchOption r ((i : ℕ) → k ≤ i → i < end → asks_for w h cell d i ≡ false)
      (λ j. (k ≤ j) × (j < end) × (asks_for w h cell d j ≡ true) × ((i : ℕ) → k ≤ i → i < j → asks_for w h cell d i ≡ false))
      → r ≡ next_in w h cell d k
  found-said k end p (Some j) (a, b, g, none) =
      let e : k + (j - k) ≡ j = omega arith in
      let there : j < slots = omega (arith, p) in
      sym (walk-stops j there g) ∙ ap (next_in w h cell d) (sym e) ∙ passed-run (j - k) k (omega arith) (λ i x y. none i x (omega arith))
  found-said k end p None none = go (ltb slots k) refl
    where
      go : (b : Bool) → ltb slots k ≡ b → None ≡ next_in w h cell d k
      go true f = sym (walk_ends k (omega (arith, ltb-true slots k f)))
      go false f =
          let m = ltb-false slots k f in
          let e : k + (slots - k) ≡ slots = omega arith in
          sym (walk_ends slots (omega arith)) ∙ ap (next_in w h cell d) (sym e) ∙ passed-run (slots - k) k (omega arith) (λ i x y. none i x (omega (arith, p)))

-- ---- what is found

-- slot j is the first from k on, and before an end, that a test names
pub record FirstAsked (asks : ℕ → Bool) (k end j : ℕ) : Type 0 where
  pub from : k ≤ j
  pub before_end : j < end
  pub asked : asks j ≡ true
  pub none_before : (i : ℕ) → k ≤ i → i < j → asks i ≡ false

-- it names no slot from k on and before an end
abbrev pub NoneAsked : (ℕ → Bool) → ℕ → ℕ → Type 0
NoneAsked asks k end = (i : ℕ) → k ≤ i → i < end → asks i ≡ false

-- one slot more in front, which it does not name
none_from : (asks : ℕ → Bool) (k end : ℕ) → asks k ≡ false → NoneAsked asks (suc k) end → NoneAsked asks k end
none_from asks k end g rest i l m = go (ltb k i) refl
  where
    go : (b : Bool) → ltb k i ≡ b → asks i ≡ false
    go true e = rest i (ltb-true k i e) m
    go false e = let here : i ≡ k = omega (arith, ltb-false k i e) in rw here g

module _ (w : Wanted) (h : Header) (cell : ℕ → Option Cell) (d : ℕ) where
  abbrev asks : ℕ → Bool
  asks = asks_for w h cell d

  from-slot : (n k j : ℕ) → k + n ≡ slots_of h.minutes → next_in w h cell d k ≡ Some j → FirstAsked asks k (slots_of h.minutes) j
  from-slot zero k j p e = let q = sym (walk_ends w h cell d k (omega (arith, p))) ∙ e in let z : ◌≡◌ {A = ℕ} 0 1 = cc in absurd (omega arith)
  from-slot (suc n) k j p e = go (asks k) refl (from-slot n (k + 1) j (omega arith))
    where
      l : k < slots_of h.minutes
      l = omega (arith, p)

      go : (b : Bool) → asks k ≡ b → (next_in w h cell d (k + 1) ≡ Some j → FirstAsked asks (k + 1) (slots_of h.minutes) j) → FirstAsked asks k (slots_of h.minutes) j
      go true g later =
          let same : Some k ≡ Some j = sym (walk-stops w h cell d k l g) ∙ e in
          let here : k ≡ j = cc in
          record {
            from = omega arith;
            before_end = omega (arith, l, here);
            asked = rw (← here) g;
            none_before = λ i x y. absurd (omega arith);
          }
      go false g later =
          let rest = later (walk-on w h cell d k l g ∙ e) in
          let behind : NoneAsked asks (suc k) j = λ i x y. rest.none_before i (omega (arith, x)) y in
          record {
            from = omega (arith, rest.from);
            before_end = rest.before_end;
            asked = rest.asked;
            none_before = none_from asks k j g behind;
          }

  from-none : (n k : ℕ) → k + n ≡ slots_of h.minutes → next_in w h cell d k ≡ None → NoneAsked asks k (slots_of h.minutes)
  from-none zero k p e = λ i l m. absurd (omega arith)
  from-none (suc n) k p e = go (asks k) refl (from-none n (k + 1) (omega arith))
    where
      l : k < slots_of h.minutes
      l = omega (arith, p)

      go : (b : Bool) → asks k ≡ b → (next_in w h cell d (k + 1) ≡ None → NoneAsked asks (k + 1) (slots_of h.minutes)) → NoneAsked asks k (slots_of h.minutes)
      go true g later = let same : Some k ≡ None = sym (walk-stops w h cell d k l g) ∙ e in let z : ◌≡◌ {A = ℕ} 0 1 = cc in absurd (omega arith)
      go false g later = none_from asks k (slots_of h.minutes) g (λ i x y. later (walk-on w h cell d k l g ∙ e) i (omega (arith, x)) y)

  -- from a slot past the day's last there is none
  found_in : (k j : ℕ) → next_in w h cell d k ≡ Some j → FirstAsked asks k (slots_of h.minutes) j
  found_in k j e = go (ltb (slots_of h.minutes) k) refl
    where
      go : (b : Bool) → ltb (slots_of h.minutes) k ≡ b → FirstAsked asks k (slots_of h.minutes) j
      go true p =
          let q = sym (walk_ends w h cell d k (omega (arith, ltb-true (slots_of h.minutes) k p))) ∙ e in
          let z : ◌≡◌ {A = ℕ} 0 1 = cc in absurd (omega arith)
      go false p = let m = ltb-false (slots_of h.minutes) k p in from-slot (slots_of h.minutes - k) k j (omega arith) e

  none_in : (k : ℕ) → next_in w h cell d k ≡ None → NoneAsked asks k (slots_of h.minutes)
  none_in k e i x y = from-none (slots_of h.minutes - k) k (omega (arith, x, y)) e i x y

-- ---- a slot that is asked for

-- it is in the log, and its cell is wanted
pub record Asks (w : Wanted) (h : Header) (cell : ℕ → Option Cell) (d k : ℕ) : Type 0 where
  pub place : InLog h d k (d * slots_of h.minutes + k)
  pub wanted : is_wanted w (cell (d * slots_of h.minutes + k)) ≡ true

-- a slot that is asked for is in the log, and its cell is wanted
pub asks-is : (w : Wanted) (h : Header) (cell : ℕ → Option Cell) (d k : ℕ) → asks_for w h cell d k ≡ true → Asks w h cell d k
unfolding asks_for
asks-is w h cell d k e = go (interval_of h d k) refl e
  where
    go : (n : Option ℕ) → interval_of h d k ≡ n → if_at n false (λ i. is_wanted w (cell i)) ≡ true → Asks w h cell d k
    go None p q = absurd (false≢true q)
    go (Some i) p q =
        let t = in-log h d k i p in
        record { place = rw t.index t; wanted = rw t.index q }

-- where it is not asked for, though it is in the log, its cell is not wanted
pub not-asked : (w : Wanted) (h : Header) (cell : ℕ → Option Cell) (d k : ℕ) → d < h.days → k < slots_of h.minutes → exists h d k ≡ true
    → asks_for w h cell d k ≡ false → is_wanted w (cell (d * slots_of h.minutes + k)) ≡ false
unfolding asks_for
not-asked w h cell d k l m t e = ap (λ (n : Option ℕ). if_at n false (λ i. is_wanted w (cell i))) (sym (interval-at h d k l m t)) ∙ e

-- ---- the interval asked for next

-- slot j of day d of a log is the first from slot k on that exists and whose cell is wanted
pub record NextIs (w : Wanted) (v : View) (d k j : ℕ) : Type 0 where
  pub header : Header
  pub sound : v.lent ≡ Some header
  pub asks : Asks w header v.cell d j
  pub found : FirstAsked (asks_for w header v.cell d) k (slots_of header.minutes) j

next-in : (w : Wanted) (h : Header) (v : View) (d k j : ℕ) → v.lent ≡ Some h → next_in w h v.cell d k ≡ Some j → NextIs w v d k j
next-in w h v d k j q e =
    let f = found_in w h v.cell d k j e in
    record { header = h; sound = q; asks = asks-is w h v.cell d j f.asked; found = f }

-- the slot that is told to ask for next is the first wanted one of a sound log
pub next-is : (w : Wanted) (v : View) (d k j : ℕ) → next_wanted w v d k ≡ Some j → NextIs w v d k j
unfolding next_wanted
next-is w v d k j e = go v.lent refl e
  where
    go : (a : Option Header) → v.lent ≡ a → if_sound a None (λ h. next_in w h v.cell d k) ≡ Some j → NextIs w v d k j
    go None q p = let z : ◌≡◌ {A = ℕ} 0 1 = cc in absurd (omega arith)
    go (Some h) q p = next-in w h v d k j q p

-- "can't be asked for" (document 02, CR 5): a slot that is asked for next exists
pub next-exists : (w : Wanted) (v : View) (h : Header) (d k j : ℕ) → v.lent ≡ Some h → next_wanted w v d k ≡ Some j → exists h d j ≡ true
unfolding next_wanted
next-exists w v h d k j q e = (asks-is w h v.cell d j (found_in w h v.cell d k j (simp q at e)).asked).place.there

-- where nothing is left to ask for, no slot of the day from k on that exists is wanted
pub next-nothing : (w : Wanted) (v : View) (h : Header) (d k : ℕ) → v.lent ≡ Some h → d < h.days → next_wanted w v d k ≡ None
    → (i : ℕ) → k ≤ i → i < slots_of h.minutes → exists h d i ≡ true → is_wanted w (v.cell (d * slots_of h.minutes + i)) ≡ false
unfolding next_wanted
next-nothing w v h d k q l e i a b t = not-asked w h v.cell d i l b t (none_in w h v.cell d k (simp q at e) i a b)

-- a slot that is asked for lies behind the one before it, and in the day, so that a day's asks end
pub next-bounds : (w : Wanted) (v : View) (d k j : ℕ) → next_wanted w v d k ≡ Some j → (k ≤ j) × (j < slots_most)
next-bounds w v d k j e =
    let n = next-is w v d k j e in
    (n.found.from, omega (arith, n.found.before_end, slots-at-most n.header.minutes))
