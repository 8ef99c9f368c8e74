-- What is asked for next in an order: of the newest first the last that is wanted, in the log and before those that are passed; so a day's asks end.
use Rattle.std.specs.Prelude.{None, Option, Some}
use Rattle.log_cell.specs.declared.cell.Cell.{Cell}
use Prim.Native.Nat.{ℕ, zero, suc, ◌+◌, ◌*◌, ◌-◌, ◌<◌, ◌≤◌}
use native.Mathlib.Omega.{arith}
use mathlib.Core.Path.{◌≡◌, refl, sym, ap, ap₂, ◌∙◌}
use mathlib.Core.Bool.{Bool, true, false, cond, ◌&&◌}
use mathlib.Core.List.{List, [], ◌∷◌, reverse, reverse-append}
use lib.Dec.{ltb}
use lib.Arith.{digits_mod}
use lib.ListN.{length, get_or, take}
use lib.Seq.{take-suc, take_all}
use borrow.Author.Tests.{ltb-true, ltb-false, le-ltb, lt-leb}
use Rattle.slots.specs.Day.{slots_of}
use Rattle.log_header.specs.Header.{if_sound}
use Rattle.log_header.specs.Interval.{interval_of, if_at, exists}
use Rattle.energy_log.specs.Walk.{Place, place_at, day_walk}
use Rattle.energy_log.proofs.WalkLaws.{length_seen, seen_at}
use Rattle.energy_log.specs.View.{View}
use Rattle.log_header.specs.declared.header.Header.{Header}
use Rattle.polling.specs.Next.{is_wanted, asks_for, first_asked}
use Rattle.polling.specs.Order.{last_in, last_wanted, day_slots, next_in_order, passed_with}
use Rattle.polling.proofs.NextLaws.{none-outside, place-asks, Asks, asks-is, next-bounds}
use Rattle.polling.specs.declared.next.Wanted.{Wanted}
use Rattle.polling.specs.declared.order.Order.{Order}
use Rattle.polling.specs.declared.order.Order.TheVariants.{OldestFirst, NewestFirst}

-- ---- the walk's turns, for its loop

module _ (w : Wanted) (h : Header) (cell : ℕ → Option Cell) (d : ℕ) where
  abbrev slots : ℕ
  slots = slots_of h.minutes

  abbrev day : List Place
  day = day_walk h cell d

  size : length day ≡ slots
  size = length_seen (place_at h cell (λ i. 0)) slots (d * slots)

  -- a slot past the day's last is not asked for
  none-past : (k : ℕ) → slots ≤ k → asks_for w h cell d k ≡ false
  unfolding asks_for interval_of
  none-past k l = rw (le-ltb k slots l) (go (ltb d h.days) (exists h d k))
    where
      go : (a b : Bool) → if_at (cond (a && false && b) (Some (d * slots + k)) None) false (λ i. is_wanted w (cell i)) ≡ false
      go true b = refl
      go false b = refl

  -- the places before the next slot, the last of them first
  places-before : (k : ℕ) → k < slots → reverse (take (suc k) day) ≡ place_at h cell (λ i. 0) (d * slots + k) ∷ reverse (take k day)
  places-before k l =
      let other = place_at h cell (λ i. 0) 0 in
      ap reverse (take-suc day k other (omega (arith, size, l)))
      ∙ reverse-append (take k day) (get_or day k other ∷ [])
      ∙ ap (λ (p : Place). p ∷ reverse (take k day)) (seen_at (place_at h cell (λ i. 0)) other slots (d * slots) k l)

  turn : (k : ℕ) → last_in w h cell d (suc k) ≡ cond (asks_for w h cell d k) (Some k) (last_in w h cell d k)
  unfolding last_in first_asked
  turn k = go (ltb d h.days) refl (ltb k slots) refl
    where
      go : (a : Bool) → ltb d h.days ≡ a → (b : Bool) → ltb k slots ≡ b
          → cond a (first_asked w (reverse (take (suc k) day))) None ≡ cond (asks_for w h cell d k) (Some k) (cond a (first_asked w (reverse (take k day))) None)
      go true e true f =
          let l = ltb-true k slots f in
          ap (first_asked w) (places-before k l)
          ∙ ap₂ (λ (b : Bool) (s : ℕ). cond b (Some s) (first_asked w (reverse (take k day)))) (place-asks w h cell d k l e) (digits_mod d l)
      go true e false f =
          let l = ltb-false k slots f in
          ap (λ (ps : List Place). first_asked w (reverse ps)) (take_all (suc k) day (omega (arith, size, l)) ∙ sym (take_all k day (omega (arith, size, l))))
          ∙ sym (ap (λ (b : Bool). cond b (Some k) (first_asked w (reverse (take k day)))) (none-past k l))
      go false e b f = sym (ap (λ (b : Bool). cond b (Some k) None) (none-outside w h cell d k e))

  -- the slot before those passed is found where it is asked for
  pub down-stops : (i : ℕ) → 0 < i → asks_for w h cell d (i - 1) ≡ true → last_in w h cell d i ≡ Some (i - 1)
  down-stops zero l e = absurd (omega arith)
  down-stops (suc n) l e = let m : suc n - 1 ≡ n = omega arith in rw m (turn n ∙ simp (rw m at e))

  -- it is passed too where it is not asked for, and the rest is as before
  pub down-on : (i : ℕ) → 0 < i → asks_for w h cell d (i - 1) ≡ false → last_in w h cell d (i - 1) ≡ last_in w h cell d i
  down-on zero l e = absurd (omega arith)
  down-on (suc n) l e = let m : suc n - 1 ≡ n = omega arith in rw m (sym (turn n ∙ simp (rw m at e)))

  -- with no slot left nothing is found
  pub down_ends : (i : ℕ) → i ≡ 0 → last_in w h cell d i ≡ None
  unfolding last_in first_asked
  down_ends i p = rw p (go (ltb d h.days))
    where
      go : (b : Bool) → cond {A = Option ℕ} b None None ≡ None
      go true = refl
      go false = refl

-- ---- what is found

-- slot j is the last before an end that a test names
pub record LastAsked (asks : ℕ → Bool) (end j : ℕ) : Type 0 where
  pub before_end : j < end
  pub asked : asks j ≡ true
  pub none-behind : (i : ℕ) → j < i → i < end → asks i ≡ false

-- what the walk down finds is the last that is asked for
pub last-is : (w : Wanted) (h : Header) (cell : ℕ → Option Cell) (d n j : ℕ) → last_in w h cell d n ≡ Some j → LastAsked (asks_for w h cell d) n j
last-is w h cell d zero j e = let q = sym (down_ends w h cell d 0 refl) ∙ e in let z : ◌≡◌ {A = ℕ} 0 1 = cc in absurd (omega arith)
last-is w h cell d (suc n) j e = go (asks_for w h cell d n) refl (sym (turn w h cell d n) ∙ e) (last-is w h cell d n j)
  where
    go : (b : Bool) → asks_for w h cell d n ≡ b → cond (asks_for w h cell d n) (Some n) (last_in w h cell d n) ≡ Some j
        → (last_in w h cell d n ≡ Some j → LastAsked (asks_for w h cell d) n j) → LastAsked (asks_for w h cell d) (suc n) j
    go true g p later =
        let same : Some n ≡ Some j = rw g at p in
        let here : n ≡ j = cc in
        record { before_end = omega (arith, here); asked = rw (← here) g; none-behind = λ i l m. absurd (omega (arith, here)) }
    go false g p later =
        let rest = later (rw g at p) in
        record { before_end = omega (arith, rest.before_end); asked = rest.asked; none-behind = λ i l m. behind i (rest.none-behind i l) m (ltb i n) refl }
      where
        behind : (i : ℕ) → (i < n → asks_for w h cell d i ≡ false) → i < suc n → (b : Bool) → ltb i n ≡ b → asks_for w h cell d i ≡ false
        behind i k m true e = k (ltb-true i n e)
        behind i k m false e = let here : i ≡ n = omega (arith, ltb-false i n e) in rw here g

-- newest first: slot j of a log is the last that exists and whose cell is wanted, before those that are passed
pub record NewestIs (w : Wanted) (v : View) (d passed j : ℕ) : Type 0 where
  pub header : Header
  pub sound : v.lent ≡ Some header
  pub asks : Asks w header v.cell d j
  pub found : LastAsked (asks_for w header v.cell d) (day_slots - passed) j

-- the slot that is told to ask for next, newest first, is the last wanted one of a sound log
pub newest-is : (w : Wanted) (v : View) (d passed j : ℕ) → next_in_order NewestFirst w v d passed ≡ Some j → NewestIs w v d passed j
unfolding next_in_order last_wanted
newest-is w v d passed j e = go v.lent refl e
  where
    go : (a : Option Header) → v.lent ≡ a → if_sound a None (λ h. last_in w h v.cell d (day_slots - passed)) ≡ Some j → NewestIs w v d passed j
    go None q p = let z : ◌≡◌ {A = ℕ} 0 1 = cc in absurd (omega arith)
    go (Some h) q p =
        let f = last-is w h v.cell d (day_slots - passed) j p in
        record { header = h; sound = q; asks = asks-is w h v.cell d j f.asked; found = f }

-- a slot that is asked for passes more slots than before, and no more than a day has, so that a day's asks end
pub order-bounds : (order : Order) (w : Wanted) (v : View) (d passed j : ℕ) → next_in_order order w v d passed ≡ Some j → passed < passed_with order j
unfolding next_in_order passed_with
order-bounds OldestFirst w v d passed j e =
    let b = next-bounds w v d passed j e in
    rw (lt-leb day_slots j b.1) (omega (arith, b.0))
order-bounds NewestFirst w v d passed j e =
    let l = (newest-is w v d passed j e).found.before_end in
    let m : j < day_slots = omega (arith, l) in
    rw (lt-leb day_slots j m) (omega (arith, l))
