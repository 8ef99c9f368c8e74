-- What follows from the definition of the store: where a slice is put, what is read after a put, there and elsewhere, and what a clear
-- leaves.
use Prim.Native.Nat.{ℕ, zero, suc, ◌+◌, ◌*◌, ◌/◌, ◌%◌, ◌≤◌, ◌<◌}
use native.Mathlib.Nat.{add-zero, zero-add}
use native.Mathlib.Omega.{arith}
use mathlib.Core.Path.{◌≡◌, refl, sym, ap, ◌∙◌}
use mathlib.Core.Bool.{Bool, true, false, cond, false≢true}
use mathlib.Core.List.{List, [], ◌∷◌}
use mathlib.Core.Logic.{inl, inr}
use lib.Dec.{eqb, ltb}
use lib.ListN.{length, take, drop, replicate, length-replicate, drop_of_length-le}
use lib.Seq.{drop-cons, drop-drop, take-take}
use borrow.Author.Tests.{ltb-true, ltb-false, lt-ltb, le-ltb, eqb-true, eqb-false, ne_eqb}
use Rattle.byte_numbers.specs.Number.{number, bytes_of}
use Rattle.byte_numbers.specs.Place.{byte_at, number_at, written}
use Rattle.byte_numbers.proofs.PlaceLaws.{Apart, length-written, take-drop, part-written, byte_at-kept, byte_at-written, number_at-kept}
use Rattle.slots.specs.declared.key.Key.{Key}
use Rattle.meter_store.specs.Store.{places, store_bytes, key_at, same_key, first_from, place_of, is_kept, row_at, zero_row, slice_of, count_at, row_bytes}
use Rattle.meter_store.specs.Store.{place_bytes_of, put_place, put_store, put_next, cleared}
use Rattle.meter_store.proofs.FindLaws.{same_self, first-has, first-before, first-is, first-none, first-same}

-- ---- what a put and a clear keep

-- a slice that is put keeps the store a meter's
pub length-put : (s : List ℕ) (next : ℕ) (k : Key) (row : List ℕ) → length (put_store s next k row) ≡ length s
unfolding put_store
length-put s next k row = length-written s (11 * put_place s next k) (place_bytes_of k row)

-- and so does a zeroing
pub length-cleared : (s : List ℕ) → length (cleared s) ≡ length s
unfolding cleared
length-cleared s = length-replicate (length s) 0

-- ---- where a slice is put

-- a place that was put to lies in the store, and so does the next one
pub put-in-range : (s : List ℕ) (next : ℕ) (k : Key) → next < places → put_place s next k < places
unfolding put_place is_kept
put-in-range s next k h = go (ltb (place_of s k) places) refl
  where
    go : (b : Bool) → ltb (place_of s k) places ≡ b → cond b (place_of s k) next < places
    go true e = ltb-true (place_of s k) places e
    go false e = h

-- the next place stays one of the store's
pub next-in-range : (s : List ℕ) (next : ℕ) (k : Key) → next < places → put_next s next k < places
unfolding put_next
next-in-range s next k h = go (is_kept s k) (ltb (next + 1) places) refl
  where
    go : (b t : Bool) → ltb (next + 1) places ≡ t → cond b next (cond t (next + 1) 0) < places
    go true t e = h
    go false true e = ltb-true (next + 1) places e
    go false false e = omega arith

-- no place before the one that is put to has the key
put-before : (s : List ℕ) (next : ℕ) (k : Key) (j : ℕ) → next < places → j < put_place s next k → same_key (key_at s j) k ≡ false
unfolding put_place is_kept place_of
put-before s next k j n h = go (ltb (first_from s k 0 places) places) refl h
  where
    go : (b : Bool) → ltb (first_from s k 0 places) places ≡ b → j < cond b (first_from s k 0 places) next → same_key (key_at s j) k ≡ false
    go true e l = first-before s k 0 places j (omega arith) l
    go false e l = first-before s k 0 places j (omega arith) (omega (arith, ltb-false (first_from s k 0 places) places e))

-- ---- what stands at a place after a put

-- the number of n bytes that stand behind the first j of those that were written
number_at-written-behind : (s : List ℕ) (i : ℕ) (bs : List ℕ) (j n : ℕ) → j + n ≤ length bs → i + length bs ≤ length s
    → number_at (written s i bs) (i + j) n ≡ number_at bs j n
unfolding number_at
number_at-written-behind s i bs j n h l =
    let t = written s i bs in
    ap number
    (ap (take n) (sym (drop-drop j i t))
    ∙ take-drop j n (drop i t)
    ∙ ap (drop j) (sym (take-take (j + n) (length bs) (drop i t) h) ∙ ap (take (j + n)) (part-written s i bs l))
    ∙ sym (take-drop j n bs))

-- a row of four counts that fit two bytes each
pub record RowFits (row : List ℕ) : Type 0 where
  pub four : length row ≡ 4
  pub below : (i : ℕ) → count_at row i < 65536

length-place_bytes_of : (k : Key) (row : List ℕ) → length (place_bytes_of k row) ≡ 11
unfolding place_bytes_of row_bytes bytes_of
length-place_bytes_of k row = refl

low-high : (n : ℕ) → n < 65536 → (0 * 256 + n / 256 % 256) * 256 + n % 256 ≡ n
low-high n h = omega arith

four-listed : (row : List ℕ) → length row ≡ 4 → count_at row 0 ∷ count_at row 1 ∷ count_at row 2 ∷ count_at row 3 ∷ [] ≡ row
four-listed row h = sym (at 0 (omega arith) (at 1 (omega arith) (at 2 (omega arith) (at 3 (omega arith) (drop_of_length-le row {i = 4} (omega arith))))))
  where
    at : (i : ℕ) → i < length row → {rest : List ℕ} → drop (suc i) row ≡ rest → drop i row ≡ count_at row i ∷ rest
    at i l e = drop-cons row i 0 l ∙ ap (λ (x : List ℕ). count_at row i ∷ x) e

-- the counts that stand in the bytes of a place are those that were put there
counts-back : (k : Key) (row : List ℕ) → RowFits row
    → number_at (place_bytes_of k row) 3 2 ∷ number_at (place_bytes_of k row) 5 2 ∷ number_at (place_bytes_of k row) 7 2 ∷ number_at (place_bytes_of k row) 9 2 ∷ [] ≡ row
unfolding place_bytes_of row_bytes bytes_of number_at number
counts-back k row f =
    simp (low-high (count_at row 0) (f.below 0), low-high (count_at row 1) (f.below 1), low-high (count_at row 2) (f.below 2), low-high (count_at row 3) (f.below 3))
    (four-listed row f.four)

-- at a place of a whole store: what was put there stands there
module _ (s : List ℕ) (k : Key) (row : List ℕ) (p : ℕ) (l : length s ≡ store_bytes) (h : p < places) where
  byte-there : (j : ℕ) → j < 11 → byte_at (written s (11 * p) (place_bytes_of k row)) (11 * p + j) ≡ byte_at (place_bytes_of k row) j
  byte-there j b = byte_at-written s (11 * p) (place_bytes_of k row) j (rw length-place_bytes_of b) (omega arith)

  count-there : (j : ℕ) → j + 2 ≤ 11 → number_at (written s (11 * p) (place_bytes_of k row)) (11 * p + j) 2 ≡ number_at (place_bytes_of k row) j 2
  count-there j b =
      number_at-written-behind s (11 * p) (place_bytes_of k row) j 2 (rw length-place_bytes_of b) (rw length-place_bytes_of (omega arith))

  -- after a put the place has the key
  pub key-there : key_at (written s (11 * p) (place_bytes_of k row)) p ≡ k
  unfolding key_at place_bytes_of
  key-there = simp (rw add-zero at (byte-there 0 (omega arith)), byte-there 1 (omega arith), byte-there 2 (omega arith))

  row-there : RowFits row → row_at (written s (11 * p) (place_bytes_of k row)) p ≡ row
  unfolding row_at
  row-there f =
      simp (count-there 3 (omega arith), count-there 5 (omega arith), count-there 7 (omega arith), count-there 9 (omega arith)) (counts-back k row f)

-- at any other place, what stood there
module _ (s : List ℕ) (k : Key) (row : List ℕ) (p i : ℕ) (d : p ≡ i → ⊥) where
  apart : (j n : ℕ) → j + n ≤ 11 → Apart (11 * i + j) n (11 * p) (length (place_bytes_of k row))
  apart j n b = go (ltb i p) refl
    where
      go : (c : Bool) → ltb i p ≡ c → Apart (11 * i + j) n (11 * p) (length (place_bytes_of k row))
      go true e = inl (omega (arith, ltb-true i p e))
      go false e = inr (rw length-place_bytes_of (omega (arith, ltb-false i p e, d)))

  byte-elsewhere : (j : ℕ) → j < 11 → byte_at (written s (11 * p) (place_bytes_of k row)) (11 * i + j) ≡ byte_at s (11 * i + j)
  byte-elsewhere j b = byte_at-kept s (11 * p) (place_bytes_of k row) (11 * i + j) (apart j 1 (omega arith))

  count-elsewhere : (j : ℕ) → j + 2 ≤ 11 → number_at (written s (11 * p) (place_bytes_of k row)) (11 * i + j) 2 ≡ number_at s (11 * i + j) 2
  count-elsewhere j b = number_at-kept s (11 * p) (place_bytes_of k row) (11 * i + j) 2 (apart j 2 b)

  -- and every other place the key it had
  pub key-elsewhere : key_at (written s (11 * p) (place_bytes_of k row)) i ≡ key_at s i
  unfolding key_at
  key-elsewhere = simp (rw add-zero at (byte-elsewhere 0 (omega arith)), byte-elsewhere 1 (omega arith), byte-elsewhere 2 (omega arith))

  row-elsewhere : row_at (written s (11 * p) (place_bytes_of k row)) i ≡ row_at s i
  unfolding row_at
  row-elsewhere =
      simp (count-elsewhere 3 (omega arith), count-elsewhere 5 (omega arith), count-elsewhere 7 (omega arith), count-elsewhere 9 (omega arith))

-- ---- what is read after a put

-- "which reads use too": a slice that was put is read back
pub put-then-read : (s : List ℕ) (next : ℕ) (k : Key) (row : List ℕ) → length s ≡ store_bytes → next < places → RowFits row
    → slice_of (put_store s next k row) k ≡ row
unfolding slice_of is_kept put_store place_of
put-then-read s next k row l h f =
    let p = put_place s next k in
    let t = written s (11 * p) (place_bytes_of k row) in
    let r : p < places = put-in-range s next k h in
    let before : (j : ℕ) → j < p → same_key (key_at t j) k ≡ false =
    λ j b. ap (λ (x : Key). same_key x k) (key-elsewhere s k row p j (λ q. omega arith)) ∙ put-before s next k j h b in
    let hit : same_key (key_at t p) k ≡ true = ap (λ (x : Key). same_key x k) (key-there s k row p l r) ∙ same_self k in
    let e : first_from t k 0 places ≡ p = first-is t k 0 places p (omega arith) (omega arith) before hit in
    simp (e, lt-ltb p places r) (row-there s k row p l r f)

-- every other slice stays, unless it stood where the new one went
pub put-keeps-others : (s : List ℕ) (next : ℕ) (k j : Key) (row : List ℕ) → length s ≡ store_bytes → next < places
    → same_key k j ≡ false → same_key (key_at s (put_place s next k)) j ≡ false → slice_of (put_store s next k row) j ≡ slice_of s j
unfolding slice_of is_kept put_store place_of
put-keeps-others s next k j row l h other free =
    let e : first_from t j 0 places ≡ first_from s j 0 places = first-same s t j 0 places (λ i b. same i (eqb p i) refl) in
    simp e (kept (ltb (first_from s j 0 places) places) refl)
  where
    p : ℕ
    p = put_place s next k

    t : List ℕ
    t = written s (11 * p) (place_bytes_of k row)

    same : (i : ℕ) (b : Bool) → eqb p i ≡ b → same_key (key_at t i) j ≡ same_key (key_at s i) j
    same i true q =
        let there = ap (λ (x : Key). same_key x j) (key-there s k row p l (put-in-range s next k h)) ∙ other ∙ sym free in
        ap (λ (x : ℕ). same_key (key_at t x) j) (sym (eqb-true p i q)) ∙ there ∙ ap (λ (x : ℕ). same_key (key_at s x) j) (eqb-true p i q)
    same i false q = ap (λ (x : Key). same_key x j) (key-elsewhere s k row p i (eqb-false p i q))

    kept : (b : Bool) → ltb (first_from s j 0 places) places ≡ b
        → cond b (row_at t (first_from s j 0 places)) zero_row ≡ cond b (row_at s (first_from s j 0 places)) zero_row
    kept true q =
        let has = first-has s j 0 places (ltb-true (first_from s j 0 places) places q) in
        row-elsewhere s k row p (first_from s j 0 places)
        (λ d. false≢true (sym free ∙ ap (λ (x : ℕ). same_key (key_at s x) j) d ∙ has))
    kept false q = refl

-- ---- what is read after a clear

-- a byte of zeros, or past them
zero-at : (n i : ℕ) → byte_at (replicate n 0) i ≡ 0
zero-at zero i = refl
zero-at (suc n) zero = refl
zero-at (suc n) (suc i) = zero-at n i

cleared-unused : (s : List ℕ) (k : Key) (i : ℕ) → 1 ≤ k.month → same_key (key_at (cleared s) i) k ≡ false
unfolding same_key key_at cleared
cleared-unused s k i h = simp (zero-at (length s) (11 * i), ne_eqb 0 k.month (λ q. omega arith))

-- "Zeroing makes all unused"
pub cleared-absent : (s : List ℕ) (k : Key) → 1 ≤ k.month → slice_of (cleared s) k ≡ zero_row
unfolding slice_of is_kept place_of
cleared-absent s k h =
    let e : first_from (cleared s) k 0 places ≡ places = first-none (cleared s) k 0 places (λ i b. cleared-unused s k i h) ∙ zero-add places in
    simp (e, le-ltb places places (omega arith))
