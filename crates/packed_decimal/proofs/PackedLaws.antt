-- What follows from the definitions of specs/Packed.antt, for proofs alone: no contract cites it.
use Rattle.std.specs.Prelude.{None, Some}
use mathlib.Core.Path.{◌≡◌, refl, sym, ap, ap₂, ◌∙◌}
use mathlib.Core.Bool.{Bool, true, false, cond, ◌&&◌}
use mathlib.Core.List.{List, [], ◌∷◌, ◌++◌, append_assoc, append-nil}
use Prim.Native.Nat.{ℕ, zero, suc, ◌+◌, ◌*◌, ◌/◌, ◌%◌, ◌^◌, ◌≤◌, ◌<◌}
use native.Mathlib.Nat.{pow-suc, pow-zero, pow-le-pow_right, le_refl, mod-one, mod-lt, zero-lt-suc, mod-eq_of_lt, zero-add, add-zero, add-suc, suc-add}
use native.Mathlib.Numerals.{add-one}
use native.Mathlib.Omega.{arith}
use lib.Dec.{leb}
use lib.ListN.{length, get_or, take, drop, set, length-append, length-take, length-drop}
use lib.Seq.{set_comm, drop-cons, take_at, drop-append-add, length-take-le}
use lib.Arith.{mod-mul, digits_div, digits_mod}
use borrow.Author.Tests.{le-leb, lt-leb, leb-true}
use Rattle.test_laws.proofs.Test.{both}
use Rattle.byte_numbers.specs.Number.{Bytes}
use Rattle.byte_numbers.specs.Place.{written}
use Rattle.byte_numbers.proofs.PlaceLaws.{written-append}
use Rattle.packed_decimal.specs.Packed.{pair_of, packed_of, is_pair, is_packed, value_from, value_of, decimal_of, decimal_at}

-- ---- two digits in a byte

-- the upper half-byte of two digits
pub pair-high : (n : ℕ) → pair_of n / 16 ≡ n / 10 % 10
pair-high n = digits_div (n / 10 % 10) (omega (arith, mod-lt n (zero-lt-suc 9)))

-- the lower one
pub pair-low : (n : ℕ) → pair_of n % 16 ≡ n % 10
pair-low n = digits_mod (n / 10 % 10) (omega (arith, mod-lt n (zero-lt-suc 9)))

-- what is put passes the test of what is read
pub is-pair : (n : ℕ) → is_pair (pair_of n) ≡ true
is-pair n =
    ap₂ ◌&&◌
    (le-leb (pair_of n / 16) 9 (omega (arith, pair-high n, mod-lt (n / 10) (zero-lt-suc 9))))
    (le-leb (pair_of n % 16) 9 (omega (arith, pair-low n, mod-lt n (zero-lt-suc 9))))

-- a number of two digits, put and read
pub pair-back : (n : ℕ) → n < 100 → pair_of n / 16 * 10 + pair_of n % 16 ≡ n
pair-back n h = rw (pair-high n, pair-low n) (omega (arith, h))

-- a byte of two digits, read and put
pub back-pair : (b : ℕ) → is_pair b ≡ true → pair_of (b / 16 * 10 + b % 16) ≡ b
back-pair b p =
    let t = both (leb (b / 16) 9) (leb (b % 16) 9) p in
    omega (arith, leb-true (b / 16) 9 t.0, leb-true (b % 16) 9 t.1)

-- a byte is worth less than 100: the digits of more bytes do not mix
pub pair-value-small : (b : ℕ) → is_pair b ≡ true → b / 16 * 10 + b % 16 < 100
pair-value-small b p =
    let t = both (leb (b / 16) 9) (leb (b % 16) 9) p in
    omega (arith, leb-true (b / 16) 9 t.0, leb-true (b % 16) 9 t.1)

-- ---- the bytes put

-- how much room a number takes
pub length-packed_of : (k n : ℕ) → length (packed_of k n) ≡ k
unfolding packed_of
length-packed_of zero n = refl
length-packed_of (suc k) n = simp (length-append, length-packed_of k (n / 100)) (omega arith)

and_assoc : (a b c : Bool) → (a && (b && c)) ≡ (a && b && c)
and_assoc true b c = refl
and_assoc false b c = refl

-- the test of several figures is that of each
pub packed-append : (xs ys : List ℕ) → is_packed (xs ++ ys) ≡ (is_packed xs && is_packed ys)
unfolding is_packed
packed-append [] ys = refl
packed-append (x ∷ xs) ys = ap (λ (b : Bool). is_pair x && b) (packed-append xs ys) ∙ and_assoc (is_pair x) (is_packed xs) (is_packed ys)

-- digits are put, whatever the number
pub packed-packed_of : (k n : ℕ) → is_packed (packed_of k n) ≡ true
unfolding packed_of is_packed
packed-packed_of zero n = refl
packed-packed_of (suc k) n =
    packed-append (packed_of k (n / 100)) (pair_of (n % 100) ∷ [])
    ∙ rw (packed-packed_of k (n / 100), is-pair (n % 100))

-- ---- there and back, over the number of bytes

value-append : (a : ℕ) (xs ys : List ℕ) → value_from a (xs ++ ys) ≡ value_from (value_from a xs) ys
unfolding value_from
value-append a [] ys = refl
value-append a (x ∷ xs) ys = value-append (a * 100 + (x / 16 * 10 + x % 16)) xs ys

pow-100-pos : (k : ℕ) → 0 < 100 ^ k
pow-100-pos zero = rw pow-zero (zero-lt-suc 0)
pow-100-pos (suc k) = rw pow-suc (omega (arith, pow-100-pos k))

-- what k bytes keep of a number is its remainder by 100 ^ k
pub value-packed_of : (k n : ℕ) → value_of (packed_of k n) ≡ n % 100 ^ k
unfolding value_from packed_of
value-packed_of zero n = rw pow-zero (sym (mod-one n))
value-packed_of (suc k) n =
    value-append 0 (packed_of k (n / 100)) (pair_of (n % 100) ∷ [])
    ∙ ap₂ (λ (x y : ℕ). x * 100 + y) (value-packed_of k (n / 100)) (pair-back (n % 100) (mod-lt n (zero-lt-suc 99)))
    ∙ sym (rw pow-suc (mod-mul n (pow-100-pos k) (zero-lt-suc 99)))

-- a number that its bytes hold reads back whole
pub value-packed_of-fits : (k n : ℕ) → n < 100 ^ k → value_of (packed_of k n) ≡ n
value-packed_of-fits k n h = value-packed_of k n ∙ mod-eq_of_lt h

-- digits behind j bytes of a number's
packed_of-value-from : (j a : ℕ) (bs : List ℕ) → is_packed bs ≡ true → packed_of (j + length bs) (value_from a bs) ≡ packed_of j a ++ bs
unfolding packed_of is_packed value_from
packed_of-value-from j a [] p = rw add-zero (sym (append-nil (packed_of j a)))
packed_of-value-from j a (b ∷ bs) p =
    let t = both (is_pair b) (is_packed bs) p in
    let v = b / 16 * 10 + b % 16 in
    let small : v < 100 = pair-value-small b t.0 in
    ap (λ (k : ℕ). packed_of k (value_from (a * 100 + v) bs)) (add-suc j (length bs) ∙ sym (suc-add j (length bs)))
    ∙ packed_of-value-from (suc j) (a * 100 + v) bs t.1
    ∙ ap₂ (λ (x y : ℕ). packed_of j x ++ (pair_of y ∷ []) ++ bs) (digits_div a small) (digits_mod a small)
    ∙ ap (λ (x : ℕ). packed_of j a ++ (x ∷ []) ++ bs) (back-pair b t.0)
    ∙ append_assoc (packed_of j a) (b ∷ []) bs

-- digits that were read are put as they stood
pub packed_of-value : (bs : List ℕ) → is_packed bs ≡ true → packed_of (length bs) (value_of bs) ≡ bs
unfolding packed_of
packed_of-value bs p = ap (λ (k : ℕ). packed_of k (value_of bs)) (sym (zero-add (length bs))) ∙ packed_of-value-from 0 0 bs p

-- digits of a number below 100 ^ j, and behind them those of the bytes
value-small-from : (j a : ℕ) (bs : List ℕ) → a < 100 ^ j → is_packed bs ≡ true → value_from a bs < 100 ^ (j + length bs)
unfolding is_packed value_from
value-small-from j a [] h p = rw add-zero h
value-small-from j a (b ∷ bs) h p =
    let t = both (is_pair b) (is_packed bs) p in
    let v = b / 16 * 10 + b % 16 in
    let next : a * 100 + v < 100 ^ suc j = rw pow-suc (omega (arith, pair-value-small b t.0, h)) in
    rw (add-suc, ← suc-add) (value-small-from (suc j) (a * 100 + v) bs next t.1)

-- a number that was read has no more digits than its bytes
pub value-small : (bs : List ℕ) → is_packed bs ≡ true → value_of bs < 100 ^ length bs
value-small bs p = rw zero-add at (value-small-from 0 0 bs (pow-100-pos 0) p)

-- ---- what is read: digits are, and nothing else is

-- the arm of `number_of` for digits alone
pub decimal-packed : (bs : List ℕ) → length bs ≤ 4 → is_packed bs ≡ true → decimal_of bs ≡ Some (value_of bs)
unfolding decimal_of
decimal-packed bs l p = rw (le-leb (length bs) 4 l, p)

-- what was put is answered as the number that it was
pub decimal-put : (k n : ℕ) → k ≤ 4 → n < 100 ^ k → decimal_of (packed_of k n) ≡ Some n
decimal-put k n l h =
    decimal-packed (packed_of k n) (rw length-packed_of l) (packed-packed_of k n) ∙ ap Some (value-packed_of-fits k n h)

-- what is known of a number that was read
pub record Read (bs : List ℕ) (n : ℕ) : Type 0 where
  pub digits : is_packed bs ≡ true
  pub put : packed_of (length bs) n ≡ bs
  pub small : n < 100 ^ length bs

-- it is known of every number that is answered
pub decimal-read : (bs : List ℕ) (n : ℕ) → decimal_of bs ≡ Some n → Read bs n
unfolding decimal_of
decimal-read bs n e = go (leb (length bs) 4) (is_packed bs) refl e
  where
    go : (a b : Bool) → is_packed bs ≡ b → cond (a && b) (Some (value_of bs)) None ≡ Some n → Read bs n
    go true true p h =
        let same : value_of bs ≡ n = cc in
        record { digits = p; put = ap (packed_of (length bs)) (sym same) ∙ packed_of-value bs p; small = rw same at (value-small bs p) }
    go true false p h = let z : ◌≡◌ {A = ℕ} 0 1 = cc in absurd (omega arith)
    go false b p h = let z : ◌≡◌ {A = ℕ} 0 1 = cc in absurd (omega arith)

-- the arm of `number_of` for more than four bytes
pub decimal-long : (bs : List ℕ) → 4 < length bs → decimal_of bs ≡ None
unfolding decimal_of
decimal-long bs h = rw (lt-leb (length bs) 4 h)

-- its arm for a half-byte above 9
pub decimal-not : (bs : List ℕ) → length bs ≤ 4 → is_packed bs ≡ false → decimal_of bs ≡ None
unfolding decimal_of
decimal-not bs l p = rw (le-leb (length bs) 4 l, p)

-- ---- the byte at a place, and those behind it

module _ (s : List ℕ) (i : ℕ) (h : i < length s) where
  -- a turn of its loop: the test of one more byte
  pub packed-at : is_packed (drop i s) ≡ (is_pair (get_or s i 0) && is_packed (drop (i + 1) s))
  unfolding is_packed
  packed-at = rw (add-one, drop-cons s i 0 h)

  -- a turn of its loop: two more digits
  pub value-at : (n : ℕ) → value_from n (drop i s) ≡ value_from (n * 100 + (get_or s i 0 / 16 * 10 + get_or s i 0 % 16)) (drop (i + 1) s)
  unfolding value_from
  value-at n = rw (add-one, drop-cons s i 0 h)

-- a number of fewer than four bytes' digits has room for two more
pub room-for-more : (i n : ℕ) → i < 4 → n < 100 ^ i → n < 1000000
room-for-more i n l h = omega (arith, h, pow-le-pow_right {n = 100} (zero-lt-suc 99) {i = i} {j = 3} (omega (arith, l)))

-- ---- a byte stored behind the bytes that are put after it

set-written : (s : List ℕ) (i j b : ℕ) (bs : List ℕ) → i + length bs ≤ j → written (set s j b) i bs ≡ set (written s i bs) j b
unfolding written
set-written s i j b [] h = refl
set-written s i j b (x ∷ bs) h =
    ap (λ (l : List ℕ). written l (suc i) bs) (set_comm s j i b x (λ e. omega arith)) ∙ set-written (set s i x) (suc i) j b bs (omega arith)

-- the last byte first, then those before it
pub written_last : (s : List ℕ) (at k n : ℕ)
    → written (written s (at + k) (pair_of (n % 100) ∷ [])) at (packed_of k (n / 100)) ≡ written s at (packed_of (suc k) n)
unfolding written packed_of
written_last s at k n =
    let front = packed_of k (n / 100) in
    let b = pair_of (n % 100) in
    set-written s at (at + k) b front (rw length-packed_of (le_refl (at + k)))
    ∙ ap (λ (m : ℕ). set (written s at front) (at + m) b) (sym (length-packed_of k (n / 100)))
    ∙ sym (written-append s at front (b ∷ []))

-- ---- at a place

-- k bytes have 2k digits at most
pub decimal-at-small : (s : List ℕ) (i k n : ℕ) → decimal_at s i k ≡ Some n → n < 100 ^ k
decimal-at-small s i k n e =
    let l : length (take k (drop i s)) ≤ k = rw length-take (omega arith) in
    omega (arith, (decimal-read (take k (drop i s)) n e).small, pow-le-pow_right {n = 100} (zero-lt-suc 99) l)

-- what was put is read, and what is read was put
pub decimal-front : (k n : ℕ) (rest : List ℕ) → k ≤ 4 → n < 100 ^ k → decimal_at (packed_of k n ++ rest) 0 k ≡ Some n
decimal-front k n rest l h = ap decimal_of (take_at (packed_of k n) rest k (length-packed_of k n)) ∙ decimal-put k n l h

-- a figure behind another one, to step over a reply's figures
pub decimal-behind : (j m : ℕ) (rest : List ℕ) (i k : ℕ) → decimal_at (packed_of j m ++ rest) (j + i) k ≡ decimal_at rest i k
decimal-behind j m rest i k =
    ap (λ (x : ℕ). decimal_at (packed_of j m ++ rest) (x + i) k) (sym (length-packed_of j m))
    ∙ ap (λ (s : List ℕ). decimal_of (take k s)) (drop-append-add (packed_of j m) rest i)

-- a figure that was read at a place, put again, is what stood there
pub decimal-at-put : (s : List ℕ) (i k n : ℕ) → i + k ≤ length s → decimal_at s i k ≡ Some n → packed_of k n ≡ take k (drop i s)
decimal-at-put s i k n h e =
    let l : length (take k (drop i s)) ≡ k = length-take-le k (drop i s) (simp length-drop (omega (arith, h))) in
    ap (λ (x : ℕ). packed_of x n) (sym l) ∙ (decimal-read (take k (drop i s)) n e).put

-- ---- bytes

pair-byte : (n : ℕ) → pair_of n < 256
pair-byte n = omega (arith, mod-lt (n / 10) (zero-lt-suc 9), mod-lt n (zero-lt-suc 9))

-- bytes behind bytes are bytes, for the CRC of a frame
pub bytes-append : (xs ys : List ℕ) → Bytes xs → Bytes ys → Bytes (xs ++ ys)
bytes-append [] ys p q i = q i
bytes-append (x ∷ xs) ys p q zero = p 0
bytes-append (x ∷ xs) ys p q (suc i) = bytes-append xs ys (λ j. p (suc j)) q i

-- digits that are put are bytes, likewise
pub bytes-packed_of : (k n : ℕ) → Bytes (packed_of k n)
unfolding packed_of
bytes-packed_of zero n = λ i. zero-lt-suc 255
bytes-packed_of (suc k) n =
    bytes-append (packed_of k (n / 100)) (pair_of (n % 100) ∷ []) (bytes-packed_of k (n / 100)) one
  where
    one : Bytes (pair_of (n % 100) ∷ [])
    one zero = pair-byte (n % 100)
    one (suc i) = zero-lt-suc 255

-- a number, exactly where every half-byte is a digit
pub decimal-kind : (s : List ℕ) (i k : ℕ) → k ≤ 4
    → decimal_at s i k ≡ cond (is_packed (take k (drop i s))) (Some (value_of (take k (drop i s)))) None
unfolding decimal_of
decimal-kind s i k h =
    let l : length (take k (drop i s)) ≤ 4 = rw length-take (omega arith) in
    rw (le-leb (length (take k (drop i s))) 4 l)
