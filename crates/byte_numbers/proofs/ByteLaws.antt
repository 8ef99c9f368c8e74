-- A part of a byte list, one byte at a time.
use mathlib.Core.Path.{◌≡◌, refl, ap, ◌∙◌}
use mathlib.Core.List.{List, [], ◌∷◌, ◌++◌}
use mathlib.Core.Bool.{Bool, true, false}
use Prim.Native.Nat.{ℕ, zero, suc, ◌+◌, ◌*◌, ◌/◌, ◌%◌, ◌≤◌, ◌<◌}
use native.Mathlib.Nat.{zero-lt-suc}
use native.Mathlib.Omega.{arith}
use lib.Dec.{ltb}
use lib.ListN.{length, get_or, take, drop, length-take, get_or-eq_default}
use lib.Seq.{drop-cons, get_or-take, get_or-drop}
use borrow.Author.Tests.{ltb-true, ltb-false}
use Rattle.byte_numbers.specs.Number.{Bytes}
use Rattle.byte_numbers.specs.Place.{byte_at, number_at}
use Rattle.byte_numbers.proofs.PlaceLaws.{number_at-split, number_at-one}

-- the n bytes from place i on
unfoldable pub run : List ℕ → ℕ → ℕ → List ℕ
run s i zero = []
run s i (suc n) = byte_at s i ∷ run s (suc i) n

-- a part that is all there, listed byte by byte: for a header and a cell, whose bytes are told one by one
pub take-run : (n i : ℕ) (s : List ℕ) → i + n ≤ length s → take n (drop i s) ≡ run s i n
unfolding run
take-run zero i s h = refl
take-run (suc n) i s h =
    ap (take (suc n)) (drop-cons s i 0 (omega arith)) ∙ ap (λ (l : List ℕ). byte_at s i ∷ l) (take-run n (suc i) s (omega arith))

-- a number of two bytes
pub two : (s : List ℕ) (i : ℕ) → number_at s i 2 ≡ byte_at s (i + 1) * 256 + byte_at s i
two s i = number_at-split s i 1 1 ∙ simp number_at-one

-- the lower byte of such a number
pub low : (s : List ℕ) → Bytes s → (i : ℕ) → byte_at s i ≡ number_at s i 2 % 256
low s h i = omega (arith, two s i, h i, h (i + 1))

-- the upper byte of such a number
pub high : (s : List ℕ) → Bytes s → (i : ℕ) → byte_at s (i + 1) ≡ number_at s i 2 / 256 % 256
high s h i = omega (arith, two s i, h i, h (i + 1))

-- a number that is known has its bytes known
pub low_of : (s : List ℕ) (i n : ℕ) → Bytes s → number_at s i 2 ≡ n → byte_at s i ≡ n % 256
low_of s i n h e = low s h i ∙ ap (λ (x : ℕ). x % 256) e

-- and so its upper byte
pub high-of : (s : List ℕ) (i n : ℕ) → Bytes s → number_at s i 2 ≡ n → byte_at s (i + 1) ≡ n / 256 % 256
high-of s i n h e = high s h i ∙ ap (λ (x : ℕ). x / 256 % 256) e

-- bytes one behind the other are bytes
pub bytes-nil : Bytes []
bytes-nil i = zero-lt-suc 255

-- a byte before bytes
pub bytes-cons : (x : ℕ) (xs : List ℕ) → x < 256 → Bytes xs → Bytes (x ∷ xs)
bytes-cons x xs h k zero = h
bytes-cons x xs h k (suc i) = k i

-- two runs of bytes put together
pub bytes-append : (xs ys : List ℕ) → Bytes xs → Bytes ys → Bytes (xs ++ ys)
bytes-append [] ys h k i = k i
bytes-append (x ∷ xs) ys h k zero = h 0
bytes-append (x ∷ xs) ys h k (suc i) = bytes-append xs ys (λ j. h (suc j)) k i

-- a part of bytes is bytes
pub bytes-part : (s : List ℕ) (a k : ℕ) → Bytes s → Bytes (take k (drop a s))
bytes-part s a k h i = go (ltb i k) refl
  where
    go : (b : Bool) → ltb i k ≡ b → get_or (take k (drop a s)) i 0 < 256
    go true e = rw (get_or-take k (drop a s) i 0 (ltb-true _ _ e), get_or-drop) (h (a + i))
    go false e =
        let z : length (take k (drop a s)) ≤ i = simp length-take (omega (arith, ltb-false i k e)) in
        rw (get_or-eq_default (take k (drop a s)) 0 {n = i} z) (omega arith)
