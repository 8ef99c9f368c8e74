-- The bytes by sixteens: which bytes of the whole a chunk's are.
use Rattle.std.specs.Simd.{first_chunks}
use mathlib.Core.Path.{◌≡◌, sym, ap, ◌∙◌}
use mathlib.Core.List.{List, []}
use Prim.Native.Nat.{ℕ, zero, suc, ◌+◌, ◌*◌, ◌≤◌, ◌<◌}
use native.Mathlib.Nat.{zero-mul, suc-mul, not-suc-le-zero}
use native.Mathlib.Omega.{arith}
use lib.ListN.{get_or, take, drop}
use lib.Seq.{drop-drop, take-take}
use Rattle.byte_numbers.specs.Number.{number}
use Rattle.byte_numbers.specs.Place.{number_at}
use Rattle.byte_numbers.proofs.PlaceLaws.{take-drop}

-- chunk i begins n bytes after the one before
chunk : (n k i : ℕ) (xs : List ℕ) → i < k → get_or (first_chunks n k xs) i [] ≡ take n (drop (i * n) xs)
chunk n zero i xs h = absurd (not-suc-le-zero h)
chunk n (suc k) zero xs h = rw zero-mul
chunk n (suc k) (suc i) xs h =
    let e : n + i * n ≡ suc i * n = omega (arith, suc-mul i n) in
    chunk n k i (drop n xs) (omega arith) ∙ ap (take n) (drop-drop (i * n) n xs ∙ ap (λ (j : ℕ). drop j xs) e)

-- a number within the front of a list is one of the list's
within : (m i k : ℕ) (s : List ℕ) → i + k ≤ m → number_at (take m s) i k ≡ number_at s i k
unfolding number_at
within m i k s h =
    ap number (take-drop i k (take m s) ∙ ap (drop i) (take-take (i + k) m s h) ∙ sym (take-drop i k s))

-- a number behind a place
behind : (j i k : ℕ) (s : List ℕ) → number_at (drop j s) i k ≡ number_at s (j + i) k
unfolding number_at
behind j i k s = ap (λ (l : List ℕ). number (take k l)) (drop-drop i j s)

-- a chunk's number is the whole's at its place
pub number-in-chunk : (a n m i j k : ℕ) (s : List ℕ) → i < m → j + k ≤ n
    → number_at (get_or (first_chunks n m (drop a s)) i []) j k ≡ number_at s (a + i * n + j) k
number-in-chunk a n m i j k s h w =
    ap (λ (l : List ℕ). number_at l j k) (chunk n m i (drop a s) h)
    ∙ within n j k (drop (i * n) (drop a s)) w
    ∙ behind (i * n) j k (drop a s)
    ∙ behind a (i * n + j) k s
    ∙ ap (λ (p : ℕ). number_at s p k) (omega arith)
