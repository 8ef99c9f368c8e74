-- What follows from the definitions of specs/Place.antt, for proofs alone: no contract cites it.
use mathlib.Core.Path.{◌≡◌, refl, sym, ap, ap₂, ◌∙◌}
use mathlib.Core.List.{List, [], ◌∷◌, ◌++◌, append_assoc}
use mathlib.Core.Logic.{◌⊎◌, inl, inr}
use Prim.Native.Nat.{ℕ, zero, suc, ◌+◌, ◌*◌, ◌/◌, ◌%◌, ◌^◌, ◌≤◌, ◌<◌}
use native.Mathlib.Nat.{add-zero, add-suc, suc-add, zero-add, not-suc-le-zero}
use native.Mathlib.Omega.{arith}
use lib.ListN.{length, take, drop, set, length-set, drop_of_length-le}
use lib.Seq.{sets, sets-eq, take-set-le, drop-set-lt, take-nil, take_at, drop_at, drop-drop, drop-append-add, length-take-le, get_or-set_same, get_or-set_other, set_out}
use Rattle.byte_numbers.specs.Number.{number, bytes_of}
use Rattle.byte_numbers.proofs.NumberLaws.{length-bytes_of, number-bytes_of, bytes_of-low, bytes_of-split, number-split}
use Rattle.byte_numbers.specs.Place.{byte_at, number_at, written}

-- ---- what is written

-- a store never changes how long a buffer is
pub length-written : {A : Type 0} (s : List A) (i : ℕ) (bs : List A) → length (written s i bs) ≡ length s
unfolding written
length-written s i [] = refl
length-written s i (b ∷ bs) = length-written (set s i b) (suc i) bs ∙ length-set s i b

-- two stores side by side are one: how the parts of a frame or of a line come together
pub written-append : {A : Type 0} (s : List A) (i : ℕ) (xs ys : List A) → written s i (xs ++ ys) ≡ written (written s i xs) (i + length xs) ys
unfolding written
written-append s i [] ys = rw add-zero
written-append s i (x ∷ xs) ys =
    written-append (set s i x) (suc i) xs ys
    ∙ ap (λ (k : ℕ). written (written (set s i x) (suc i) xs) k ys) (suc-add i (length xs) ∙ sym (add-suc i (length xs)))

-- bytes put one behind the other by two stores
pub onward : {A : Type 0} (s t u : List A) (i j : ℕ) (xs ys : List A) → t ≡ written s i xs → u ≡ written t j ys → i + length xs ≡ j → u ≡ written s i (xs ++ ys)
onward {A = A} s t u i j xs ys p q e = q ∙ ap₂ (λ (x : List A) (k : ℕ). written x k ys) p (sym e) ∙ sym (written-append s i xs ys)

-- the same for a writer that stores byte by byte
pub written-cons : (s : List ℕ) (i a b : ℕ) (bs : List ℕ)
    → written s i (a ∷ b ∷ bs) ≡ written (written s i (a ∷ [])) (i + 1) (b ∷ bs)
written-cons s i a b bs = written-append s i (a ∷ []) (b ∷ bs)

-- written bytes are those of the kit's run of stores
pub written-sets : {A : Type 0} (s : List A) (i : ℕ) (bs : List A) → written s i bs ≡ sets s i bs
unfolding written
written-sets s i [] = refl
written-sets s i (b ∷ bs) = written-sets (set s i b) (suc i) bs

-- where there is room a store is the front, the bytes and the rest: for output seen as a whole
pub written-fits : {A : Type 0} (s : List A) (i : ℕ) (bs : List A) → i + length bs ≤ length s
    → written s i bs ≡ take i s ++ (bs ++ drop (i + length bs) s)
written-fits s i bs h = written-sets s i bs ∙ sets-eq bs s i h ∙ append_assoc (take i s) bs (drop (i + length bs) s)

-- ---- what stays as it was

-- the k bytes from place j on lie wholly before or wholly behind the n bytes from place i on
abbrev pub Apart : ℕ → ℕ → ℕ → ℕ → Type 0
Apart j k i n = (j + k ≤ i) ⊎ (i + n ≤ j)

-- what stands before a store, for `part-kept`
pub take-written : {A : Type 0} (n : ℕ) (s : List A) (i : ℕ) (bs : List A) → n ≤ i → take n (written s i bs) ≡ take n s
unfolding written
take-written n s i [] h = refl
take-written n s i (b ∷ bs) h = take-written n (set s i b) (suc i) bs (omega arith) ∙ take-set-le n s i b h

-- what stands behind a store, for `part-kept` and for output past a frame
pub drop-written : {A : Type 0} (n : ℕ) (s : List A) (i : ℕ) (bs : List A) → i + length bs ≤ n → drop n (written s i bs) ≡ drop n s
unfolding written
drop-written n s i [] h = refl
drop-written n s i (b ∷ bs) h = drop-written n (set s i b) (suc i) bs (omega arith) ∙ drop-set-lt n s i b (omega arith)

-- a part cut out in the other order
pub take-drop : (j k : ℕ) (s : List ℕ) → take k (drop j s) ≡ drop j (take (j + k) s)
take-drop zero k s = rw zero-add
take-drop (suc j) k [] = rw (suc-add, take-nil {A = ℕ} k)
take-drop (suc j) k (x ∷ s) = rw suc-add (take-drop j k s)

-- a part that a store does not touch, whichever side of it
pub part-kept : (s : List ℕ) (i : ℕ) (bs : List ℕ) (j k : ℕ) → Apart j k i (length bs)
    → take k (drop j (written s i bs)) ≡ take k (drop j s)
part-kept s i bs j k (inl h) =
    take-drop j k (written s i bs) ∙ ap (drop j) (take-written (j + k) s i bs h) ∙ sym (take-drop j k s)
part-kept s i bs j k (inr h) = ap (take k) (drop-written j s i bs h)

-- the same of a number: other counts and kinds after one was put
pub number_at-kept : (s : List ℕ) (i : ℕ) (bs : List ℕ) (j k : ℕ) → Apart j k i (length bs)
    → number_at (written s i bs) j k ≡ number_at s j k
unfolding number_at
number_at-kept s i bs j k h = ap number (part-kept s i bs j k h)

-- the same of a byte
pub byte_at-kept : (s : List ℕ) (i : ℕ) (bs : List ℕ) (j : ℕ) → Apart j 1 i (length bs) → byte_at (written s i bs) j ≡ byte_at s j
unfolding written
byte_at-kept s i [] j h = refl
byte_at-kept s i (b ∷ bs) j (inl h) =
    byte_at-kept (set s i b) (suc i) bs j (inl (omega arith)) ∙ get_or-set_other s i j b 0 (λ e. omega arith)
byte_at-kept s i (b ∷ bs) j (inr h) =
    byte_at-kept (set s i b) (suc i) bs j (inr (omega arith)) ∙ get_or-set_other s i j b 0 (λ e. omega arith)

-- ---- what is read after a write, at the place that was written

-- what was stored is there: the start of every law that reads after a write
pub part-written : (s : List ℕ) (i : ℕ) (bs : List ℕ) → i + length bs ≤ length s → take (length bs) (drop i (written s i bs)) ≡ bs
part-written s i bs h =
    ap (λ (l : List ℕ). take (length bs) (drop i l)) (written-fits s i bs h)
    ∙ ap (take (length bs)) (drop_at (take i s) (bs ++ drop (i + length bs) s) i (length-take-le i s (omega arith)))
    ∙ take_at bs (drop (i + length bs) s) (length bs) refl

-- the same byte by byte
pub byte_at-written : (s : List ℕ) (i : ℕ) (bs : List ℕ) (j : ℕ) → j < length bs → i + j < length s
    → byte_at (written s i bs) (i + j) ≡ byte_at bs j
unfolding written
byte_at-written s i [] j h l = absurd (not-suc-le-zero h)
byte_at-written s i (b ∷ bs) zero h l =
    byte_at-kept (set s i b) (suc i) bs (i + 0) (inl (omega arith)) ∙ ap (byte_at (set s i b)) (add-zero i) ∙ get_or-set_same s i b 0 (omega arith)
byte_at-written s i (b ∷ bs) (suc j) h l =
    ap (byte_at (written (set s i b) (suc i) bs)) (add-suc i j ∙ sym (suc-add i j))
    ∙ byte_at-written (set s i b) (suc i) bs j (omega arith) (simp length-set (omega arith))

-- a number that is written and read back is what its bytes keep of it
pub number_at-written : (s : List ℕ) (i k n : ℕ) → i + k ≤ length s → number_at (written s i (bytes_of k n)) i k ≡ n % 256 ^ k
unfolding number_at
number_at-written s i k n h =
    ap (λ (m : ℕ). number (take m (drop i (written s i (bytes_of k n))))) (sym (length-bytes_of k n))
    ∙ ap number (part-written s i (bytes_of k n) (rw length-bytes_of h))
    ∙ number-bytes_of k n

-- ---- bytes put one behind the other

-- the first number of bytes put together, cut to its width
pub number_at-front : (k n : ℕ) (rest : List ℕ) → number_at (bytes_of k n ++ rest) 0 k ≡ n % 256 ^ k
unfolding number_at
number_at-front k n rest = ap number (take_at (bytes_of k n) rest k (length-bytes_of k n)) ∙ number-bytes_of k n

-- a number past other bytes, to step over the parts of a frame
pub number_at-behind : (xs rest : List ℕ) (i k : ℕ) → number_at (xs ++ rest) (length xs + i) k ≡ number_at rest i k
unfolding number_at
number_at-behind xs rest i k = ap (λ (l : List ℕ). number (take k l)) (drop-append-add xs rest i)

-- a number past another number, to step over the fields of a row
pub number_at-behind-bytes : (j n : ℕ) (rest : List ℕ) (i k : ℕ) → number_at (bytes_of j n ++ rest) (j + i) k ≡ number_at rest i k
number_at-behind-bytes j n rest i k =
    ap (λ (m : ℕ). number_at (bytes_of j n ++ rest) (m + i) k) (sym (length-bytes_of j n)) ∙ number_at-behind (bytes_of j n) rest i k

-- ---- a number of j + k bytes is one of j bytes and, above it, one of k

-- a wide number at a place read as two narrower ones
pub number_at-split : (s : List ℕ) (i j k : ℕ) → number_at s i (j + k) ≡ number_at s (i + j) k * 256 ^ j + number_at s i j
unfolding number_at
number_at-split s i j k =
    number-split j k (drop i s) ∙ ap (λ (l : List ℕ). number (take k l) * 256 ^ j + number (take j (drop i s))) (drop-drop j i s)

-- `put_u16` to `put_u64` put a number in two halves: it is one store
pub written-split : (s : List ℕ) (i j k n : ℕ)
    → written (written s i (bytes_of j (n % 256 ^ j))) (i + j) (bytes_of k (n / 256 ^ j)) ≡ written s i (bytes_of (j + k) n)
written-split s i j k n =
    ap (λ (l : List ℕ). written (written s i l) (i + j) (bytes_of k (n / 256 ^ j))) (bytes_of-low j n)
    ∙ ap (λ (m : ℕ). written (written s i (bytes_of j n)) (i + m) (bytes_of k (n / 256 ^ j))) (sym (length-bytes_of j n))
    ∙ sym (written-append s i (bytes_of j n) (bytes_of k (n / 256 ^ j)))
    ∙ ap (written s i) (sym (bytes_of-split j k n))

-- ---- a single byte, and what lies past the end

-- a number of one byte is that byte: where the halving of a read ends
pub number_at-one : (s : List ℕ) (i : ℕ) → number_at s i 1 ≡ byte_at s i
unfolding number_at number
number_at-one [] zero = refl
number_at-one [] (suc i) = refl
number_at-one (x ∷ s) zero = zero-add x
number_at-one (x ∷ s) (suc i) = number_at-one s i

-- nothing is read past the end, in `u16_at` to `u64_at`
pub number_at-past : (s : List ℕ) (i k : ℕ) → length s ≤ i → number_at s i k ≡ 0
unfolding number_at number
number_at-past s i k h = ap (λ (l : List ℕ). number (take k l)) (drop_of_length-le s h) ∙ ap number (take-nil {A = ℕ} k)

-- nothing is stored past the end, in every writer that is total
pub written-past : {A : Type 0} (s : List A) (i : ℕ) (bs : List A) → length s ≤ i → written s i bs ≡ s
unfolding written
written-past s i [] h = refl
written-past s i (b ∷ bs) h = written-past (set s i b) (suc i) bs (simp length-set (omega arith)) ∙ set_out s i b h
