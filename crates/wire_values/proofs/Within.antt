-- How large a float is: `Within n x` says that x is finite and lies from -n to n. A sum of two such lies within the sum of their bounds,
-- as long as that is at most 2 ^ 24, up to which 32 bits hold every whole number: rounding keeps the order, and a whole bound rounds to itself.
use mathlib.Core.Path.{◌≡◌, refl, sym, subst, ◌∙◌}
use mathlib.Core.Bool.{Bool, true, false, cond, ◌&&◌, ◌||◌, beq, true≢false}
use Prim.Native.Nat.{ℕ, suc, ◌+◌, ◌-◌, ◌*◌, ◌^◌, ◌≤◌, ◌<◌}
use native.Mathlib.Nat.{le_trans, le_of_eq, le_of_lt, mul-one, mul_assoc, mul_right_comm, add-mul, mul-le-mul_right, le_of_mul-le-mul_right, mul-pos}
use native.Mathlib.Omega.{arith}
use lib.IntN.{ℤ}
use lib.Dec.{T, ltb, eqb, ltb→lt, eqb→eq}
use lib.Pow.{pow_pos}
use lib.Ieee.{Float, nan, inf, fin, Format, binary32, prec, low, up, down, odd, units, round, sum, add, le}
use lib.Ieee.Back.{round_whole}
use lib.Ieee.Exact.{HasValue, units_val}
use lib.Ieee.Fits.{down_pos, round_is}
use lib.Ieee.Order.{drop, kept, transfer, round_mono}
use lib.Ieee.Scale.{finite, overflow}
use Rattle.wire_values.specs.Power.{total_of}
use Rattle.wire_values.specs.declared.power.Phases.{Phases}

-- a float is finite and lies from -n to n
abbrev pub Within : ℕ → Float → Type 0
Within n nan = ⊥
Within n (inf s) = ⊥
Within n (fin s m e) = m * up e ≤ n * down e

-- what lies within a bound is finite
pub within-finite : (n : ℕ) (x : Float) → Within n x → finite x ≡ true
within-finite n nan h = absurd h
within-finite n (inf s) h = absurd h
within-finite n (fin s m e) h = refl

-- ---- what `le` says of two numbers of one sign

less-or-same : (a b : Bool) (P : Type 0) → (T a → P) → (T b → P) → T (a || (b && true)) → P
less-or-same true b P f g t = f tt
less-or-same false true P f g t = g tt
less-or-same false false P f g t = absurd t

-- a float that is not negative and at most another is no larger in size
pub not-above : (m : ℕ) (e : ℤ) (n : ℕ) (d : ℤ) → T (le (fin false m e) (fin false n d)) → m * up e * down d ≤ n * up d * down e
unfolding le
not-above m e n d t =
    let x = m * up e * down d in
    let y = n * up d * down e in
    less-or-same (ltb x y) (eqb x y) (x ≤ y) (λ u. le_of_lt (ltb→lt x y u)) (λ u. le_of_eq (eqb→eq x y u)) t

-- a negative float that is at least another is no larger in size
pub not-below : (m : ℕ) (e : ℤ) (n : ℕ) (d : ℤ) → T (le (fin true n d) (fin true m e)) → m * up e * down d ≤ n * up d * down e
unfolding le
not-below m e n d t =
    let x = m * up e * down d in
    let y = n * up d * down e in
    less-or-same (ltb x y) (eqb y x) (x ≤ y) (λ u. le_of_lt (ltb→lt x y u)) (λ u. le_of_eq (sym (eqb→eq y x u))) t

-- ---- a fraction of at most n rounds to a value within n

-- x is a / c and y is n
size-of-le : (x y : Float) (a c n : ℕ) → HasValue x false a c → HasValue y false n 1 → T (le x y) → a ≤ n * c
size-of-le nan y a c n p q t = absurd p
size-of-le (inf s) y a c n p q t = absurd p
size-of-le (fin true m e) y a c n p q t = absurd (true≢false p.0)
size-of-le (fin false m e) nan a c n p q t = absurd q
size-of-le (fin false m e) (inf s) a c n p q t = absurd q
size-of-le (fin false m e) (fin true k d) a c n p q t = absurd (true≢false q.0)
size-of-le (fin false m e) (fin false k d) a c n p q t =
    le_trans (le_of_eq (sym (mul-one a)))
    (transfer a n c 1 (m * up e) (k * up d) (down e) (down d) (down_pos e) (down_pos d) (sym p.1) (sym q.1) (not-above m e k d t))

not-over : (y : Float) (n : ℕ) → HasValue y false n 1 → T (le (inf false) y) → ⊥
unfolding le
not-over nan n v t = v
not-over (inf s) n v t = v
not-over (fin s m e) n v t = t

no_overflow : (f : Format) (q k : ℕ) (y : Float) (n : ℕ) → HasValue y false n 1 → T (le (units f false q k) y) → q * 2 ^ k < overflow f
unfolding units
no_overflow f q k y n v = go (ltb (q * 2 ^ k) (overflow f)) (ltb→lt (q * 2 ^ k) (overflow f))
  where
    go : (b : Bool) → (T b → q * 2 ^ k < overflow f)
        → T (le (cond b (odd (suc (prec f)) false q k (low f)) (inf false)) y) → q * 2 ^ k < overflow f
    go true h t = h tt
    go false h t = absurd (not-over y n v t)

within-value : (x : Float) (s : Bool) (a c n : ℕ) → 0 < c → HasValue x s a c → a ≤ n * c → Within n x
within-value nan s a c n C v h = v
within-value (inf t) s a c n C v h = v
within-value (fin t m e) s a c n C v h =
    le_of_mul-le-mul_right (le_trans (le_of_eq v.1) (le_trans (mul-le-mul_right (down e) h) (le_of_eq (mul_right_comm n c (down e))))) C

-- rounding keeps a whole bound, where the format holds every whole number up to it
pub round-within : (f : Format) (s : Bool) (a c n : ℕ) → 0 < c → a ≤ n * c → n ≤ 2 ^ prec f → Within n (round f s a c)
round-within f s a c n C h N =
    let q = kept (prec f) (a * 2 ^ low f) c in
    let k = drop (prec f) (a * 2 ^ low f) c in
    let y = round f false n 1 in
    let v : HasValue y false n 1 = round_whole f false n N in
    let t : T (le (units f false q k) y) =
    subst (λ (x : Float). T (le x y)) (round_is f false a c) (round_mono f a c n 1 C (pow_pos 0) (le_trans (le_of_eq (mul-one a)) h)) in
    let fine : q * 2 ^ k < overflow f = no_overflow f q k y n v t in
    let small : q * 2 ^ k ≤ n * 2 ^ low f = size-of-le (units f false q k) y (q * 2 ^ k) (2 ^ low f) n (units_val f false q k fine) v t in
    subst (Within n) (sym (round_is f s a c))
    (within-value (units f s q k) s (q * 2 ^ k) (2 ^ low f) n (pow_pos (low f)) (units_val f s q k fine) small)

-- ---- a sum

within-cond : (n : ℕ) (b : Bool) (x y : Float) → Within n x → Within n y → Within n (cond b x y)
within-cond n true x y h k = h
within-cond n false x y h k = k

sum-within : (f : Format) (s : Bool) (a : ℕ) (t : Bool) (b c n : ℕ) → 0 < c → a + b ≤ n * c → n ≤ 2 ^ prec f
    → Within n (sum f s a t b c)
unfolding sum
sum-within f s a t b c n C h N =
    within-cond n (beq s t) (round f s (a + b) c) _ (round-within f s (a + b) c n C h N)
    (within-cond n (ltb a b) (round f t (b - a) c) (round f (s && ltb b a) (a - b) c)
    (round-within f t (b - a) c n C (omega arith) N) (round-within f (s && ltb b a) (a - b) c n C (omega arith) N))

-- a sum lies within the sum of the bounds
pub add-within : (f : Format) (i j : ℕ) (x y : Float) → i + j ≤ 2 ^ prec f → Within i x → Within j y → Within (i + j) (add f x y)
unfolding add
add-within f i j nan y N h k = absurd h
add-within f i j (inf s) y N h k = absurd h
add-within f i j (fin s m e) nan N h k = absurd k
add-within f i j (fin s m e) (inf t) N h k = absurd k
add-within f i j (fin s m e) (fin t n d) N h k =
    let c = down e * down d in
    let x : m * up e * down d ≤ i * c = le_trans (mul-le-mul_right (down d) h) (le_of_eq (mul_assoc i (down e) (down d))) in
    let y : n * up d * down e ≤ j * c =
    le_trans (mul-le-mul_right (down e) k) (le_of_eq (mul_right_comm j (down d) (down e) ∙ mul_assoc j (down e) (down d))) in
    let both : m * up e * down d + n * up d * down e ≤ (i + j) * c = le_trans (omega arith) (le_of_eq (sym (add-mul i j c))) in
    sum-within f s (m * up e * down d) t (n * up d * down e) c (i + j) (mul-pos (down_pos e) (down_pos d)) both N

-- the total of three phases, each of them within n
pub total-within : (n : ℕ) (p : Phases) → n + n + n ≤ 2 ^ 24
    → Within n p.a → Within n p.b → Within n p.c → Within (n + n + n) (total_of p)
unfolding total_of
total-within n p N a b c =
    add-within binary32 (n + n) n (add binary32 p.a p.b) p.c N (add-within binary32 n n p.a p.b (omega arith) a b) c
