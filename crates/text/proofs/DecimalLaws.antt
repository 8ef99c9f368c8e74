-- What follows from the definitions of specs/Decimal.antt, for proofs alone: no contract cites it.
use mathlib.Core.Path.{◌≡◌, refl, sym, ap, ◌∙◌}
use mathlib.Core.Bool.{Bool, true, false, ◌&&◌, and_assoc}
use mathlib.Core.List.{List, [], ◌∷◌, ◌++◌, append_assoc, append-nil}
use Prim.Native.Nat.{ℕ, zero, suc, ◌+◌, ◌-◌, ◌*◌, ◌/◌, ◌%◌, ◌^◌, ◌≤◌, ◌<◌}
use native.Mathlib.Nat.{pow-suc, pow-zero, add-zero, add-suc, div-one, div-div-eq-div-mul, mul_comm}
use native.Mathlib.Omega.{arith}
use borrow.Author.Tests.{ltb-true, ltb-false, lt-ltb, le-ltb, le-leb}
use lib.Dec.{ltb}
use lib.ListN.{length, get_or, length-append, get_or-append}
use Rattle.text.specs.Decimal.{digit, digits, decimal, padded, value_from, value_of, is_digit, are_digits}

-- ---- a number's digits: those of its tenth, and its last

-- a number has one digit, or more
size : {A : Type 0} (n : ℕ) → (n < 10 → A) → (10 ≤ n → A) → A
size {A} n one more = go (ltb n 10) refl
  where
    go : (b : Bool) → ltb n 10 ≡ b → A
    go true e = one (ltb-true n 10 e)
    go false e = more (ltb-false n 10 e)

enough : (j k n : ℕ) → n ≤ j → n ≤ k → digits j (ltb n 10) n ≡ digits k (ltb n 10) n
unfolding digits
enough zero zero n p q = refl
enough zero (suc k) n p q = rw (lt-ltb n 10 (omega arith))
enough (suc j) zero n p q = rw (lt-ltb n 10 (omega arith))
enough (suc j) (suc k) n p q = size n
    (λ h. rw (lt-ltb n 10 h))
    (λ h. rw (le-ltb n 10 h) (ap (λ (l : List ℕ). l ++ (digit (n % 10) ∷ [])) (enough j k (n / 10) (omega arith) (omega arith))))

-- a number of one digit: where the digits of a number begin
pub decimal-one : (n : ℕ) → n < 10 → decimal n ≡ digit n ∷ []
unfolding decimal digits
decimal-one zero h = refl
decimal-one (suc n) h = rw (lt-ltb (suc n) 10 h)

-- one digit more: every law of digits goes by these two
pub decimal-more : (n : ℕ) → 10 ≤ n → decimal n ≡ decimal (n / 10) ++ (digit (n % 10) ∷ [])
unfolding decimal digits
decimal-more zero h = absurd (omega arith)
decimal-more (suc n) h =
    rw (le-ltb (suc n) 10 h)
    (ap (λ (l : List ℕ). l ++ (digit (suc n % 10) ∷ [])) (enough n (suc n / 10) (suc n / 10) (omega arith) (omega arith)))

-- what holds of the numbers with one digit, and of a number where it holds of its tenth, holds of all
pub by_digits : (P : ℕ → Type 0) → ((n : ℕ) → n < 10 → P n) → ((n : ℕ) → 10 ≤ n → P (n / 10) → P n) → (n : ℕ) → P n
by_digits P one more n = up-to (suc n) n (omega arith)
  where
    up-to : (k n : ℕ) → n < k → P n
    up-to zero n h = absurd (omega arith)
    up-to (suc k) n h = size n (one n) (λ t. more n t (up-to k (n / 10) (omega arith)))

-- ---- how many digits

-- the first turn of `decimal_length`
pub length-decimal-one : (n : ℕ) → n < 10 → length (decimal n) ≡ 1
length-decimal-one n h = ap length (decimal-one n h)

-- one turn more of it
pub length-decimal-more : (n : ℕ) → 10 ≤ n → length (decimal n) ≡ length (decimal (n / 10)) + 1
length-decimal-more n h = ap length (decimal-more n h) ∙ length-append (decimal (n / 10)) (digit (n % 10) ∷ [])

-- a number has a first digit
pub decimal-least : (n : ℕ) → 1 ≤ length (decimal n)
decimal-least = by_digits (λ n. 1 ≤ length (decimal n))
    (λ n h. omega (arith, length-decimal-one n h))
    (λ n h rec. omega (arith, length-decimal-more n h))

-- a number below 10 ^ (k + 1) has at most k + 1 digits
pub decimal-most : (k n : ℕ) → n < 10 ^ suc k → length (decimal n) ≤ suc k
decimal-most zero n h = omega (arith, length-decimal-one n h)
decimal-most (suc k) n h = size n
    (λ one. omega (arith, length-decimal-one n one))
    (λ more. let p : n < 10 ^ suc k * 10 = rw pow-suc at h in omega (arith, length-decimal-more n more, decimal-most k (n / 10) (omega arith)))

-- the room that a number of 64 bits needs
pub decimal-most-u64 : (n : ℕ) → n < 2 ^ 64 → length (decimal n) ≤ 20
decimal-most-u64 n h = decimal-most 19 n (omega arith)

-- the room that a number of 32 bits needs: lines of the report, the text of a lock
pub decimal-most-u32 : (n : ℕ) → n < 2 ^ 32 → length (decimal n) ≤ 10
decimal-most-u32 n h = decimal-most 9 n (omega arith)

-- the fixed width of a date's parts
pub length-padded : (k n : ℕ) → length (padded k n) ≡ k
unfolding padded
length-padded zero n = refl
length-padded (suc k) n = length-append (padded k (n / 10)) (digit (n % 10) ∷ []) ∙ ap (λ (x : ℕ). x + 1) (length-padded k (n / 10)) ∙ omega arith

-- ---- each byte is a digit

are_digits-append : (xs ys : List ℕ) → are_digits (xs ++ ys) ≡ (are_digits xs && are_digits ys)
unfolding are_digits
are_digits-append [] ys = refl
are_digits-append (x ∷ xs) ys = ap (λ (b : Bool). is_digit x && b) (are_digits-append xs ys) ∙ sym (and_assoc (is_digit x) (are_digits xs) (are_digits ys))

are_digits-one : (d : ℕ) → d < 10 → are_digits (digit d ∷ []) ≡ true
unfolding are_digits is_digit
are_digits-one d h = rw (le-leb 48 (digit d) (omega arith), le-leb (digit d) 57 (omega arith))

are_digits-more : (ds : List ℕ) (d : ℕ) → are_digits ds ≡ true → d < 10 → are_digits (ds ++ (digit d ∷ [])) ≡ true
are_digits-more ds d e h = are_digits-append ds (digit d ∷ []) ∙ rw (e, are_digits-one d h)

-- what is put as digits is read as digits
pub are_digits-decimal : (n : ℕ) → are_digits (decimal n) ≡ true
are_digits-decimal = by_digits (λ n. are_digits (decimal n) ≡ true)
    (λ n h. ap are_digits (decimal-one n h) ∙ are_digits-one n h)
    (λ n h rec. ap are_digits (decimal-more n h) ∙ are_digits-more (decimal (n / 10)) (n % 10) rec (omega arith))

-- ---- there and back

value_from-more : (a : ℕ) (ds : List ℕ) (d : ℕ) → value_from a (ds ++ (digit d ∷ [])) ≡ value_from a ds * 10 + d
unfolding value_from
value_from-more a [] d = omega arith
value_from-more a (x ∷ ds) d = value_from-more (a * 10 + (x - 48)) ds d

-- the digits of a number read as the number
pub value-decimal : (n : ℕ) → value_of (decimal n) ≡ n
unfolding value_from
value-decimal = by_digits (λ n. value_of (decimal n) ≡ n)
    (λ n h. ap value_of (decimal-one n h) ∙ omega arith)
    (λ n h rec. ap value_of (decimal-more n h) ∙ value_from-more 0 (decimal (n / 10)) (n % 10) ∙ omega (arith, rec))

-- ---- no leading zeros: 0 alone begins with one

-- a line's numbers are written in one way: no zero in front
pub no-leading-zero : (n : ℕ) → get_or (decimal n) 0 0 ≡ digit 0 → n ≡ 0
no-leading-zero = by_digits (λ n. get_or (decimal n) 0 0 ≡ digit 0 → n ≡ 0)
    (λ n h e. omega (arith, ap (λ (l : List ℕ). get_or l 0 0) (decimal-one n h)))
    (λ n h rec e. absurd (
    let first : get_or (decimal n) 0 0 ≡ get_or (decimal (n / 10)) 0 0 =
    ap (λ (l : List ℕ). get_or l 0 0) (decimal-more n h) ∙ get_or-append (decimal (n / 10)) _ 0 0 (decimal-least (n / 10)) in
    omega (arith, rec (sym first ∙ e))
    ))

-- ---- j + k digits are j, and behind them k

-- a year as two numbers of two digits
pub padded-split : (j k n : ℕ) → padded (j + k) n ≡ padded j (n / 10 ^ k) ++ padded k n
unfolding padded
padded-split j zero n = rw (add-zero, pow-zero, div-one) (sym (append-nil (padded j n)))
padded-split j (suc k) n =
    rw (add-suc, pow-suc, mul_comm (10 ^ k) 10, ← div-div-eq-div-mul)
    (ap (λ (l : List ℕ). l ++ (digit (n % 10) ∷ [])) (padded-split j k (n / 10)) ∙ simp append_assoc)
