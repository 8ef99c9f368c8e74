-- What follows from the definitions of specs/Reading.antt, for proofs alone: no contract cites it.
use Rattle.std.specs.Prelude.{None, Some}
use mathlib.Core.Path.{◌≡◌}
use mathlib.Core.Bool.{true, false, and-false}
use mathlib.Core.Logic.{◌⊎◌, inl, inr}
use mathlib.Core.List.{List, [], ◌∷◌}
use Prim.Native.Nat.{ℕ, ◌+◌, ◌-◌, ◌*◌, ◌^◌, ◌≤◌, ◌<◌}
use native.Mathlib.Nat.{le_refl}
use native.Mathlib.Numerals.{add-one}
use native.Mathlib.Omega.{arith}
use borrow.Author.Tests.{lt-ltb, le-ltb, le-leb, lt-leb}
use lib.Dec.{leb}
use lib.ListN.{length, get_or, drop}
use lib.Seq.{drop-cons}
use Rattle.text.specs.Decimal.{decimal, value_from, value_of, is_digit, are_digits}
use Rattle.text.proofs.DecimalLaws.{value-decimal, are_digits-decimal, decimal-least, decimal-most-u64}
use Rattle.text.specs.Reading.{is_number, number_of_text}

-- ---- there and back

-- what was written reads as what it was
pub read-decimal : (n : ℕ) → n < 2 ^ 64 → number_of_text (decimal n) ≡ Some n
unfolding number_of_text is_number
read-decimal n h =
    simp (
      le-leb 1 (length (decimal n)) (decimal-least n),
      le-leb (length (decimal n)) 20 (decimal-most-u64 n h),
      are_digits-decimal n,
      value-decimal n,
      lt-ltb n (2 ^ 64) h,
    )

-- ---- the four ways to be no number, and the one to be one

-- `number_of`: no digit is no number
pub not-empty : (t : List ℕ) → length t < 1 → number_of_text t ≡ None
unfolding number_of_text is_number
not-empty t h = rw (lt-leb 1 (length t) h)

-- more digits than 64 bits can have
pub not-long : (t : List ℕ) → 20 < length t → number_of_text t ≡ None
unfolding number_of_text is_number
not-long t h = rw (lt-leb (length t) 20 h, and-false (leb 1 (length t)))

-- a byte that is no digit
pub not-digits : (t : List ℕ) → are_digits t ≡ false → number_of_text t ≡ None
unfolding number_of_text is_number
not-digits t h = rw (h, and-false (leb (length t) 20), and-false (leb 1 (length t)))

-- a number of more than 64 bits
pub not-small : (t : List ℕ) → 2 ^ 64 ≤ value_of t → number_of_text t ≡ None
unfolding number_of_text is_number
not-small t h = rw (le-ltb (value_of t) (2 ^ 64) h, and-false (are_digits t), and-false (leb (length t) 20), and-false (leb 1 (length t)))

-- else the number
pub a-number : (t : List ℕ) → 1 ≤ length t → length t ≤ 20 → are_digits t ≡ true → value_of t < 2 ^ 64 → number_of_text t ≡ Some (value_of t)
unfolding number_of_text is_number
a-number t a b c d = rw (le-leb 1 (length t) a, le-leb (length t) 20 b, c, lt-ltb (value_of t) (2 ^ 64) d)

-- more digits make no number less
pub value_grows : (a : ℕ) (ds : List ℕ) → a ≤ value_from a ds
unfolding value_from
value_grows a [] = le_refl a
value_grows a (d ∷ ds) = let h : a * 10 + (d - 48) ≤ value_from (a * 10 + (d - 48)) ds = value_grows (a * 10 + (d - 48)) ds in omega arith

-- ---- a text, read byte by byte: what is left of it from place i on

module _ (t : List ℕ) (i : ℕ) (h : i < length t) where
  -- a turn of its loop: the digit is added
  pub value-at : (a : ℕ) → value_from a (drop i t) ≡ value_from (a * 10 + (get_or t i 0 - 48)) (drop (i + 1) t)
  unfolding value_from
  value-at a = rw (add-one, drop-cons t i 0)

  -- a turn of its loop: a digit changes nothing of the test
  pub digit_at : 48 ≤ get_or t i 0 → get_or t i 0 ≤ 57 → are_digits (drop i t) ≡ are_digits (drop (i + 1) t)
  unfolding are_digits is_digit
  digit_at low high = rw (add-one, drop-cons t i 0, le-leb 48 (get_or t i 0) low, le-leb (get_or t i 0) 57 high)

  -- a byte before the digits or behind them fails it
  pub no-digit : (get_or t i 0 < 48) ⊎ ((48 ≤ get_or t i 0) × (57 < get_or t i 0)) → are_digits (drop i t) ≡ false
  unfolding are_digits is_digit
  no-digit (inl low) = rw (drop-cons t i 0, lt-leb 48 (get_or t i 0) low)
  no-digit (inr high) = rw (drop-cons t i 0, lt-leb (get_or t i 0) 57 high.1, and-false (leb 48 (get_or t i 0)))
