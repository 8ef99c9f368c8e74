-- Things that are numbered from 0 on, one to each number below a bound: dates by their days, times by their seconds. What follows from
-- the answer at a number, so many numbers later and so many earlier.
use Prim.Native.Nat.{ℕ, ◌+◌, ◌-◌, ◌<◌}
use native.Mathlib.Omega.{arith}
use mathlib.Core.Path.{◌≡◌, sym, ◌∙◌, ap}
use mathlib.Core.Bool.{Bool, true, cond}
use lib.Dec.{ltb, leb}
use borrow.Author.Tests.{ltb-true, leb-true, lt-ltb}
use Rattle.test_laws.proofs.Test.{chosen}

-- x is the one with number n
pub record Numbered {A : Type 0} (is_valid : A → Bool) (number_of : A → ℕ) (n : ℕ) (x : A) : Type 0 where
  pub valid : is_valid x ≡ true
  pub number : number_of x ≡ n

-- y is n numbers before x
pub record NumberedBefore {A : Type 0} (is_valid : A → Bool) (number_of : A → ℕ) (x : A) (n : ℕ) (y : A) : Type 0 where
  pub valid : is_valid y ≡ true
  pub number : number_of y + n ≡ number_of x

-- how things are numbered, and the answers at a number: the thing that has it, or that none has; and that what was asked about is no
-- such thing
pub record Numbering (A B : Type 0) : Type 0 where
  pub is_valid : A → Bool
  pub number_of : A → ℕ
  pub bound : ℕ
  pub nth : ℕ → A
  pub found : A → B
  pub outside : B
  pub none : B
  pub nth-is : (n : ℕ) → n < bound → Numbered is_valid number_of n (nth n)
  pub nth_number : (x : A) → is_valid x ≡ true → nth (number_of x) ≡ x
  pub number-below : (x : A) → is_valid x ≡ true → number_of x < bound
  pub found-one : (x y : A) → found x ≡ found y → x ≡ y
  pub outside≢found : (x : A) → outside ≡ found x → ⊥
  pub none≢found : (x : A) → none ≡ found x → ⊥

module _ {A B : Type 0} (c : Numbering A B) where
  abbrev Is : ℕ → A → Type 0
  Is = Numbered c.is_valid c.number_of

  -- the answer at a number, and n numbers before number m
  abbrev answer : ℕ → B
  answer n = cond (ltb n c.bound) (c.found (c.nth n)) c.outside

  abbrev back : ℕ → ℕ → B
  back m n = cond (leb n m) (answer (m - n)) c.outside

  -- two with one number are one
  pub same : (x y : A) → c.is_valid x ≡ true → c.is_valid y ≡ true → c.number_of x ≡ c.number_of y → x ≡ y
  same x y p q s = sym (c.nth_number x p) ∙ ap c.nth s ∙ c.nth_number y q

  -- the answer at a number is the one that has it
  pub answered : (n : ℕ) (x : A) → Is n x → answer n ≡ c.found x
  answered n x s =
      let h : n < c.bound = rw s.number at (c.number-below x s.valid) in
      let q : c.nth n ≡ x = rw s.number at (c.nth_number x s.valid) in
      rw (lt-ltb _ _ h, q)

  -- an answer found by its number has that number: once for dates and times
  pub answers : (n : ℕ) (x : A) → answer n ≡ c.found x → Is n x
  answers n x p =
      let w = chosen (ltb n c.bound) (c.found (c.nth n)) c.outside p (c.outside≢found x) in
      rw (c.found-one _ _ w.1) at (c.nth-is n (ltb-true _ _ w.0))

  -- n later the number is n more
  pub later : (x : A) (n : ℕ) (y : A) → cond (c.is_valid x) (answer (c.number_of x + n)) c.none ≡ c.found y → Is (c.number_of x + n) y
  later x n y p = answers _ y (chosen (c.is_valid x) (answer (c.number_of x + n)) c.none p (c.none≢found y)).1

  -- n earlier it is n less
  pub earlier : (x : A) (n : ℕ) (y : A) → cond (c.is_valid x) (back (c.number_of x) n) c.none ≡ c.found y
      → NumberedBefore c.is_valid c.number_of x n y
  earlier x n y p =
      let v = chosen (c.is_valid x) (back (c.number_of x) n) c.none p (c.none≢found y) in
      let w = chosen (leb n (c.number_of x)) (answer (c.number_of x - n)) c.outside v.1 (c.outside≢found y) in
      let s = answers (c.number_of x - n) y w.1 in
      record { valid = s.valid; number = omega (arith, s.number, leb-true n (c.number_of x) w.0) }
