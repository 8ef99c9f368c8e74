-- What follows from the definitions of specs/DateText.antt, for proofs alone: no contract cites it.
use mathlib.Core.Path.{◌≡◌, refl, sym, ap, ap₂, ◌∙◌}
use mathlib.Core.List.{List, [], ◌∷◌, ◌++◌, append_assoc}
use Prim.Native.Nat.{ℕ, ◌+◌, ◌/◌, ◌%◌}
use native.Mathlib.Omega.{arith}
use lib.ListN.{length, length-append}
use Rattle.byte_numbers.specs.Place.{written}
use Rattle.byte_numbers.proofs.PlaceLaws.{written-append}
use Rattle.calendar.specs.declared.date.Date.{Date}
use Rattle.text.specs.Decimal.{digit, padded}
use Rattle.text.proofs.DecimalLaws.{length-padded, padded-split}
use Rattle.text.specs.DateText.{hyphen, date_text}

-- how much room a date takes in a line
pub length-date_text : (d : Date) → length (date_text d) ≡ 10
unfolding date_text
length-date_text d = simp (length-append, length-padded)

-- 17 May 2024, as the day report has it
example : date_text (record { year = 24; month = 5; day = 17 }) ≡ 50 ∷ 48 ∷ 50 ∷ 52 ∷ 45 ∷ 48 ∷ 53 ∷ 45 ∷ 49 ∷ 55 ∷ []
unfolding date_text padded
example = refl

-- ---- its parts, written one after the other

low-two : (n : ℕ) → padded 2 (n % 100) ≡ padded 2 n
unfolding padded
low-two n =
    let tens : n % 100 / 10 % 10 ≡ n / 10 % 10 = omega arith in
    let ones : n % 100 % 10 ≡ n % 10 = omega arith in
    ap₂ (λ (x y : ℕ). digit x ∷ digit y ∷ []) tens ones

four : (n : ℕ) → padded 4 n ≡ padded 2 (n / 100) ++ padded 2 (n % 100)
four n = padded-split 2 2 n ∙ ap (λ (l : List ℕ). padded 2 (n / 100) ++ l) (sym (low-two n))

-- what is written where the text before it ended
next : (s : List ℕ) (i j : ℕ) (xs ys : List ℕ) → i + length xs ≡ j → written (written s i xs) j ys ≡ written s i (xs ++ ys)
next s i j xs ys e = ap (λ (k : ℕ). written (written s i xs) k ys) (sym e) ∙ sym (written-append s i xs ys)

-- the stores of `put_date` are one
pub written-date : (s : List ℕ) (i : ℕ) (d : Date)
    → written (written (written (written (written (written s i (padded 2 ((2000 + d.year) / 100))) (i + 2) (padded 2 ((2000 + d.year) % 100)))
    (i + 4) (hyphen ∷ [])) (i + 5) (padded 2 d.month)) (i + 7) (hyphen ∷ [])) (i + 8) (padded 2 d.day)
    ≡ written s i (date_text d)
unfolding date_text
written-date s i d =
    let century = padded 2 ((2000 + d.year) / 100) in
    let year = padded 2 ((2000 + d.year) % 100) in
    let month = padded 2 d.month in
    let day = padded 2 d.day in
    next _ (i + 7) (i + 8) (hyphen ∷ []) day (omega arith)
    ∙ next _ (i + 5) (i + 7) month (hyphen ∷ day) (omega (arith, length-padded 2 d.month))
    ∙ next _ (i + 4) (i + 5) (hyphen ∷ []) (month ++ (hyphen ∷ day)) (omega arith)
    ∙ next _ (i + 2) (i + 4) year (hyphen ∷ (month ++ (hyphen ∷ day))) (omega (arith, length-padded 2 ((2000 + d.year) % 100)))
    ∙ next s i (i + 2) century (year ++ (hyphen ∷ (month ++ (hyphen ∷ day)))) (omega (arith, length-padded 2 ((2000 + d.year) / 100)))
    ∙ ap (written s i)
    (sym (append_assoc century year _) ∙ ap (λ (l : List ℕ). l ++ (hyphen ∷ (month ++ (hyphen ∷ day)))) (sym (four (2000 + d.year))))
