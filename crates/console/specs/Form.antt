-- A line's form: which of some names begins it, and the numbers that follow. Source: the console's page, "Words are separated by single
-- spaces, numbers are decimal without sign"; a number too large for its argument is not read.
use Rattle.std.specs.Prelude.{ℕ, zero, suc, ◌+◌, ◌-◌, Bool, true, false, cond, List, [], ◌∷◌, eqb, ltb, length, None, Option, Some}
use Rattle.text.specs.Reading.{number_of_text}
use Rattle.console.specs.Line.{spaces_in, word_at}
use Rattle.console.specs.Value.{up_to}

-- the same bytes
unfoldable pub same_bytes : List ℕ → List ℕ → Bool
same_bytes [] [] = true
same_bytes [] (b ∷ t) = false
same_bytes (a ∷ s) [] = false
same_bytes (a ∷ s) (b ∷ t) = cond (eqb a b) (same_bytes s t) false

-- of n names from the one with index k on, the first that the word is; the length of all where it is none of them
unfoldable pub place_from : List ℕ → List ℕ → ℕ → ℕ → ℕ
place_from w names k zero = length names
place_from w names k (suc n) = cond (same_bytes (word_at k names) w) k (place_from w names (k + 1) n)

-- the names are the words of a line
unfoldable pub place_of : List ℕ → List ℕ → ℕ
place_of w names = place_from w names 0 (suc (spaces_in names))

-- a number was read, and is at most so large
unfoldable pub is_up_to : ℕ → Option ℕ → Bool
is_up_to most a = up_to most (λ (n : ℕ). true) false a

-- from the word with index k on, a number up to each of these
unfoldable pub are_numbers : List ℕ → ℕ → List ℕ → Bool
are_numbers line k [] = true
are_numbers line k (most ∷ ms) = cond (is_up_to most (number_of_text (word_at k line))) (are_numbers line (k + 1) ms) false

-- one word, these numbers, and no more
unfoldable pub is_form : List ℕ → List ℕ → Bool
is_form line ms = cond (eqb (spaces_in line) (length ms)) (are_numbers line 1 ms) false

-- the number that the word with index k is, up to the most that one may be, else 0
abbrev pub number_in : ℕ → List ℕ → ℕ → ℕ
number_in most line k = up_to most (λ (n : ℕ). n) 0 (number_of_text (word_at k line))

-- of one byte, of two and of four
abbrev pub byte_in : List ℕ → ℕ → ℕ
byte_in line k = number_in 255 line k

abbrev pub short_in : List ℕ → ℕ → ℕ
short_in line k = number_in 65535 line k

abbrev pub long_in : List ℕ → ℕ → ℕ
long_in line k = number_in 4294967295 line k

-- a year that one byte holds, from 2000
unfoldable pub year_of : ℕ → Option ℕ
year_of y = cond (ltb y 2000) None (cond (ltb 2255 y) None (Some (y - 2000)))
