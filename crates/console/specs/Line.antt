-- A line's words: what stands between single spaces.
use Rattle.std.specs.Prelude.{ℕ, zero, suc, ◌+◌, ◌-◌, Bool, true, cond, List, [], ◌∷◌, take, drop, length, get_or, eqb, leb}
use Rattle.text.specs.Search.{index_of}

-- the first n bytes, nothing where there are fewer
unfoldable pub part_of : ℕ → List ℕ → List ℕ
part_of n s = cond (leb n (length s)) (take n s) []

-- "a carriage return at a line's end is dropped" (the console's page): one, the last byte
unfoldable pub without_return : List ℕ → List ℕ
without_return s = cond (eqb (length s) 0) s (cond (eqb (get_or s (length s - 1) 0) 13) (take (length s - 1) s) s)

-- how many spaces there are
unfoldable pub spaces_in : List ℕ → ℕ
spaces_in [] = zero
spaces_in (b ∷ s) = cond (eqb b 32) (suc (spaces_in s)) (spaces_in s)

-- what stands before the first space
unfoldable pub first_word : List ℕ → List ℕ
first_word s = take (index_of 32 s) s

-- what follows it
unfoldable pub after_first : List ℕ → List ℕ
after_first s = drop (index_of 32 s + 1) s

-- the word with index k, counted from 0
unfoldable pub word_at : ℕ → List ℕ → List ℕ
word_at zero s = first_word s
word_at (suc k) s = word_at k (after_first s)

-- an empty line, or one that begins with #
unfoldable pub is_passed_over : List ℕ → Bool
is_passed_over s = cond (eqb (length s) 0) true (eqb (get_or s 0 0) 35)
