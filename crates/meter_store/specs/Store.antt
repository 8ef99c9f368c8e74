-- The bench meter's store of slices. Source: document 01, "Slices, parameter 36" and "Six slices, parameter 40".
use Rattle.std.specs.Prelude.{ℕ, zero, suc, ◌+◌, ◌*◌, Bool, cond, ◌&&◌, List, [], ◌∷◌, ◌++◌, eqb, ltb, length, get_or, replicate, ◌≡◌}
use Rattle.byte_numbers.specs.Number.{bytes_of}
use Rattle.byte_numbers.specs.Place.{byte_at, number_at, written}
use Rattle.slots.specs.declared.key.Key.{Key}

-- "The store starts as 2,976 unused places": 31 days of 96 slots
abbrev pub places : ℕ
places = 2976

-- a place: month, day, number, and "E+, E-, R+, R-, 2 bytes each"
abbrev pub place_bytes : ℕ
place_bytes = 11

-- as many bytes as the places have
abbrev pub store_bytes : ℕ
store_bytes = places * place_bytes

-- ---- the place of a key

-- "month 1..12, day 1..31, number 0..47 .. or 0..95"
abbrev pub key_of : ℕ → ℕ → ℕ → Key
key_of month day number = record { month = month; day = day; number = number }

-- the key that stands at place i; past the end of a short store, zeros
unfoldable pub key_at : List ℕ → ℕ → Key
key_at s i = key_of (byte_at s (11 * i)) (byte_at s (11 * i + 1)) (byte_at s (11 * i + 2))

unfoldable pub same_key : Key → Key → Bool
same_key a b = eqb a.month b.month && eqb a.day b.day && eqb a.number b.number

-- "a key already there (the first such place ..)": the first of the n places from i on that has the key, or the one behind them.
-- "A place with an illegal key counts as unused" where the key looked for is legal, as are all that the meter asks for and puts.
unfoldable pub first_from : List ℕ → Key → ℕ → ℕ → ℕ
first_from s k i zero = i
first_from s k i (suc n) = cond (same_key (key_at s i) k) i (first_from s k (suc i) n)

unfoldable pub place_of : List ℕ → Key → ℕ
place_of s k = first_from s k 0 places

-- whether a place has the key
unfoldable pub is_kept : List ℕ → Key → Bool
is_kept s k = ltb (place_of s k) places

-- ---- what is read

-- "Data: E+, E-, R+, R-, 2 bytes each": the counts that stand at place i
unfoldable pub row_at : List ℕ → ℕ → List ℕ
row_at s i = number_at s (11 * i + 3) 2 ∷ number_at s (11 * i + 5) 2 ∷ number_at s (11 * i + 7) 2 ∷ number_at s (11 * i + 9) 2 ∷ []

abbrev pub zero_row : List ℕ
zero_row = 0 ∷ 0 ∷ 0 ∷ 0 ∷ []

-- "the first such place, which reads use too"; "An absent slice answers zeros"
unfoldable pub slice_of : List ℕ → Key → List ℕ
slice_of s k = cond (is_kept s k) (row_at s (place_of s k)) zero_row

-- the key so many numbers on in the same day
abbrev pub later : Key → ℕ → Key
later k i = key_of k.month k.day (k.number + i)

-- "six rows of four counts, the named slice and the five after it"
unfoldable pub six_of : List ℕ → Key → List (List ℕ)
six_of s k =
    slice_of s k ∷ slice_of s (later k 1) ∷ slice_of s (later k 2) ∷ slice_of s (later k 3) ∷ slice_of s (later k 4) ∷ slice_of s (later k 5) ∷ []

-- ---- what is put

-- the count with index i of a row
abbrev pub count_at : List ℕ → ℕ → ℕ
count_at row i = get_or row i 0

-- "E+, E-, R+, R-, 2 bytes each", lowest byte first
unfoldable pub row_bytes : List ℕ → List ℕ
row_bytes row = bytes_of 2 (count_at row 0) ++ (bytes_of 2 (count_at row 1) ++ (bytes_of 2 (count_at row 2) ++ bytes_of 2 (count_at row 3)))

-- the eleven bytes of a place
unfoldable pub place_bytes_of : Key → List ℕ → List ℕ
place_bytes_of k row = k.month ∷ k.day ∷ k.number ∷ row_bytes row

-- "A slice with a key already there (the first such place ..) replaces it; any other goes to the next place in turn"
unfoldable pub put_place : List ℕ → ℕ → Key → ℕ
put_place s next k = cond (is_kept s k) (place_of s k) next

unfoldable pub put_store : List ℕ → ℕ → Key → List ℕ → List ℕ
put_store s next k row = written s (11 * put_place s next k) (place_bytes_of k row)

-- "the next place in turn, round from the last to the first, so the oldest goes"; one that was replaced takes no turn
unfoldable pub put_next : List ℕ → ℕ → Key → ℕ
put_next s next k = cond (is_kept s k) next (cond (ltb (next + 1) places) (next + 1) 0)

-- "Zeroing makes all unused": month 0 is in no legal key
unfoldable pub cleared : List ℕ → List ℕ
cleared s = replicate (length s) 0

-- whether the place whose bytes begin at a byte has a day and a number
unfoldable pub is_day : List ℕ → ℕ → ℕ → ℕ → Bool
is_day s at day number = eqb (byte_at s (at + 1)) day && eqb (byte_at s (at + 2)) number

-- no place of the four from i on has the day and the number, whatever the month
abbrev pub NoneOfFour : List ℕ → ℕ → ℕ → ℕ → Type 0
NoneOfFour s i day number = (month : ℕ) → first_from s (key_of month day number) i 4 ≡ i + 4
