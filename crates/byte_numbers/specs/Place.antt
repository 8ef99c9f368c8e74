-- Bytes and numbers at any place of a byte slice: total at every index. What lies past the end reads as 0 and stores nothing.
use Rattle.std.specs.Prelude.{List, [], ◌∷◌, ℕ, suc, get_or, take, drop, set}
use Rattle.byte_numbers.specs.Number.{number}

-- the byte at place i
abbrev pub byte_at : List ℕ → ℕ → ℕ
byte_at s i = get_or s i 0

-- the number of k bytes from place i on, lowest first
unfoldable pub number_at : List ℕ → ℕ → ℕ → ℕ
number_at s i k = number (take k (drop i s))

-- the slice with bs stored one after the other from place i on
unfoldable pub written : {A : Type 0} → List A → ℕ → List A → List A
written s i [] = s
written s i (b ∷ bs) = written (set s i b) (suc i) bs
