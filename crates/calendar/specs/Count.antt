-- Counting off by lengths: pieces of unequal length, as a calendar's months, laid end to end.
use Rattle.std.specs.Prelude.{ℕ, zero, suc, ◌+◌, ◌-◌, cond, ltb}

-- a place in a row of pieces: the piece's number from 0, and how far into the piece
pub record Place : Type 0 where
  pub piece : ℕ
  pub rest : ℕ

-- where piece k begins: the lengths of all pieces before it
unfoldable pub starts : (ℕ → ℕ) → ℕ → ℕ
starts len zero = 0
starts len (suc k) = starts len k + len k

-- the place n steps past the start of piece k, where whole pieces are counted off, fuel of them at most
unfoldable pub count_off : (ℕ → ℕ) → ℕ → ℕ → ℕ → Place
count_off len zero k n = record { piece = k; rest = n }
count_off len (suc fuel) k n = cond (ltb n (len k)) (record { piece = k; rest = n }) (count_off len fuel (suc k) (n - len k))
