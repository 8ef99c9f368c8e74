-- Four pairs of bits in a byte. Source: document 02, CR 9: "all kinds at two bits each, the earlier cell in the lower bits".
use Rattle.std.specs.Prelude.{ℕ, ◌+◌, ◌*◌, ◌/◌, ◌%◌, ◌^◌, cond, eqb}

-- pair j of a byte's bits, 0 the lowest
unfoldable pub pair_of : ℕ → ℕ → ℕ
pair_of b j = b / 4 ^ j % 4

-- four pairs in a byte, the first of them in the lowest bits
unfoldable pub packed : ℕ → ℕ → ℕ → ℕ → ℕ
packed a b c d = a + 4 * b + 16 * c + 64 * d

-- the pairs of a byte whose pair j is another
abbrev pub pair_after : ℕ → ℕ → ℕ → ℕ → ℕ
pair_after b j k m = cond (eqb m j) k (pair_of b m)

-- the byte whose pair j is another: the three others stay
unfoldable pub put_pair : ℕ → ℕ → ℕ → ℕ
put_pair b j k = packed (pair_after b j k 0) (pair_after b j k 1) (pair_after b j k 2) (pair_after b j k 3)
