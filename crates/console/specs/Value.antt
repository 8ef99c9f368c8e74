-- Numbers of one byte, of two and of four, and bytes in pairs of hexadecimal digits, as words.
use Rattle.std.specs.Prelude.{ℕ, zero, suc, ◌+◌, ◌*◌, ◌/◌, ◌%◌, cond, List, [], ◌∷◌, ltb, eqb, length, None, Option, Some}
use Rattle.refusal.specs.Outcome.{Outcome, outcome}
use Rattle.byte_numbers.specs.Place.{byte_at, written}
use Rattle.text.specs.Hex.{hex_value}

-- a number up to the most that an answer holds
unfoldable pub up_to : {A : Type 0} → ℕ → (ℕ → A) → A → Option ℕ → A
up_to most of unread (Some n) = cond (ltb most n) unread (of n)
up_to most of unread None = unread

-- a number of 8 bits, of 16 and of 32
abbrev pub byte_of : Option ℕ → Option ℕ
byte_of a = up_to 255 Some None a

abbrev pub short_of : Option ℕ → Option ℕ
short_of a = up_to 65535 Some None a

abbrev pub long_of : Option ℕ → Option ℕ
long_of a = up_to 4294967295 Some None a

-- the byte of two digits, the higher half first
unfoldable pub low_of : ℕ → Option ℕ → Option ℕ
low_of h (Some l) = cond (ltb h 16) (cond (ltb l 16) (Some (h * 16 + l)) None) None
low_of h None = None

unfoldable pub pair_of : Option ℕ → Option ℕ → Option ℕ
pair_of (Some h) low = low_of h low
pair_of None low = None

-- the byte with index i of a text of digits
unfoldable pub pair_at : List ℕ → ℕ → Option ℕ
pair_at digits i = pair_of (hex_value (byte_at digits (2 * i))) (hex_value (byte_at digits (2 * i + 1)))

unfoldable pub on_pair : {A : Type 0} → Option ℕ → (ℕ → A) → A → A
on_pair (Some b) go stop = go b
on_pair None go stop = stop

-- from index i on, with n pairs left, up to the first that is none
unfoldable pub read_from : List ℕ → ℕ → ℕ → ℕ → List ℕ → Outcome (Option ℕ) (List ℕ)
read_from digits pairs i zero out = outcome (Some pairs) out
read_from digits pairs i (suc n) out =
    on_pair (pair_at digits i) (λ (b : ℕ). read_from digits pairs (i + 1) n (written out i (b ∷ []))) (outcome None out)

-- whole pairs, at least one
unfoldable pub bytes_read : List ℕ → List ℕ → Outcome (Option ℕ) (List ℕ)
bytes_read digits out =
    cond (eqb (length digits % 2) 0)
    (cond (eqb (length digits / 2) 0) (outcome None out) (read_from digits (length digits / 2) 0 (length digits / 2) out))
    (outcome None out)
