-- Numbers read back from text, for the console. Source: no paper has it; what ties it to the written text of specs/Decimal.antt is
-- `read-decimal` of proofs/ReadingLaws.antt.
use Rattle.std.specs.Prelude.{Bool, ◌&&◌, cond, List, ℕ, ◌^◌, ltb, leb, length, None, Option, Some}
use Rattle.text.specs.Decimal.{value_of, are_digits}

-- whether a text is a number: 1 to 20 digits, leading zeros among them or not, no sign, and a value below 2 ^ 64
unfoldable pub is_number : List ℕ → Bool
is_number t = leb 1 (length t) && (leb (length t) 20 && (are_digits t && ltb (value_of t) (2 ^ 64)))

-- the number that a text is
unfoldable pub number_of_text : List ℕ → Option ℕ
number_of_text t = cond (is_number t) (Some (value_of t)) None
