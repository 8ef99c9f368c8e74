-- What a lock file holds. Source: Filesystem Hierarchy Standard 3.0, "/var/lock": "to store the process identifier (PID) as a ten byte ASCII
-- decimal number, with a trailing newline"; the example there has spaces before the digits.
use Rattle.std.specs.Prelude.{ℕ, ◌&&◌, cond, List, [], ◌∷◌, ◌++◌, eqb, leb, length, take, drop, None, Option, Some}
use Rattle.text.specs.Decimal.{decimal}
use Rattle.text.specs.Reading.{number_of_text}
use Rattle.text.specs.Search.{index_of}

-- the spaces before a number's digits, ten bytes with them
unfoldable pub pad_of : ℕ → List ℕ
pad_of p = drop (length (decimal p)) (32 ∷ 32 ∷ 32 ∷ 32 ∷ 32 ∷ 32 ∷ 32 ∷ 32 ∷ 32 ∷ 32 ∷ [])

-- the text of the process p
unfoldable pub holder_text : ℕ → List ℕ
holder_text p = pad_of p ++ (decimal p ++ (10 ∷ []))

-- what follows the spaces at the front
unfoldable pub after_spaces : List ℕ → List ℕ
after_spaces [] = []
after_spaces (b ∷ s) = cond (eqb b 32) (after_spaces s) (b ∷ s)

-- what stands before the first b
unfoldable pub up_to : ℕ → List ℕ → List ℕ
up_to b s = take (index_of b s) s

-- a number as a process: 1 to 2,147,483,647 (a `pid_t` has 32 bits and a sign)
unfoldable pub process_of : ℕ → Option ℕ
process_of n = cond (leb 1 n && leb n 2147483647) (Some n) None

unfoldable pub holder_in : Option ℕ → Option ℕ
holder_in (Some n) = process_of n
holder_in None = None

-- the process that a lock's bytes name: their first word, before a space or the line's end
unfoldable pub holder_of : List ℕ → Option ℕ
holder_of s = holder_in (number_of_text (up_to 32 (up_to 10 (after_spaces s))))
