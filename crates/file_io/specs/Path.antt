-- Paths as the system takes them. Source: Linux, limits.h, PATH_MAX: 4,096 bytes with the 0 that ends them; std, whose paths are UTF-8; errno.h for the numbers.
use Rattle.std.specs.Prelude.{Bool, false, ◌≡◌, ◌<◌, ℕ, List, cond, eqb, leb, length}
use Rattle.std.specs.List.{list_any}
use Rattle.std.specs.Str.{IsUtf8}

-- whether a byte 0 stands in it
abbrev pub has_zero : List ℕ → Bool
has_zero p = list_any (λ b. eqb b 0) p

-- a text that the system may be given
pub record IsPath (p : List ℕ) : Type 0 where
  pub short : length p < 4096
  pub whole : has_zero p ≡ false
  pub text : IsUtf8 p

-- why another is refused, the first reason that holds: it is too long, has a byte 0, or is no text
abbrev pub path_fault : List ℕ → ℕ
path_fault p = cond (leb 4096 (length p)) 36 (cond (has_zero p) 22 84)
