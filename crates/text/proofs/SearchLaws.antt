-- What follows from the definition of specs/Search.antt, for those who cut a text at a byte.
use Rattle.std.proofs.Common.{List, ℕ, ◌≤◌, length, not, eqb}
use Rattle.std.proofs.lemmas.List.Sums.{prefix_len-le-length}
use Rattle.text.specs.Search.{index_of}

-- a cut at the place of a byte stays within the text
pub index_of-most : (b : ℕ) (s : List ℕ) → index_of b s ≤ length s
index_of-most b s = prefix_len-le-length (λ x. not (eqb x b)) s
