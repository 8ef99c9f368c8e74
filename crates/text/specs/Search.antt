-- Where a byte stands in a text: a console's word ends at a space, a lock's number at a space or the line's end.
use Rattle.std.specs.Prelude.{ℕ, List, eqb}
use Rattle.std.specs.List.{position_or_len}

-- the first place at which b stands: the length where it stands nowhere
abbrev pub index_of : ℕ → List ℕ → ℕ
index_of b s = position_or_len (λ x. eqb x b) s
