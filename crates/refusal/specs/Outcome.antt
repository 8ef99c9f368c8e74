-- What a call gives. Source: document 01's refusal table says of each number what it leaves behind, so the two are said as one.
use Rattle.std.specs.Prelude.{Bool, cond}

-- a call's result, and what it was lent as the call leaves it
pub record Outcome (R L : Type 0) : Type 0 where
  pub result : R
  pub left : L

abbrev pub outcome : {R L : Type 0} → R → L → Outcome R L
outcome r l = record { result = r; left = l }

-- one of a call's checks, in their order: where it fails, what the refusal gives, else what follows
abbrev pub check : {A : Type 0} → Bool → A → A → A
check passed refused next = cond passed next refused
