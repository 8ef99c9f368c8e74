-- The number of a call's answer. Source: document 01's refusal table, whose 0 is a call that is done; "If an answer is an enum, a definition
-- gives this paper's number and values for each of its cases."
use Rattle.std.specs.Prelude.{ℕ, Result, Ok, Err}

-- 0 where the call is done, else its refusal's number
abbrev pub answer_number : {A E : Type 0} → (E → ℕ) → Result A E → ℕ
answer_number number_of (Ok a) = 0
answer_number number_of (Err refusal) = number_of refusal
