-- The slots of a day. Source: document 01, "The reader and the log": "an interval of 15 or 30 minutes .. Every day has 48 or 96 slots."
use Rattle.std.specs.Prelude.{ℕ, ◌/◌, Bool, cond, ◌||◌, eqb}

-- "an interval of 15 or 30 minutes"
unfoldable pub is_minutes : ℕ → Bool
is_minutes m = eqb m 15 || eqb m 30

-- "Every day has 48 or 96 slots": its 1440 minutes, an interval each
unfoldable pub slots_of : ℕ → ℕ
slots_of m = cond (is_minutes m) (1440 / m) 0
