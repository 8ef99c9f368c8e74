-- The open ask, four bytes. Source: document 01, "The reader and the log": "at most one ask open, with its address (0..255)"; the bytes are
-- this project's own.
use Rattle.logger.specs.Held.{opened_for}
use Rattle.std.specs.Prelude.{cond, List, [], ◌∷◌, ℕ, eqb, length, None, Option, Some}
use Rattle.byte_numbers.specs.Place.{byte_at}
use Rattle.logger.specs.declared.held.OpenAsk.{OpenAsk}

-- none, or an open one's address, day and slot
unfoldable pub ask_bytes : Option OpenAsk → List ℕ
ask_bytes None = 0 ∷ 0 ∷ 0 ∷ 0 ∷ []
ask_bytes (Some ask) = 1 ∷ ask.address ∷ ask.day ∷ ask.slot ∷ []

-- where none is open, the other three bytes are not looked at
unfoldable pub ask_of : List ℕ → Option (Option OpenAsk)
ask_of bs =
    cond (eqb (length bs) 4)
    (cond (eqb (byte_at bs 0) 0) (Some None)
    (cond (eqb (byte_at bs 0) 1) (Some (opened_for (byte_at bs 1) (byte_at bs 2) (byte_at bs 3))) None))
    None
