-- The completed asks of a history. Document 02, CR 13: "two histories holding the same completed asks, each with its reply or lapse".
use Rattle.std.specs.Prelude.{cond, List, [], ◌∷◌, ◌++◌, ℕ, eqb, get_or, Option}
use Rattle.log_cell.specs.declared.cell.Cell.TheVariants.{Gap}
use Rattle.log_header.specs.declared.header.Header.{Header}
use Rattle.day_rows.specs.LogAndRows.{LogAndRows}
use Rattle.logger.specs.Book.{Call, ask, lapse, reply, Book, counts_in, place_of, came_first, start_book, book_step}
use Rattle.logger.specs.Held.{if_open}
use Rattle.logger.specs.Reply.{slice_form, if_formed, result_of, if_ok}
use Rattle.wire_values.specs.declared.row.Row.{Row}
use Rattle.logger.specs.declared.held.OpenAsk.{OpenAsk}
use Rattle.claims.specs.Demand3.{Start}

-- how an ask ended: by a well-formed reply, whose result was 0 and which had four counts, or was another; or by a lapse
pub data Ending : Type 0 where
  counted : Row → Ending
  refused : ℕ → Ending
  lapsed : Ending

-- a completed ask: its interval, and how it ended
pub record Completed : Type 0 where
  pub place : ℕ
  pub ending : Ending

abbrev pub ended_at : ℕ → Ending → Completed
ended_at i e = record { place = i; ending = e }

-- the ending by a well-formed reply
unfoldable pub ending_of : List ℕ → Ending
ending_of y = if_ok (result_of y) (refused (result_of y)) (counted (counts_in y))

-- what a call completes: the ask that was open before it, where a lapse or a well-formed reply closes it; else nothing
unfoldable pub completed_by : Header → Option OpenAsk → Call → List Completed
unfolding ending_of
completed_by h held (ask address day slot out) = []
completed_by h held lapse = if_open held [] (λ address day slot. ended_at (place_of h day slot) lapsed ∷ [])
completed_by h held (reply y) =
    if_open held [] (λ address day slot.
    if_formed (slice_form address y) (λ fault. []) (ended_at (place_of h day slot) (ending_of y) ∷ []))

-- what a list of calls completes, in its order: each call meets the ask that the plain book has open then
unfoldable pub completed : Header → Book → List Call → List Completed
unfolding completed_by
completed h b [] = []
completed h b (c ∷ calls) = completed_by h b.held c ++ completed h (book_step h b c).left calls

-- the completed asks of a history from a start of demand 3
abbrev pub asks_in : {b : LogAndRows} → Start b → List Call → List Completed
asks_in start calls = completed start.header (start_book start.cells start.lapses) calls

-- ---- the replies of an interval

-- the counts that came with an ending
unfoldable pub rows_with : Ending → List Row
rows_with (counted r) = r ∷ []
rows_with (refused result) = []
rows_with lapsed = []

-- those that came for interval i with completed asks
unfoldable pub rows_at : ℕ → List Completed → List Row
unfolding rows_with
rows_at i [] = []
rows_at i (d ∷ ds) = cond (eqb i d.place) (rows_with d.ending) [] ++ rows_at i ds

-- "the same log, whose measured cells count among those replies": the start's cell as the reply that came first, and those of the completed asks
abbrev pub replies_at : {b : LogAndRows} → Start b → List Completed → ℕ → List Row
replies_at start ds i = came_first (get_or start.cells i Gap) ++ rows_at i ds
