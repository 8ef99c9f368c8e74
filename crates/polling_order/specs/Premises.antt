-- Histories that meet the premises of the polling order: rounds with any reply, and asks of which each interval has one.
use Rattle.std.specs.Prelude.{◌≡◌, true, ℕ, get_or, replicate}
use mathlib.Core.List.{List, [], ◌∷◌, ◌++◌, Memᴰ}
use Rattle.byte_numbers.specs.Number.{bytes_of}
use Rattle.parameters.specs.Code.{read, slice}
use Rattle.frame.specs.Layout.{read_size}
use Rattle.frame.specs.Sealing.{framed}
use Rattle.log_cell.specs.Cell.{CountsFit}
use Rattle.log_cell.specs.declared.cell.Cell.TheVariants.{Gap}
use Rattle.day_rows.specs.LogAndRows.{LogAndRows}
use Rattle.logger.specs.Book.{is_zero, came_first}
use Rattle.wire_values.specs.declared.row.Row.{Row}
use Rattle.claims.specs.Demand3.{Start}
use Rattle.polling_order.specs.Completed.{Completed}
use Rattle.polling_order.specs.Rounds.{Closing, Round}

-- an ask for a day's slot with room for its frame, closed at once
abbrev pub round_of : ℕ → ℕ → ℕ → Closing → Round
round_of address day slot closing = record { address = address; day = day; slot = slot; out = replicate read_size 0; malformed = []; closing = closing }

-- the frame of a reply with result 0 and four counts: "Data: E+, E-, R+, R-, 2 bytes each"
unfoldable pub reply_with : ℕ → Row → List ℕ
reply_with address r =
    framed (address ∷ read ∷ slice ∷ 0 ∷ (bytes_of 2 r.e_plus ++ (bytes_of 2 r.e_minus ++ (bytes_of 2 r.r_plus ++ bytes_of 2 r.r_minus))))

abbrev pub RowFits : Row → Type 0
RowFits r = CountsFit r.e_plus r.e_minus r.r_plus r.r_minus

-- of completed asks none is for the interval of another
abbrev pub OnceEach : List Completed → Type 0
OnceEach [] = Unit
OnceEach (d ∷ ds) = ((e : Completed) → Memᴰ e ds → e.place ≡ d.place → ⊥) × OnceEach ds

-- none is for an interval whose cell counts as a nonzero reply at the start
abbrev pub NoneMeasured : {b : LogAndRows} → Start b → List Completed → Type 0
NoneMeasured start ds = (d : Completed) (r : Row) → Memᴰ d ds → Memᴰ r (came_first (get_or start.cells d.place Gap)) → is_zero r ≡ true
