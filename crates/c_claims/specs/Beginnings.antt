-- Where demand 3 begins for C. "Take a fresh log, or one read from a file, with no ask open": what `metlazuel_log_fresh` and `metlazuel_read_file` leave in the
-- lent memory, of whose bytes C lends the first on, as many as it was told. From there on specs/Demand3.antt speaks. Proofs: `beginnings`, proofs/Claims.antt.
use Rattle.std.specs.Prelude.{◌≡◌, true, List, [], ◌∷◌, ℕ, ◌≤◌, length, take, Some, None}
use Rattle.refusal.specs.Outcome.{Outcome}
use Rattle.byte_numbers.specs.Number.{Bytes}
use Rattle.log_header.specs.Header.{is_header, cells_of, length_of}
use Rattle.energy_log.specs.Fresh.{gaps, no_lapses, fresh_number}
use Rattle.log_cell.specs.declared.cell.Cell.{Cell}
use Rattle.log_header.specs.declared.header.Header.{Header}
use Rattle.day_rows.specs.LogAndRows.{LogAndRows}
use Rattle.day_rows.specs.Fresh.{fresh_with}
use Rattle.day_rows.specs.Rows.{figures_of}
use Rattle.log_file.specs.File.{is_version, file_bytes, file_bytes_as}
use Rattle.log_file.specs.Read.{read_file, read_number}
use Rattle.c_values.specs.Ask.{ask_of}
use Rattle.claims.specs.Demand3.{Start}
use Rattle.metlazuel.specs.Calls.{sized}
use Rattle.metlazuel.specs.LogCalls.{header_from, image_length, length_after}
use Rattle.c_claims.specs.Demand3.{Lent, Begins}

-- `metlazuel_log_fresh` and `metlazuel_read_file`, as their contracts have them: number, length, and log with its figures
abbrev pub fresh_for_c : Header → List ℕ → List ℕ → ℕ → Outcome ℕ (ℕ × LogAndRows)
fresh_for_c h log figs word = sized fresh_number image_length (fresh_with h log figs) word

abbrev pub read_for_c : List ℕ → List ℕ → List ℕ → ℕ → Outcome ℕ (ℕ × LogAndRows)
read_for_c f log figs word = sized read_number length_after (read_file f log figs) word

-- what C then lends: so many bytes as were told, the figures, an ask's bytes, and any words
abbrev pub lent_after : Outcome ℕ (ℕ × LogAndRows) → List ℕ → ℕ → ℕ → Lent
lent_after o bs result size =
    record { log = take o.left.0 o.left.1.log; figures = o.left.1.figures; ask = bs; result = result; size = size }

-- memory to begin with, whose book begins with this header, these cells and these lapses
pub record BeginsAs (m : Lent) (h : Header) (cells : List Cell) (lapses : ℕ → ℕ) : Type 0 where
  pub begins : Begins m
  pub header : begins.start.header ≡ h
  pub its_cells : begins.start.cells ≡ cells
  pub its_lapses : begins.start.lapses ≡ lapses

-- and the file in which these stand, of a version that is known
pub record BeginsFrom (f : List ℕ) (m : Lent) : Type 0 where
  pub version : ℕ
  pub known : is_version version ≡ true
  pub header : Header
  pub cells : List Cell
  pub lapses : ℕ → ℕ
  pub file : f ≡ file_bytes_as version header cells lapses
  pub begins : BeginsAs m header cells lapses

pub record Beginnings : Type 0 where
  -- "with no ask open": four zero bytes
  pub none_open : ask_of (0 ∷ 0 ∷ 0 ∷ 0 ∷ []) ≡ Some None
  -- a fresh log that was made: of the header that C's numbers are, "all gaps"
  pub fresh : (year month day days minutes ke seasons : ℕ) (log figs : List ℕ) (word : ℕ) (bs : List ℕ) (result size : ℕ) → ask_of bs ≡ Some None
      → let h = header_from year month day days minutes ke seasons in let o = fresh_for_c h log figs word in
      o.result ≡ 0 → BeginsAs (lent_after o bs result size) h (gaps (cells_of h)) no_lapses
  -- and with the room for it every right header's is made
  pub fresh_had : (year month day days minutes ke seasons : ℕ) (log figs : List ℕ) (word : ℕ)
      → let h = header_from year month day days minutes ke seasons in let o = fresh_for_c h log figs word in
      is_header h ≡ true → length_of h ≤ length log → figures_of h ≤ length figs → (o.result ≡ 0) × (o.left.0 ≡ length_of h)
  -- a log that was read: what stands in the file
  pub file : (f log figs : List ℕ) (word : ℕ) (bs : List ℕ) (result size : ℕ) → Bytes f → ask_of bs ≡ Some None → let o = read_for_c f log figs word in
      o.result ≡ 0 → BeginsFrom f (lent_after o bs result size)
  -- and with the room for it the file of every start is read, and gives that log
  pub file_had : (b : LogAndRows) (start : Start b) (log figs : List ℕ) (word : ℕ)
      → let h = start.header in let o = read_for_c (file_bytes h start.cells start.lapses) log figs word in
      length b.log ≤ length log → figures_of h ≤ length figs → (o.result ≡ 0) × (take o.left.0 o.left.1.log ≡ b.log)
