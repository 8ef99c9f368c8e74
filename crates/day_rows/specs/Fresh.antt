-- A fresh log with its figures. Source: document 01, "A fresh log is all gaps", and its table: "a new log 27, 1"; document 02, CR 8: "1 .. if fewer are
-- lent".
use Rattle.energy_log.specs.declared.fresh.FreshError.{FreshError}
use Rattle.std.specs.Prelude.{ℕ, List, leb, length, Err, Ok, Result}
use Rattle.refusal.specs.Outcome.{Outcome, outcome, check}
use Rattle.byte_numbers.specs.Place.{written}
use Rattle.energy_log.specs.Fresh.{fresh_image}
use Rattle.log_header.specs.Header.{is_header, length_of}
use Rattle.log_header.specs.declared.header.Header.{Header}
use Rattle.energy_log.specs.declared.fresh.FreshError.TheVariants.{OutOfRange, TooShort}
use Rattle.day_rows.specs.Rows.{all_figures, all_gaps}
use Rattle.day_rows.specs.LogAndRows.{LogAndRows, log_and_rows, enough}

-- "a new log 27, 1", by the image and by the figures; "Output past what was written is unchanged"
unfoldable pub fresh_with : Header → List ℕ → List ℕ → Outcome (Result ℕ FreshError) LogAndRows
fresh_with h out figs =
    check (is_header h) (outcome (Err OutOfRange) (log_and_rows out figs)) (
    check (enough h figs) (outcome (Err TooShort) (log_and_rows out figs)) (
    check (leb (length_of h) (length out)) (outcome (Err TooShort) (log_and_rows out figs)) (
    outcome (Ok (length_of h)) (log_and_rows (written out 0 (fresh_image h)) (written figs 0 (all_figures h all_gaps))))))
