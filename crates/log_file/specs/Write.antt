-- A log, written as a file. Source: document 01, "Refusal numbers": "a file to write 28 (header, length), 1, 28 (all cells, before any
-- output)"; document 02, CR 5: "28 where a cell that 35 so refuses is written out", and CR 7.
use Rattle.refusal.specs.Number.{answer_number}
use Rattle.log_file.specs.declared.write.WriteError.{WriteError}
use Rattle.std.specs.Prelude.{ℕ, List, leb, length, Err, Ok, Result}
use Rattle.refusal.specs.Outcome.{Outcome, outcome, check}
use Rattle.byte_numbers.specs.Place.{written}
use Rattle.log_header.specs.Header.{cells_of, if_sound}
use Rattle.energy_log.specs.Image.{goods}
use Rattle.energy_log.specs.Walk.{seen_from}
use Rattle.energy_log.specs.View.{View}
use Rattle.log_file.specs.File.{file_bytes, file_length, cells_right}
use Rattle.log_file.specs.declared.write.WriteError.TheVariants.{Unsound, TooShort}

-- the numbers of document 01's table
abbrev pub write_error_number : WriteError → ℕ
write_error_number Unsound = 28
write_error_number TooShort = 1

abbrev pub write_number : Result ℕ WriteError → ℕ
write_number = answer_number write_error_number

-- "28 (header, length)"; 1: "under what would be written"; "28 (all cells, before any output)"; "Output past what was written is unchanged"
unfoldable pub written_file : View → List ℕ → Outcome (Result ℕ WriteError) (List ℕ)
written_file v out =
    if_sound v.lent (outcome (Err Unsound) out) (λ h.
    check (leb (file_length h) (length out)) (outcome (Err TooShort) out) (
    check (cells_right h v.cell v.lapses) (outcome (Err Unsound) out) (
    outcome (Ok (file_length h)) (written out 0 (file_bytes h (goods (seen_from v.cell 0 (cells_of h))) v.lapses)))))
