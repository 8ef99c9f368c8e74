-- Document 01's example of a report: "slot 0 measured 12 0 3 0, slot 1 empty, others gaps" gives 46 1 1 12 0 3 0, and 0 for the cells that come
-- twice, by the walk and as it is kept beside the log; its strip, cut to three gaps; and the two season days of document 02, CR 5.
use Rattle.std.specs.Prelude.{Ok, Some}
use Prim.Native.Nat.{ℕ}
use mathlib.Core.Path.{◌≡◌, refl}
use mathlib.Core.Bool.{false, not}
use mathlib.Core.List.{List, [], ◌∷◌, map}
use lib.ListN.{replicate}
use Rattle.refusal.specs.Outcome.{outcome}
use Rattle.byte_numbers.specs.Place.{written}
use Rattle.log_header.specs.declared.header.Header.{Header}
use Rattle.energy_log.specs.Fresh.{gaps}
use Rattle.energy_log.specs.Walk.{Place, seen_from}
use Rattle.energy_log.proofs.ViewLaws.{cell_in}
use Rattle.log_cell.specs.declared.cell.Cell.{Cell}
use Rattle.log_cell.specs.declared.cell.Cell.TheVariants.{Gap, Empty, Measured}
use Rattle.season_nights.specs.Night.{in_hour, missing}
use Rattle.season_nights.specs.declared.night.Night.TheVariants.{Spring}
use Rattle.day_rows.specs.Tallies.{report_row, plus, tallies_in, tallies_of}
use Rattle.day_rows.specs.Figures.{figures}
use Rattle.day_rows.specs.Rows.{figures_of, row_at, put_row}
use Rattle.day_rows.specs.Put.{cell_row, net_fits, row_fits, net_row, moved_by}
use Rattle.text.specs.Ascii.{ascii}
use Rattle.text.specs.Decimal.{digits, decimal, padded}
use Rattle.text.specs.DateText.{date_text}
use Rattle.day_report.specs.Report.{report_of}
use Rattle.day_report.specs.Strip.{mark, mark_of, strip_of}

may : figures (Measured 12 0 3 0 ∷ Empty ∷ gaps 46) [] ≡ 46 ∷ 1 ∷ 1 ∷ 12 ∷ 0 ∷ 3 ∷ 0 ∷ 0 ∷ []
unfolding figures report_row tallies_of tallies_in plus gaps
may = refl

-- the same row, kept: a fresh day's 48 gaps, after slot 0 is measured and after slot 1 is empty
fresh-row : List ℕ
fresh-row = 48 ∷ replicate 7 0

measured-row : List ℕ
measured-row = 47 ∷ 0 ∷ 1 ∷ 12 ∷ 0 ∷ 3 ∷ 0 ∷ 0 ∷ []

may-row : List ℕ
may-row = 46 ∷ 1 ∷ 1 ∷ 12 ∷ 0 ∷ 3 ∷ 0 ∷ 0 ∷ []

may-measured : moved_by 0 (cell_row Gap false) (cell_row (Measured 12 0 3 0) false) fresh-row ≡ outcome (Ok tt) measured-row
unfolding fresh-row measured-row moved_by row_fits net_fits net_row cell_row tallies_in report_row row_at put_row written
may-measured = refl

may-empty : moved_by 0 (cell_row Gap false) (cell_row Empty false) measured-row ≡ outcome (Ok tt) may-row
unfolding measured-row may-row moved_by row_fits net_fits net_row cell_row tallies_in report_row row_at put_row written
may-empty = refl

-- and reported: copied to the front of a longer row, whose last number stays
may-report : (h : Header) → h.days ≡ 1 → report_of (Some h) may-row 0 (replicate 9 7) ≡ outcome (Ok tt) (46 ∷ 1 ∷ 1 ∷ 12 ∷ 0 ∷ 3 ∷ 0 ∷ 0 ∷ 7 ∷ [])
unfolding may-row report_of figures_of row_at written
may-report h e = rw e refl

-- of the cells that come twice, one measured and one empty, the measured one is `doubled`; all cells are counted as before
october : figures (Measured 12 0 3 0 ∷ Empty ∷ gaps 46) (Measured 12 0 3 0 ∷ Empty ∷ []) ≡ 46 ∷ 1 ∷ 1 ∷ 12 ∷ 0 ∷ 3 ∷ 0 ∷ 1 ∷ []
unfolding figures report_row tallies_of tallies_in plus gaps
october = refl

may-strip : strip_of (record { year = 24; month = 5; day = 17 }) (35 ∷ 111 ∷ 46 ∷ 46 ∷ 46 ∷ []) ≡ ascii "2024-05-17 #o...\n"
unfolding strip_of ascii date_text padded decimal digits
may-strip = refl

-- the slots of a March day by half hours, with these cells
march : List Cell → ℕ → Place
march cs s = record { day = 0; slot = s; there = not (missing Spring 30 s); twice = false; cell = cell_in cs s; lapses = 0 }

-- slots 4 and 5 of a half-hour day do not exist, whatever stands there; the first is measured and the second empty
march-marks : map mark_of (seen_from (march (Measured 12 0 3 0 ∷ Empty ∷ gaps 2)) 0 4) ≡ 35 ∷ 111 ∷ 46 ∷ 46 ∷ []
unfolding march seen_from mark missing in_hour cell_in gaps
march-marks = refl

march-hour : map mark_of (seen_from (march (Empty ∷ gaps 6)) 3 4) ≡ 46 ∷ 45 ∷ 45 ∷ 46 ∷ []
unfolding march seen_from mark missing in_hour cell_in gaps
march-hour = refl
