-- Decoded figures as rows of 32-bit numbers. Source: document 01, "The bench meter's record", whose bullets name each parameter's figures;
-- their order in the row is this project's own: that of the bullets, and for a date and time the calendar's.
use Rattle.std.specs.Prelude.{List, [], ◌∷◌, ◌++◌, ℕ, get_or, Err, Ok, Result, None, Option, Some}
use Rattle.reader.specs.declared.reply.DecodeError.{DecodeError}
use Rattle.calendar.specs.declared.time.DateTime.{DateTime}
use Rattle.wire_values.specs.Power.{bits_of}
use Rattle.wire_values.specs.declared.displayed.Energies.{Energies}
use Rattle.wire_values.specs.declared.mask.DisplayMask.{DisplayMask}
use Rattle.wire_values.specs.declared.power.Powers.{Powers}
use Rattle.wire_values.specs.declared.telemetry.Telemetry.{Telemetry}
use Rattle.parameters.specs.Table.{figure_count}
use Rattle.request.specs.declared.subject.Subject.{Subject}
use Rattle.reader.specs.Rows.{reply_data, four_of, six_of}
use Rattle.reader.specs.declared.reply.Decoded.{Decoded}
use Rattle.reader.specs.declared.reply.Decoded.TheVariants as decoded

-- how many figures a reply has that is done; a request that asks for nothing has none
abbrev pub figures_for : Option Subject → ℕ
figures_for (Some asked) = figure_count asked.reading asked.parameter asked.detail
figures_for None = 0

-- "pulses K (4 bytes), Ke (2), reserve (2, kept as written)"
abbrev pub telemetry_row : Telemetry → List ℕ
telemetry_row t = t.k ∷ t.ke ∷ t.reserve ∷ []

-- the year counts from 2000
unfoldable pub time_row : DateTime → List ℕ
time_row t = t.date.year ∷ t.date.month ∷ t.date.day ∷ t.hour ∷ t.minute ∷ t.second ∷ []

-- "Display mask: 4 + 1 + 1 bytes": parameters, tariffs, directions
abbrev pub mask_row : DisplayMask → List ℕ
mask_row m = m.parameters ∷ m.tariffs ∷ m.directions ∷ []

-- "detail 0 answers the total and A, B, C": each as the bits of its float
unfoldable pub powers_row : Powers → List ℕ
powers_row p = bits_of p.total ∷ bits_of p.phases.a ∷ bits_of p.phases.b ∷ bits_of p.phases.c ∷ []

-- "four 32-bit floats in kilowatt-hours" (document 02, request 3): each as the bits of its float
unfoldable pub energies_row : Energies → List ℕ
energies_row e = e.e_plus.0 ∷ e.e_minus.0 ∷ e.r_plus.0 ∷ e.r_minus.0 ∷ []

unfoldable pub counts_row : List ℕ → List ℕ
counts_row counts = get_or counts 0 0 ∷ get_or counts 1 0 ∷ get_or counts 2 0 ∷ get_or counts 3 0 ∷ []

row_at : List (List ℕ) → ℕ → List ℕ
row_at rows i = counts_row (get_or rows i [])

-- "six rows of four counts", one behind the other
unfoldable pub six_row : List (List ℕ) → List ℕ
unfolding row_at
six_row rows = row_at rows 0 ++ (row_at rows 1 ++ (row_at rows 2 ++ (row_at rows 3 ++ (row_at rows 4 ++ row_at rows 5))))

-- the figures of a decoded reply y; a refusal has none
unfoldable pub figure_row : Result Decoded DecodeError → List ℕ → List ℕ
figure_row (Err refusal) y = []
figure_row (Ok (decoded.Address a)) y = a ∷ []
figure_row (Ok (decoded.Telemetry t)) y = telemetry_row t
figure_row (Ok (decoded.DateTime t)) y = time_row t
figure_row (Ok (decoded.DisplayMask m)) y = mask_row m
figure_row (Ok (decoded.Powers p)) y = powers_row p
figure_row (Ok (decoded.OnePower p)) y = bits_of p ∷ []
figure_row (Ok (decoded.Slice s)) y = four_of s
figure_row (Ok decoded.SixSlices) y = six_row (six_of (reply_data y))
figure_row (Ok (decoded.Displayed e)) y = energies_row e
