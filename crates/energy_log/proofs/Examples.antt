-- Document 01's example of a log, and the last days that one can have.
use Prim.Native.Nat.{ℕ}
use mathlib.Core.Path.{◌≡◌, refl}
use mathlib.Core.Bool.{true, false, cond}
use mathlib.Core.List.{[], ◌∷◌}
use lib.Dec.{eqb}
use Rattle.byte_numbers.specs.Number.{bytes_of}
use Rattle.calendar.specs.Count.{starts}
use Rattle.calendar.specs.Date.{leap, month_lengths, days_in_month, length_of, is_date, day_number}
use Rattle.slots.specs.Day.{is_minutes, slots_of}
use Rattle.log_header.specs.Header.{image_most, cells_of, length_of as image_length, days_right, is_header, date_bytes, header_bytes_as, header_bytes}
use Rattle.energy_log.specs.Pair.{pair_of, packed, put_pair}
use Rattle.energy_log.specs.Image.{kinds_bytes, column_bytes, lapses_bytes, cells_bytes}
use Rattle.log_cell.specs.declared.cell.Cell.TheVariants.{Gap, Empty, Measured}
use Rattle.log_header.specs.declared.header.Header.{Header}

-- "Log from 2024-05-17, 1 day, 30 minutes, Ke 100", without seasons
may : Header
may = record { start = record { year = 24; month = 5; day = 17 }; days = 1; minutes = 30; ke = 100; seasons = 0 }

may-bytes : header_bytes may ≡ 71 ∷ 69 ∷ 76 ∷ 3 ∷ 0 ∷ 24 ∷ 5 ∷ 17 ∷ 1 ∷ 30 ∷ 100 ∷ 0 ∷ 0 ∷ 0 ∷ []
unfolding may header_bytes_as date_bytes bytes_of
may-bytes = refl

may-right : is_header may ≡ true
unfolding may is_header days_right is_minutes is_date day_number starts length_of days_in_month month_lengths leap
may-right = refl

-- "Refusals: 1 by the new size" (document 02, CR 9): 14 bytes of header, 12 of kinds, 384 of counts and 48 of lapses
may-length : image_length may ≡ 458
unfolding may image_length cells_of slots_of is_minutes
may-length = refl

longest : image_most ≡ 55070
longest = refl

-- "all kinds at two bits each, the earlier cell in the lower bits": gap, empty, measured, gap are 00 10 01 00 in binary; with the empty one measured too
-- they are 00 10 10 00, and the others are what they were
four-kinds : kinds_bytes (Gap ∷ Empty ∷ Measured 5 0 0 0 ∷ Gap ∷ []) ≡ 36 ∷ []
unfolding kinds_bytes packed
four-kinds = refl

one-kind : put_pair 36 1 2 ≡ 40
unfolding put_pair packed pair_of
one-kind = refl

-- "then all E+, all E-, all R+, all R-, then the lapses": a measured cell and an empty one, with 3 and 0 lapses
behind-kinds : cells_bytes (Measured 258 1 2 3 ∷ Empty ∷ []) (λ i. cond (eqb i 0) 3 0)
    ≡ 2 ∷ 1 ∷ 0 ∷ 0 ∷ 1 ∷ 0 ∷ 0 ∷ 0 ∷ 2 ∷ 0 ∷ 0 ∷ 0 ∷ 3 ∷ 0 ∷ 0 ∷ 0 ∷ 3 ∷ 0 ∷ []
unfolding cells_bytes kinds_bytes column_bytes lapses_bytes bytes_of
behind-kinds = refl

-- "days that end by 2099-12-31"
december : ℕ → Header
december days = record { start = record { year = 99; month = 12; day = 1 }; days = days; minutes = 15; ke = 1; seasons = 0 }

last-day : is_header (december 31) ≡ true
unfolding december is_header days_right is_minutes is_date day_number starts length_of days_in_month month_lengths leap
last-day = refl

past_the_end : is_header (december 32) ≡ false
unfolding december is_header days_right is_minutes is_date day_number starts length_of days_in_month month_lengths leap
past_the_end = refl
