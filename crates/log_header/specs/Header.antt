-- The header of a log. Source: document 01, "The reader and the log".
use Rattle.std.specs.Prelude.{ℕ, ◌+◌, ◌*◌, ◌-◌, ◌/◌, Bool, cond, ◌&&◌, List, [], ◌∷◌, ◌++◌, ltb, leb, eqb, length, None, Option, Some}
use Rattle.byte_numbers.specs.Number.{bytes_of}
use Rattle.byte_numbers.specs.Place.{byte_at, number_at}
use Rattle.slots.specs.Day.{is_minutes, slots_of}
use Rattle.calendar.specs.Date.{is_date, day_number, century_days}
use Rattle.calendar.specs.declared.date.Date.{Date}
use Rattle.log_header.specs.declared.header.Header.{Header}

-- "14 bytes"
abbrev pub header_size : ℕ
header_size = 14

-- "the file version 3" (document 02, CR 7), and an image is of the same version
abbrev pub version : ℕ
version = 3

-- "1 to 62 days"
abbrev pub days_most : ℕ
days_most = 62

-- "1 to 62 days", "Every day has 48 or 96 slots": the most cells that a log has
abbrev pub cells_most : ℕ
cells_most = days_most * 96

-- the bytes of a log of n cells: "14 header bytes", "all kinds at two bits each", four columns of two bytes a cell, and a byte of lapses (document 02, CR 9)
abbrev pub size_for : ℕ → ℕ
size_for n = header_size + n / 4 + 8 * n + n

-- the longest image
abbrev pub image_most : ℕ
image_most = size_for cells_most

-- the log's cells: the slots of all its days
unfoldable pub cells_of : Header → ℕ
cells_of h = h.days * slots_of h.minutes

-- "1 by the new size" (document 02, CR 9)
unfoldable pub length_of : Header → ℕ
length_of h = size_for (cells_of h)

-- "1 to 62 days that end by 2099-12-31"
unfoldable pub days_right : Header → Bool
days_right h = leb 1 h.days && leb h.days days_most && ltb (day_number h.start + (h.days - 1)) century_days

-- "a start date (2000..2099), 1 to 62 days .., an interval of 15 or 30 minutes, and Ke (1..65,535)"; document 02, CR 5: "1 follows the automatic
-- seasons, 0 doesn't"
unfoldable pub is_header : Header → Bool
is_header h = is_date h.start && days_right h && is_minutes h.minutes && leb 1 h.ke && leb h.ke 65535 && leb h.seasons 1

-- "year - 2000, month, day"
unfoldable pub date_bytes : Date → List ℕ
date_bytes d = d.year ∷ d.month ∷ d.day ∷ []

-- ""GEL", version 1 (16 bits, low first), year - 2000, month, day, days, minutes, Ke (2, low first), two zero bytes: 14 bytes", of which "the
-- first of the two zero bytes" is the seasons' (document 02, CR 5), with a version
unfoldable pub header_bytes_as : ℕ → Header → List ℕ
header_bytes_as v h =
    71 ∷ 69 ∷ 76 ∷ []
    ++ (bytes_of 2 v ++ (date_bytes h.start ++ (h.days ∷ [] ++ (h.minutes ∷ [] ++ (bytes_of 2 h.ke ++ (h.seasons ∷ 0 ∷ []))))))

-- a header's bytes, in memory and in a file that is written
abbrev pub header_bytes : Header → List ℕ
header_bytes h = header_bytes_as version h

-- the fields, as their bytes say
unfoldable pub header_at : List ℕ → Header
header_at s =
    record {
      start = record { year = byte_at s 5; month = byte_at s 6; day = byte_at s 7 };
      days = byte_at s 8;
      minutes = byte_at s 9;
      ke = number_at s 10 2;
      seasons = byte_at s 12;
    }

-- the file reader's 30: the mark
unfoldable pub mark_right : List ℕ → Bool
mark_right s = eqb (byte_at s 0) 71 && eqb (byte_at s 1) 69 && eqb (byte_at s 2) 76

-- "version 1 (16 bits, low first)", of whatever version
abbrev pub version_at : List ℕ → ℕ
version_at s = number_at s 3 2

unfoldable pub version_right : List ℕ → Bool
version_right s = eqb (version_at s) version

-- the file reader's 32: the fields, with the zero byte behind them
unfoldable pub fields_right : List ℕ → Bool
fields_right s = is_header (header_at s) && eqb (byte_at s 13) 0

-- the header of bytes whose mark and version are right
unfoldable pub header_of : List ℕ → Option Header
header_of s = cond (fields_right s) (Some (header_at s)) None

-- one value where bytes are no header, else one by it
abbrev pub if_right : {A : Type 0} → Option Header → A → (Header → A) → A
if_right None other f = other
if_right (Some h) other f = f h

-- the file reader's 33: the length
unfoldable pub fitted_to : ℕ → Option Header → Option Header
fitted_to n None = None
fitted_to n (Some h) = cond (eqb n (length_of h)) (Some h) None

-- 28: "lent log with a wrong header, length ..": whether lent bytes are a log, and with which header
unfoldable pub sound_of : List ℕ → Option Header
sound_of s = cond (mark_right s && version_right s) (fitted_to (length s) (header_of s)) None

-- one value where lent bytes are no log, else one by their header
abbrev pub if_sound : {A : Type 0} → Option Header → A → (Header → A) → A
if_sound None other f = other
if_sound (Some h) other f = f h
