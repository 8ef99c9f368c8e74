-- The lines that set the bench meter. Source: the console's page, "Bench meter"; what a call answers is document 01's.
use Rattle.std.specs.Prelude.{ℕ, zero, suc, ◌-◌, Bool, true, false, cond, List, [], ◌∷◌, eqb, ltb, get_or, Err, Float, None, Ok, Option, Result, Some}
use Rattle.refusal.specs.Outcome.{Outcome, outcome, check}
use Rattle.text.specs.Ascii.{ascii}
use Rattle.calendar.specs.declared.time.DateTime.{DateTime}
use Rattle.slots.specs.declared.key.Key.{Key}
use Rattle.meter_store.specs.Store.{cleared}
use Rattle.wire_values.specs.declared.telemetry.Telemetry.{Telemetry}
use Rattle.meter_clock.specs.declared.season.Season.{Season}
use Rattle.meter_clock.specs.declared.season.Season.TheVariants.{Winter, Summer}
use Rattle.meter_record.specs.Record.{made, set_powers, set_ratios, second_of}
use Rattle.meter_record.specs.declared.record.Ratios.{Ratios}
use Rattle.meter_record.specs.declared.record.Record.{Record}
use Rattle.meter_record.specs.declared.record.RecordError.{RecordError}
use Rattle.meter_record.specs.declared.record.RecordError.TheVariants.{OutOfRange}
use Rattle.meter.specs.Bench.{slice_put}
use Rattle.console.specs.Line.{spaces_in, word_at}
use Rattle.console.specs.Value.{bytes_read}
use Rattle.console.specs.Form.{place_of, are_numbers, is_form, byte_in, short_in, long_in, year_of}
use Rattle.wire_values.specs.Power as figures
use Rattle.wire_values.specs.declared.power.Phases.{Phases}

-- what a line is answered: none where it is no line of the console's
abbrev pub LineAnswer : Type 0
LineAnswer = Option (Result Record RecordError)

-- the record after a call: the one before where it is refused
abbrev pub record_after : Result Record RecordError → Record → Record
record_after (Ok after) r = after
record_after (Err refusal) r = r

abbrev pub is_done : Result Record RecordError → Bool
is_done (Ok after) = true
is_done (Err refusal) = false

-- the largest numbers of one byte, of two and of four
abbrev pub byte : ℕ
byte = 255

abbrev pub short : ℕ
short = 65535

abbrev pub long : ℕ
long = 4294967295

-- ---- meter ADDRESS MINUTES K KE RESERVE YEAR MONTH DAY HOUR MINUTE SECOND SEASON

-- "the meter that `meter 1 30 400 100 0 2000 1 1 0 0 0 0` makes"
abbrev pub first_meter : Result Record RecordError
first_meter =
    made 1 30 (record { k = 400; ke = 100; reserve = 0 })
    (record { date = record { year = 0; month = 1; day = 1 }; hour = 0; minute = 0; second = 0 })
    Winter

abbrev pub telemetry_in : List ℕ → Telemetry
telemetry_in line = record { k = long_in line 3; ke = short_in line 4; reserve = short_in line 5 }

abbrev pub clock_in : List ℕ → ℕ → DateTime
clock_in line y = record {
  date = record { year = y; month = byte_in line 7; day = byte_in line 8 };
  hour = byte_in line 9;
  minute = byte_in line 10;
  second = byte_in line 11;
}

unfoldable pub made_in : List ℕ → ℕ → Season → Result Record RecordError
made_in line y season = made (byte_in line 1) (byte_in line 2) (telemetry_in line) (clock_in line y) season

-- season 0 winter, 1 summer
unfoldable pub made_from : List ℕ → Option ℕ → Result Record RecordError
made_from line (Some y) =
    cond (eqb (byte_in line 12) 0) (made_in line y Winter) (cond (eqb (byte_in line 12) 1) (made_in line y Summer) (Err OutOfRange))
made_from line None = Err OutOfRange

abbrev pub meter_form : List ℕ
meter_form = byte ∷ byte ∷ long ∷ short ∷ short ∷ short ∷ byte ∷ byte ∷ byte ∷ byte ∷ byte ∷ byte ∷ []

-- "a new record and an empty store"
unfoldable pub new_meter : Result Record RecordError → List ℕ → Outcome LineAnswer (List ℕ)
new_meter a s = outcome (Some a) (cond (is_done a) (cleared s) s)

unfoldable pub meter_line : List ℕ → List ℕ → Outcome LineAnswer (List ℕ)
unfolding new_meter
meter_line line s = cond (is_form line meter_form) (new_meter (made_from line (year_of (short_in line 6))) s) (outcome None s)

-- ---- power PARAMETER A B C

-- a word of eight hexadecimal digits, the highest first, as a float's bits
unfoldable pub power_read : Outcome (Option ℕ) (List ℕ) → Option ℕ → Option (Option Float)
power_read o (Some n) =
    cond (eqb n 4)
    (Some (figures.power_of (get_or o.left 3 0 ∷ get_or o.left 2 0 ∷ get_or o.left 1 0 ∷ get_or o.left 0 0 ∷ []) 0))
    None
power_read o None = None

-- none where the word is no such float; a float that is read may be none that is finite
unfoldable pub power_in : List ℕ → ℕ → Option (Option Float)
power_in line k = let o = bytes_read (word_at k line) (0 ∷ 0 ∷ 0 ∷ 0 ∷ []) in power_read o o.result

unfoldable pub finite : Option Float → Option Float → Option Float → Option Phases
finite (Some a) (Some b) (Some c) = Some (record { a = a; b = b; c = c })
finite (Some a) (Some b) None = None
finite (Some a) None z = None
finite None y z = None

unfoldable pub phases_in : Option (Option Float) → Option (Option Float) → Option (Option Float) → Option (Option Phases)
phases_in (Some a) (Some b) (Some c) = Some (finite a b c)
phases_in (Some a) (Some b) None = None
phases_in (Some a) None z = None
phases_in None y z = None

-- 27 for a figure that is not finite
unfoldable pub powers_of : Record → ℕ → Option (Option Phases) → LineAnswer
powers_of r parameter (Some (Some p)) = Some (set_powers r parameter p)
powers_of r parameter (Some None) = Some (Err OutOfRange)
powers_of r parameter None = None

unfoldable pub power_line : Record → List ℕ → LineAnswer
power_line r line =
    check (eqb (spaces_in line) 4) None (
    check (are_numbers line 1 (byte ∷ [])) None (
    powers_of r (byte_in line 1) (phases_in (power_in line 2) (power_in line 3) (power_in line 4))))

-- ---- slice MONTH DAY NUMBER E+ E- R+ R-

abbrev pub key_in : List ℕ → Key
key_in line = record { month = byte_in line 1; day = byte_in line 2; number = byte_in line 3 }

abbrev pub counts_in : List ℕ → List ℕ
counts_in line = short_in line 4 ∷ short_in line 5 ∷ short_in line 6 ∷ short_in line 7 ∷ []

abbrev pub slice_form : List ℕ
slice_form = byte ∷ byte ∷ byte ∷ short ∷ short ∷ short ∷ short ∷ []

unfoldable pub put_in : Outcome (Result Record RecordError) (List ℕ) → Outcome LineAnswer (List ℕ)
put_in o = outcome (Some o.result) o.left

unfoldable pub slice_line : Record → List ℕ → List ℕ → Outcome LineAnswer (List ℕ)
unfolding put_in
slice_line r line s = cond (is_form line slice_form) (put_in (slice_put r s (key_in line) (counts_in line))) (outcome None s)

-- ---- second N

-- as many seconds as n
unfoldable pub later_by : ℕ → Record → Record
later_by zero r = r
later_by (suc n) r = later_by n (record_after (second_of r) r)

-- "N seconds, at most 100,000,000"
unfoldable pub second_line : Record → List ℕ → LineAnswer
second_line r line = cond (is_form line (100000000 ∷ [])) (Some (Ok (later_by (long_in line 1) r))) None

-- between two looks at a wall clock, up to thirty days; a difference below 0 is 0
unfoldable pub seconds_between : ℕ → ℕ → ℕ
seconds_between last now = cond (ltb (now - last) 2592000) (now - last) 2592000

-- ---- ratio KI KU

abbrev pub ratios_in : List ℕ → Ratios
ratios_in line = record { ki = long_in line 1; ku = long_in line 2 }

unfoldable pub ratio_line : Record → List ℕ → LineAnswer
ratio_line r line = cond (is_form line (long ∷ long ∷ [])) (Some (set_ratios r (ratios_in line))) None

-- ---- the five by their names

abbrev pub set_names : List ℕ
set_names = ascii "meter power slice second ratio"

-- by the first word's place among the names
unfoldable pub set_by : ℕ → Record → List ℕ → List ℕ → Outcome LineAnswer (List ℕ)
set_by place r line s =
    cond (eqb place 0) (meter_line line s)
    (cond (eqb place 1) (outcome (power_line r line) s)
    (cond (eqb place 2) (slice_line r line s)
    (cond (eqb place 3) (outcome (second_line r line) s)
    (cond (eqb place 4) (outcome (ratio_line r line) s) (outcome None s)))))

unfoldable pub set_line : Record → List ℕ → List ℕ → Outcome LineAnswer (List ℕ)
unfolding set_by
set_line r line s = set_by (place_of (word_at 0 line) set_names) r line s
