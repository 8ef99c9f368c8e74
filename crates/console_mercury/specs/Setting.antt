-- The line that sets the bench's Mercury 206. Source: the console's page: `mercury ADDRESS T1 T2 T3 T4 VOLTAGE CURRENT POWER FREQUENCY REST`, where
-- VOLTAGE, CURRENT and FREQUENCY have 16 bits, the other numbers 32, and REST is 14 hex digits; 27 is a figure above its digits.
use Rattle.std.specs.Prelude.{cond, List, [], ◌∷◌, ℕ, eqb, get_or, Err, None, Ok, Option, Result, Some}
use Rattle.refusal.specs.Outcome.{Outcome, check}
use Rattle.console.specs.Form.{are_numbers, short_in, long_in}
use Rattle.console.specs.Line.{spaces_in, word_at}
use Rattle.console.specs.Value.{bytes_read}
use Rattle.mercury.specs.declared.units.Load.{Load}
use Rattle.mercury.specs.declared.units.Rest.{Rest}
use Rattle.mercury.specs.declared.units.Tariffs.{Tariffs}
use Rattle.mercury_bench.specs.Meter.{is_within}
use Rattle.mercury_bench.specs.declared.meter.Meter.{Meter}
use Rattle.console_mercury.specs.declared.setting.LineError.{LineError}
use Rattle.console_mercury.specs.declared.setting.LineError.TheVariants.{OutOfRange, Unread}

-- "At first address 1234 and zeros"
abbrev pub first_meter : Meter
first_meter = record {
  address = 1234;
  tariffs = record { first = record { 0 = 0 }; second = record { 0 = 0 }; third = record { 0 = 0 }; fourth = record { 0 = 0 } };
  load = record { voltage = record { 0 = 0 }; current = record { 0 = 0 }; power = record { 0 = 0 } };
  frequency = record { frequency = record { 0 = 0 }; rest = record { 0 = 0; 1 = 0; 2 = 0; 3 = 0; 4 = 0; 5 = 0; 6 = 0 } };
}

-- the last word: seven bytes
unfoldable pub rest_read : Outcome (Option ℕ) (List ℕ) → Option ℕ → Option Rest
rest_read o (Some n) =
    cond (eqb n 7)
    (Some (record {
      0 = get_or o.left 0 0;
      1 = get_or o.left 1 0;
      2 = get_or o.left 2 0;
      3 = get_or o.left 3 0;
      4 = get_or o.left 4 0;
      5 = get_or o.left 5 0;
      6 = get_or o.left 6 0;
    }))
    None
rest_read o None = None

unfoldable pub rest_in : List ℕ → Option Rest
rest_in line = let o = bytes_read (word_at 10 line) (0 ∷ 0 ∷ 0 ∷ 0 ∷ 0 ∷ 0 ∷ 0 ∷ []) in rest_read o o.result

abbrev pub tariffs_in : List ℕ → Tariffs
tariffs_in line = record {
  first = record { 0 = long_in line 2 };
  second = record { 0 = long_in line 3 };
  third = record { 0 = long_in line 4 };
  fourth = record { 0 = long_in line 5 };
}

abbrev pub load_in : List ℕ → Load
load_in line = record { voltage = record { 0 = short_in line 6 }; current = record { 0 = short_in line 7 }; power = record { 0 = long_in line 8 } }

abbrev pub meter_in : List ℕ → Rest → Meter
meter_in line rest = record {
  address = long_in line 1;
  tariffs = tariffs_in line;
  load = load_in line;
  frequency = record { frequency = record { 0 = short_in line 9 }; rest = rest };
}

-- 27 for a figure above its digits
unfoldable pub checked : Meter → Result Meter LineError
checked m = cond (is_within m) (Ok m) (Err OutOfRange)

unfoldable pub with_rest : List ℕ → Option Rest → Result Meter LineError
with_rest line (Some rest) = checked (meter_in line rest)
with_rest line None = Err Unread

-- the largest number of each place
abbrev pub most : List ℕ
most = 4294967295 ∷ 4294967295 ∷ 4294967295 ∷ 4294967295 ∷ 4294967295 ∷ 65535 ∷ 65535 ∷ 4294967295 ∷ 65535 ∷ []

unfoldable pub meter_line : List ℕ → Result Meter LineError
meter_line line =
    check (eqb (spaces_in line) 10) (Err Unread) (
    check (are_numbers line 1 most) (Err Unread) (
    with_rest line (rest_in line)))
