-- The figures of a reading, and their bytes in a reply. Source: document 02, CR 1: "four tariffs, four bytes each of packed decimal, in units of
-- 10 Wh", "voltage x 10, current x 100, power, two, two and three bytes", "frequency x 100 in the first two of nine data bytes; the other seven
-- come back as they are", "41 a half-byte above 9".
use Rattle.mercury.specs.declared.reply.DecodeError.{DecodeError}
use Rattle.std.specs.Prelude.{List, [], ◌∷◌, ◌++◌, ℕ, Err, None, Ok, Option, Result, Some}
use Rattle.byte_numbers.specs.Place.{byte_at}
use Rattle.packed_decimal.specs.Packed.{packed_of, decimal_at}
use Rattle.mercury.specs.declared.units.Tariffs.{Tariffs as FourTariffs}
use Rattle.mercury.specs.declared.units.Load.{Load as LoadFigures}
use Rattle.mercury.specs.declared.units.Frequency.{Frequency as FrequencyFigures}
use Rattle.mercury.specs.declared.units.Rest.{Rest}
use Rattle.mercury.specs.declared.reply.Decoded.{Decoded}
use Rattle.mercury.specs.declared.reply.Decoded.TheVariants.{Tariffs, Load, Frequency}
use Rattle.mercury.specs.declared.reply.DecodeError.TheVariants.{NotDecimal}

-- ---- written

unfoldable pub tariffs_bytes : FourTariffs → List ℕ
tariffs_bytes t = packed_of 4 t.first.0 ++ (packed_of 4 t.second.0 ++ (packed_of 4 t.third.0 ++ packed_of 4 t.fourth.0))

unfoldable pub load_bytes : LoadFigures → List ℕ
load_bytes l = packed_of 2 l.voltage.0 ++ (packed_of 2 l.current.0 ++ packed_of 3 l.power.0)

abbrev pub rest_bytes : Rest → List ℕ
rest_bytes r = r.0 ∷ r.1 ∷ r.2 ∷ r.3 ∷ r.4 ∷ r.5 ∷ r.6 ∷ []

unfoldable pub frequency_bytes : FrequencyFigures → List ℕ
frequency_bytes f = packed_of 2 f.frequency.0 ++ rest_bytes f.rest

-- ---- read: all figures, or none is handed over

unfoldable pub tariffs_by : Option ℕ → Option ℕ → Option ℕ → Option ℕ → Result Decoded DecodeError
tariffs_by None b c d = Err NotDecimal
tariffs_by (Some a) None c d = Err NotDecimal
tariffs_by (Some a) (Some b) None d = Err NotDecimal
tariffs_by (Some a) (Some b) (Some c) None = Err NotDecimal
tariffs_by (Some a) (Some b) (Some c) (Some d) =
    Ok (Tariffs (record { first = record { 0 = a }; second = record { 0 = b }; third = record { 0 = c }; fourth = record { 0 = d } }))

unfoldable pub tariffs_of : List ℕ → Result Decoded DecodeError
unfolding tariffs_by
tariffs_of bs = tariffs_by (decimal_at bs 0 4) (decimal_at bs 4 4) (decimal_at bs 8 4) (decimal_at bs 12 4)

unfoldable pub load_by : Option ℕ → Option ℕ → Option ℕ → Result Decoded DecodeError
load_by None i p = Err NotDecimal
load_by (Some v) None p = Err NotDecimal
load_by (Some v) (Some i) None = Err NotDecimal
load_by (Some v) (Some i) (Some p) =
    Ok (Load (record { voltage = record { 0 = v }; current = record { 0 = i }; power = record { 0 = p } }))

unfoldable pub load_of : List ℕ → Result Decoded DecodeError
unfolding load_by
load_of bs = load_by (decimal_at bs 0 2) (decimal_at bs 2 2) (decimal_at bs 4 3)

-- the seven bytes behind a frequency
abbrev pub rest_of : List ℕ → Rest
rest_of bs = record {
  0 = byte_at bs 2;
  1 = byte_at bs 3;
  2 = byte_at bs 4;
  3 = byte_at bs 5;
  4 = byte_at bs 6;
  5 = byte_at bs 7;
  6 = byte_at bs 8;
}

unfoldable pub frequency_by : Option ℕ → Rest → Result Decoded DecodeError
frequency_by None rest = Err NotDecimal
frequency_by (Some f) rest = Ok (Frequency (record { frequency = record { 0 = f }; rest = rest }))

unfoldable pub frequency_of : List ℕ → Result Decoded DecodeError
unfolding frequency_by
frequency_of bs = frequency_by (decimal_at bs 0 2) (rest_of bs)
