-- Changes and zeroings. Source: document 01, "The bench meter's record", whose bullets name the parameters by their codes.
use Rattle.std.specs.Prelude.{Bool, true, cond, ◌&&◌, List, ℕ, eqb, leb}
use Rattle.byte_numbers.specs.Place.{byte_at, number_at}
use Rattle.calendar.specs.Time.{is_time}
use Rattle.wire_values.specs.Clock.{date_time_of}
use Rattle.wire_values.specs.Mask.{mask_of}
use Rattle.wire_values.specs.Telemetry.{telemetry_of}
use Rattle.wire_values.specs.declared.telemetry.Telemetry.{Telemetry}
use Rattle.meter_clock.specs.Season.{is_switchable}
use Rattle.meter_clock.specs.declared.season.SwitchDate.TheVariants.{Automatic, ByHand}
use Rattle.meter_record.specs.Ranges.{is_telemetry}
use Rattle.meter_record.specs.With.{with_address, with_passwords, with_telemetry, with_mask, with_next, with_clock, with_summer, with_winter}
use Rattle.meter_record.specs.declared.record.Passwords.{Passwords}
use Rattle.meter_record.specs.declared.record.Record.{Record}

-- ---- which arguments fit

-- the details that a change may have, from and to
abbrev pub detail_fits : ℕ → ℕ → ℕ → Bool
detail_fits from to n = leb from n && leb n to

-- "A change needs K x Ke from 40,000 to 5,000,000 and the stored Ke"
unfoldable pub telemetry_fits : Telemetry → Telemetry → Bool
telemetry_fits t stored = eqb t.ke stored.ke && is_telemetry t

-- whether the data are a right argument, by the parameter's code and the stored telemetry
unfoldable pub data_fits : ℕ → Telemetry → List ℕ → Bool
data_fits code stored bs =
    cond (eqb code 21) (leb 1 (byte_at bs 0))
    (cond (eqb code 24) (telemetry_fits (telemetry_of bs) stored)
    (cond (eqb code 27) (is_switchable (date_time_of bs))
    (cond (eqb code 28) (is_switchable (date_time_of bs))
    (cond (eqb code 32) (is_time (date_time_of bs))
    true))))

-- ---- the record after one

unfoldable pub passwords_after : Passwords → ℕ → ℕ → Passwords
passwords_after p detail n =
    cond (eqb detail 1) (record { main = p.main; auxiliary = record { 0 = n } }) (record { main = record { 0 = n }; auxiliary = p.auxiliary })

-- by the parameter's code; one that cannot be changed leaves the record
unfoldable pub changed_to : ℕ → Record → ℕ → List ℕ → Record
changed_to code r detail bs =
    cond (eqb code 21) (with_address r (byte_at bs 0))
    (cond (eqb code 24) (with_telemetry r (telemetry_of bs))
    (cond (eqb code 27) (with_summer r (ByHand (date_time_of bs)))
    (cond (eqb code 28) (with_winter r (ByHand (date_time_of bs)))
    (cond (eqb code 32) (with_clock r (date_time_of bs))
    (cond (eqb code 35) (with_mask r (mask_of bs))
    (cond (eqb code 37) (with_passwords r (passwords_after r.passwords detail (number_at bs 0 8)))
    r))))))

-- the record after a zeroing, by the parameter's code: "brings back the automatic one"; "makes all unused and the first place next"
unfoldable pub zeroed_to : ℕ → Record → Record
zeroed_to code r =
    cond (eqb code 27) (with_summer r Automatic)
    (cond (eqb code 28) (with_winter r Automatic)
    (cond (eqb code 36) (with_next r 0)
    r))
