-- The data of a reply. Source: document 01, "The bench meter's record", a parameter a bullet; the forms of the figures are those that the
-- reader decodes (`figures`).
use Rattle.std.specs.Prelude.{Bool, true, false, cond, List, [], ◌∷◌, ◌++◌, ℕ, ◌*◌, eqb, Float, get_or}
use Rattle.calendar.specs.declared.time.DateTime.{DateTime}
use Rattle.wire_values.specs.Clock.{date_time_bytes}
use Rattle.wire_values.specs.Displayed.{energies_bytes}
use Rattle.wire_values.specs.Mask.{mask_bytes}
use Rattle.wire_values.specs.Power.{power_bytes, powers_bytes}
use Rattle.wire_values.specs.Telemetry.{telemetry_bytes}
use Rattle.wire_values.specs.declared.displayed.Energies.{Energies}
use Rattle.wire_values.specs.declared.displayed.KilowattHours.{KilowattHours}
use Rattle.wire_values.specs.declared.power.Phases.{Phases}
use Rattle.wire_values.specs.declared.telemetry.Telemetry.{Telemetry}
use Rattle.parameters.specs.Table.{bytes_in}
use Rattle.parameters.specs.declared.code.Function.{Function}
use Rattle.parameters.specs.declared.code.Function.TheVariants as function
use Rattle.parameters.specs.declared.code.Parameter.{Parameter}
use Rattle.parameters.specs.declared.code.Parameter.TheVariants as parameter
use Rattle.parameters.specs.declared.code.Reading.{Reading}
use Rattle.parameters.specs.declared.code.Reading.TheVariants.{Stored, Displayed}
use Rattle.request.specs.Subject.{key_of}
use Rattle.request.specs.declared.request.Request.{Request}
use Rattle.meter_clock.specs.Season.{summer_date, winter_date}
use Rattle.meter_clock.specs.declared.season.Time.{Time}
use Rattle.meter_store.specs.Store.{slice_of, six_of, row_bytes, count_at}
use Rattle.kilowatt_hours.specs.Bits.{kwh_bits}
use Rattle.meter_record.specs.Ratios.{are_ratios}
use Rattle.meter_record.specs.declared.record.Ratios.{Ratios}
use Rattle.meter_record.specs.declared.record.Record.{Record}
use Rattle.meter_command.specs.declared.command.Command.{Command}

-- "details 1 to 3 one phase"
unfoldable pub phase : Phases → ℕ → Float
phase p detail = cond (eqb detail 1) p.a (cond (eqb detail 2) p.b p.c)

-- "detail 0 answers the total and A, B, C"
unfoldable pub power_data : Phases → ℕ → List ℕ
unfolding phase
power_data p detail = cond (eqb detail 0) (powers_bytes p) (power_bytes (phase p detail))

-- "the automatic one, which reads as that of the clock's year"
abbrev pub summer_shown : Time → DateTime
summer_shown t = summer_date t.summer t.clock.date.year

abbrev pub winter_shown : Time → DateTime
winter_shown t = winter_date t.winter t.clock.date.year

-- "six rows of four counts", one behind the other
abbrev slice_row : List (List ℕ) → ℕ → List ℕ
slice_row rows i = row_bytes (get_or rows i [])

unfoldable pub six_bytes : List (List ℕ) → List ℕ
six_bytes rows = slice_row rows 0 ++ (slice_row rows 1 ++ (slice_row rows 2 ++ (slice_row rows 3 ++ (slice_row rows 4 ++ slice_row rows 5))))

-- the figures of a parameter that is read, from the record and the store
abbrev pub figures_of : Parameter → Record → List ℕ → Request → List ℕ
figures_of parameter.ActivePower r s q = power_data r.active q.detail
figures_of parameter.ReactivePower r s q = power_data r.reactive q.detail
figures_of parameter.Address r s q = r.address ∷ []
figures_of parameter.Telemetry r s q = telemetry_bytes r.telemetry
figures_of parameter.SummerDate r s q = date_time_bytes (summer_shown r.time)
figures_of parameter.WinterDate r s q = date_time_bytes (winter_shown r.time)
figures_of parameter.Clock r s q = date_time_bytes r.time.clock
figures_of parameter.DisplayMask r s q = mask_bytes r.mask
figures_of parameter.Slice r s q = row_bytes (slice_of s (key_of q))
figures_of parameter.SixSlices r s q = six_bytes (six_of s (key_of q))
figures_of parameter.Password r s q = []
figures_of parameter.Unknown r s q = []

-- document 02, request 3: "the exact figure is N x Ke x KI x KU / 1,000,000", and the float is the one nearest to it. No meter answers from a
-- record with other ratios, and they show nothing
unfoldable pub shown_of : Telemetry → Ratios → ℕ → KilowattHours
shown_of t k n = record { 0 = cond (are_ratios k) (kwh_bits (n * t.ke * (k.ki * k.ku))) 0 }

-- "four 32-bit floats in kilowatt-hours", of a row of the store
unfoldable pub displayed_of : Record → List ℕ → Energies
displayed_of r row = record {
  e_plus = shown_of r.telemetry r.ratios (count_at row 0);
  e_minus = shown_of r.telemetry r.ratios (count_at row 1);
  r_plus = shown_of r.telemetry r.ratios (count_at row 2);
  r_minus = shown_of r.telemetry r.ratios (count_at row 3);
}

-- the figures as they are stored, with function 3, or as the display shows them, with function 4, which reads parameter 36 alone
abbrev pub figures_as : Reading → Parameter → Record → List ℕ → Request → List ℕ
figures_as Stored p r s q = figures_of p r s q
figures_as Displayed p r s q = energies_bytes (displayed_of r (slice_of s (key_of q)))

-- only a read has data
abbrev pub is_read : Function → Bool
is_read (function.Read reading) = true
is_read function.Change = false
is_read function.Zero = false
is_read function.Unlock = false
is_read function.Lock = false
is_read function.Unknown = false

-- the data of the reply to a command that is done
unfoldable pub data_of : Record → List ℕ → Command → List ℕ
data_of r s c = cond (is_read c.function) (figures_as c.request.reading c.parameter r s c.request) []

unfoldable pub data_size : Command → ℕ
data_size c = cond (is_read c.function) (bytes_in c.request.reading c.row c.request.detail) 0
