-- The figures that a record and its store have for a read request, as the reader gives figures (`Decoded`).
use Rattle.std.specs.Prelude.{cond, List, ℕ, ◌*◌, eqb, Err, Ok, Result}
use Rattle.wire_values.specs.Power.{total_of}
use Rattle.wire_values.specs.declared.displayed.Energies.{Energies}
use Rattle.wire_values.specs.declared.displayed.KilowattHours.{KilowattHours}
use Rattle.wire_values.specs.declared.power.Phases.{Phases}
use Rattle.wire_values.specs.declared.row.Row.{Row}
use Rattle.parameters.specs.declared.code.Parameter.{Parameter}
use Rattle.parameters.specs.declared.code.Parameter.TheVariants as parameter
use Rattle.parameters.specs.declared.code.Reading.{Reading}
use Rattle.parameters.specs.declared.code.Reading.TheVariants.{Stored, Displayed}
use Rattle.kilowatt_hours.specs.Bits.{kwh_bits}
use Rattle.request.specs.Subject.{key_of}
use Rattle.request.specs.declared.request.Request.{Request}
use Rattle.meter_store.specs.Store.{slice_of, count_at}
use Rattle.meter_record.specs.declared.record.Ratios.{Ratios}
use Rattle.meter_record.specs.declared.record.Record.{Record}
use Rattle.meter_reply_data.specs.Reading.{phase, summer_shown, winter_shown}
use Rattle.reader.specs.declared.reply.Decoded.{Decoded}
use Rattle.reader.specs.declared.reply.Decoded.TheVariants as decoded
use Rattle.reader.specs.declared.reply.DecodeError.{DecodeError}
use Rattle.reader.specs.declared.reply.DecodeError.TheVariants as decoded_error

-- "detail 0 answers the total and A, B, C, details 1 to 3 one phase"
unfoldable pub own_power : Phases → ℕ → Result Decoded DecodeError
own_power p detail = cond (eqb detail 0) (Ok (decoded.Powers (record { total = total_of p; phases = p }))) (Ok (decoded.OnePower (phase p detail)))

-- a row of the store as four counts
unfoldable pub four_counts : List ℕ → Row
four_counts row = record { e_plus = count_at row 0; e_minus = count_at row 1; r_plus = count_at row 2; r_minus = count_at row 3 }

-- document 02, request 3: "the exact figure is N x Ke x KI x KU / 1,000,000. The float must be the one nearest to that fraction, ties to even, zero as
-- plus zero": its bits (that they are so, `nearest` and `zero` of `Function4` say)
abbrev pub own_energy : ℕ → Ratios → ℕ → KilowattHours
own_energy ke k n = record { 0 = kwh_bits (n * ke * k.ki * k.ku) }

-- a row of the store as four energies
unfoldable pub four_energies : ℕ → Ratios → List ℕ → Energies
four_energies ke k row = record {
  e_plus = own_energy ke k (count_at row 0);
  e_minus = own_energy ke k (count_at row 1);
  r_plus = own_energy ke k (count_at row 2);
  r_minus = own_energy ke k (count_at row 3);
}

-- the record's own figures for a request with function 3, and the store's; of six slices the rows are handed over beside it
abbrev pub own_figures : Parameter → Record → List ℕ → Request → Result Decoded DecodeError
own_figures parameter.ActivePower r s q = own_power r.active q.detail
own_figures parameter.ReactivePower r s q = own_power r.reactive q.detail
own_figures parameter.Address r s q = Ok (decoded.Address r.address)
own_figures parameter.Telemetry r s q = Ok (decoded.Telemetry r.telemetry)
own_figures parameter.SummerDate r s q = Ok (decoded.DateTime (summer_shown r.time))
own_figures parameter.WinterDate r s q = Ok (decoded.DateTime (winter_shown r.time))
own_figures parameter.Clock r s q = Ok (decoded.DateTime r.time.clock)
own_figures parameter.DisplayMask r s q = Ok (decoded.DisplayMask r.mask)
own_figures parameter.Slice r s q = Ok (decoded.Slice (four_counts (slice_of s (key_of q))))
own_figures parameter.SixSlices r s q = Ok decoded.SixSlices
own_figures parameter.Password r s q = Err decoded_error.OutOfRange
own_figures parameter.Unknown r s q = Err decoded_error.OutOfRange

-- and with function 4, "as their display shows them"
abbrev pub own_as : Reading → Parameter → Record → List ℕ → Request → Result Decoded DecodeError
own_as Stored p r s q = own_figures p r s q
own_as Displayed p r s q = Ok (decoded.Displayed (four_energies r.telemetry.ke r.ratios (slice_of s (key_of q))))
