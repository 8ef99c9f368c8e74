-- A record's numbers fit their widths, as those of every Rattle value do. Laws over any record of numbers ask for it where bytes are made
-- of them.
use Rattle.std.specs.Prelude.{◌^◌, ◌<◌}
use Rattle.wire_values.specs.Power.{FitsPhases}
use Rattle.wire_values.specs.Telemetry.{FitsTelemetry}
use Rattle.meter_record.specs.declared.record.Record.{Record}

pub record FitsRecord (r : Record) : Type 0 where
  pub address : r.address < 256
  pub main : r.passwords.main.0 < 2 ^ 64
  pub auxiliary : r.passwords.auxiliary.0 < 2 ^ 64
  pub telemetry : FitsTelemetry r.telemetry
  pub parameters : r.mask.parameters < 2 ^ 32
  pub tariffs : r.mask.tariffs < 256
  pub directions : r.mask.directions < 256
  pub active : FitsPhases r.active
  pub reactive : FitsPhases r.reactive
  pub next : r.next < 2 ^ 16
  pub ki : r.ratios.ki < 2 ^ 32
  pub ku : r.ratios.ku < 2 ^ 32
