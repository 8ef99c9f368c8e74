-- The bench's figures. Source: document 02, CR 1: "27 a bench figure above its digits"; four bytes have eight digits, three six, two four.
use Rattle.std.specs.Prelude.{Bool, ◌&&◌, leb}
use Rattle.mercury.specs.declared.units.Tariffs.{Tariffs}
use Rattle.mercury.specs.declared.units.Load.{Load}
use Rattle.mercury.specs.declared.units.Frequency.{Frequency}
use Rattle.mercury_bench.specs.declared.meter.Meter.{Meter}

unfoldable pub tariffs_fit : Tariffs → Bool
tariffs_fit t =
    leb t.first.0 99999999 && (leb t.second.0 99999999 && (leb t.third.0 99999999 && leb t.fourth.0 99999999))

unfoldable pub load_fits : Load → Bool
load_fits l = leb l.voltage.0 9999 && (leb l.current.0 9999 && leb l.power.0 999999)

abbrev pub frequency_fits : Frequency → Bool
frequency_fits f = leb f.frequency.0 9999

-- every figure, whichever is asked for
unfoldable pub is_within : Meter → Bool
is_within m = tariffs_fit m.tariffs && (load_fits m.load && frequency_fits m.frequency)
