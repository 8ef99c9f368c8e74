-- What follows from the definitions of specs/Time.antt, for proofs alone: no contract cites it.
use Rattle.std.specs.Prelude.{Some}
use mathlib.Core.Path.{◌≡◌, refl}
use mathlib.Core.List.{List, ◌++◌}
use Prim.Native.Nat.{ℕ}
use lib.ListN.{length, drop}
use Rattle.wire_values.specs.Clock.{date_time_of, date_time_bytes}
use Rattle.meter_clock.specs.declared.season.Season.{Season}
use Rattle.meter_clock.specs.declared.season.Season.TheVariants.{Winter, Summer}
use Rattle.meter_clock.specs.declared.season.SwitchDate.{SwitchDate}
use Rattle.meter_clock.specs.declared.season.SwitchDate.TheVariants.{Automatic, ByHand}
use Rattle.meter_clock.specs.declared.season.Time.{Time}
use Rattle.meter_record_bytes.specs.Time.{season_byte, season_of, switch_bytes, switch_of, time_bytes, together, time_of}

-- ---- lengths, and there and back

-- for `put_settings`: telemetry stands 21 bytes behind the time's first
pub length-time_bytes : (t : Time) → length (time_bytes t) ≡ 21
unfolding time_bytes switch_bytes date_time_bytes
length-time_bytes t = refl

season-back : (s : Season) → season_of (season_byte s) ≡ Some s
unfolding season_of
season-back Winter = refl
season-back Summer = refl

switch_back : (c : SwitchDate) (rest : List ℕ) → switch_of (switch_bytes c ++ rest) ≡ Some c
unfolding switch_of switch_bytes date_time_of date_time_bytes
switch_back Automatic rest = refl
switch_back (ByHand t) rest = refl

-- clock, season and both switch dates are read back from their bytes, whatever stands behind them
pub time-back : (t : Time) (rest : List ℕ) → time_of (time_bytes t ++ rest) ≡ Some t
unfolding time_of together time_bytes switch_bytes date_time_of date_time_bytes
time-back t rest =
    let summer : switch_of (drop 7 (time_bytes t ++ rest)) ≡ Some t.summer = switch_back t.summer (switch_bytes t.winter ++ rest) in
    let winter : switch_of (drop 14 (time_bytes t ++ rest)) ≡ Some t.winter = switch_back t.winter rest in
    rw (season-back t.season, summer, winter)
