-- What follows from the definitions of specs/Level.antt, for proofs alone: no contract cites it.
use Rattle.std.specs.Prelude.{Some}
use mathlib.Core.Path.{◌≡◌, refl}
use Rattle.meter_clock.specs.declared.protection.Level.{Level}
use Rattle.meter_clock.specs.declared.protection.Level.TheVariants.{Shut, Auxiliary, Main}
use Rattle.meter_record_bytes.specs.Level.{level_byte, level_of}

-- a level is read back from its byte
pub level-back : (l : Level) → level_of (level_byte l) ≡ Some l
unfolding level_of
level-back Shut = refl
level-back Auxiliary = refl
level-back Main = refl
