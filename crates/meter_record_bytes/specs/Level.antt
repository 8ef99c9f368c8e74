-- The level of access, as a byte. Source: document 01, "Protection"; the byte is this project's own.
use Rattle.std.specs.Prelude.{cond, ℕ, eqb, None, Option, Some}
use Rattle.meter_clock.specs.declared.protection.Level.{Level}
use Rattle.meter_clock.specs.declared.protection.Level.TheVariants.{Shut, Auxiliary, Main}

abbrev pub level_byte : Level → ℕ
level_byte Shut = 0
level_byte Auxiliary = 1
level_byte Main = 2

unfoldable pub level_of : ℕ → Option Level
level_of n = cond (eqb n 0) (Some Shut) (cond (eqb n 1) (Some Auxiliary) (cond (eqb n 2) (Some Main) None))
