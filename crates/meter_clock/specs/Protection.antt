-- Protection. Source: document 01, "Protection": "After 240 seconds without an accepted change or zeroing, protection returns; each
-- accepted one, and each right password, which sets its own level, starts the 240 again (house). The level and the seconds left (1 to
-- 240 while open, else 0) form one small record that each second changes".
use Rattle.std.specs.Prelude.{Bool, cond, ◌&&◌, ℕ, ◌-◌, eqb, leb}
use Rattle.meter_clock.specs.declared.protection.Level.{Level}
use Rattle.meter_clock.specs.declared.protection.Level.TheVariants.{Shut, Auxiliary, Main}
use Rattle.meter_clock.specs.declared.protection.Protection.{Protection}

abbrev pub shut : Protection
shut = record { level = Shut; left = 0 }

-- "starts the 240 again"
abbrev pub opened : Level → Protection
opened l = record { level = l; left = 240 }

-- "1 to 240 while open"
unfoldable pub is_running : ℕ → Bool
is_running n = leb 1 n && leb n 240

abbrev fitting : Level → ℕ → Bool
fitting Shut n = eqb n 0
fitting Auxiliary n = is_running n
fitting Main n = is_running n

-- whether the level and the seconds left go together
unfoldable pub is_protection : Protection → Bool
unfolding is_running
is_protection p = fitting p.level p.left

-- a second without an accepted change: the last of the 240 ends the level
unfoldable pub quiet_second : Protection → Protection
quiet_second p = cond (leb p.left 1) shut (record { level = p.level; left = p.left - 1 })
