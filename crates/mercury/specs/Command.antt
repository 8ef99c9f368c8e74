-- The commands. Source: document 02, CR 1: "27 hex (four tariffs, four bytes each of packed decimal, in units of 10 Wh), 63 hex (voltage x 10,
-- current x 100, power, two, two and three bytes) and 81 hex (frequency x 100 in the first two of nine data bytes; the other seven come back as
-- they are)".
use Rattle.std.specs.Prelude.{Bool, true, false, cond, ℕ, eqb}
use Rattle.mercury.specs.declared.command.Command.{Command}
use Rattle.mercury.specs.declared.command.Command.TheVariants.{Tariffs, Load, Frequency, Unknown}

-- the code 0 stands for the commands that are not known
abbrev pub code_of : Command → ℕ
code_of Tariffs = 0x27
code_of Load = 0x63
code_of Frequency = 0x81
code_of Unknown = 0

unfoldable pub command_of : ℕ → Command
command_of n = cond (eqb n 0x27) Tariffs (cond (eqb n 0x63) Load (cond (eqb n 0x81) Frequency Unknown))

abbrev pub is_known : Command → Bool
is_known Tariffs = true
is_known Load = true
is_known Frequency = true
is_known Unknown = false

-- how many data bytes a reply has
abbrev pub data_size : Command → ℕ
data_size Tariffs = 16
data_size Load = 7
data_size Frequency = 9
data_size Unknown = 0
