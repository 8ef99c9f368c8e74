-- What a poll hands over to be written: of what the system then writes no contract can speak.
use Rattle.std.specs.Prelude.{◌≡◌, List, ℕ, Ok}
use Rattle.refusal.specs.Outcome.{outcome}
use Rattle.energy_log.specs.View.{view_of}
use Rattle.log_file.specs.Write.{written_file}

-- the first n bytes of a buffer are the log's file: those that `write_file` puts there, whatever the buffer held before
pub record LogFile (log buffer : List ℕ) (n : ℕ) : Type 0 where
  pub room : List ℕ
  pub made : outcome (Ok n) buffer ≡ written_file (view_of log) room
