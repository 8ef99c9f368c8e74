-- What a report hands over to be printed: of what the system then prints no contract can speak.
use Rattle.std.specs.Prelude.{◌≡◌, List, ℕ, Ok, Result}
use Rattle.refusal.specs.Outcome.{Outcome, outcome}
use Rattle.day_report.specs.declared.answer.ReportError.{ReportError}

-- the first n bytes of a buffer are a line, whatever the buffer held before
pub record Printed (line : List ℕ → Outcome (Result ℕ ReportError) (List ℕ)) (buffer : List ℕ) (n : ℕ) : Type 0 where
  pub before : List ℕ
  pub put : outcome (Ok n) buffer ≡ line before
