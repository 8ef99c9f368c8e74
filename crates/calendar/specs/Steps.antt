-- What steps inside the code compute. No public contract cites these but `time_error`, which `TimeError::from` does; of the others nothing has to be
-- believed: TimeLaws says what they are good for.
use Rattle.calendar.specs.declared.date.Date.{Date}
use Rattle.calendar.specs.declared.date.DateError.{DateError}
use Rattle.calendar.specs.declared.time.DateTime.{DateTime}
use Rattle.calendar.specs.declared.time.TimeError.{TimeError}
use Rattle.std.specs.Prelude.{ℕ, Err, Ok, Result}
use Rattle.calendar.specs.declared.time.TimeError.TheVariants.{NotATime, OutOfRange}

-- a date's refusal as a time's
abbrev pub time_error : DateError → TimeError
time_error DateError.NotADate = NotATime
time_error DateError.OutOfRange = OutOfRange

-- a time of day on a day that a date's answer gives
unfoldable pub on_day : Result Date DateError → ℕ → ℕ → ℕ → Result DateTime TimeError
on_day (Ok d) h m s = Ok (record { date = d; hour = h; minute = m; second = s })
on_day (Err e) h m s = Err (time_error e)
