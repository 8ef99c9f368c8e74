-- Which intervals of a log a meter can be asked for at a moment. Source: 002, section 4.13: a slice is stored when the next interval begins, and
-- zeros are answered for one that the meter does not have; a request names month, day and number, and no year.
use Rattle.calendar.specs.declared.date.DateError.{DateError}
use Rattle.std.specs.Prelude.{ℕ, ◌+◌, ◌*◌, cond, ◌&&◌, ltb, leb, Err, Ok, Result}
use Rattle.calendar.specs.Date.{days_later}
use Rattle.calendar.specs.declared.date.Date.{Date}
use Rattle.season_nights.specs.Night.{night_of, is_autumn}
use Rattle.log_header.specs.declared.header.Header.{Header}
use Rattle.polling.specs.Moment.{day_minutes, days_to}
use Rattle.polling.specs.declared.standing.Standing.{Standing}
use Rattle.polling.specs.declared.standing.Standing.TheVariants.{Due, NotOver, TooOld}

-- the minute of a date at which an interval that ends at minute e is over. "The October day has that hour twice, under one key" (document 02,
-- CR 5), so what ends between 02:00 and 03:00 is over at 03:00, whether or not the log follows the seasons: to wait is no loss
unfoldable pub over_at : Date → ℕ → ℕ
over_at date e = cond (is_autumn (night_of date) && (ltb 120 e && ltb e 180)) 180 e

-- the key of a slice has no year: one that ended so long ago could be answered with another year's
abbrev pub old_minutes : ℕ
old_minutes = 300 * day_minutes

-- an interval that is over at a moment, by now
unfoldable pub by_now : ℕ → ℕ → Standing
by_now end now = cond (ltb now end) NotOver (cond (leb (end + old_minutes) now) TooOld Due)

-- slot k of a date, in intervals of m minutes
unfoldable pub standing_on : Result Date DateError → ℕ → ℕ → ℕ → Standing
standing_on (Ok date) m k now = by_now (days_to date * day_minutes + over_at date (m * (k + 1))) now
standing_on (Err none) m k now = NotOver

-- slot k of day d of a log, at a minute since 2000; a day that the calendar does not have is never over
unfoldable pub standing_of : Header → ℕ → ℕ → ℕ → Standing
standing_of h d k now = standing_on (days_later h.start d) h.minutes k now
