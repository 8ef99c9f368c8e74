-- What a line of the log makes of the log, of its figures and of the open ask. Source: the console's page, "Log and reader"; the calls are the logger's.
-- The image and the figures that the console keeps beside it (document 02, CR 8) are `LogAndRows`; a line that is lent no figures is told of the image alone.
use Rattle.std.specs.Prelude.{ℕ, cond, List, [], ◌∷◌, ◌++◌, eqb, ltb, length, take, drop, replicate, Err, None, Ok, Option, Result, Some}
use Rattle.refusal.specs.Outcome.{Outcome, outcome}
use Rattle.frame.specs.Layout.{read_size}
use Rattle.log_header.specs.declared.header.Header.{Header}
use Rattle.energy_log.specs.declared.fresh.FreshError.{FreshError}
use Rattle.day_rows.specs.LogAndRows.{LogAndRows, log_and_rows}
use Rattle.day_rows.specs.Fresh.{fresh_with}
use Rattle.log_file.specs.Read.{if_read}
use Rattle.log_file.specs.declared.read.ReadError.{ReadError}
use Rattle.energy_log.specs.View.{view_of}
use Rattle.logger.specs.Ask.{asked}
use Rattle.logger.specs.Lapse.{lapsed}
use Rattle.logger.specs.Take.{taken}
use Rattle.logger.specs.Lapse.{Lapsed}
use Rattle.logger.specs.Take.{Taken}
use Rattle.logger.specs.declared.held.OpenAsk.{OpenAsk}
use Rattle.console.specs.Line.{part_of, spaces_in}
use Rattle.console.specs.Form.{is_form, byte_in, short_in, year_of}
use Rattle.console_log.specs.Words.{reply_read}
use Rattle.console_log.specs.declared.logs.ConsoleLog.{ConsoleLog}

-- the same log, with this ask
abbrev pub with_ask : ConsoleLog → Option OpenAsk → ConsoleLog
with_ask kept held = record { length = kept.length; held = held }

-- a new log has no ask open; a refused one leaves all as it was
unfoldable pub kept_after : Result ℕ FreshError → ConsoleLog → ConsoleLog
kept_after (Ok n) kept = record { length = n; held = None }
kept_after (Err refusal) kept = kept

abbrev pub new_log : ConsoleLog → Outcome (Result ℕ FreshError) LogAndRows → Outcome ConsoleLog LogAndRows
new_log kept o = outcome (kept_after o.result kept) o.left

-- a log read from a file likewise
unfoldable pub kept_loaded : Result ℕ ReadError → ConsoleLog → ConsoleLog
kept_loaded read kept = if_read read kept (λ n. record { length = n; held = None })

abbrev pub loaded_log : ConsoleLog → Outcome (Result ℕ ReadError) LogAndRows → Outcome ConsoleLog LogAndRows
loaded_log kept o = outcome (kept_loaded o.result kept) o.left

-- MONTH DAY DAYS MINUTES KE SEASONS behind the year
abbrev pub header_in : List ℕ → ℕ → Header
header_in line year = record {
  start = record { year = year; month = byte_in line 2; day = byte_in line 3 };
  days = byte_in line 4;
  minutes = byte_in line 5;
  ke = short_in line 6;
  seasons = byte_in line 7;
}

unfoldable pub fresh_in : Option ℕ → List ℕ → LogAndRows → ConsoleLog → Outcome ConsoleLog LogAndRows
fresh_in (Some year) line b kept = new_log kept (fresh_with (header_in line year) b.log b.figures)
fresh_in None line b kept = outcome kept b

-- YEAR MONTH DAY DAYS MINUTES KE SEASONS; a line that cannot be read leaves all as it was
unfoldable pub fresh_line : List ℕ → LogAndRows → ConsoleLog → Outcome ConsoleLog LogAndRows
fresh_line line b kept =
    cond (is_form line (65535 ∷ 255 ∷ 255 ∷ 255 ∷ 255 ∷ 65535 ∷ 255 ∷ [])) (fresh_in (year_of (short_in line 1)) line b kept) (outcome kept b)

-- the ask of an address, a day and a slot; its frame is printed
unfoldable pub asked_for : List ℕ → ConsoleLog → ℕ → ℕ → ℕ → ConsoleLog
asked_for image kept address day slot =
    with_ask kept (asked (view_of (part_of kept.length image)) kept.held address day slot (replicate read_size 0)).result.held

-- ADDRESS DAY SLOT
unfoldable pub ask_line : List ℕ → List ℕ → ConsoleLog → ConsoleLog
ask_line line image kept =
    cond (is_form line (255 ∷ 255 ∷ 255 ∷ [])) (asked_for image kept (byte_in line 1) (byte_in line 2) (byte_in line 3)) kept

-- what stands behind the log is not the log's
abbrev pub ask_lapsed : List ℕ → ConsoleLog → Outcome Lapsed (List ℕ) → Outcome ConsoleLog (List ℕ)
ask_lapsed image kept o = outcome (with_ask kept o.result.held) (o.left ++ drop kept.length image)

unfoldable pub lapse_of : List ℕ → ConsoleLog → Outcome ConsoleLog (List ℕ)
lapse_of image kept =
    cond (ltb (length image) kept.length) (outcome kept image) (ask_lapsed image kept (lapsed (take kept.length image) kept.held))

-- no words behind the first
unfoldable pub lapse_line : List ℕ → List ℕ → ConsoleLog → Outcome ConsoleLog (List ℕ)
lapse_line line image kept = cond (eqb (spaces_in line) 0) (lapse_of image kept) (outcome kept image)

-- a reply likewise; the figures are lent whole
abbrev pub reply_taken : LogAndRows → ConsoleLog → Outcome Taken LogAndRows → Outcome ConsoleLog LogAndRows
reply_taken b kept o = outcome (with_ask kept o.result.held) (log_and_rows (o.left.log ++ drop kept.length b.log) o.left.figures)

unfoldable pub reply_of : List ℕ → LogAndRows → ConsoleLog → Outcome ConsoleLog LogAndRows
reply_of y b kept =
    cond (ltb (length b.log) kept.length) (outcome kept b)
    (reply_taken b kept (taken (log_and_rows (take kept.length b.log) b.figures) kept.held y))

-- the bytes that were read are so many of a buffer's first
unfoldable pub reply_in : Option ℕ → List ℕ → LogAndRows → ConsoleLog → Outcome ConsoleLog LogAndRows
unfolding reply_of
reply_in (Some n) buffer b kept = reply_of (part_of n buffer) b kept
reply_in None buffer b kept = outcome kept b

-- BYTES, or none
unfoldable pub reply_line : List ℕ → LogAndRows → ConsoleLog → Outcome ConsoleLog LogAndRows
reply_line line b kept =
    let o = reply_read line 1 (replicate 2048 0) in
    reply_in o.result o.left b kept
