-- What C is given of the log's calls. The open ask is four lent bytes; a log with its figures, lent together, is `LogAndRows` (document 02, CR 8).
use Rattle.energy_log.specs.declared.fresh.FreshError.{FreshError}
use Rattle.log_file.specs.declared.read.ReadError.{ReadError}
use Rattle.log_file.specs.declared.write.WriteError.{WriteError}
use Rattle.std.specs.Prelude.{List, ℕ, length, None, Option, Result, Some}
use Rattle.std.specs.Result.{result_unwrap_or}
use Rattle.refusal.specs.Outcome.{Outcome, outcome}
use Rattle.byte_numbers.specs.Place.{written}
use Rattle.frame.specs.Layout.{read_size}
use Rattle.energy_log.specs.View.{View}
use Rattle.log_header.specs.declared.header.Header.{Header}
use Rattle.day_rows.specs.LogAndRows.{LogAndRows}
use Rattle.logger.specs.Ask as ask
use Rattle.logger.specs.Lapse as lapse
use Rattle.logger.specs.Take as take
use Rattle.logger.specs.Ask.{Asked}
use Rattle.logger.specs.Lapse.{Lapsed}
use Rattle.logger.specs.Take.{Taken}
use Rattle.logger.specs.declared.held.OpenAsk.{OpenAsk}
use Rattle.c_values.specs.Ask.{ask_bytes}
use Rattle.metlazuel.specs.Calls.{unread_number}

-- the numbers that C hands over, as a log's header
abbrev pub header_from : ℕ → ℕ → ℕ → ℕ → ℕ → ℕ → ℕ → Header
header_from year month day days minutes ke seasons =
    record { start = record { year = year; month = month; day = day }; days = days; minutes = minutes; ke = ke; seasons = seasons }

-- ---- the lent length: a fresh image's, a file's, a read image's, and untouched by a refusal

unfoldable pub image_length : Result ℕ FreshError → ℕ → ℕ
image_length = result_unwrap_or

unfoldable pub file_length : Result ℕ WriteError → ℕ → ℕ
file_length = result_unwrap_or

unfoldable pub length_after : Result ℕ ReadError → ℕ → ℕ
length_after = result_unwrap_or

-- ---- asks, lapses and replies

-- the ask's bytes, by the ask that was open before a call and the one after it: written anew where it was opened or closed, else untouched
unfoldable pub ask_left : Option OpenAsk → Option OpenAsk → List ℕ → List ℕ
ask_left None None bs = bs
ask_left None (Some opened) bs = written bs 0 (ask_bytes (Some opened))
ask_left (Some held) None bs = written bs 0 (ask_bytes None)
ask_left (Some held) (Some opened) bs = bs

-- left: the ask's bytes and the output
abbrev pub asked_for_c : Option OpenAsk → Outcome Asked (List ℕ) → List ℕ → Outcome ℕ (List ℕ × List ℕ)
asked_for_c held o bs = outcome (ask.number_of o.result.answer) (ask_left held o.result.held bs, o.left)

unfoldable pub ask_for_c : Option (Option OpenAsk) → View → List ℕ → ℕ → ℕ → ℕ → List ℕ → Outcome ℕ (List ℕ × List ℕ)
ask_for_c (Some held) v bs address day slot out = asked_for_c held (ask.asked v held address day slot out) bs
ask_for_c None v bs address day slot out = outcome (unread_number (length out) read_size) (bs, out)

-- left: the log and the ask's bytes
abbrev pub lapsed_for_c : Option OpenAsk → Outcome Lapsed (List ℕ) → List ℕ → Outcome ℕ (List ℕ × List ℕ)
lapsed_for_c held o bs = outcome (lapse.number_of o.result.answer) (o.left, ask_left held o.result.held bs)

-- bytes that are no ask are 28, whatever the log is
unfoldable pub lapse_for_c : Option (Option OpenAsk) → List ℕ → List ℕ → Outcome ℕ (List ℕ × List ℕ)
lapse_for_c (Some held) log bs = lapsed_for_c held (lapse.lapsed log held) bs
lapse_for_c None log bs = outcome 28 (log, bs)

-- left: the meter's result, the length received, the log with its figures, and the ask's bytes
abbrev pub taken_for_c : Option OpenAsk → Outcome Taken LogAndRows → ℕ → ℕ → List ℕ → Outcome ℕ (ℕ × ℕ × LogAndRows × List ℕ)
taken_for_c held o result size bs =
    let a = o.result.answer in
    outcome (take.number_of a) (take.result_or a result, take.length_or a size, o.left, ask_left held o.result.held bs)

-- bytes that are no ask are 28 too, as those of an unsound log are: before 1 for too few figures
unfoldable pub take_for_c : Option (Option OpenAsk) → LogAndRows → List ℕ → List ℕ → ℕ → ℕ → Outcome ℕ (ℕ × ℕ × LogAndRows × List ℕ)
take_for_c (Some held) b bs y result size = taken_for_c held (take.taken b held y) result size bs
take_for_c None b bs y result size = outcome 28 (result, size, b, bs)
