-- Asking for an interval. Source: document 01, "The reader and the log": "The reader has at most one ask open, with its address
-- (0..255)"; "An ask gets 1, 21 or 22 by the table, else 0 and opens"; 28 "stands right after 1"; document 02, CR 5: "22
-- also for a slot that doesn't exist", which `interval_of` says.
use Rattle.std.specs.Prelude.{cond, List, ℕ, ◌+◌, ltb, length, Err, Ok, Result, Option}
use Rattle.logger.specs.Held.{opened_for}
use Rattle.refusal.specs.Number.{answer_number}
use Rattle.logger.specs.declared.ask.AskError.{AskError}
use Rattle.refusal.specs.Outcome.{Outcome, outcome}
use Rattle.byte_numbers.specs.Place.{written}
use Rattle.parameters.specs.Code.{slice}
use Rattle.parameters.specs.declared.code.Reading.TheVariants.{Stored}
use Rattle.frame.specs.Layout.{read_size}
use Rattle.request.specs.Request.{request_frame}
use Rattle.calendar.specs.Date.{date_of, day_number}
use Rattle.calendar.specs.declared.date.Date.{Date}
use Rattle.request.specs.declared.request.Request.{Request}
use Rattle.log_header.specs.Header.{if_sound}
use Rattle.energy_log.specs.View.{View}
use Rattle.log_header.specs.Interval.{interval_of, if_at}
use Rattle.log_header.specs.declared.header.Header.{Header}
use Rattle.logger.specs.Held.{if_none}
use Rattle.logger.specs.declared.ask.AskError.TheVariants.{TooShort, Unsound, AlreadyOpen, NotInLog}
use Rattle.logger.specs.declared.held.Answered.{Answered}
use Rattle.logger.specs.declared.held.OpenAsk.{OpenAsk}

-- the answer of an ask with the ask left open
abbrev pub Asked : Type 0
Asked = Answered AskError

abbrev pub answered : Result Unit AskError → Option OpenAsk → List ℕ → Outcome Asked (List ℕ)
answered a held s = outcome (record { answer = a; held = held }) s

-- the date of a day of the log
abbrev pub date_of_day : Header → ℕ → Date
date_of_day h day = date_of (day_number h.start + day)

-- the request for a slice: its month and day, and its number in the day; "the log takes function 3 only" (document 02, request 3)
abbrev pub slice_request : ℕ → Date → ℕ → Request
slice_request address d slot = record { reading = Stored; address = address; parameter = slice; offset = d.month; tariff = d.day; detail = slot }

-- the frame of an ask
unfoldable pub ask_frame : Header → ℕ → ℕ → ℕ → List ℕ
unfolding request_frame
ask_frame h address day slot = request_frame (slice_request address (date_of_day h day) slot)

-- an ask: 1, 28, 21, 22, and then 0, the frame and the ask open
unfoldable pub asked : View → Option OpenAsk → ℕ → ℕ → ℕ → List ℕ → Outcome Asked (List ℕ)
unfolding ask_frame
asked v held address day slot out =
    cond (ltb (length out) read_size) (answered (Err TooShort) held out) (
    if_sound v.lent (answered (Err Unsound) held out) (λ h.
    if_none held (answered (Err AlreadyOpen) held out) (
    if_at (interval_of h day slot) (answered (Err NotInLog) held out) (λ i.
    answered (Ok tt) (opened_for address day slot) (written out 0 (ask_frame h address day slot))))))

-- document 01's numbers
abbrev pub error_number : AskError → ℕ
error_number TooShort = 1
error_number Unsound = 28
error_number AlreadyOpen = 21
error_number NotInLog = 22

abbrev pub number_of : Result Unit AskError → ℕ
number_of = answer_number error_number
