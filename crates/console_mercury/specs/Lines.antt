-- What a line about the Mercury 206 makes of the bench's meter and of an output for frames, and what it is answered. Source: the console's page,
-- "Mercury 206"; what a call answers is document 02's, CR 1.
use Rattle.std.specs.Prelude.{ℕ, Bool, cond, List, [], ◌∷◌, eqb, leb, replicate, Err, None, Ok, Option, Result, Some}
use Rattle.refusal.specs.Outcome.{Outcome, outcome, check}
use Rattle.text.specs.Ascii.{ascii}
use Rattle.frame.specs.Layout.{longest}
use Rattle.console.specs.Form.{place_of, are_numbers, is_form, byte_in, long_in}
use Rattle.console.specs.Line.{part_of, spaces_in, word_at}
use Rattle.console.specs.Value.{bytes_read}
use Rattle.mercury.specs.Layout.{bare_size}
use Rattle.mercury.specs.Reply.{decoded_of}
use Rattle.mercury.specs.Request as request
use Rattle.mercury_bench.specs.Reply as bench
use Rattle.mercury_bench.specs.declared.meter.Meter.{Meter}
use Rattle.mercury_bench.specs.declared.reply.AnswerError.{AnswerError}
use Rattle.mercury.specs.declared.request.RequestError.{RequestError}
use Rattle.console_mercury.specs.Setting.{meter_line}
use Rattle.console_mercury.specs.declared.setting.LineError.{LineError}
use Rattle.console_mercury.specs.declared.setting.LineError.TheVariants as line
use Rattle.console_mercury.specs.declared.answer.Answer.{Answer}
use Rattle.console_mercury.specs.declared.answer.Answer.TheVariants.{Unread, Number, Frame, Told}
use Rattle.console_mercury.specs.declared.answer.Called.{Called}

-- the largest numbers of one byte and of four
abbrev pub byte : ℕ
byte = 255

abbrev pub long : ℕ
long = 4294967295

-- ---- mercury-frame BYTES: "number and reply; silence: `40` alone"

abbrev pub reply_length : Result ℕ AnswerError → ℕ
reply_length (Ok n) = n
reply_length (Err refusal) = 0

abbrev pub replied : Outcome (Result ℕ AnswerError) (List ℕ) → Outcome Answer (List ℕ)
replied o = outcome (Frame (bench.number_of o.result) (reply_length o.result)) o.left

unfoldable pub frame_of : Meter → List ℕ → List ℕ → Outcome Answer (List ℕ)
frame_of m f out = replied (bench.answered m f out)

-- the bytes that were read are so many of a buffer's first
unfoldable pub frame_in : Option ℕ → List ℕ → Meter → List ℕ → Outcome Answer (List ℕ)
unfolding frame_of
frame_in (Some n) buffer m out = frame_of m (part_of n buffer) out
frame_in None buffer m out = outcome Unread out

unfoldable pub frame_line : Meter → List ℕ → List ℕ → Outcome Answer (List ℕ)
unfolding frame_in
frame_line m line out =
    let o = bytes_read (word_at 1 line) (replicate 2048 0) in
    check (eqb (spaces_in line) 1) (outcome Unread out) (frame_in o.result o.left m out)

-- ---- mercury-ask ADDRESS COMMAND: "a request's frame"

abbrev pub request_length : Result Unit RequestError → ℕ
request_length (Ok done) = bare_size
request_length (Err refusal) = 0

abbrev pub asked : Outcome (Result Unit RequestError) (List ℕ) → Outcome Answer (List ℕ)
asked o = outcome (Frame (request.number_of o.result) (request_length o.result)) o.left

unfoldable pub ask_of : ℕ → ℕ → List ℕ → Outcome Answer (List ℕ)
ask_of address code out = asked (request.requested address code out)

unfoldable pub ask_line : List ℕ → List ℕ → Outcome Answer (List ℕ)
unfolding ask_of
ask_line line out = cond (is_form line (long ∷ byte ∷ [])) (ask_of (long_in line 1) (byte_in line 2) out) (outcome Unread out)

-- ---- mercury-decode ADDRESS COMMAND BYTES, "(without BYTES: none)": "a reply decoded against that request"

abbrev pub decoded_from : List ℕ → List ℕ → Answer
decoded_from line reply = Told (decoded_of (long_in line 1) (byte_in line 2) reply)

unfoldable pub decode_in : Option ℕ → List ℕ → List ℕ → Answer
decode_in (Some n) buffer line = decoded_from line (part_of n buffer)
decode_in None buffer line = Unread

unfoldable pub decode_bytes : List ℕ → Answer
unfolding decode_in
decode_bytes line = let o = bytes_read (word_at 3 line) (replicate 2048 0) in decode_in o.result o.left line

unfoldable pub decode_line : List ℕ → Answer
decode_line line =
    check (are_numbers line 1 (long ∷ byte ∷ [])) Unread
    (cond (eqb (spaces_in line) 2) (decoded_from line []) (cond (eqb (spaces_in line) 3) (decode_bytes line) Unread))

-- ---- all of them by their names

abbrev pub names : List ℕ
names = ascii "mercury mercury-frame mercury-ask mercury-decode"

-- the first word's place among the names
unfoldable pub verb_of : List ℕ → ℕ
verb_of line = place_of (word_at 0 line) names

abbrev pub is_named : List ℕ → Bool
is_named line = leb (verb_of line) 3

-- "27 for one above its digits, which keeps the ones before"
abbrev pub setting_of : Result Meter LineError → Meter → Called
setting_of (Ok after) m = record { answer = Number 0; after = after }
setting_of (Err line.OutOfRange) m = record { answer = Number 27; after = m }
setting_of (Err line.Unread) m = record { answer = Unread; after = m }

-- what leaves the meter as it is
unfoldable pub asked_by : ℕ → Meter → List ℕ → List ℕ → Outcome Answer (List ℕ)
asked_by verb m line out =
    cond (eqb verb 1) (frame_line m line out)
    (cond (eqb verb 2) (ask_line line out) (cond (eqb verb 3) (outcome (decode_line line) out) (outcome Unread out)))

-- the meter beside the answer
abbrev pub keeps : Meter → Outcome Answer (List ℕ) → Outcome Called (List ℕ)
keeps m o = outcome (record { answer = o.result; after = m }) o.left

unfoldable pub called_line : Meter → List ℕ → List ℕ → Outcome Called (List ℕ)
called_line m line out = cond (eqb (verb_of line) 0) (outcome (setting_of (meter_line line) m) out) (keeps m (asked_by (verb_of line) m line out))

-- the bench's meter after a line; the output of a program is as long as the longest frame
unfoldable pub mercury_after : Meter → List ℕ → Meter
mercury_after m line = (called_line m line (replicate longest 0)).result.after
