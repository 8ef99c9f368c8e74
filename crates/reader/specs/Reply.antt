-- Replies decoded. Source: document 01, "The reader and the log": "Other replies are decoded apart against their own request, without
-- log or open ask, and tested 27 (a request that no record would answer with 0), 23, 24, 26." Document 02, request 2: "23 goes
-- ..; in its place and this order 50 length, 51 CRC, 52 address, 53 function, or a top bit that belies the result, 54 parameter".
use Rattle.refusal.specs.Number.{answer_number}
use Rattle.reader.specs.declared.reply.DecodeError.{DecodeError}
use Rattle.wire_values.specs.declared.displayed.Energies.{Energies}
use Rattle.wire_values.specs.declared.power.Powers.{Powers as AllPowers}
use Rattle.std.specs.Prelude.{cond, List, ℕ, ◌+◌, eqb, Err, Float, None, Ok, Option, Result, Some}
use Rattle.byte_numbers.specs.Place.{byte_at}
use Rattle.parameters.specs.Code.{reading_code}
use Rattle.frame.specs.Layout.{bare_size}
use Rattle.parameters.specs.declared.code.Parameter.{Parameter}
use Rattle.parameters.specs.declared.code.Parameter.TheVariants as parameter
use Rattle.parameters.specs.declared.code.Reading.{Reading}
use Rattle.parameters.specs.declared.code.Reading.TheVariants.{Stored, Displayed as AsDisplayed}
use Rattle.request.specs.Subject.{subject_of, askable, data_bytes, most_slots}
use Rattle.request.specs.declared.request.Request.{Request}
use Rattle.request.specs.declared.subject.Subject.{Subject}
use Rattle.wire_values.specs.Clock.{date_time_of}
use Rattle.wire_values.specs.Displayed.{energies_of}
use Rattle.wire_values.specs.Mask.{mask_of}
use Rattle.wire_values.specs.Power.{power_of, powers_of}
use Rattle.wire_values.specs.Row.{row_at}
use Rattle.wire_values.specs.Telemetry.{telemetry_of}
use Rattle.reader.specs.Form.{reply_of, if_reply, fault_number}
use Rattle.reader.specs.Rows.{reply_data}
use Rattle.reader.specs.declared.form.ReplyError.{ReplyError}
use Rattle.reader.specs.declared.form.ReplyError.TheVariants as reply
use Rattle.reader.specs.declared.reply.Decoded.{Decoded}
use Rattle.reader.specs.declared.reply.Decoded.TheVariants.{Address, Telemetry, DateTime}
use Rattle.reader.specs.declared.reply.DecodeError.TheVariants.{OutOfRange, Malformed, MeterRefused, NotFinite}
use Rattle.reader.specs.declared.reply.Decoded.TheVariants.{DisplayMask, Powers, OnePower, Slice, SixSlices, Displayed}

-- 26 is for "power reply with an infinity or no number"
abbrev pub powers_figure : Option AllPowers → Result Decoded DecodeError
powers_figure (Some p) = Ok (Powers p)
powers_figure None = Err NotFinite

abbrev pub power_figure : Option Float → Result Decoded DecodeError
power_figure (Some p) = Ok (OnePower p)
power_figure None = Err NotFinite

-- document 02, request 3: "26 applies to these replies also"
abbrev pub energies_figure : Option Energies → Result Decoded DecodeError
energies_figure (Some e) = Ok (Displayed e)
energies_figure None = Err NotFinite

-- "detail 0 answers the total and A, B, C, details 1 to 3 one phase"
unfoldable pub phase_figures : ℕ → List ℕ → Result Decoded DecodeError
phase_figures detail bs = cond (eqb detail 0) (powers_figure (powers_of bs)) (power_figure (power_of bs 0))

-- the figures that the data of a reply hold, as they are stored
unfoldable pub read_figures : Parameter → ℕ → List ℕ → Result Decoded DecodeError
unfolding phase_figures
read_figures parameter.ActivePower detail bs = phase_figures detail bs
read_figures parameter.ReactivePower detail bs = phase_figures detail bs
read_figures parameter.Address detail bs = Ok (Address (byte_at bs 0))
read_figures parameter.Telemetry detail bs = Ok (Telemetry (telemetry_of bs))
read_figures parameter.SummerDate detail bs = Ok (DateTime (date_time_of bs))
read_figures parameter.WinterDate detail bs = Ok (DateTime (date_time_of bs))
read_figures parameter.Clock detail bs = Ok (DateTime (date_time_of bs))
read_figures parameter.DisplayMask detail bs = Ok (DisplayMask (mask_of bs))
read_figures parameter.Slice detail bs = Ok (Slice (row_at bs 0))
read_figures parameter.SixSlices detail bs = Ok SixSlices
read_figures parameter.Password detail bs = Err OutOfRange
read_figures parameter.Unknown detail bs = Err OutOfRange

-- and as the display shows them, with function 4, which reads parameter 36 alone
unfoldable pub read_as : Reading → Parameter → ℕ → List ℕ → Result Decoded DecodeError
unfolding read_figures
read_as Stored p detail bs = read_figures p detail bs
read_as AsDisplayed p detail bs = energies_figure (energies_of bs)

abbrev pub figures_of : Option Subject → List ℕ → Result Decoded DecodeError
figures_of (Some asked) bs = read_as asked.reading asked.parameter asked.detail bs
figures_of None bs = Err OutOfRange

-- a reply y decoded against the request q: 27, 50 to 54, 24, 26
unfoldable pub decoded_of : Request → List ℕ → Result Decoded DecodeError
decoded_of q y =
    let s = subject_of q most_slots in
    cond (askable s)
    (if_reply (reply_of q.address (reading_code q.reading) q.parameter (bare_size + data_bytes s) y)
    (λ fault. Err (Malformed fault)) (λ result. Err (MeterRefused result)) (figures_of s (reply_data y)))
    (Err OutOfRange)

-- what a reply that is refused before its figures are looked at is answered with
abbrev pub error_of : ReplyError → DecodeError
error_of (reply.Malformed fault) = Malformed fault
error_of (reply.Refused result) = MeterRefused result

-- document 01's numbers, and document 02's of a reply that is not well formed
abbrev pub error_number : DecodeError → ℕ
error_number OutOfRange = 27
error_number (Malformed fault) = fault_number fault
error_number (MeterRefused result) = 24
error_number NotFinite = 26

abbrev pub number_of : Result Decoded DecodeError → ℕ
number_of = answer_number error_number
