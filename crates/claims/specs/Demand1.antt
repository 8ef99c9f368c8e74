-- Demand 1. "Every call ends with an answer from document 01's table, for every input. A refused call leaves the log and the meter's
-- record as they stood, and writes nothing into a lent buffer but the short refusal frame where the table gives one."
--
-- One claim a public call that has an answer, by the call's name and over the definition that its contract cites; `put-text` is the
-- heading's and a line's. That every call ends is the prover's own condition for every function. Proofs: `demand-1`, proofs/Claims.antt.
use Rattle.std.specs.Prelude.{◌≡◌, Bool, true, cond, ◌&&◌, ◌||◌, List, ℕ, eqb, leb, length, drop, Option, Result, None}
use Rattle.byte_numbers.specs.Place.{written}
use Rattle.refusal.specs.Outcome.{Outcome, outcome}
use Rattle.frame.specs.Layout.{bare_size}
use Rattle.frame.specs.Sealing.{framed}
use Rattle.request.specs.Request as request
use Rattle.request.specs.declared.request.Request.{Request}
use Rattle.reader.specs.Reply as reader
use Rattle.reader.specs.declared.reply.Decoded.{Decoded}
use Rattle.reader.specs.declared.reply.DecodeError.{DecodeError}
use Rattle.slots.specs.declared.key.Key.{Key}
use Rattle.meter_record.specs.Record as record_of
use Rattle.meter_record.specs.declared.record.Record.{Record}
use Rattle.meter_record.specs.declared.record.RecordError.{RecordError}
use Rattle.meter_command.specs.Command.{command_of}
use Rattle.meter_command.specs.Verdict.{number_of}
use Rattle.meter_command.specs.declared.verdict.Refusal.{Refusal}
use Rattle.meter.specs.Bench as bench
use Rattle.meter.specs.Reply as meter
use Rattle.meter_round_trip.specs.Inquiry as inquiry
use Rattle.energy_log.specs.Fresh.{fresh_number, fresh_of}
use Rattle.energy_log.specs.View.{View}
use Rattle.day_rows.specs.LogAndRows.{LogAndRows, log_and_rows}
use Rattle.day_rows.specs.Fresh.{fresh_with}
use Rattle.log_header.specs.declared.header.Header.{Header}
use Rattle.day_report.specs.Report as report
use Rattle.day_report.specs.Text as text
use Rattle.day_report.specs.Day as day
use Rattle.day_report.specs.Strip as strip
use Rattle.log_file.specs.Read as reading
use Rattle.log_file.specs.Write as writing
use Rattle.report_page.specs.Page as page
use Rattle.report_page.specs.declared.page.Page.{Page}
use Rattle.logger.specs.Ask as asking
use Rattle.logger.specs.Take as taking
use Rattle.logger.specs.Book as book
use Rattle.logger.specs.Run.{State, state, step}
use Rattle.logger.specs.declared.held.OpenAsk.{OpenAsk}

-- the numbers of document 01's table; document 02, CR 2: "23 goes ..; in its place .. 50 .. 54"; CR 1: 40 and 41; CR 6: 16
unfoldable pub in_table : ℕ → Bool
in_table n =
    leb n 2 || (leb 10 n && leb n 16) || (leb 20 n && leb n 22) || (leb 24 n && leb n 28) || (leb 30 n && leb n 35) || (leb 40 n && leb n 41)
    || (leb 50 n && leb n 54)

-- how a call ends: its number is the table's, and a refused one, any but 0, leaves all that it was lent to write in or held as it stood
pub record Ends {A : Type 0} (number : ℕ) (before after : A) : Type 0 where
  pub in-table : in_table number ≡ true
  pub unchanged : (number ≡ 0 → ⊥) → after ≡ before

-- the same of a call's outcome, by the numbers of its results
abbrev pub EndsBy : {R L : Type 0} → (R → ℕ) → L → Outcome R L → Type 0
EndsBy number before o = Ends (number o.result) before o.left

-- the answers to a reply that close the ask: 0, and 24 and 25, "ask closed, log kept"
abbrev pub closes_ask : ℕ → Bool
closes_ask n = eqb n 0 || eqb n 24 || eqb n 25

-- where the table gives a refusal frame
abbrev pub gives_frame : ℕ → Bool
gives_frame n = leb 10 n && leb n 16

-- the number of the meter's answer
abbrev pub answer_number : meter.Outcome → ℕ
answer_number o = number_of o.answer.verdict

pub record Demand1 : Type 0 where
  -- "Every call ends with an answer from document 01's table": where nothing is lent to write in, and figures or a record come with 0 alone,
  -- `decode`; `make`, `pass_second` and `set_powers`; and `inquire`, put together from a request, the meter's answer and its decoding
  pub decode : (d : Result Decoded DecodeError) → in_table (reader.number_of d) ≡ true
  pub record_given : (a : Result Record RecordError) → in_table (record_of.number_of a) ≡ true
  pub inquire : (r : Record) (s : List ℕ) (q : Request) (out : List ℕ) → in_table (inquiry.number_of (inquiry.inquired r s q out).answer) ≡ true
  -- "A refused call leaves the log and the meter's record as they stood": the record with its store, the log with its figures (document 02, CR 8) and the
  -- ask that is open
  pub answer : (r : Record) (s f out : List ℕ) → let o = meter.answer_of r s f out in
      Ends {A = Record × List ℕ} (answer_number o) (r, s) (o.answer.after, o.store)
  pub put_slice : (r : Record) (s : List ℕ) (k : Key) (row : List ℕ) → EndsBy record_of.number_of s (bench.slice_put r s k row)
  pub take_reply : (b : LogAndRows) (held : Option OpenAsk) (y : List ℕ) → let o = taking.taken b held y in Ends (taking.number_of o.result.answer) b o.left
  pub ask_after : (b : LogAndRows) (held : Option OpenAsk) (y : List ℕ) → let o = taking.taken b held y in
      o.result.held ≡ cond (closes_ask (taking.number_of o.result.answer)) None held
  pub lapse : (s : State) → EndsBy (λ (a : book.Answer). a.number) s (step s book.lapse)
  -- "with none open it still answers 0" (document 02, CR 7), whatever the log is
  pub lapse_none : (b : LogAndRows) → step (state b None) book.lapse ≡ outcome (book.plain 0) (state b None)
  -- "and writes nothing into a lent buffer": an ask, which is lent the log only to be read; requests, fresh logs (`fresh-image` is `log`'s call, which is
  -- lent no figures), reports, texts and strips, files, and the lines and strips of what is printed for a file
  pub put_ask : (v : View) (held : Option OpenAsk) (address day slot : ℕ) (out : List ℕ) → let o = asking.asked v held address day slot out in
      Ends {A = Option OpenAsk × List ℕ} (asking.number_of o.result.answer) (held, out) (o.result.held, o.left)
  pub put_request : (q : Request) (out : List ℕ) → EndsBy request.number_of out (request.requested q out)
  pub fresh_log : (h : Header) (out figs : List ℕ) → EndsBy fresh_number (log_and_rows out figs) (fresh_with h out figs)
  pub fresh-image : (h : Header) (out : List ℕ) → EndsBy fresh_number out (fresh_of h out)
  pub day_report : (lent : Option Header) (figs : List ℕ) (d : ℕ) (row : List ℕ) → EndsBy report.report_number row (report.report_of lent figs d row)
  pub put-text : (line out : List ℕ) → EndsBy text.text_number out (text.put_text line out)
  pub put_day : (lent : Option Header) (figs : List ℕ) (d : ℕ) (out : List ℕ) → EndsBy text.text_number out (day.day_text lent figs d out)
  pub put_strip : (v : View) (d : ℕ) (out : List ℕ) → EndsBy text.text_number out (strip.strip_text v d out)
  pub read-file : (f out figs : List ℕ) → EndsBy reading.read_number (log_and_rows out figs) (reading.read_file f out figs)
  pub write_file : (v : View) (out : List ℕ) → EndsBy writing.write_number out (writing.written_file v out)
  pub put_next_line : (p : Page) (given : LogAndRows) (out : List ℕ) → let o = page.next_line p given out in
      Ends {A = Page × List ℕ} (text.text_number o.result.answer) (p, out) (o.result.after, o.left)
  pub put_next_strip : (p : Page) (log out : List ℕ) → let o = page.next_strip p log out in
      Ends {A = Page × List ℕ} (text.text_number o.result.answer) (p, out) (o.result.after, o.left)
  -- "but the short refusal frame where the table gives one": what a refused command leaves in the output, how many bytes of it are the reply
  pub answer_output : (r : Record) (s f out : List ℕ) → let o = meter.answer_of r s f out in (answer_number o ≡ 0 → ⊥)
      → o.out ≡ cond (gives_frame (answer_number o)) (written out 0 (framed (meter.head_of o.answer.verdict (command_of f)))) out
  pub answer_length : (r : Record) (s f out : List ℕ) → let o = meter.answer_of r s f out in (answer_number o ≡ 0 → ⊥)
      → o.answer.length ≡ cond (gives_frame (answer_number o)) bare_size 0
  pub frame_short : (v : Result Unit Refusal) (f : List ℕ) → length (framed (meter.head_of v (command_of f))) ≡ bare_size
  pub past_frame : (v : Result Unit Refusal) (f out : List ℕ) → drop bare_size (written out 0 (framed (meter.head_of v (command_of f)))) ≡ drop bare_size out
