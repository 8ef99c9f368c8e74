-- Demand 1, call by call: each definition ends in one of its answers, and all but 0 hand back what was lent.
use mathlib.Core.Path.{◌≡◌, refl, ap₂, ◌∙◌}
use mathlib.Core.Bool.{Bool, true, false, cond, ◌&&◌, false≢true}
use mathlib.Core.List.{List}
use Prim.Native.Nat.{ℕ, ◌-◌}
use lib.Dec.{eqb, leb, ltb}
use lib.ListN.{length}
use borrow.Author.Tests.{ne_eqb}
use Rattle.std.specs.Prelude.{Err, None, Ok, Option, Result, Some}
use Rattle.test_laws.proofs.Test.{either}
use Rattle.calendar.specs.declared.date.Date.{Date}
use Rattle.refusal.specs.Outcome.{Outcome, outcome, check}
use Rattle.frame.specs.Layout.{read_size}
use Rattle.frame.specs.Sealing.{crc_fits}
use Rattle.slots.specs.Day.{slots_of}
use Rattle.slots.specs.Key.{is_legal}
use Rattle.slots.specs.declared.key.Key.{Key}
use Rattle.request.specs.Request as request
use Rattle.request.specs.Subject.{subject_of, askable, most_slots}
use Rattle.request.specs.declared.request.Request.{Request}
use Rattle.reader.specs.Form.{fault_number}
use Rattle.reader.specs.declared.form.Fault.{Fault}
use Rattle.reader.specs.declared.form.Fault.TheVariants as fault
use Rattle.reader.specs.Reply as reader
use Rattle.reader.specs.declared.reply.Decoded.{Decoded}
use Rattle.reader.specs.declared.reply.DecodeError.{DecodeError}
use Rattle.reader.specs.declared.reply.DecodeError.TheVariants as decoded_error
use Rattle.meter_record.specs.Record as record_of
use Rattle.meter_record.specs.declared.record.Record.{Record}
use Rattle.meter_record.specs.declared.record.RecordError.{RecordError}
use Rattle.meter_record.specs.declared.record.RecordError.TheVariants as given
use Rattle.meter.specs.Bench as bench
use Rattle.meter.specs.Reply.{is_sound}
use Rattle.energy_log.specs.Fresh.{fresh_number, fresh_of}
use Rattle.log_header.specs.Header.{header_size, is_header, length_of, mark_right, version_at, if_right}
use Rattle.energy_log.specs.Image.{applied, all_good}
use Rattle.energy_log.specs.View.{View, view_of}
use Rattle.energy_log.specs.declared.image.Change.TheVariants as change
use Rattle.logger.specs.Lapse as silence
use Rattle.logger.proofs.LapseLaws.{is_refused, lapsing-ways}
use Rattle.logger.specs.Lapse.{LapseDecision}
use Rattle.log_header.proofs.HeaderLaws.{by-sound}
use Rattle.log_header.specs.Interval.{interval_of, day_date}
use Rattle.log_header.proofs.IntervalLaws.{by-at}
use Rattle.log_header.specs.declared.header.Header.{Header}
use Rattle.day_rows.specs.LogAndRows.{LogAndRows, log_and_rows, enough}
use Rattle.day_rows.specs.Figures.{row_numbers, day_cells}
use Rattle.day_rows.specs.Fresh.{fresh_with}
use Rattle.day_rows.specs.Rows.{row_at}
use Rattle.day_report.specs.Report as report
use Rattle.day_report.specs.Text as text
use Rattle.day_report.specs.Day as day
use Rattle.day_report.specs.Strip as strip
use Rattle.day_report.specs.declared.answer.ReportError.{ReportError}
use Rattle.log_file.specs.Row as file
use Rattle.log_file.specs.Row.{lapses_in}
use Rattle.log_file.specs.File.{is_version, file_header, file_length_as, file_length, cells_right}
use Rattle.log_file.specs.Read as reading
use Rattle.log_file.specs.Write as writing
use Rattle.log_file.specs.declared.read.ReadError.{ReadError}
use Rattle.report_page.specs.Page as page
use Rattle.report_page.specs.declared.page.Page.{Page}
use Rattle.logger.specs.Ask as asking
use Rattle.logger.specs.Book as book
use Rattle.logger.specs.Run.{State, state, step}
use Rattle.logger.specs.Take as taking
use Rattle.logger.proofs.TakeLaws.{by-none, Step, is_closing, decided-ways}
use Rattle.logger.specs.declared.held.OpenAsk.{OpenAsk}
use Rattle.logger.specs.Ask.{Asked}
use Rattle.logger.specs.Take.{Taken}
use Rattle.logger.specs.declared.no_reply.LapseError.{LapseError}
use Rattle.logger.specs.declared.take.TakeError.{TakeError}
use Rattle.logger.specs.declared.no_reply.LapseError.TheVariants as lapse-error
use Rattle.logger.specs.declared.take.TakeError.TheVariants as answer
use Rattle.claims.specs.Demand1.{in_table, Ends, EndsBy, closes_ask}

-- 0, whatever was done
pub done : {A : Type 0} (before after : A) → Ends 0 before after
unfolding in_table
done before after = record { in-table = refl; unchanged = λ n. absurd (n refl) }

-- a number of the table, and nothing done
pub stays : {A : Type 0} (number : ℕ) (x : A) → in_table number ≡ true → Ends number x x
stays number x t = record { in-table = t; unchanged = λ n. refl }

-- a check of a call, and a header that is read: what holds of the refusal and of what follows
by-check : {A : Type 0} (P : A → Type 0) (passed : Bool) {x y : A} → P x → P y → P (check passed x y)
by-check P passed x y = either P passed y x

by_right : {A : Type 0} (P : A → Type 0) (a : Option Header) {x : A} {f : Header → A} → P x → ((h : Header) → P (f h)) → P (if_right a x f)
by_right P None x k = x
by_right P (Some h) x k = k h

-- ---- requests, and replies decoded

-- demand 1's `put_request`: a request that is refused leaves the lent output
pub put_request : (q : Request) (out : List ℕ) → EndsBy request.number_of out (request.requested q out)
unfolding request.requested in_table
put_request q out =
    let P = EndsBy request.number_of out in
    either P (ltb (length out) read_size) (stays 1 out refl)
    (either P (askable (subject_of q most_slots)) (done out _) (stays 27 out refl))

fault-in-table : (f : Fault) → in_table (fault_number f) ≡ true
unfolding in_table
fault-in-table (fault.Length n) = refl
fault-in-table fault.Crc = refl
fault-in-table fault.Address = refl
fault-in-table fault.Function = refl
fault-in-table fault.Parameter = refl

-- demand 1's `decode`: each answer of the reader has a number of the table
pub decode : (d : Result Decoded DecodeError) → in_table (reader.number_of d) ≡ true
unfolding in_table
decode (Err decoded_error.OutOfRange) = refl
decode (Err (decoded_error.Malformed f)) = fault-in-table f
decode (Err (decoded_error.MeterRefused result)) = refl
decode (Err decoded_error.NotFinite) = refl
decode (Ok figures) = refl

-- ---- the bench

-- demand 1's `record_given`: so has each answer of the calls that hand over a record
pub record_given : (a : Result Record RecordError) → in_table (record_of.number_of a) ≡ true
unfolding in_table
record_given (Ok r) = refl
record_given (Err given.OutOfRange) = refl
record_given (Err given.Unsound) = refl

-- demand 1's `put_slice`: a slice that is refused leaves the store
pub put_slice : (r : Record) (s : List ℕ) (k : Key) (row : List ℕ) → EndsBy record_of.number_of s (bench.slice_put r s k row)
unfolding bench.slice_put in_table
put_slice r s k row =
    let P = EndsBy record_of.number_of s in
    either P (is_sound r s) (either P (is_legal k (slots_of r.minutes)) (done s _) (stays 27 s refl)) (stays 28 s refl)

-- ---- a fresh log

-- demand 1's `fresh_log`: a fresh log that is refused leaves the lent bytes and figures
pub fresh_log : (h : Header) (out figs : List ℕ) → EndsBy fresh_number (log_and_rows out figs) (fresh_with h out figs)
unfolding fresh_with in_table
fresh_log h out figs =
    let b = log_and_rows out figs in
    let P = EndsBy fresh_number b in
    by-check P (is_header h) (stays 27 b refl) (
    by-check P (enough h figs) (stays 1 b refl) (
    by-check P (leb (length_of h) (length out)) (stays 1 b refl) (done b _)))

-- demand 1's `fresh-image`: the same of `log`'s own call, which is lent no figures
pub fresh-image : (h : Header) (out : List ℕ) → EndsBy fresh_number out (fresh_of h out)
unfolding fresh_of in_table
fresh-image h out =
    let P = EndsBy fresh_number out in
    either P (is_header h) (either P (leb (length_of h) (length out)) (done out _) (stays 1 out refl)) (stays 27 out refl)

-- ---- day reports and their text

-- demand 1's `day_report`: a report that is refused leaves the lent row
pub day_report : (lent : Option Header) (figs : List ℕ) (d : ℕ) (row : List ℕ) → EndsBy report.report_number row (report.report_of lent figs d row)
unfolding report.report_of in_table
day_report lent figs d row =
    let P = EndsBy report.report_number row in
    by-check P (leb row_numbers (length row)) (stays 1 row refl) (
    by-sound P lent (λ e. stays 28 row refl) (λ h e.
    by-check P (enough h figs) (stays 1 row refl) (
    by-check P (ltb d h.days) (stays 22 row refl) (done row _))))

-- demand 1's `put-text`: a line or heading that has no room leaves the lent output
pub put-text : (line out : List ℕ) → EndsBy text.text_number out (text.put_text line out)
unfolding text.put_text in_table
put-text line out = either (EndsBy text.text_number out) (leb (length line) (length out)) (done out _) (stays 1 out refl)

module _ (lent : Option Header) (figs : List ℕ) (d : ℕ) (out : List ℕ) where
  dated-put : (a : Option Date) → EndsBy text.text_number out (day.day_on_text a (row_at figs d) out)
  unfolding day.day_on_text in_table
  dated-put None = stays 22 out refl
  dated-put (Some date) = put-text (text.line_text date (row_at figs d)) out

  -- demand 1's `put_day`: a day's line that is refused leaves the lent output
  pub put_day : EndsBy text.text_number out (day.day_text lent figs d out)
  unfolding day.day_text in_table
  put_day =
      let P = EndsBy text.text_number out in
      by-sound P lent (λ e. stays 28 out refl) (λ h e. by-check P (enough h figs) (stays 1 out refl) (dated-put (day_date h d)))

module _ (v : View) (d : ℕ) (out : List ℕ) where
  stripped : (h : Header) (a : Option Date) → EndsBy text.text_number out (strip.strip_on a (day_cells v.cell h d) (strip.day_marks v.cell h d) out)
  unfolding strip.strip_on strip.strip_dated in_table
  stripped h None = stays 22 out refl
  stripped h (Some date) =
      by-check (EndsBy text.text_number out) (all_good (day_cells v.cell h d)) (stays 28 out refl) (put-text _ out)

  -- demand 1's `put_strip`: a day's strip that is refused leaves the lent output
  pub put_strip : EndsBy text.text_number out (strip.strip_text v d out)
  unfolding strip.strip_text in_table
  put_strip = by-sound (EndsBy text.text_number out) v.lent (λ e. stays 28 out refl) (λ h e. stripped h (day_date h d))

-- ---- files

-- demand 1's `read-file`: a file that is refused leaves the lent bytes and figures
pub read-file : (f out figs : List ℕ) → EndsBy reading.read_number (log_and_rows out figs) (reading.read_file f out figs)
unfolding reading.read_file reading.read_fields reading.read_cells in_table
read-file f out figs =
    let b = log_and_rows out figs in
    let P = EndsBy reading.read_number b in
    by-check P (leb reading.mark_size (length f) && mark_right f) (stays 30 b refl) (
    by-check P (is_version (version_at f)) (stays 31 b refl) (
    by-check P (leb header_size (length f)) (stays 32 b refl) (
    by_right P (file_header f) (stays 32 b refl) (λ h.
    by-check P (eqb (length f) (file_length_as (version_at f) h)) (stays 33 b refl) (
    by-check P (crc_fits f) (stays 34 b refl) (
    by-check P (cells_right h (file.row_at (version_at f) f) (lapses_in (version_at f) f)) (stays 35 b refl) (
    by-check P (leb (length_of h) (length out)) (stays 1 b refl) (
    by-check P (enough h figs) (stays 1 b refl) (done b _)))))))))

-- demand 1's `write_file`: a log that is not written out leaves the lent output
pub write_file : (v : View) (out : List ℕ) → EndsBy writing.write_number out (writing.written_file v out)
unfolding writing.written_file in_table
write_file v out =
    let P = EndsBy writing.write_number out in
    by-sound P v.lent (λ e. stays 28 out refl) (λ h e.
    by-check P (leb (file_length h) (length out)) (stays 1 out refl) (
    by-check P (cells_right h v.cell v.lapses) (stays 28 out refl) (done out _)))

-- ---- what is printed for a file that was read

read-line : (read : Result ℕ ReadError) (given : LogAndRows) (i : ℕ) (out : List ℕ) → EndsBy text.text_number out (page.read_line read given i out)
unfolding page.read_line page.report_line page.refused_line in_table
read-line read given i out =
    let P = EndsBy text.text_number out in
    either P (eqb (reading.read_number read) 0)
    (either P (eqb i 0) (put-text _ out) (put_day _ given.figures (i - 1) out))
    (either P (eqb i 0) (put-text _ out) (stays 22 out refl))

-- a line that was not put leaves the page where it was
same-page : (p : Page) (a : Result ℕ ReportError) → (text.text_number a ≡ 0 → ⊥) → page.page_after a p ≡ p
unfolding page.page_after
same-page p a q = simp (ne_eqb _ _ q)

goes_on : (p : Page) (out : List ℕ) (o : Outcome (Result ℕ ReportError) (List ℕ)) → EndsBy text.text_number out o → let l = page.goes_on p o in
    Ends {A = Page × List ℕ} (text.text_number l.result.answer) (p, out) (l.result.after, l.left)
goes_on p out o e =
    record { in-table = e.in-table; unchanged = λ q. ap₂ (λ (x : Page) (y : List ℕ). (x, y)) (same-page p o.result q) (e.unchanged q) }

-- demand 1's `put_next_line`: a page's line that is not put leaves the page where it was, and the output
pub put_next_line : (p : Page) (given : LogAndRows) (out : List ℕ) → let o = page.next_line p given out in
    Ends {A = Page × List ℕ} (text.text_number o.result.answer) (p, out) (o.result.after, o.left)
unfolding page.next_line
put_next_line p given out = goes_on p out (page.read_line p.read given p.next out) (read-line p.read given p.next out)

-- demand 1's `put_next_strip`: and so does a strip
pub put_next_strip : (p : Page) (log out : List ℕ) → let o = page.next_strip p log out in
    Ends {A = Page × List ℕ} (text.text_number o.result.answer) (p, out) (o.result.after, o.left)
unfolding page.next_strip page.read_strip
put_next_strip p log out = goes_on p out (page.read_strip p.read log p.next out) (put_strip _ p.next out)

-- ---- asks, lapses and replies

-- demand 1's `put_ask`: an ask that is refused leaves the open ask and the output
pub put_ask : (v : View) (held : Option OpenAsk) (address day slot : ℕ) (out : List ℕ) → let o = asking.asked v held address day slot out in
    Ends {A = Option OpenAsk × List ℕ} (asking.number_of o.result.answer) (held, out) (o.result.held, o.left)
unfolding asking.asked in_table
put_ask v held address day slot out =
    let P : Outcome Asked (List ℕ) → Type 0 =
    λ o. Ends {A = Option OpenAsk × List ℕ} (asking.number_of o.result.answer) (held, out) (o.result.held, o.left) in
    either P (ltb (length out) read_size) (record { in-table = refl; unchanged = λ n. refl }) (
    by-sound P v.lent (λ e. record { in-table = refl; unchanged = λ n. refl }) (λ h e.
    by-none P held (λ a d t o. record { in-table = refl; unchanged = λ n. refl }) (λ o.
    by-at P (interval_of h day slot) (λ n. record { in-table = refl; unchanged = λ n. refl }) (λ i n.
    record { in-table = refl; unchanged = λ n. absurd (n refl) }))))

-- demand 1's `lapse`: a lapse that is refused leaves log, figures and the open ask
pub lapse : (s : State) → EndsBy (λ (a : book.Answer). a.number) s (step s book.lapse)
unfolding step silence.lapsed applied in_table
lapse s =
    lapsing-ways
    (λ (d : LapseDecision).
    EndsBy (λ (a : book.Answer). a.number) s
    (outcome (book.plain (silence.number_of d.answered.answer)) (state (log_and_rows (applied d.change s.log) s.figures) d.answered.held)))
    (view_of s.log) s.held (record {
      none = λ e. done s _;
      refused = λ a n. refused-lapse a n;
      counted = λ h i e o. done s _;
    })
  where
    refused-lapse : (a : Result Unit LapseError) → is_refused a ≡ true
        → EndsBy (λ (a : book.Answer). a.number) s (outcome (book.plain (silence.number_of a)) (state (log_and_rows (applied change.None s.log) s.figures) s.held))
    refused-lapse (Ok tt) n = absurd (false≢true n)
    refused-lapse (Err lapse-error.NotInLog) n = record { in-table = refl; unchanged = λ k. refl }
    refused-lapse (Err lapse-error.Unsound) n = record { in-table = refl; unchanged = λ k. refl }

-- demand 1's `lapse_none`, CR 7: with no ask open a lapse answers 0 and changes nothing, whatever the log is
pub lapse_none : (b : LogAndRows) → step (state b None) book.lapse ≡ outcome (book.plain 0) (state b None)
unfolding step silence.lapsed silence.lapsing applied
lapse_none b = refl

-- a taken reply: the log with its figures, and the ask
record TakenEnds (b : LogAndRows) (held : Option OpenAsk) (o : Outcome Taken LogAndRows) : Type 0 where
  log : Ends (taking.number_of o.result.answer) b o.left
  ask : o.result.held ≡ cond (closes_ask (taking.number_of o.result.answer)) None held

answer-in-table : (a : Result Unit TakeError) → in_table (taking.number_of a) ≡ true
unfolding in_table
answer-in-table (Ok tt) = refl
answer-in-table (Err answer.TooShort) = refl
answer-in-table (Err answer.NoAskOpen) = refl
answer-in-table (Err answer.NotInLog) = refl
answer-in-table (Err (answer.Malformed f)) = fault-in-table f
answer-in-table (Err (answer.MeterRefused result)) = refl
answer-in-table (Err answer.OtherCounts) = refl
answer-in-table (Err answer.Unsound) = refl

-- a reply that is not well formed leaves the ask open
fault-open : (f : Fault) → closes_ask (fault_number f) ≡ false
fault-open (fault.Length n) = refl
fault-open fault.Crc = refl
fault-open fault.Address = refl
fault-open fault.Function = refl
fault-open fault.Parameter = refl

-- the numbers tell which answers close it
pub number-closes : (a : Result Unit TakeError) → closes_ask (taking.number_of a) ≡ is_closing a
number-closes (Ok tt) = refl
number-closes (Err answer.TooShort) = refl
number-closes (Err answer.NoAskOpen) = refl
number-closes (Err answer.NotInLog) = refl
number-closes (Err (answer.Malformed f)) = fault-open f
number-closes (Err (answer.MeterRefused result)) = refl
number-closes (Err answer.OtherCounts) = refl
number-closes (Err answer.Unsound) = refl

taken-ends : (b : LogAndRows) (held : Option OpenAsk) (y : List ℕ) → TakenEnds b held (taking.taken b held y)
unfolding taking.taken applied
taken-ends b held y =
    decided-ways (λ (o : Step). TakenEnds b held (taking.done o b.log)) (view_of b.log) b.figures held y (record {
      kept-open = λ a n. record { log = stays (taking.number_of a) b (answer-in-table a); ask = rw (number-closes a ∙ n) };
      closed = λ a n. record { log = stays (taking.number_of a) b (answer-in-table a); ask = rw (number-closes a ∙ n) };
      put = λ h i old c e o g is d. record { log = done b _; ask = refl };
    })

-- demand 1's `take_reply`: a reply that is answered otherwise than 0 leaves log and figures
pub take_reply : (b : LogAndRows) (held : Option OpenAsk) (y : List ℕ) → let o = taking.taken b held y in Ends (taking.number_of o.result.answer) b o.left
take_reply b held y = (taken-ends b held y).log

-- demand 1's `ask_after`: 0, 24 and 25 close the ask, every other answer leaves it
pub ask_after : (b : LogAndRows) (held : Option OpenAsk) (y : List ℕ) → let o = taking.taken b held y in
    o.result.held ≡ cond (closes_ask (taking.number_of o.result.answer)) None held
ask_after b held y = (taken-ends b held y).ask
