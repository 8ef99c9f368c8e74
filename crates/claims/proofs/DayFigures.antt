-- Document 02, CR 8: what becomes of the figures, by the laws of the crates below.
use mathlib.Core.Path.{◌≡◌, refl, sym, ap, subst, ◌∙◌}
use mathlib.Core.Bool.{Bool, true, false, not, ◌&&◌, false≢true}
use mathlib.Core.List.{List, [], ◌∷◌}
use Prim.Native.Nat.{ℕ, zero, suc, ◌+◌, ◌-◌, ◌≤◌, ◌<◌}
use native.Mathlib.Omega.{arith}
use lib.Dec.{ltb}
use lib.ListN.{length, get_or}
use borrow.Author.Tests.{le-leb, lt-ltb, ltb-true, ne_eqb}
use Rattle.std.specs.Prelude.{None, Ok, Option, Result, Some}
use Rattle.test_laws.proofs.Test.{either}
use Rattle.refusal.specs.Outcome.{Outcome, outcome}
use Rattle.byte_numbers.specs.Place.{written}
use Rattle.frame.specs.Layout.{read_size}
use Rattle.log_header.specs.Header.{sound_of}
use Rattle.calendar.specs.declared.date.Date.{Date}
use Rattle.log_header.specs.Interval.{interval_of, day_date}
use Rattle.energy_log.specs.View.{view_of}
use Rattle.log_header.proofs.IntervalLaws.{by-at}
use Rattle.log_header.specs.declared.header.Header.{Header}
use Rattle.reader.specs.declared.form.Fault.{Fault}
use Rattle.reader.specs.declared.form.Fault.TheVariants as fault
use Rattle.day_rows.specs.LogAndRows.{LogAndRows, enough}
use Rattle.day_rows.specs.Figures.{row_numbers}
use Rattle.day_rows.specs.Rows.{row_at, walked, Right}
use Rattle.day_rows.proofs.RowsLaws.{right-enough}
use Rattle.day_report.specs.Day.{day_on_text, day_text}
use Rattle.day_report.specs.Report.{report_of}
use Rattle.day_report.specs.Text.{line_text, put_text}
use Rattle.day_report.specs.declared.answer.ReportError.{ReportError}
use Rattle.log_file.specs.declared.read.ReadError.{ReadError}
use Rattle.report_page.specs.Page.{report_line, ReadOf, page_at, goes_on, next_line, next_strip, page_line, strip_line}
use Rattle.report_page.proofs.PageLaws.{line-of-file, strip-of-file}
use Rattle.logger.specs.Book.{Call, ask, lapse, reply, Answer, Book, plain, fault_answer, kept_answer, First, none, counts, first_of, alike, is_zero, place_of}
use Rattle.logger.specs.Book.{counts_in, keep_reply, book_reply, book_ask, book_lapse, book_step, book_run, run_of, AllBytes}
use Rattle.logger.specs.Reply.{slice_form, result_of}
use Rattle.wire_values.specs.declared.row.Row.{Row}
use Rattle.logger.specs.Run.{State}
use Rattle.logger.proofs.FigureLaws.{Faithful, run-faithful}
use Rattle.logger.proofs.TakeLaws.{by-none, by-open, by_form, by-ok}
use Rattle.polling.specs.Reached.{Polled}
use Rattle.claims.specs.Demand3.{Start, begin, ran}
use Rattle.claims.proofs.History.{start-faithful, answers}

-- ---- right

faithful : (b : LogAndRows) (start : Start b) (calls : List Call) → AllBytes calls → Faithful start.header (ran b calls).left
faithful b start calls k = run-faithful start.header calls (begin b) k (start-faithful start)

-- CR 8's `kept`: after any calls the figures are those that a walk over the cells gives
pub kept : (b : LogAndRows) (start : Start b) (calls : List Call) → AllBytes calls → let s = (ran b calls).left in
    Right start.header (view_of s.log).cell s.figures
kept b start calls k = (faithful b start calls k).right

-- the report of a day whose figures are lent
pub copies : (h : Header) (figs : List ℕ) (d : ℕ) (row : List ℕ) → d < h.days → row_numbers ≤ length row → enough h figs ≡ true
    → report_of (Some h) figs d row ≡ outcome (Ok tt) (written row 0 (row_at figs d))
unfolding report_of
copies h figs d row l m e = simp (le-leb _ _ m, e, lt-ltb d h.days l)

-- CR 8's `reported`: after any calls the report of a day copies what the walk gives
pub reported : (b : LogAndRows) (start : Start b) (calls : List Call) → AllBytes calls → let s = (ran b calls).left in
    (d : ℕ) (row : List ℕ) → d < start.header.days → row_numbers ≤ length row
    → report_of (sound_of s.log) s.figures d row ≡ outcome (Ok tt) (written row 0 (walked start.header (view_of s.log).cell d))
reported b start calls k d row l m =
    let h = start.header in
    let s = (ran b calls).left in
    let f = faithful b start calls k in
    let right = f.right in
    ap (λ (x : Option Header). report_of x s.figures d row) f.sound
    ∙ copies h s.figures d row l m (right-enough h (view_of s.log).cell s.figures right)
    ∙ ap (λ (x : List ℕ). outcome (Ok tt) (written row 0 x)) (right.rows d l)

-- ---- the text

on-day : (h : Header) (d : ℕ) (date : Date) → day_date h d ≡ Some date → d < h.days
unfolding day_date
on-day h d date e = go (ltb d h.days) refl
  where
    is_on : Option Date → Bool
    is_on (Some x) = true
    is_on None = false

    go : (b : Bool) → ltb d h.days ≡ b → d < h.days
    go true f = ltb-true d h.days f
    go false f = absurd (false≢true (ap is_on (simp f at e)))

text_of : (h : Header) (figs : List ℕ) (d : ℕ) (date : Date) (out : List ℕ) → enough h figs ≡ true → day_date h d ≡ Some date
    → day_text (Some h) figs d out ≡ put_text (line_text date (row_at figs d)) out
unfolding day_text day_on_text
text_of h figs d date out e q = simp (e, q)

-- CR 8's `line`: after any calls a day's line is its date with the walk's numbers
pub line : (b : LogAndRows) (start : Start b) (calls : List Call) → AllBytes calls → let s = (ran b calls).left in
    (d : ℕ) (date : Date) (out : List ℕ) → day_date start.header d ≡ Some date
    → day_text (sound_of s.log) s.figures d out ≡ put_text (line_text date (walked start.header (view_of s.log).cell d)) out
line b start calls k d date out q =
    let h = start.header in
    let s = (ran b calls).left in
    let f = faithful b start calls k in
    let right = f.right in
    ap (λ (x : Option Header). day_text x s.figures d out) f.sound
    ∙ text_of h s.figures d date out (right-enough h (view_of s.log).cell s.figures right) q
    ∙ ap (λ (x : List ℕ). put_text (line_text date x) out) (right.rows d (on-day h d date q))

-- line 0 of a page is the heading
by-day : (image figs : List ℕ) (d : ℕ) (out : List ℕ) → report_line image figs (d + 1) out ≡ day_text (sound_of image) figs d out
unfolding report_line
by-day image figs d out =
    let e : d + 1 - 1 ≡ d = omega arith in
    simp (ne_eqb (d + 1) 0 (λ z. omega (arith, z)), e)

-- CR 8's `page-line`: and so is the day's line on the page
pub page-line : (b : LogAndRows) (start : Start b) (calls : List Call) → AllBytes calls → let s = (ran b calls).left in
    (d : ℕ) (date : Date) (out : List ℕ) → day_date start.header d ≡ Some date
    → report_line s.log s.figures (d + 1) out ≡ put_text (line_text date (walked start.header (view_of s.log).cell d)) out
page-line b start calls k d date out q =
    let s = (ran b calls).left in
    by-day s.log s.figures d out ∙ line b start calls k d date out q

-- what was read is the file's
pub next-line : (f : List ℕ) (read : Result ℕ ReadError) (given : LogAndRows) → ReadOf f read given → (i : ℕ) (out : List ℕ)
    → next_line (page_at read i) given out ≡ goes_on (page_at read i) (page_line f i out)
unfolding next_line
next-line f read given e i out = ap (λ (o : Outcome (Result ℕ ReportError) (List ℕ)). goes_on (page_at read i) o) (line-of-file f read given i out e)

-- CR 8's `next-strip`: the page's next strip is that of the file that was read
pub next-strip : (f : List ℕ) (read : Result ℕ ReadError) (given : LogAndRows) → ReadOf f read given → (d : ℕ) (out : List ℕ)
    → next_strip (page_at read d) given.log out ≡ goes_on (page_at read d) (strip_line f d out)
unfolding next_strip
next-strip f read given e d out = ap (λ (o : Outcome (Result ℕ ReportError) (List ℕ)). goes_on (page_at read d) o) (strip-of-file f read given d out e)

-- CR 8's `polled`: what the program `poll` leaves has the walk's figures
pub polled : (b : LogAndRows) (start : Start b) (c : LogAndRows) → Polled b c → Right start.header (view_of c.log).cell c.figures
polled b start c p =
    let r = p.reached in
    subst (λ (s : State). Right start.header (view_of s.log).cell s.figures) r.leads (kept b start r.calls r.bytes)

-- ---- 28 is none of the book's answers

abbrev Not28 : Answer → Type 0
Not28 a = a.number ≡ 28 → ⊥

abbrev Passes : Outcome Answer Book → Type 0
Passes e = Not28 e.result

fault-not : (f : Fault) → Not28 (fault_answer f)
fault-not (fault.Length n) e = omega (arith, e)
fault-not fault.Crc e = omega (arith, e)
fault-not fault.Address e = omega (arith, e)
fault-not fault.Function e = omega (arith, e)
fault-not fault.Parameter e = omega (arith, e)

kept-not : (f : First) (r : Row) → Not28 (plain (kept_answer f r))
kept-not none r = λ e. omega (arith, e)
kept-not (counts q) r = either (λ (n : ℕ). n ≡ 28 → ⊥) (not (is_zero r) && not (alike q r)) {x = 25} {y = 0} (λ e. omega (arith, e)) (λ e. omega (arith, e))

step-not : (h : Header) (b : Book) (c : Call) → Passes (book_step h b c)
unfolding book_step book_ask book_lapse book_reply keep_reply
step-not h b (ask address day slot out) =
    either Passes (ltb (length out) read_size) (λ e. omega (arith, e)) (
    by-none Passes b.held (λ a d t o e. omega (arith, e)) (λ o.
    by-at Passes (interval_of h day slot) (λ n e. omega (arith, e)) (λ i n e. omega (arith, e))))
step-not h b lapse = by-open Passes b.held (λ o e. omega (arith, e)) (λ a d t o e. omega (arith, e))
step-not h b (reply y) =
    by-open Passes b.held (λ o e. omega (arith, e)) (λ a d t o.
    by_form Passes (slice_form a y) (λ f n. fault-not f) (λ n.
    by-ok Passes (result_of y) (λ n e. omega (arith, e)) (λ n. kept-not (first_of (b.kept (place_of h d t))) (counts_in y))))

book-not : (h : Header) (b : Book) (calls : List Call) (k : ℕ) → Not28 (get_or (book_run h b calls).result k (plain 0))
unfolding run_of
book-not h b [] zero = λ e. omega (arith, e)
book-not h b [] (suc k) = λ e. omega (arith, e)
book-not h b (c ∷ calls) zero = step-not h b c
book-not h b (c ∷ calls) (suc k) = book-not h (book_step h b c).left calls k

-- CR 8's `never_28`: no figure falls below 0 or passes 32 bits, so none of these calls answers 28
pub never_28 : (b : LogAndRows) (start : Start b) (calls : List Call) → AllBytes calls → (k : ℕ) → (get_or (ran b calls).result k (plain 0)).number ≡ 28 → ⊥
never_28 b start calls all k =
    subst (λ (xs : List Answer). Not28 (get_or xs k (plain 0))) (sym (answers b start calls all)) (book-not start.header _ calls k)
