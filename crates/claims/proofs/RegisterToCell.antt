-- From the register to the cell: an ask's frame, the meter's answer to it, and that reply taken.
use mathlib.Core.Path.{◌≡◌, refl, sym, ap, ap₂, subst, ◌∙◌}
use mathlib.Core.Bool.{Bool, true, false, cond, not, ◌&&◌, ◌||◌, false≢true}
use mathlib.Core.List.{List, ◌∷◌}
use mathlib.Core.Logic.{◌⊎◌, inl, inr}
use Prim.Native.Nat.{ℕ, ◌+◌, ◌*◌, ◌≤◌, ◌<◌}
use native.Mathlib.Omega.{arith}
use lib.Dec.{eqb, leb, ltb, lit≤}
use lib.ListN.{length, take, drop}
use lib.Seq.{take_at}
use borrow.Author.Tests.{eq-eqb, ne_eqb, eqb-true, le-leb, le-ltb, lt-ltb}
use Rattle.std.specs.Prelude.{Ok, Some}
use Rattle.test_laws.proofs.Test.{both}
use Rattle.refusal.specs.Outcome as call
use Rattle.byte_numbers.specs.Number.{Bytes, bytes_of}
use Rattle.byte_numbers.proofs.NumberLaws.{bytes-bytes_of}
use Rattle.byte_numbers.specs.Place.{number_at, written}
use Rattle.crc16.specs.Crc.{crc_of}
use Rattle.calendar.specs.Date.{is_date, day_number, date_of, date_on, days_later, century_days}
use Rattle.calendar.specs.Sunday.{last_sunday, last_sunday_of}
use Rattle.calendar.specs.declared.date.Date.{Date}
use Rattle.calendar.proofs.DateLaws.{ranges, month-length, date-of, date-of-number, number-below}
use Rattle.parameters.specs.Code.{function_of}
use Rattle.frame.specs.Sealing.{framed}
use Rattle.frame.proofs.SealingLaws.{length-framed}
use Rattle.parameters.specs.Table.{first_of, parameter_of}
use Rattle.parameters.specs.declared.code.Reading.TheVariants.{Stored}
use Rattle.slots.specs.Day.{slots_of}
use Rattle.slots.specs.Key.{is_legal}
use Rattle.slots.proofs.DayLaws.{slots-at-most}
use Rattle.season_nights.specs.Night.{is_day, night_of, in_hour, is_spring, is_autumn, missing, doubled}
use Rattle.season_nights.specs.declared.night.Night.TheVariants.{Plain, Spring, Autumn}
use Rattle.request.specs.Request.{request_frame}
use Rattle.request.specs.Subject.{subject_of, subject_for, askable}
use Rattle.request.specs.declared.request.Request.{Request}
use Rattle.meter_store.specs.Store.{key_of, count_at, row_bytes}
use Rattle.meter_store.proofs.StoreLaws.{RowFits}
use Rattle.meter_record.specs.declared.record.Record.{Record}
use Rattle.meter_command.specs.Command.{parameter_byte, command_of}
use Rattle.meter_reply_data.specs.Reading.{data_of}
use Rattle.meter.specs.Reply.{Outcome, answer_of}
use Rattle.byte_numbers.proofs.ByteLaws.{bytes-append}
use Rattle.log_header.specs.Header.{is_header, sound_of}
use Rattle.log_header.proofs.HeaderLaws.{header-ranges, sound-log}
use Rattle.log_header.specs.Interval as log
use Rattle.log_header.specs.Interval.{night_on, exists, interval_of}
use Rattle.log_header.proofs.IntervalLaws.{interval-at}
use Rattle.energy_log.specs.View.{view_of}
use Rattle.log_cell.specs.declared.cell.Cell.{Cell}
use Rattle.log_cell.specs.declared.cell.Cell.TheVariants.{Gap, Empty, Measured}
use Rattle.log_header.specs.declared.header.Header.{Header}
use Rattle.day_rows.specs.LogAndRows.{LogAndRows}
use Rattle.log_file.proofs.FileLaws.{written-front}
use Rattle.logger.specs.Ask as Ask
use Rattle.logger.specs.Reply.{slice_form, result_of, row_of}
use Rattle.wire_values.specs.Row.{row, row_at, is_zero, alike}
use Rattle.wire_values.specs.declared.row.Row.{Row}
use Rattle.logger.specs.Take as Take
use Rattle.logger.specs.Ask.{Asked}
use Rattle.logger.specs.Take.{Taken}
use Rattle.logger.specs.declared.take.Update.TheVariants.{Put, Keep, Conflict}
use Rattle.logger.specs.Held.{opened_for}
use Rattle.logger.proofs.BookLaws.{effect, update_number}
use Rattle.logger.proofs.SeasonLaws.{ask_refused}
use Rattle.logger.proofs.HeardLaws.{Hears, heard-number, heard-held, heard-cell, heard-lent}
use Rattle.claims.specs.Demand1.{answer_number}
use Rattle.claims.specs.Demand2.{answered, reply_in}
use Rattle.claims.specs.Demand2Done.{BytesRequest}
use Rattle.claims.specs.Figures.{four_counts}
use Rattle.claims.specs.RegisterToCell.{all_zero, measured_by, cell_after, are_counts, number_after, slice_frame, slice_answer, slice_on}
use Rattle.claims.specs.RegisterToCell.{OnDay, in_night, is_skipped, comes_twice, SlotOn, MeterAt, LogWith}
use Rattle.claims.specs.RegisterToCell.{asking, answering, taking, AskedFor, AnsweredBy, TakenInto}
use Rattle.claims.proofs.Changes.{read_changes_nothing}
use Rattle.claims.proofs.Done.{read_done}
use Rattle.claims.proofs.Figures.{row-again}
use Rattle.claims.proofs.Range.{hears-request}
use Rattle.claims.proofs.Replies.{passed, reply-is, request-read}
use Rattle.claims.proofs.Wire.{OfBytes, bytes-cons, slice_fits, row-bytes, reply-formed}

-- ---- the date

in-century : (h : Header) (day : ℕ) → is_header h ≡ true → day < h.days → day_number h.start + day < century_days
in-century h day e l = omega (arith, (header-ranges h e).last-day, l)

-- from the register's `dated`: every day of a log with a right header has its date
pub dated : (h : Header) (day : ℕ) → is_header h ≡ true → day < h.days → (date : Date) × OnDay h day date
dated h day e l =
    let n = day_number h.start + day in
    let w = date-of n (in-century h day e l) in
    (date_of n, record { valid = w.valid; later = w.number })

-- there is one such date
pub date-is : (h : Header) (day : ℕ) (date : Date) → OnDay h day date → date_of (day_number h.start + day) ≡ date
date-is h day date on = ap date_of (sym on.later) ∙ date-of-number date on.valid

-- ---- the ask

frame-length : (address : ℕ) (d : Date) (slot : ℕ) → length (slice_frame address d slot) ≡ 8
unfolding slice_frame
frame-length address d slot = length-framed _

ask-frame : (h : Header) (address day slot : ℕ) (date : Date) → OnDay h day date → Ask.ask_frame h address day slot ≡ slice_frame address date slot
unfolding Ask.ask_frame request_frame slice_frame
ask-frame h address day slot date on = ap (λ (d : Date). slice_frame address d slot) (date-is h day date on)

-- ---- the slots that exist

spring-only : (f a b hour : Bool) → not (is_spring (cond f (cond a Spring (cond b Autumn Plain)) Plain) && hour) ≡ not (f && (a && hour))
spring-only true true b hour = refl
spring-only true false true hour = refl
spring-only true false false hour = refl
spring-only false a b hour = refl

autumn-only : (f a b hour : Bool) → (a ≡ true → b ≡ false) → (is_autumn (cond f (cond a Spring (cond b Autumn Plain)) Plain) && hour) ≡ (f && (b && hour))
autumn-only true true true hour k = absurd (false≢true (sym (k refl)))
autumn-only true true false hour k = refl
autumn-only true false true hour k = refl
autumn-only true false false hour k = refl
autumn-only false a b hour k = refl

-- by the night of the log's day, or by its date
pub exists-on : (h : Header) (day slot : ℕ) (date : Date) → OnDay h day date → is_date h.start ≡ true → exists h day slot ≡ not (is_skipped h date slot)
unfolding exists night_on days_later date_on missing in_hour night_of last_sunday_of is_day in_night
exists-on h day slot date on start =
    let below : day_number h.start + day < century_days = omega (arith, number-below date on.valid, on.later) in
    rw (start, lt-ltb _ _ below, date-is h day date on, lt-ltb _ _ (ranges date on.valid).year-below)
    (spring-only (eqb h.seasons 1) (eqb 3 date.month && eqb (last_sunday date.year 3) date.day)
    (eqb 10 date.month && eqb (last_sunday date.year 10) date.day) (leb 120 (slot * h.minutes) && ltb (slot * h.minutes) 180))

-- the same slots come twice by the night of the log's day and by its date
pub twice-on : (h : Header) (day slot : ℕ) (date : Date) → OnDay h day date → is_date h.start ≡ true → log.comes_twice h day slot ≡ comes_twice h date slot
unfolding log.comes_twice night_on days_later date_on doubled in_hour night_of last_sunday_of is_day in_night
twice-on h day slot date on start =
    let below : day_number h.start + day < century_days = omega (arith, number-below date on.valid, on.later) in
    rw (start, lt-ltb _ _ below, date-is h day date on, lt-ltb _ _ (ranges date on.valid).year-below)
    (autumn-only (eqb h.seasons 1) (eqb 3 date.month && eqb (last_sunday date.year 3) date.day)
    (eqb 10 date.month && eqb (last_sunday date.year 10) date.day) (leb 120 (slot * h.minutes) && ltb (slot * h.minutes) 180)
    (λ e.
    let march : 3 ≡ date.month = eqb-true 3 date.month (both _ _ e).0 in
    ap (λ (b : Bool). b && eqb (last_sunday date.year 10) date.day) (ne_eqb 10 date.month (λ o. omega (arith, o, march)))))

-- where the start is no date no slot is missing
exists-undated : (h : Header) (day slot : ℕ) → is_date h.start ≡ false → exists h day slot ≡ true
unfolding exists night_on days_later missing
exists-undated h day slot e = rw e (go (eqb h.seasons 1))
  where
    go : (f : Bool) → not (is_spring (cond f Plain Plain) && in_hour h.minutes slot) ≡ true
    go true = refl
    go false = refl

there-on : (h : Header) (day slot : ℕ) (date : Date) → SlotOn h day slot date → exists h day slot ≡ true
there-on h day slot date t = go (is_date h.start) refl
  where
    go : (b : Bool) → is_date h.start ≡ b → exists h day slot ≡ true
    go true e = exists-on h day slot date t.on e ∙ ap not t.there
    go false e = exists-undated h day slot e

-- a slot that exists by its date is one of the log's intervals, at the index of its day and number
pub interval-on : (h : Header) (day slot : ℕ) (date : Date) → SlotOn h day slot date → interval_of h day slot ≡ Some (day * slots_of h.minutes + slot)
interval-on h day slot date t = interval-at h day slot t.day_in t.slot_in (there-on h day slot date t)

ask-whole : (s : List ℕ) (h : Header) (address day slot : ℕ) (date : Date) (room : List ℕ) → sound_of s ≡ Some h → SlotOn h day slot date → 8 ≤ length room
    → asking s address day slot room ≡ Ask.answered (Ok tt) (opened_for address day slot) (written room 0 (Ask.ask_frame h address day slot))
unfolding Ask.asked
ask-whole s h address day slot date room p t l = rw (le-ltb (length room) 8 l, p, interval-on h day slot date t) refl

-- from the register's `asked`: an ask for a slot that exists is done, and its frame reads that date's slice
pub asked : (s : List ℕ) (h : Header) (address day slot : ℕ) (date : Date) (room : List ℕ) → sound_of s ≡ Some h → SlotOn h day slot date → 8 ≤ length room
    → AskedFor (asking s address day slot room) address day slot date room
asked s h address day slot date room p t l =
    let whole = ask-whole s h address day slot date room p t l in
    record {
      number = ap (λ (o : call.Outcome Asked (List ℕ)). Ask.number_of o.result.answer) whole;
      held = ap (λ (o : call.Outcome Asked (List ℕ)). o.result.held) whole;
      wrote = ap (λ (o : call.Outcome Asked (List ℕ)). o.left) whole
          ∙ ap (written room 0) (ask-frame h address day slot date t.on)
          ∙ written-front room (slice_frame address date slot) 8 (frame-length address date slot) l;
    }

-- from the register's `skipped`, CR 5: an ask for a slot of the hour that the March day does not have gets 22
pub skipped : (s : List ℕ) (h : Header) (address day slot : ℕ) (date : Date) (room : List ℕ) → sound_of s ≡ Some h → OnDay h day date
    → is_skipped h date slot ≡ true → 8 ≤ length room → Ask.number_of (asking s address day slot room).result.answer ≡ 22
skipped s h address day slot date room p on e l =
    let start = (header-ranges h (sound-log s h p).ranges).start in
    ap (λ (o : call.Outcome Asked (List ℕ)). Ask.number_of o.result.answer)
    (ask_refused (view_of s) h address day slot room p (exists-on h day slot date on start ∙ ap not e) l)

-- ---- the request of an ask, and the meter's reply to it

abbrev request : ℕ → Date → ℕ → Request
request address d slot = record { reading = Stored; address = address; parameter = 36; offset = d.month; tariff = d.day; detail = slot }

frame_is : (address : ℕ) (d : Date) (slot : ℕ) → slice_frame address d slot ≡ request_frame (request address d slot)
unfolding slice_frame request_frame
frame_is address d slot = refl

day-at-most : (d : Date) → is_date d ≡ true → d.day ≤ 31
day-at-most d e =
    let r = ranges d e in
    let m = month-length d.year d.month (record { year-below = r.year-below; month-from = r.month-from; month-to = r.month-to }) in
    omega (arith, r.day-to, m.at_most)

ask-askable : (address : ℕ) (d : Date) (slot slots : ℕ) → is_date d ≡ true → slot < slots → askable (subject_of (request address d slot) slots) ≡ true
unfolding subject_of subject_for parameter_of first_of is_legal
ask-askable address d slot slots e s =
    let r = ranges d e in
    simp (le-leb _ _ r.month-from, le-leb _ _ r.month-to, le-leb _ _ r.day-from, le-leb _ _ (day-at-most d e), lt-ltb _ _ s)

ask-bytes : (address : ℕ) (d : Date) (slot : ℕ) → address < 256 → is_date d ≡ true → slot < 96 → BytesRequest (request address d slot)
ask-bytes address d slot a e s = record {
  repeated = record { address = a; parameter = lit≤ tt };
  offset = omega (arith, (ranges d e).month-to);
  tariff = omega (arith, day-at-most d e);
  detail = omega (arith, s);
}

by_address : (own address : ℕ) → (address ≡ own) ⊎ (address ≡ 0) → (eqb address 0 || eqb address own) ≡ true
by_address own address (inl e) = ap (λ (x : Bool). eqb address 0 || x) (eq-eqb address own e) ∙ or-true (eqb address 0)
  where
    or-true : (a : Bool) → (a || true) ≡ true
    or-true true = refl
    or-true false = refl
by_address own address (inr e) = ap (λ (x : Bool). x || eqb address own) (eq-eqb address 0 e)

small-address : (own address : ℕ) → own < 256 → (address ≡ own) ⊎ (address ≡ 0) → address < 256
small-address own address l (inl e) = omega (arith, l, e)
small-address own address l (inr e) = omega (arith, e)

-- the data of a slice are eight bytes
eight : (xs : List ℕ) → length (row_bytes xs) ≡ 8
unfolding row_bytes bytes_of
eight xs = refl

-- the reply's bytes before its CRC
abbrev body : ℕ → List ℕ → List ℕ
body address xs = address ∷ 3 ∷ 36 ∷ 0 ∷ row_bytes xs

body_bytes : (address : ℕ) (xs : List ℕ) → address < 256 → OfBytes (body address xs)
body_bytes address xs a =
    bytes-cons address a (bytes-cons 3 (lit≤ tt) (bytes-cons 36 (lit≤ tt) (bytes-cons 0 (lit≤ tt) (row-bytes xs))))

answer-is : (address : ℕ) (xs : List ℕ) → framed (body address xs) ≡ slice_answer address xs
unfolding slice_answer row_bytes
answer-is address xs = refl

-- a slice's reply, written out, is of bytes
pub answer-bytes : (address : ℕ) (xs : List ℕ) → address < 256 → Bytes (slice_answer address xs)
unfolding slice_answer framed row_bytes
answer-bytes address xs a = bytes-append (body address xs) _ (body_bytes address xs a).each (bytes-bytes_of 2 (crc_of (body address xs)))

answer-result : (address : ℕ) (xs : List ℕ) → result_of (slice_answer address xs) ≡ 0
unfolding slice_answer framed
answer-result address xs = refl

answer-formed : (address : ℕ) (xs : List ℕ) (d : Date) (slot : ℕ) → address < 256 → slice_form address (slice_answer address xs) ≡ Ok tt
answer-formed address xs d slot a =
    ap (slice_form address) (sym (answer-is address xs)) ∙ reply-formed (request address d slot) (row_bytes xs) 8 (body_bytes address xs a) (eight xs)

-- a row of the store as the log's four counts, which are those that the log finds in the reply
abbrev pub counts : List ℕ → Row
counts xs = row (count_at xs 0) (count_at xs 1) (count_at xs 2) (count_at xs 3)

-- the log finds the slice's four counts in it, each as its own
pub answer-row : (address : ℕ) (xs : List ℕ) → RowFits xs → row_of (slice_answer address xs) ≡ counts xs
unfolding slice_answer framed row_bytes row_at number_at four_counts
answer-row address xs f = row-again xs (bytes_of 2 (crc_of (body address xs))) f

-- what such a reply is, of a meter that answers the frame with 0
module _ (r : Record) (store : List ℕ) (address : ℕ) (d : Date) (slot : ℕ) (out : List ℕ) where
  abbrev q : Request
  q = request address d slot

  abbrev xs : List ℕ
  xs = slice_on store d slot

  data_is : data_of r store (command_of (request_frame q)) ≡ row_bytes xs
  unfolding data_of request_frame framed parameter_byte bytes_of function_of parameter_of first_of
  data_is = refl

  reply-whole : answer_number (answered r store q out) ≡ 0 → reply_in (answered r store q out) ≡ slice_answer address xs
  unfolding parameter_of first_of
  reply-whole z = reply-is r store q out (passed r store (request_frame q) out z) ∙ answer-is address xs

  -- a meter that answers a slice's frame with 0 sends the store's slice of that date, and changes nothing
  pub frame-answered : answer_number (answer_of r store (slice_frame address d slot) out) ≡ 0
      → AnsweredBy (answer_of r store (slice_frame address d slot) out) r store address xs
  frame-answered z =
      subst (λ (f : List ℕ). AnsweredBy (answer_of r store f out) r store address xs) (sym (frame_is address d slot))
      (go (ap (λ (f : List ℕ). answer_number (answer_of r store f out)) (sym (frame_is address d slot)) ∙ z))
    where
      go : answer_number (answered r store q out) ≡ 0 → AnsweredBy (answered r store q out) r store address xs
      go n = record {
        number = n;
        size = ap (λ (o : Outcome). o.answer.length) (passed r store (request_frame q) out n).whole
            ∙ ap (λ (bs : List ℕ). 6 + length bs) data_is ∙ ap (λ (k : ℕ). 6 + k) (eight xs);
        reply = reply-whole n;
        leaves = read_changes_nothing Stored r store (request_frame q) out (request-read q) n;
      }

-- ---- the update that a row of the store brings, and its answer

module _ (xs : List ℕ) where
  filled-cell : (b : Bool) (old : Cell) → effect (cond b (Put Empty) (Put (measured_by xs))) old ≡ cond b Empty (measured_by xs)
  unfolding effect
  filled-cell true old = refl
  filled-cell false old = refl

  filled-number : (b : Bool) → update_number (cond b (Put Empty) (Put (measured_by xs))) ≡ 0
  unfolding update_number
  filled-number true = refl
  filled-number false = refl

  kept-cell : (a b : Bool) (old : Cell) → effect (cond a Keep (cond b Keep Conflict)) old ≡ old
  unfolding effect
  kept-cell true b old = refl
  kept-cell false true old = refl
  kept-cell false false old = refl

  kept-number : (a b : Bool) → update_number (cond a Keep (cond b Keep Conflict)) ≡ cond a 0 (cond b 0 25)
  unfolding update_number
  kept-number true b = refl
  kept-number false true = refl
  kept-number false false = refl

  cell-after : (c : Cell) → effect (Take.update_of c (counts xs)) c ≡ cell_after c xs
  unfolding Take.update_of is_zero alike cell_after all_zero are_counts
  cell-after Gap = filled-cell (all_zero xs) Gap
  cell-after Empty = filled-cell (all_zero xs) Empty
  cell-after (Measured e+ e- r+ r-) = kept-cell (all_zero xs) (are_counts e+ e- r+ r- xs) (Measured e+ e- r+ r-)

  number-after : (c : Cell) → update_number (Take.update_of c (counts xs)) ≡ number_after c xs
  unfolding Take.update_of is_zero alike number_after all_zero are_counts
  number-after Gap = filled-number (all_zero xs)
  number-after Empty = filled-number (all_zero xs)
  number-after (Measured e+ e- r+ r-) = kept-number (all_zero xs) (are_counts e+ e- r+ r- xs)

-- ---- a slice that came for the open ask, taken

module _ (b : LogAndRows) (h : Header) (address day slot : ℕ) (date : Date) (c : Cell) (xs : List ℕ) (t : SlotOn h day slot date)
    (w : LogWith b h (day * slots_of h.minutes + slot) c) (small : address < 256) (fits : RowFits xs) where
  abbrev i : ℕ
  i = day * slots_of h.minutes + slot

  abbrev y : List ℕ
  y = slice_answer address xs

  heard : Hears b h address day slot i y c
  heard = record {
    log-bytes = w.bytes;
    bytes = answer-bytes address xs small;
    lent = w.lent;
    figures = w.figures;
    interval = interval-on h day slot date t;
    formed = answer-formed address xs date slot small;
    ok = answer-result address xs;
    cell = w.cell;
  }

  -- also for the cells of a whole history
  pub taken-into : TakenInto (Take.taken b (opened_for address day slot) y) h i c xs
  taken-into =
      let found = answer-row address xs fits in
      record {
        number = heard-number b h address day slot i y c heard ∙ ap (λ (k : Row). update_number (Take.update_of c k)) found ∙ number-after xs c;
        held = heard-held b h address day slot i y c heard;
        cell = heard-cell b h address day slot i y c heard ∙ ap (λ (k : Row). Some (effect (Take.update_of c k) c)) found ∙ ap Some (cell-after xs c);
        lent = heard-lent b h address day slot i y c heard;
      }

-- ---- an ask, the meter's answer, and the reply taken

module _ (r : Record) (store : List ℕ) (b : LogAndRows) (h : Header) (address day slot : ℕ) (date : Date) (c : Cell) (room out : List ℕ)
    (t : SlotOn h day slot date) (m : MeterAt r store h.minutes address) (w : LogWith b h (day * slots_of h.minutes + slot) c)
    (asks : 8 ≤ length room) (hears : 64 ≤ length out) where
  abbrev slice : List ℕ
  slice = slice_on store date slot

  abbrev a : call.Outcome Asked (List ℕ)
  a = asking b.log address day slot room

  done : AskedFor a address day slot date room
  done = asked b.log h address day slot date room w.lent t asks

  small : address < 256
  small = small-address r.address address m.fits.address m.by

  answer-zero : answer_number (answered r store (request address date slot) out) ≡ 0
  answer-zero =
      let below : slot < slots_of r.minutes = subst (λ (k : ℕ). slot < slots_of k) (sym m.interval) t.slot_in in
      let bytes = ask-bytes address date slot small t.on.valid (omega (arith, below, slots-at-most r.minutes)) in
      read_done r store (request address date slot) out
      (record { room = hears; sound = m.sound; hears = hears-request r (request address date slot) bytes (by_address r.address address m.by) })
      (ask-askable address date slot (slots_of r.minutes) t.on.valid below)

  same_answer : answering r store a out ≡ answer_of r store (slice_frame address date slot) out
  same_answer =
      ap (λ (f : List ℕ). answer_of r store f out)
      (ap (take 8) done.wrote ∙ take_at (slice_frame address date slot) (drop 8 room) 8 (frame-length address date slot))

  replied : AnsweredBy (answer_of r store (slice_frame address date slot) out) r store address slice
  replied =
      frame-answered r store address date slot out
      (ap (λ (f : List ℕ). answer_number (answer_of r store f out)) (frame_is address date slot) ∙ answer-zero)

  -- from the register's `joined`: ask, meter's answer and reply taken bring the store's slice into the slot's cell
  pub joined : let o = answering r store a out in
      AnsweredBy o r store address slice × TakenInto (taking b a o) h (day * slots_of h.minutes + slot) c slice
  joined = (
    subst (λ (o : Outcome). AnsweredBy o r store address slice) (sym same_answer) replied,
    subst (λ (x : call.Outcome Taken LogAndRows). TakenInto x h (day * slots_of h.minutes + slot) c slice)
        (sym (ap₂ (Take.taken b) done.held (ap reply_in same_answer ∙ replied.reply)))
        (taken-into b h address day slot date c slice t w small (slice_fits store (key_of date.month date.day slot) m.store_bytes)),
  )
