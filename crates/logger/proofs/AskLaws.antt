-- An ask for an interval of a log is always a request that a record could answer with 0, so its frame is made.
use Rattle.std.specs.Prelude.{Ok}
use mathlib.Core.Path.{◌≡◌}
use mathlib.Core.Bool.{true}
use mathlib.Core.List.{List}
use Prim.Native.Nat.{ℕ, ◌+◌, ◌≤◌, ◌<◌}
use native.Mathlib.Omega.{arith}
use borrow.Author.Tests.{le-leb, le-ltb, lt-ltb}
use lib.ListN.{length}
use Rattle.refusal.specs.Outcome.{outcome}
use Rattle.byte_numbers.specs.Place.{written}
use Rattle.calendar.specs.Date.{is_date, day_number, century_days}
use Rattle.calendar.proofs.DateLaws.{ranges, month-length, date-of}
use Rattle.calendar.specs.declared.date.Date.{Date}
use Rattle.frame.specs.Layout.{read_size}
use Rattle.parameters.specs.Table.{first_of, parameter_of}
use Rattle.slots.specs.Day.{slots_of}
use Rattle.slots.proofs.DayLaws.{slots_most, slots-at-most}
use Rattle.slots.specs.Key.{is_legal}
use Rattle.request.specs.Subject.{subject_of, subject_for}
use Rattle.request.specs.Request.{requested, request_frame}
use Rattle.log_header.specs.Header.{is_header}
use Rattle.log_header.proofs.HeaderLaws.{header-ranges}
use Rattle.log_header.specs.declared.header.Header.{Header}
use Rattle.logger.specs.Ask.{date_of_day, slice_request, ask_frame}

-- a date's slice of any slot that a day can have is a request that is made, where there is room for its frame
pub slice-requested : (address : ℕ) (d : Date) (slot : ℕ) (out : List ℕ) → is_date d ≡ true → slot < slots_most → read_size ≤ length out
    → requested (slice_request address d slot) out ≡ outcome (Ok tt) (written out 0 (request_frame (slice_request address d slot)))
unfolding requested subject_of subject_for parameter_of first_of is_legal
slice-requested address d slot out e s l =
    let r = ranges d e in
    let m = month-length d.year d.month (record { year-below = r.year-below; month-from = r.month-from; month-to = r.month-to }) in
    let day-to : d.day ≤ 31 = omega (arith, r.day-to, m.at_most) in
    simp (le-ltb _ _ l, le-leb _ _ r.month-from, le-leb _ _ r.month-to, le-leb _ _ r.day-from, le-leb _ _ day-to, lt-ltb _ _ s)

-- a day of a log with a right header is a date
pub day-is-date : (h : Header) (day : ℕ) → is_header h ≡ true → day < h.days → is_date (date_of_day h day) ≡ true
day-is-date h day e l =
    let r = header-ranges h e in
    let b : day_number h.start + day < century_days = omega (arith, r.last-day) in
    (date-of (day_number h.start + day) b).valid

-- for `put_slot`: an ask for a slot of a log's day puts its frame
pub ask-made : (h : Header) (address day slot : ℕ) (out : List ℕ)
    → is_header h ≡ true → day < h.days → slot < slots_of h.minutes → read_size ≤ length out
    → requested (slice_request address (date_of_day h day) slot) out ≡ outcome (Ok tt) (written out 0 (ask_frame h address day slot))
unfolding ask_frame
ask-made h address day slot out e d s l =
    slice-requested address (date_of_day h day) slot out (day-is-date h day e d) (omega (arith, slots-at-most h.minutes)) l
