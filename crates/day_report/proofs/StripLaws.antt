-- What follows from the definition of a day's strip: its length, the turns of the walk over the day's slots, its parts written one behind the
-- other; what it says of an image; where there is none; and that there is always room for it. Assumes nothing.
use Rattle.std.specs.Prelude.{None, Option, Some}
use Rattle.log_cell.specs.declared.cell.Cell.{Cell}
use Prim.Native.Nat.{ℕ, ◌+◌, ◌*◌, ◌-◌, ◌<◌, ◌≤◌}
use native.Mathlib.Nat.{zero-add, add-zero, sub-zero}
use native.Mathlib.Omega.{arith}
use mathlib.Core.Path.{◌≡◌, refl, sym, ap, ◌∙◌}
use mathlib.Core.List.{List, [], ◌∷◌, ◌++◌, map}
use lib.ListN.{length, length-append, length-map}
use Rattle.byte_numbers.specs.Place.{written}
use Rattle.byte_numbers.proofs.PlaceLaws.{written-append}
use Rattle.test_laws.proofs.Test.{either}
use Rattle.calendar.specs.declared.date.Date.{Date}
use Rattle.text.specs.DateText.{date_text}
use Rattle.text.proofs.DateTextLaws.{length-date_text}
use Rattle.slots.specs.Day.{slots_of}
use Rattle.slots.proofs.DayLaws.{slots_most, slots-at-most}
use Rattle.log_header.specs.Header.{days_most, sound_of}
use Rattle.energy_log.specs.Image.{all_good}
use Rattle.energy_log.specs.Walk.{place_at, walk_from, day_walk}
use Rattle.energy_log.proofs.WalkLaws.{length_seen, seen_next, seen_end}
use Rattle.energy_log.specs.View.{View, view_of}
use Rattle.log_header.specs.Interval.{day_date, exists_at}
use Rattle.log_header.proofs.HeaderLaws.{by-sound}
use Rattle.log_header.specs.declared.header.Header.{Header}
use Rattle.day_rows.specs.Figures.{day_cells}
use Rattle.day_report.specs.Text.{space, line_feed, date_size}
use Rattle.day_report.specs.Strip.{mark, mark_of, marks_at, day_marks, strip_of, strip_dated, strip_on, strip_text}
use Rattle.day_report.proofs.TextLaws.{Never, text-fits}
use Rattle.day_report.proofs.DayLaws.{day-past}

-- ---- how long a strip is

-- the date with a space, the marks and the line feed
pub length-strip : (d : Date) (marks : List ℕ) → length (strip_of d marks) ≡ marks_at + length marks + 1
unfolding strip_of
length-strip d marks = simp (length-append, length-date_text) (omega arith)

-- a mark a slot
pub length-day-marks : (cell : ℕ → Option Cell) (h : Header) (d : ℕ) → length (day_marks cell h d) ≡ slots_of h.minutes
unfolding day_marks
length-day-marks cell h d = length-map (day_walk h cell d) mark_of ∙ length_seen (place_at h cell (λ i. 0)) (slots_of h.minutes) (d * slots_of h.minutes)

-- no strip is longer
abbrev pub strip_most : ℕ
strip_most = marks_at + slots_most + 1

-- ---- the walk over the slots

-- the marks of n slots from index i on
abbrev pub marks_from : Header → (ℕ → Option Cell) → ℕ → ℕ → List ℕ
marks_from h cell i n = map mark_of (walk_from h cell (λ j. 0) i n)

-- before the first slot of a day all its marks are left
pub day-marks : (cell : ℕ → Option Cell) (h : Header) (d : ℕ) → let n = slots_of h.minutes in marks_from h cell (d * n + 0) (n - 0) ≡ day_marks cell h d
unfolding day_marks
day-marks cell h d = rw (add-zero, sub-zero) refl

module _ (h : Header) (cell : ℕ → Option Cell) (first i n : ℕ) (l : i < n) where
  abbrev after : List ℕ
  after = marks_from h cell (first + (i + 1)) (n - (i + 1))

  -- the slot's own mark, and behind it those that are left
  pub marks-on : (m : ℕ) (line : List ℕ) → m ≡ mark (exists_at h (first + i)) (cell (first + i))
      → written (written line (marks_at + i) (m ∷ [])) (marks_at + (i + 1)) after ≡ written line (marks_at + i) (marks_from h cell (first + i) (n - i))
  marks-on m line p =
      let e : marks_at + (i + 1) ≡ marks_at + i + 1 = omega arith in
      ap (λ (k : ℕ). written (written line (marks_at + i) (m ∷ [])) k after) e
      ∙ sym (written-append line (marks_at + i) (m ∷ []) after)
      ∙ ap (written line (marks_at + i)) (ap (λ (k : ℕ). k ∷ after) p ∙ sym (ap (map mark_of) (seen_next (place_at h cell (λ j. 0)) first i n l)))

-- a loop's end: past the last slot no mark is left
pub marks-end : (h : Header) (cell : ℕ → Option Cell) (i n : ℕ) → n ≡ 0 → marks_from h cell i n ≡ []
marks-end h cell i n e = ap (map mark_of) (seen_end (place_at h cell (λ j. 0)) i n e)

-- ---- a strip's parts, written one behind the other

-- the date, the space, the marks and the line feed by four stores are the strip by one
pub written-strip : (s : List ℕ) (d : Date) (marks : List ℕ) (n : ℕ) → length marks ≡ n
    → written (written (written (written s 0 (date_text d)) date_size (space ∷ [])) marks_at marks) (marks_at + n) (line_feed ∷ [])
    ≡ written s 0 (strip_of d marks)
unfolding strip_of
written-strip s d marks n e =
    let dated = written s 0 (date_text d) in
    let spaced = written dated date_size (space ∷ []) in
    let rest = marks ++ (line_feed ∷ []) in
    ap (λ (k : ℕ). written (written spaced marks_at marks) (marks_at + k) (line_feed ∷ [])) (sym e)
    ∙ sym (written-append spaced marks_at marks (line_feed ∷ []))
    ∙ sym (written-append dated date_size (space ∷ []) rest)
    ∙ ap (λ (k : ℕ). written dated k (space ∷ rest)) (sym (zero-add (length (date_text d)) ∙ length-date_text d))
    ∙ sym (written-append s 0 (date_text d) (space ∷ rest))

-- ---- the strip of an image

-- ---- where there is no strip, and that there is always room

-- past the most days that a log has there is none
pub strip-past : (s : List ℕ) (d : ℕ) (out : List ℕ) → days_most ≤ d → Never 0 (strip_text (view_of s) d out)
unfolding strip_text strip_on
strip-past s d out l =
    by-sound (Never 0) (sound_of s)
    (λ p e. omega (arith, e)) (λ h p. rw (day-past s h d p l) (λ e. omega (arith, e)))

on_room : (a : Option Date) (read : List (Option Cell)) (marks out : List ℕ) → length marks ≤ slots_most → strip_most ≤ length out
    → Never 1 (strip_on a read marks out)
unfolding strip_on strip_dated
on_room None read marks out n l = λ e. omega (arith, e)
on_room (Some date) read marks out n l =
    either (Never 1) (all_good read) (text-fits (strip_of date marks) out (omega (arith, length-strip date marks))) (λ e. omega (arith, e))

-- the room of the longest strip is enough for each
pub strip-room : (v : View) (d : ℕ) (out : List ℕ) → strip_most ≤ length out → Never 1 (strip_text v d out)
unfolding strip_text
strip-room v d out l =
    by-sound (Never 1) v.lent
    (λ p e. omega (arith, e))
    (λ h p. on_room (day_date h d) (day_cells v.cell h d) (day_marks v.cell h d) out (omega (arith, length-day-marks v.cell h d, slots-at-most h.minutes)) l)
