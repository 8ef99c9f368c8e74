-- The row of a day's line; what the line says of a log's image; where there is none; and that there is always room for it.
use Rattle.std.specs.Prelude.{Err, None, Option, Some}
use Rattle.calendar.specs.declared.date.Date.{Date}
use Prim.Native.Nat.{ℕ, ◌+◌, ◌≤◌}
use mathlib.Core.Path.{◌≡◌, refl, ap, ◌∙◌}
use mathlib.Core.List.{List, [], ◌++◌, append-nil}
use mathlib.Core.Bool.{Bool, true, false}
use native.Mathlib.Omega.{arith}
use lib.Dec.{ltb}
use lib.ListN.{length, drop, drop_of_length-le}
use borrow.Author.Tests.{le-leb, le-ltb, ltb-true}
use Rattle.test_laws.proofs.Test.{either}
use Rattle.refusal.specs.Outcome.{outcome, check}
use Rattle.byte_numbers.proofs.PlaceLaws.{written-fits}
use Rattle.log_header.specs.Header.{days_most, sound_of}
use Rattle.log_header.specs.Interval.{day_date}
use Rattle.log_header.proofs.HeaderLaws.{header-ranges, sound-log, by-sound}
use Rattle.log_header.specs.declared.header.Header.{Header}
use Rattle.day_rows.specs.Figures.{row_numbers}
use Rattle.day_rows.specs.Rows.{figures_of, has_day, row_at, copied}
use Rattle.day_rows.specs.LogAndRows.{enough}
use Rattle.day_rows.proofs.RowsLaws.{figures_most, figures-at-most, has-day, length-row, copied-row, Small, small_row}
use Rattle.day_report.specs.declared.answer.ReportError.TheVariants.{TooShort}
use Rattle.day_report.specs.Text.{line_most}
use Rattle.day_report.specs.Day.{zeros, day_on_text, day_text}
use Rattle.day_report.proofs.TextLaws.{line-most, Never, text-fits}

-- ---- the row

-- copied over the zeros it is the day's
row_copied : (figs : List ℕ) (d : ℕ) → has_day figs d ≡ true → copied figs d zeros ≡ row_at figs d
row_copied figs d e =
    let row = row_at figs d in
    let full : length row ≡ row_numbers = length-row figs d e in
    let rest : drop (0 + length row) zeros ≡ [] = drop_of_length-le zeros {i = 0 + length row} (omega (arith, full)) in
    copied-row figs d zeros e
    ∙ written-fits zeros 0 row (omega (arith, full))
    ∙ ap (λ (x : List ℕ). row ++ x) rest
    ∙ append-nil row

-- a day outside the log has no line, whatever was copied
pub copied_on : (h : Header) (figs : List ℕ) (d : ℕ) (out : List ℕ) → enough h figs ≡ true
    → day_on_text (day_date h d) (copied figs d zeros) out ≡ day_on_text (day_date h d) (row_at figs d) out
unfolding day_date day_on_text
copied_on h figs d out e = go (ltb d h.days) refl
  where
    go : (b : Bool) → ltb d h.days ≡ b → day_on_text (day_date h d) (copied figs d zeros) out ≡ day_on_text (day_date h d) (row_at figs d) out
    go true t = ap (λ (row : List ℕ). day_on_text (day_date h d) row out) (row_copied figs d (has-day h figs d e (ltb-true d h.days t)))
    go false t = rw t refl

-- ---- the line of an image

-- ---- past the most days that a log has

-- no log has a date for such a day: for the line and for the strip
pub day-past : (s : List ℕ) (h : Header) (d : ℕ) → sound_of s ≡ Some h → days_most ≤ d → day_date h d ≡ None
unfolding day_date
day-past s h d p l =
    let days = (header-ranges h (sound-log s h p).ranges).days-to in
    simp (le-ltb d h.days (omega arith))

-- there is no line
pub line-past : (s figs : List ℕ) (d : ℕ) (out : List ℕ) → days_most ≤ d → Never 0 (day_text (sound_of s) figs d out)
unfolding day_text day_on_text
line-past s figs d out l =
    by-sound (Never 0) (sound_of s)
    (λ p e. omega (arith, e)) (λ h p. either (Never 0) (enough h figs) (rw (day-past s h d p l) (λ e. omega (arith, e))) (λ e. omega (arith, e)))

-- ---- there is always room

-- with the figures of the longest log, each of 32 bits, the room of the longest line is enough for each
module _ (s figs : List ℕ) (d : ℕ) (out : List ℕ) (lent : figures_most ≤ length figs) (small : Small figs) (room : line_most ≤ length out) where
  on_line : (a : Option Date) → length (row_at figs d) ≡ row_numbers → Never 1 (day_on_text a (row_at figs d) out)
  unfolding day_on_text
  on_line None full = λ e. omega (arith, e)
  on_line (Some date) full = text-fits _ out (omega (arith, line-most date (row_at figs d) full (small_row figs d small)))

  sound-line : (h : Header) → enough h figs ≡ true → (b : Bool) → ltb d h.days ≡ b → Never 1 (day_on_text (day_date h d) (row_at figs d) out)
  unfolding day_date day_on_text
  sound-line h e true t = on_line (day_date h d) (length-row figs d (has-day h figs d e (ltb-true d h.days t)))
  sound-line h e false t = rw t (λ p. omega (arith, p))

  -- no line is refused for want of room
  pub line-room : Never 1 (day_text (sound_of s) figs d out)
  unfolding day_text
  line-room = by-sound (Never 1) (sound_of s) (λ p e. omega (arith, e)) line
    where
      line : (h : Header) → sound_of s ≡ Some h → Never 1 (check (enough h figs) (outcome (Err TooShort) out) (day_on_text (day_date h d) (row_at figs d) out))
      line h p =
          let e : enough h figs ≡ true = le-leb (figures_of h) (length figs) (omega (arith, figures-at-most h (sound-log s h p).ranges, lent)) in
          rw e (sound-line h e (ltb d h.days) refl)
