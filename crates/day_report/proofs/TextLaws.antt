-- What follows from the definition of the report's text: how long a line is, and the turns of the walk over its numbers. Assumes
-- nothing.
use Rattle.std.specs.Prelude.{Result}
use Rattle.day_report.specs.declared.answer.ReportError.{ReportError}
use mathlib.Core.Path.{◌≡◌, refl, sym, ap, ◌∙◌}
use mathlib.Core.List.{[], ◌∷◌, List, ◌++◌}
use Prim.Native.Nat.{ℕ, suc, ◌+◌, ◌*◌, ◌^◌, ◌<◌, ◌≤◌}
use native.Mathlib.Nat.{zero-add}
use native.Mathlib.Numerals.{add-one}
use native.Mathlib.Omega.{arith}
use lib.ListN.{length, get_or, take, drop, length-append}
use lib.Seq.{drop-cons}
use borrow.Author.Tests.{le-leb}
use Rattle.refusal.specs.Outcome.{Outcome}
use Rattle.text.specs.Decimal.{digits, decimal, padded}
use Rattle.text.specs.DateText.{date_text}
use Rattle.byte_numbers.specs.Place.{written}
use Rattle.byte_numbers.proofs.PlaceLaws.{written-append, part-written}
use Rattle.calendar.specs.declared.date.Date.{Date}
use Rattle.text.proofs.DecimalLaws.{decimal-most-u32}
use Rattle.text.proofs.DateTextLaws.{length-date_text}
use Rattle.day_rows.specs.Figures.{row_numbers}
use Rattle.day_report.specs.Text.{text_number, put_text, numbers_text, line_text, space, line_feed, date_size, number_most, line_most}

-- ---- the texts

-- the marked example's line, `2024-05-17 46 1 1 12 0 3 0`, which has a last column now
example : line_text (record { year = 24; month = 5; day = 17 }) (46 ∷ 1 ∷ 1 ∷ 12 ∷ 0 ∷ 3 ∷ 0 ∷ 0 ∷ [])
    ≡ 50 ∷ 48 ∷ 50 ∷ 52 ∷ 45 ∷ 48 ∷ 53 ∷ 45 ∷ 49 ∷ 55 ∷ 32 ∷
    52 ∷ 54 ∷ 32 ∷
    49 ∷ 32 ∷
    49 ∷ 32 ∷
    49 ∷ 50 ∷ 32 ∷
    48 ∷ 32 ∷
    51 ∷ 32 ∷
    48 ∷ 32 ∷
    48 ∷ 10 ∷ []
unfolding line_text numbers_text date_text padded decimal digits
example = refl

-- ---- how long a line is

-- a number of 32 bits has at most ten digits
pub numbers-most : (ns : List ℕ) → ((i : ℕ) → get_or ns i 0 < 2 ^ 32) → length (numbers_text ns) ≤ number_most * length ns
unfolding numbers_text
numbers-most [] h = omega arith
numbers-most (n ∷ ns) h =
    omega (arith, length-append (decimal n) (numbers_text ns), decimal-most-u32 n (h 0), numbers-most ns (λ i. h (suc i)))

-- the date, the numbers each with its space, and the line feed
pub length-line : (d : Date) (ns : List ℕ) → length (line_text d ns) ≡ date_size + 1 + length (numbers_text ns)
unfolding line_text
length-line d ns = simp (length-append, length-date_text) (omega arith)

-- as many such numbers as a report has make no longer line
pub line-most : (d : Date) (ns : List ℕ) → length ns ≡ row_numbers → ((i : ℕ) → get_or ns i 0 < 2 ^ 32) → length (line_text d ns) ≤ line_most
line-most d ns e h = omega (arith, length-line d ns, numbers-most ns h)

-- ---- the walk over the numbers

module _ (ns : List ℕ) (i : ℕ) (h : i < length ns) where
  next-number : numbers_text (drop i ns) ≡ space ∷ (decimal (get_or ns i 0) ++ numbers_text (drop (i + 1) ns))
  unfolding numbers_text
  next-number = rw add-one (ap numbers_text (drop-cons ns i 0 h))

  -- for the room that `write_numbers` looks for: a space, the number's digits and what is left behind it
  pub length-next : length (numbers_text (drop i ns)) ≡ 1 + length (decimal (get_or ns i 0)) + length (numbers_text (drop (i + 1) ns))
  length-next =
      ap length next-number ∙ omega (arith, length-append (decimal (get_or ns i 0)) (numbers_text (drop (i + 1) ns)))

  -- the number's own text, and behind it what is left
  pub written_next : (s : List ℕ) (at : ℕ)
      → written (written (written s at (space ∷ [])) (at + 1) (decimal (get_or ns i 0)))
      (at + 1 + length (decimal (get_or ns i 0))) (numbers_text (drop (i + 1) ns))
      ≡ written s at (numbers_text (drop i ns))
  written_next s at =
      let own = decimal (get_or ns i 0) in
      let rest = numbers_text (drop (i + 1) ns) in
      sym (written-append (written s at (space ∷ [])) (at + 1) own rest)
      ∙ sym (written-append s at (space ∷ []) (own ++ rest))
      ∙ ap (written s at) (sym next-number)

-- ---- a line's parts, written one behind the other

-- the date, the numbers and the line feed by three stores are the line by one
pub written-line : (s : List ℕ) (d : Date) (ns : List ℕ)
    → written (written (written s 0 (date_text d)) date_size (numbers_text ns)) (date_size + length (numbers_text ns)) (line_feed ∷ [])
    ≡ written s 0 (line_text d ns)
unfolding line_text
written-line s d ns =
    let rest = numbers_text ns ++ (line_feed ∷ []) in
    sym (written-append (written s 0 (date_text d)) date_size (numbers_text ns) (line_feed ∷ []))
    ∙ ap (λ (k : ℕ). written (written s 0 (date_text d)) k rest) (sym (zero-add (length (date_text d)) ∙ length-date_text d))
    ∙ sym (written-append s 0 (date_text d) rest)

-- what is read from the front of a buffer that had room for the text
pub front-written : (s text : List ℕ) (n : ℕ) → n ≡ length text → length text ≤ length s → take n (written s 0 text) ≡ text
front-written s text n e h =
    ap (λ (k : ℕ). take k (written s 0 text)) e ∙ part-written s 0 text (omega arith)

-- the answer does not have this number
abbrev pub Never : ℕ → Outcome (Result ℕ ReportError) (List ℕ) → Type 0
Never n o = text_number o.result ≡ n → ⊥

-- where there is room, it is not 1
pub text-fits : (text out : List ℕ) → length text ≤ length out → Never 1 (put_text text out)
unfolding put_text
text-fits text out l = rw (le-leb _ _ l) (λ e. omega (arith, e))
