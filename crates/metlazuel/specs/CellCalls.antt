-- What C is given of a log's single cells. Source: document 01, "The reader and the log" and "Refusal numbers"; document 02, CR 7.
use Rattle.std.specs.Prelude.{List, [], ◌∷◌, ℕ, ltb, Option}
use Rattle.std.specs.Option.{unwrap_or}
use Rattle.refusal.specs.Outcome.{Outcome, outcome, check}
use Rattle.log_header.specs.Header.{if_sound}
use Rattle.log_header.specs.Interval.{interval_of, if_at}
use Rattle.log_cell.specs.Cell.{if_good}
use Rattle.energy_log.specs.View.{View}
use Rattle.log_cell.specs.declared.cell.Cell.{Cell}
use Rattle.log_cell.specs.declared.cell.Cell.TheVariants.{Gap, Empty, Measured}
use Rattle.polling.specs.Next.{next_gap}

-- "0 gap, 1 empty, 2 measured"
unfoldable pub kind_of : Cell → ℕ
kind_of Gap = 0
kind_of Empty = 1
kind_of (Measured e+ e- r+ r-) = 2

-- "and four counts .., all 0 unless measured"
unfoldable pub counts_of : Cell → List ℕ
counts_of Gap = 0 ∷ 0 ∷ 0 ∷ 0 ∷ []
counts_of Empty = 0 ∷ 0 ∷ 0 ∷ 0 ∷ []
counts_of (Measured e+ e- r+ r-) = e+ ∷ e- ∷ r+ ∷ r- ∷ []

-- left: the lent kind, counts and lapses ("how many asks for it ended in a lapse", of every kind). 28, 22, and 28 of the cell "just before it is used"; a
-- refusal leaves all three
unfoldable pub cell_for_c : View → ℕ → ℕ → ℕ → List ℕ → ℕ → Outcome ℕ (ℕ × List ℕ × ℕ)
cell_for_c v day slot kind counts lapses =
    if_sound v.lent (outcome 28 (kind, counts, lapses)) (λ h.
    if_at (interval_of h day slot) (outcome 22 (kind, counts, lapses)) (λ i.
    if_good (v.cell i) (outcome 28 (kind, counts, lapses)) (λ c. outcome 0 (kind_of c, counts_of c, v.lapses i))))

-- the slot that was found; 255, which is no slot of a day, where there is none
unfoldable pub slot_of : Option ℕ → ℕ
slot_of k = unwrap_or k 255

-- left: the lent slot. 28, 22 for a "day not in the log"; a refusal leaves it
unfoldable pub next_gap_for_c : View → ℕ → ℕ → ℕ → Outcome ℕ ℕ
next_gap_for_c v day from before =
    if_sound v.lent (outcome 28 before) (λ h.
    check (ltb day h.days) (outcome 22 before) (outcome 0 (slot_of (next_gap v day from))))
