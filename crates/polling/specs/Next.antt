-- The interval that is asked for next. Source: document 01, "The reader and the log": "A cell is a gap, empty, or measured"; "cells in
-- time order"; "Every day has 48 or 96 slots"; document 02, CR 5: slots that do not exist "can't be asked for".
use Rattle.log_cell.specs.declared.cell.Cell.{Cell}
use Rattle.std.specs.Prelude.{ℕ, Bool, true, false, cond, ◌&&◌, List, [], ◌∷◌, ltb, drop, None, Option, Some}
use Rattle.log_header.specs.Header.{if_sound}
use Rattle.log_header.specs.Interval.{interval_of, if_at}
use Rattle.energy_log.specs.Walk.{Place, day_walk}
use Rattle.energy_log.specs.View.{View}
use Rattle.log_header.specs.declared.header.Header.{Header}
use Rattle.log_cell.specs.declared.cell.Cell.TheVariants.{Gap, Empty, Measured}
use Rattle.polling.specs.declared.next.Wanted.{Wanted}
use Rattle.polling.specs.declared.next.Wanted.TheVariants.{Gaps, GapsAndEmpties}

-- whether a cell that was read is asked for: a gap, and an empty one where these are asked for again; bytes that are no cell never
unfoldable pub is_wanted : Wanted → Option Cell → Bool
is_wanted w (Some Gap) = true
is_wanted Gaps (Some Empty) = false
is_wanted GapsAndEmpties (Some Empty) = true
is_wanted w (Some (Measured e+ e- r+ r-)) = false
is_wanted w None = false

-- whether slot k of day d is asked for: it is in the log, and its cell is wanted. One that does not exist is not, whatever its bytes are
unfoldable pub asks_for : Wanted → Header → (ℕ → Option Cell) → ℕ → ℕ → Bool
asks_for w h cell d k = if_at (interval_of h d k) false (λ i. is_wanted w (cell i))

-- whether an interval as it is seen is: its slot exists, and its cell is wanted
abbrev pub asks_at : Wanted → Place → Bool
asks_at w p = p.there && is_wanted w p.cell

-- the slot of the first of some places that is asked for
unfoldable pub first_asked : Wanted → List Place → Option ℕ
first_asked w [] = None
first_asked w (p ∷ ps) = cond (asks_at w p) (Some p.slot) (first_asked w ps)

-- the first that is asked for among a day's slots from k on; a day outside the log has none
unfoldable pub next_in : Wanted → Header → (ℕ → Option Cell) → ℕ → ℕ → Option ℕ
next_in w h cell d k = cond (ltb d h.days) (first_asked w (drop k (day_walk h cell d))) None

-- the slot of a day that is asked for next, from slot k on: the first whose cell is wanted; bytes that are no log have none
unfoldable pub next_wanted : Wanted → View → ℕ → ℕ → Option ℕ
unfolding next_in
next_wanted w v d k = if_sound v.lent None (λ h. next_in w h v.cell d k)

-- the first gap
abbrev pub next_gap : View → ℕ → ℕ → Option ℕ
next_gap = next_wanted Gaps
