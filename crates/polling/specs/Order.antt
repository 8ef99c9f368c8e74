-- The order in which intervals are asked for. Source: document 02, CR 13: "We want to ask newest first"; document 01, "The reader and the log": "cells in time order".
use Rattle.log_cell.specs.declared.cell.Cell.{Cell}
use Rattle.std.specs.Prelude.{ℕ, ◌+◌, ◌-◌, cond, reverse, leb, ltb, take, None, Option}
use Rattle.log_header.specs.Header.{if_sound}
use Rattle.energy_log.specs.Walk.{day_walk}
use Rattle.energy_log.specs.View.{View}
use Rattle.log_header.specs.declared.header.Header.{Header}
use Rattle.polling.specs.Next.{first_asked, next_wanted}
use Rattle.polling.specs.declared.next.Wanted.{Wanted}
use Rattle.polling.specs.declared.order.Order.{Order}
use Rattle.polling.specs.declared.order.Order.TheVariants.{OldestFirst, NewestFirst}

-- the last that is asked for among a day's n first slots; a day outside the log has none
unfoldable pub last_in : Wanted → Header → (ℕ → Option Cell) → ℕ → ℕ → Option ℕ
last_in w h cell d n = cond (ltb d h.days) (first_asked w (reverse (take n (day_walk h cell d)))) None

-- the last of a day's n first slots that is asked for; bytes that are no log have none
unfoldable pub last_wanted : Wanted → View → ℕ → ℕ → Option ℕ
last_wanted w v d n = if_sound v.lent None (λ h. last_in w h v.cell d n)

-- "Every day has 48 or 96 slots": the most that a day has
abbrev pub day_slots : ℕ
day_slots = 96

abbrev pub slots_left : ℕ → ℕ
slots_left passed = day_slots - passed

-- the slot of a day that is asked for next, where so many are passed: the first behind them, or the last before them
unfoldable pub next_in_order : Order → Wanted → View → ℕ → ℕ → Option ℕ
unfolding last_wanted
next_in_order OldestFirst w v d passed = next_wanted w v d passed
next_in_order NewestFirst w v d passed = last_wanted w v d (slots_left passed)

-- how many are passed with a slot: itself and those before it, or those behind it
abbrev pub passed_by : Order → ℕ → ℕ
passed_by OldestFirst slot = slot + 1
passed_by NewestFirst slot = day_slots - slot

unfoldable pub passed_with : Order → ℕ → ℕ
passed_with order slot = cond (leb day_slots slot) day_slots (passed_by order slot)

-- the day that comes k-th, counted from `from` on, of the days before `end`: the k-th, or the k-th from the last; one that is none of them stays
abbrev pub turn_of : Order → ℕ → ℕ → ℕ → ℕ
turn_of OldestFirst from end k = k
turn_of NewestFirst from end k = from + (end - 1 - k)

unfoldable pub day_in_order : Order → ℕ → ℕ → ℕ → ℕ
day_in_order order from end k = cond (ltb k from) k (cond (leb end k) k (turn_of order from end k))
