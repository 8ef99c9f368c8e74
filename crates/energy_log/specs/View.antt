-- What a call sees of lent bytes, whatever the layout in memory: a layout is known by its view and by what a change does to it
-- (proofs/ViewLaws.antt). Source: document 01, "The reader and the log": "In memory a log is its image"; "cells in time order".
use Rattle.log_cell.specs.declared.cell.Cell.{Cell}
use Rattle.log_header.specs.declared.header.Header.{Header}
use Rattle.std.specs.Prelude.{ℕ, List, None, Option}
use Rattle.log_header.specs.Header.{sound_of, if_sound}
use Rattle.energy_log.specs.Image.{cell_at, lapses_at}

-- whether they are a log and with which header, the cell at each index, and how many asks for it lapsed; past a log's cells, and in bytes that are no
-- log, there is none
pub record View : Type 0 where
  pub lent : Option Header
  pub cell : ℕ → Option Cell
  pub lapses : ℕ → ℕ

-- what is seen of an image
abbrev pub view_of : List ℕ → View
view_of s =
    record {
      lent = sound_of s;
      cell = if_sound (sound_of s) (λ i. None) (λ h. cell_at s);
      lapses = if_sound (sound_of s) (λ i. 0) (λ h. lapses_at s);
    }
