-- The log in memory as it lay before request 9: behind the header a row of ten bytes for each cell. No code has it any more. It stands here for the claim
-- that an old and a new log in which the same is seen get the same answers (specs/Same.antt). Source: document 01, "The reader and the log";
-- document 02, CR 7: "The cell is 10 bytes".
use Rattle.std.specs.Prelude.{ℕ, suc, ◌+◌, ◌*◌, cond, ◌&&◌, List, [], ◌∷◌, ◌++◌, eqb, take, drop, length, None, Option, Some}
use Rattle.byte_numbers.specs.Place.{byte_at, written}
use Rattle.log_header.specs.Header.{header_size, header_bytes, cells_of, header_of, mark_right, version_right, if_sound}
use Rattle.log_cell.specs.Cell.{counts_size, cell_size, cell_of, counts_bytes, cell_bytes}
use Rattle.energy_log.specs.View.{View}
use Rattle.log_header.specs.declared.header.Header.{Header}
use Rattle.log_cell.specs.declared.cell.Cell.{Cell}
use Rattle.energy_log.specs.declared.image.Change.{Change}
use Rattle.energy_log.specs.declared.image.Change.TheVariants.{None, Put, Lapses}

-- "14 bytes. Then cells in time order", 10 bytes each (CR 7)
unfoldable pub length_of : Header → ℕ
length_of h = header_size + cell_size * cells_of h

-- whether lent bytes are a log, and with which header
unfoldable pub fitted_to : ℕ → Option Header → Option Header
fitted_to n None = None
fitted_to n (Some h) = cond (eqb n (length_of h)) (Some h) None

unfoldable pub sound_of : List ℕ → Option Header
sound_of s = cond (mark_right s && version_right s) (fitted_to (length s) (header_of s)) None

-- where cell i begins, and where its lapses stand: "at its end" (CR 7)
abbrev pub cell_start : ℕ → ℕ
cell_start i = header_size + cell_size * i

abbrev pub lapses_place : ℕ → ℕ
lapses_place i = cell_start i + counts_size

-- the cell with index i, and how many asks for it lapsed
unfoldable pub cell_at : List ℕ → ℕ → Option Cell
cell_at s i = cell_of (take counts_size (drop (cell_start i) s))

abbrev pub lapses_at : List ℕ → ℕ → ℕ
lapses_at s i = byte_at s (lapses_place i)

-- what is seen of an old image
abbrev pub view_of : List ℕ → View
view_of s =
    record {
      lent = sound_of s;
      cell = if_sound (sound_of s) (λ i. None) (λ h. cell_at s);
      lapses = if_sound (sound_of s) (λ i. 0) (λ h. lapses_at s);
    }

-- it after a change
unfoldable pub put_cell : List ℕ → ℕ → Cell → List ℕ
put_cell s i c = written s (cell_start i) (counts_bytes c)

unfoldable pub put_lapses : List ℕ → ℕ → ℕ → List ℕ
put_lapses s i n = written s (lapses_place i) (n ∷ [])

unfoldable pub applied : Change → List ℕ → List ℕ
applied None s = s
applied (Put i c) s = put_cell s i c
applied (Lapses i n) s = put_lapses s i n

-- the old image of a header, its cells and the lapses of each index
unfoldable pub cells_bytes : ℕ → List Cell → (ℕ → ℕ) → List ℕ
cells_bytes i [] lapses = []
cells_bytes i (c ∷ cs) lapses = cell_bytes c (lapses i) ++ cells_bytes (suc i) cs lapses

unfoldable pub image_of : Header → List Cell → (ℕ → ℕ) → List ℕ
image_of h cs lapses = header_bytes h ++ cells_bytes 0 cs lapses
