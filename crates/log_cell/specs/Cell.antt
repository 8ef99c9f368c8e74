-- A cell of the log and its ten bytes. Source: document 01, "The reader and the log"; document 02, CR 7: "Each cell gets one byte more, at its end: how
-- many asks for it ended in a lapse".
use Rattle.std.specs.Prelude.{ℕ, ◌<◌, Bool, true, cond, not, ◌&&◌, List, [], ◌∷◌, ◌++◌, ltb, eqb, length, ◌≡◌, None, Option, Some}
use Rattle.byte_numbers.specs.Number.{bytes_of}
use Rattle.byte_numbers.specs.Place.{byte_at, number_at}
use Rattle.log_cell.specs.declared.cell.Cell.{Cell}
use Rattle.log_cell.specs.declared.cell.Cell.TheVariants.{Gap, Empty, Measured}

-- kind and counts: "9 bytes each"
abbrev pub counts_size : ℕ
counts_size = 9

-- "The cell is 10 bytes" (CR 7)
abbrev pub cell_size : ℕ
cell_size = 10

-- whether none of four counts is above zero
unfoldable pub no_counts : ℕ → ℕ → ℕ → ℕ → Bool
no_counts e+ e- r+ r- = eqb e+ 0 && eqb e- 0 && eqb r+ 0 && eqb r- 0

-- "A cell is a gap, empty, or measured with four counts, at least one of them not zero"
unfoldable pub is_cell : Cell → Bool
is_cell Gap = true
is_cell Empty = true
is_cell (Measured e+ e- r+ r-) = not (no_counts e+ e- r+ r-)

-- the kind, "and four counts low first"
unfoldable pub kind_bytes : ℕ → ℕ → ℕ → ℕ → ℕ → List ℕ
kind_bytes kind e+ e- r+ r- = kind ∷ [] ++ (bytes_of 2 e+ ++ (bytes_of 2 e- ++ (bytes_of 2 r+ ++ bytes_of 2 r-)))

-- "0 gap, 1 empty, 2 measured"
abbrev pub kind_of : Cell → ℕ
kind_of Gap = 0
kind_of Empty = 1
kind_of (Measured e+ e- r+ r-) = 2

-- "four counts .., all 0 unless measured"
abbrev pub e_plus_of : Cell → ℕ
e_plus_of Gap = 0
e_plus_of Empty = 0
e_plus_of (Measured e+ e- r+ r-) = e+

abbrev pub e_minus_of : Cell → ℕ
e_minus_of Gap = 0
e_minus_of Empty = 0
e_minus_of (Measured e+ e- r+ r-) = e-

abbrev pub r_plus_of : Cell → ℕ
r_plus_of Gap = 0
r_plus_of Empty = 0
r_plus_of (Measured e+ e- r+ r-) = r+

abbrev pub r_minus_of : Cell → ℕ
r_minus_of Gap = 0
r_minus_of Empty = 0
r_minus_of (Measured e+ e- r+ r-) = r-

-- a cell's kind and counts
unfoldable pub counts_bytes : Cell → List ℕ
counts_bytes c = kind_bytes (kind_of c) (e_plus_of c) (e_minus_of c) (r_plus_of c) (r_minus_of c)

-- "0 gap, 1 empty, 2 measured", with no count above zero or with some
unfoldable pub kind_fits : ℕ → Bool → Bool
kind_fits kind none = cond none (ltb kind 2) (eqb kind 2)

-- the cell that a kind names
unfoldable pub cell_by : ℕ → ℕ → ℕ → ℕ → ℕ → Cell
cell_by kind e+ e- r+ r- = cond (eqb kind 0) Gap (cond (eqb kind 1) Empty (Measured e+ e- r+ r-))

-- the cell of a kind and four counts, where there is one
unfoldable pub kind_cell : ℕ → ℕ → ℕ → ℕ → ℕ → Option Cell
kind_cell kind e+ e- r+ r- = cond (kind_fits kind (no_counts e+ e- r+ r-)) (Some (cell_by kind e+ e- r+ r-)) None

-- a cell's ten bytes: "one byte more, at its end"
unfoldable pub cell_bytes : Cell → ℕ → List ℕ
cell_bytes c lapses = counts_bytes c ++ (lapses ∷ [])

-- "0 gap, 1 empty, 2 measured": the cell that a kind names, whatever its counts
unfoldable pub kind_names : ℕ → ℕ → ℕ → ℕ → ℕ → Option Cell
kind_names kind e+ e- r+ r- = cond (ltb kind 3) (Some (cell_by kind e+ e- r+ r-)) None

-- the cell that nine bytes are
unfoldable pub cell_of : List ℕ → Option Cell
cell_of bs = cond (eqb (length bs) counts_size) (kind_cell (byte_at bs 0) (number_at bs 1 2) (number_at bs 3 2) (number_at bs 5 2) (number_at bs 7 2)) None

-- one value where bytes are no cell, else one by the cell that they are
abbrev pub if_good : {A : Type 0} → Option Cell → A → (Cell → A) → A
if_good None other f = other
if_good (Some c) other f = f c

pub record CountsFit (e+ e- r+ r- : ℕ) : Type 0 where
  pub e_plus : e+ < 65536
  pub e_minus : e- < 65536
  pub r_plus : r+ < 65536
  pub r_minus : r- < 65536

-- the counts fit two bytes, as those of a Rattle value do
abbrev pub CellFits : Cell → Type 0
CellFits Gap = Unit
CellFits Empty = Unit
CellFits (Measured e+ e- r+ r-) = CountsFit e+ e- r+ r-

-- a cell that an image can hold
pub record IsCell (c : Cell) : Type 0 where
  pub right : is_cell c ≡ true
  pub fits : CellFits c
