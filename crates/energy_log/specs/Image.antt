-- The log's image. Source: document 01, "The reader and the log": "In memory a log is its image"; document 02, CR 9: "After its 14 header bytes the log
-- in memory should hold all kinds at two bits each, the earlier cell in the lower bits, then all E+, all E-, all R+, all R-, then the lapses."
use Rattle.std.specs.Prelude.{ℕ, suc, ◌+◌, ◌*◌, ◌/◌, ◌%◌, ◌<◌, Bool, true, false, cond, List, [], ◌∷◌, ◌++◌, ◌⊎◌, ◌≡◌, ltb, length, get_or, None, Option, Some}
use Rattle.byte_numbers.specs.Number.{bytes_of}
use Rattle.byte_numbers.specs.Place.{byte_at, number_at, written}
use Rattle.log_header.specs.Header.{header_size, cells_of, header_at, header_bytes}
use Rattle.log_cell.specs.Cell.{kind_of, e_plus_of, e_minus_of, r_plus_of, r_minus_of, kind_cell, IsCell}
use Rattle.energy_log.specs.Pair.{pair_of, packed, put_pair}
use Rattle.log_header.specs.declared.header.Header.{Header}
use Rattle.log_cell.specs.declared.cell.Cell.{Cell}
use Rattle.energy_log.specs.declared.image.Change.{Change}
use Rattle.energy_log.specs.declared.image.Change.TheVariants.{None, Put, Lapses}
use Rattle.log_cell.specs.declared.cell.Cell.TheVariants.{Gap}

-- ---- where a log of n cells has what

-- "14 header bytes", "all kinds at two bits each": the byte that has the kind of cell i
abbrev pub kind_place : ℕ → ℕ
kind_place i = header_size + i / 4

-- "then all E+, all E-, all R+, all R-": the place of the count with index m, of which cell i has i, n + i, 2 n + i and 3 n + i
abbrev pub count_place : ℕ → ℕ → ℕ
count_place n m = header_size + n / 4 + 2 * m

-- "then the lapses": the place of those of cell i
abbrev pub lapses_place : ℕ → ℕ → ℕ
lapses_place n i = header_size + n / 4 + 8 * n + i

-- "the earlier cell in the lower bits": the kind of cell i
abbrev pub kind_at : List ℕ → ℕ → ℕ
kind_at s i = pair_of (byte_at s (kind_place i)) (i % 4)

abbrev pub count_at : ℕ → List ℕ → ℕ → ℕ
count_at n s m = number_at s (count_place n m) 2

-- the cells of the log, as its header's bytes say
unfoldable pub cells_at : List ℕ → ℕ
cells_at s = cells_of (header_at s)

-- ---- read

-- what is made of the kind and the counts of cell i; past the last cell there is none
unfoldable pub read_among : (ℕ → ℕ → ℕ → ℕ → ℕ → Option Cell) → ℕ → List ℕ → ℕ → Option Cell
read_among f n s i = cond (ltb i n) (f (kind_at s i) (count_at n s i) (count_at n s (n + i)) (count_at n s (2 * n + i)) (count_at n s (3 * n + i))) None

-- the cell with index i of n, read
abbrev pub cell_among : ℕ → List ℕ → ℕ → Option Cell
cell_among n s i = read_among kind_cell n s i

-- how many asks for it lapsed
unfoldable pub lapses_among : ℕ → List ℕ → ℕ → ℕ
lapses_among n s i = cond (ltb i n) (byte_at s (lapses_place n i)) 0

-- the same of the cells that the header says
unfoldable pub cell_at : List ℕ → ℕ → Option Cell
cell_at s i = cell_among (cells_at s) s i

unfoldable pub lapses_at : List ℕ → ℕ → ℕ
lapses_at s i = lapses_among (cells_at s) s i

-- ---- put

-- another kind of cell i: the three others of its byte stay
unfoldable pub put_kind : List ℕ → ℕ → ℕ → List ℕ
put_kind s i kind = written s (kind_place i) (put_pair (byte_at s (kind_place i)) (i % 4) kind ∷ [])

abbrev pub put_count : ℕ → List ℕ → ℕ → ℕ → List ℕ
put_count n s m x = written s (count_place n m) (bytes_of 2 x)

-- other counts of cell i of n
unfoldable pub put_counts : ℕ → List ℕ → ℕ → ℕ → ℕ → ℕ → ℕ → List ℕ
put_counts n s i e+ e- r+ r- = put_count n (put_count n (put_count n (put_count n s i e+) (n + i) e-) (2 * n + i) r+) (3 * n + i) r-

-- another cell at index i of n, whose lapses stay; past the last cell none is put
unfoldable pub put_cell_among : ℕ → List ℕ → ℕ → Cell → List ℕ
put_cell_among n s i c = cond (ltb i n) (put_counts n (put_kind s i (kind_of c)) i (e_plus_of c) (e_minus_of c) (r_plus_of c) (r_minus_of c)) s

-- other lapses at index i of n, whose kind and counts stay
unfoldable pub put_lapses_among : ℕ → List ℕ → ℕ → ℕ → List ℕ
put_lapses_among n s i x = cond (ltb i n) (written s (lapses_place n i) (x ∷ [])) s

-- the image with another cell at index i, whose lapses stay
unfoldable pub put_cell : List ℕ → ℕ → Cell → List ℕ
put_cell s i c = put_cell_among (cells_at s) s i c

-- the image with other lapses at index i, whose kind and counts stay
unfoldable pub put_lapses : List ℕ → ℕ → ℕ → List ℕ
put_lapses s i n = put_lapses_among (cells_at s) s i n

-- the image after a change
unfoldable pub applied : Change → List ℕ → List ℕ
applied None s = s
applied (Put i c) s = put_cell s i c
applied (Lapses i n) s = put_lapses s i n

-- ---- the bits that hold a cell

-- byte q is one of the two from a place on
abbrev pub Two : ℕ → ℕ → Type 0
Two place q = (q ≡ place) ⊎ (q ≡ place + 1)

-- "of cells, and of the bits that hold them": pair j of byte q's bits is cell i's own, of n. Its kind is one pair, its counts and its lapses are whole bytes
pub data Own (n i q j : ℕ) : Type 0 where
  of_kind : q ≡ kind_place i → j ≡ i % 4 → Own n i q j
  of-e+ : Two (count_place n i) q → Own n i q j
  of-e- : Two (count_place n (n + i)) q → Own n i q j
  of-r+ : Two (count_place n (2 * n + i)) q → Own n i q j
  of-r- : Two (count_place n (3 * n + i)) q → Own n i q j
  of_lapses : q ≡ lapses_place n i → Own n i q j

-- it is none of them
abbrev pub OutsideCell : ℕ → ℕ → ℕ → ℕ → Type 0
OutsideCell n i q j = Own n i q j → ⊥

-- ---- the image of a header and its cells

-- "all kinds at two bits each, the earlier cell in the lower bits": four cells a byte
unfoldable pub kinds_bytes : List Cell → List ℕ
kinds_bytes [] = []
kinds_bytes (a ∷ []) = []
kinds_bytes (a ∷ b ∷ []) = []
kinds_bytes (a ∷ b ∷ c ∷ []) = []
kinds_bytes (a ∷ b ∷ c ∷ d ∷ cs) = packed (kind_of a) (kind_of b) (kind_of c) (kind_of d) ∷ kinds_bytes cs

-- one count of each cell
unfoldable pub column_bytes : (Cell → ℕ) → List Cell → List ℕ
column_bytes count [] = []
column_bytes count (c ∷ cs) = bytes_of 2 (count c) ++ column_bytes count cs

-- the lapses of each cell, from index i on
unfoldable pub lapses_bytes : ℕ → List Cell → (ℕ → ℕ) → List ℕ
lapses_bytes i [] lapses = []
lapses_bytes i (c ∷ cs) lapses = lapses i ∷ lapses_bytes (suc i) cs lapses

-- "all kinds .., then all E+, all E-, all R+, all R-, then the lapses"
unfoldable pub cells_bytes : List Cell → (ℕ → ℕ) → List ℕ
cells_bytes cs lapses =
    kinds_bytes cs ++ (column_bytes e_plus_of cs ++ (column_bytes e_minus_of cs ++ (column_bytes r_plus_of cs ++ (column_bytes r_minus_of cs ++ lapses_bytes 0 cs lapses))))

-- the image of a header, its cells and the lapses of each index
unfoldable pub image_of : Header → List Cell → (ℕ → ℕ) → List ℕ
image_of h cs lapses = header_bytes h ++ cells_bytes cs lapses

-- whether all that was read are cells
unfoldable pub all_good : List (Option Cell) → Bool
all_good [] = true
all_good (Some c ∷ read) = all_good read
all_good (None ∷ read) = false

-- the cells that were read
unfoldable pub goods : List (Option Cell) → List Cell
goods [] = []
goods (Some c ∷ read) = c ∷ goods read
goods (None ∷ read) = goods read

-- every one of the cells is one
abbrev pub AllCells : List Cell → Type 0
AllCells cs = (i : ℕ) → i < length cs → IsCell (get_or cs i Gap)

-- the lapses of every index fit a byte: "0 to 255"
abbrev pub LapsesFit : (ℕ → ℕ) → Type 0
LapsesFit lapses = (i : ℕ) → lapses i < 256
