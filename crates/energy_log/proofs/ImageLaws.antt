-- What follows from the definition of an image: what is read after a put, there and elsewhere; what a put keeps; and that an image is
-- that of its header and its cells.
use Rattle.std.specs.Prelude.{None, Option, Some}
use Prim.Native.Nat.{ℕ, zero, suc, ◌+◌, ◌*◌, ◌/◌, ◌%◌, ◌≤◌, ◌<◌}
use native.Mathlib.Nat.{add-zero, zero-add}
use native.Mathlib.Omega.{arith}
use mathlib.Core.Path.{◌≡◌, refl, sym, ap, ap₂, ◌∙◌}
use mathlib.Core.Bool.{Bool, true, false, cond}
use mathlib.Core.List.{List, [], ◌∷◌, ◌++◌, map, append_assoc}
use mathlib.Core.Logic.{inl, inr}
use lib.Dec.{ltb, eqb}
use lib.ListN.{length, get_or, take, drop, set, length-append, drop_of_length-le, get_or-append}
use lib.Seq.{get_or-append-add, get_or-take}
use borrow.Author.Tests.{ltb-true, eqb-true, eqb-false}
use Rattle.test_laws.proofs.Test.{chosen}
use Rattle.byte_numbers.specs.Number.{bytes_of, Bytes}
use Rattle.byte_numbers.specs.Place.{byte_at, number_at, written}
use Rattle.byte_numbers.proofs.NumberLaws.{bytes-bytes_of}
use Rattle.byte_numbers.proofs.PlaceLaws.{length-written, byte_at-kept, number_at-kept, number_at-front, number_at-behind, number_at-behind-bytes, byte_at-written, written-fits}
use Rattle.byte_numbers.proofs.Part.{written-part}
use Rattle.byte_numbers.proofs.ByteLaws.{bytes-nil, bytes-cons, bytes-append}
use Rattle.log_header.specs.Header.{header_size, version, size_for, cells_of, length_of, is_header, header_bytes, header_at, mark_right, version_right, fields_right, header_of, sound_of}
use Rattle.log_header.proofs.HeaderLaws.{cells-fours, header-ranges, length-header_bytes, bytes-header, header_at-bytes, sound-bytes, sound-log, sound-front}
use Rattle.log_cell.specs.Cell.{kind_of, e_plus_of, e_minus_of, r_plus_of, r_minus_of, kind_cell, CountsFit, IsCell}
use Rattle.log_cell.proofs.CellLaws.{kind_cell-of, kind-of, bad≢good, two-below}
use Rattle.energy_log.specs.Pair.{pair_of, packed}
use Rattle.energy_log.proofs.PairLaws.{packed-at, packed_byte, pair-byte}
use Rattle.energy_log.specs.Image.{kind_place, count_place, lapses_place, kind_at, count_at, cells_at, read_among, cell_among, lapses_among, cell_at, lapses_at}
use Rattle.energy_log.specs.Image.{put_kind, put_counts, put_cell_among, put_lapses_among, put_cell, put_lapses}
use Rattle.energy_log.specs.Image.{kinds_bytes, column_bytes, lapses_bytes, cells_bytes, image_of, AllCells, LapsesFit}
use Rattle.energy_log.proofs.ColumnLaws.{Room, room-kept, Parts, parts_at, parts_of, lapsed, cell_from, kind-four, counts-fit, byte-stays, parts-there, parts-elsewhere}
use Rattle.energy_log.proofs.ColumnLaws.{Off, before-off, behind-off, byte-lapses, front-lapses, lapses-there, lapses-elsewhere, length-put_cell_among, length-put_lapses_among}
use Rattle.energy_log.proofs.ColumnLaws.{same_cell, same-front, same-lapses, cell_in, lapses-in-log, none-past, no-lapses-past, same_bytes}
use Rattle.energy_log.specs.Walk.{seen_from}
use Rattle.log_header.specs.declared.header.Header.{Header}
use Rattle.log_cell.specs.declared.cell.Cell.{Cell}
use Rattle.log_cell.specs.declared.cell.Cell.TheVariants.{Gap}

-- ---- what a put keeps

-- what is written behind the header leaves it, and the length
module _ (s : List ℕ) (a : ℕ) (bs : List ℕ) (l : header_size ≤ a) where
  byte-kept : (j : ℕ) → j < header_size → byte_at (written s a bs) j ≡ byte_at s j
  byte-kept j h = byte_at-kept s a bs j (inl (omega arith))

  number-kept : (j : ℕ) → j + 2 ≤ header_size → number_at (written s a bs) j 2 ≡ number_at s j 2
  number-kept j h = number_at-kept s a bs j 2 (inl (omega arith))

  header_at-kept : header_at (written s a bs) ≡ header_at s
  unfolding header_at
  header_at-kept =
      let day = byte-kept 7 (omega arith) in
      let ke = number-kept 10 (omega arith) in
      simp (byte-kept 5 (omega arith), byte-kept 6 (omega arith), day, byte-kept 8 (omega arith), byte-kept 9 (omega arith), ke, byte-kept 12 (omega arith))

  cells_at-kept : cells_at (written s a bs) ≡ cells_at s
  unfolding cells_at
  cells_at-kept = ap cells_of header_at-kept

  sound_of-kept : sound_of (written s a bs) ≡ sound_of s
  unfolding sound_of mark_right version_right header_of fields_right
  sound_of-kept =
      simp (byte-kept 0 (omega arith), byte-kept 1 (omega arith), byte-kept 2 (omega arith), number-kept 3 (omega arith), header_at-kept, byte-kept 13 (omega arith), length-written)

-- so does every put: it writes behind the header alone
module _ {A : Type 0} (f : List ℕ → A) (kept : (s : List ℕ) (a : ℕ) (bs : List ℕ) → header_size ≤ a → f (written s a bs) ≡ f s) (n : ℕ) (s : List ℕ) (i : ℕ) where
  put_keeps : (c : Cell) → f (put_cell_among n s i c) ≡ f s
  unfolding put_cell_among put_counts put_kind
  put_keeps c = go (ltb i n)
    where
      go : (b : Bool) → f (cond b (put_counts n (put_kind s i (kind_of c)) i (e_plus_of c) (e_minus_of c) (r_plus_of c) (r_minus_of c)) s) ≡ f s
      go true =
          kept _ (count_place n (3 * n + i)) _ (omega arith)
          ∙ kept _ (count_place n (2 * n + i)) _ (omega arith)
          ∙ kept _ (count_place n (n + i)) _ (omega arith)
          ∙ kept _ (count_place n i) _ (omega arith)
          ∙ kept s (kind_place i) _ (omega arith)
      go false = refl

  lapses-keep : (x : ℕ) → f (put_lapses_among n s i x) ≡ f s
  unfolding put_lapses_among
  lapses-keep x = go (ltb i n)
    where
      go : (b : Bool) → f (cond b (written s (lapses_place n i) (x ∷ [])) s) ≡ f s
      go true = kept s (lapses_place n i) (x ∷ []) (omega arith)
      go false = refl

-- a cell that is put leaves the length
pub length-put_cell : (s : List ℕ) (i : ℕ) (c : Cell) → length (put_cell s i c) ≡ length s
unfolding put_cell
length-put_cell s i c = length-put_cell_among (cells_at s) s i c

-- lapses that are put leave the length
pub length-put_lapses : (s : List ℕ) (i n : ℕ) → length (put_lapses s i n) ≡ length s
unfolding put_lapses
length-put_lapses s i n = length-put_lapses_among (cells_at s) s i n

-- the header and the length stay, whatever the index
pub sound_of-put_cell : (s : List ℕ) (i : ℕ) (c : Cell) → sound_of (put_cell s i c) ≡ sound_of s
unfolding put_cell
sound_of-put_cell s i c = put_keeps sound_of sound_of-kept (cells_at s) s i c

-- the same of lapses
pub sound_of-put_lapses : (s : List ℕ) (i n : ℕ) → sound_of (put_lapses s i n) ≡ sound_of s
unfolding put_lapses
sound_of-put_lapses s i n = lapses-keep sound_of sound_of-kept (cells_at s) s i n

-- as many cells are said after a cell was put as before
pub cells_at-put_cell : (s : List ℕ) (i : ℕ) (c : Cell) → cells_at (put_cell s i c) ≡ cells_at s
unfolding put_cell
cells_at-put_cell s i c = put_keeps cells_at cells_at-kept (cells_at s) s i c

-- and after lapses were put
pub cells_at-put_lapses : (s : List ℕ) (i n : ℕ) → cells_at (put_lapses s i n) ≡ cells_at s
unfolding put_lapses
cells_at-put_lapses s i n = lapses-keep cells_at cells_at-kept (cells_at s) s i n

-- ---- bytes whose header says n cells

module _ (s : List ℕ) (n : ℕ) (e : cells_at s ≡ n) where
  -- a cell of theirs is read as one of n
  pub cell_at-among : (i : ℕ) → cell_at s i ≡ cell_among n s i
  unfolding cell_at
  cell_at-among i = ap (λ (k : ℕ). cell_among k s i) e

  -- and so are its lapses
  pub lapses_at-among : (i : ℕ) → lapses_at s i ≡ lapses_among n s i
  unfolding lapses_at
  lapses_at-among i = ap (λ (k : ℕ). lapses_among k s i) e

  -- a cell is put as one of n
  pub put_cell-among : (i : ℕ) (c : Cell) → put_cell s i c ≡ put_cell_among n s i c
  unfolding put_cell
  put_cell-among i c = ap (λ (k : ℕ). put_cell_among k s i c) e

  -- and so are its lapses
  pub put_lapses-among : (i x : ℕ) → put_lapses s i x ≡ put_lapses_among n s i x
  unfolding put_lapses
  put_lapses-among i x = ap (λ (k : ℕ). put_lapses_among k s i x) e

-- a log's header says so
pub cells_at_lem : (s : List ℕ) (h : Header) → sound_of s ≡ Some h → cells_at s ≡ cells_of h
unfolding cells_at
cells_at_lem s h p = ap cells_of (sound-log s h p).header

-- and it has their room
pub room_of : (s : List ℕ) (h : Header) → sound_of s ≡ Some h → Room s (cells_of h)
unfolding length_of
room_of s h p = record { fours = cells-fours h; size = omega (arith, (sound-log s h p).size) }

-- ---- what is read

-- past the last cell there is none
pub cell_at-past : (s : List ℕ) (i : ℕ) → cells_at s ≤ i → cell_at s i ≡ None
unfolding cell_at
cell_at-past s i l = none-past kind_cell (cells_at s) s i l

-- nor are there lapses: they are read as 0
pub lapses_at-past : (s : List ℕ) (i : ℕ) → cells_at s ≤ i → lapses_at s i ≡ 0
unfolding lapses_at
lapses_at-past s i l = no-lapses-past (cells_at s) s i l

-- a cell that is read is one of the log's
pub good-below : (f : ℕ → ℕ → ℕ → ℕ → ℕ → Option Cell) (n : ℕ) (s : List ℕ) (i : ℕ) (c : Cell) → read_among f n s i ≡ Some c
    → (i < n) × (f (kind_at s i) (count_at n s i) (count_at n s (n + i)) (count_at n s (2 * n + i)) (count_at n s (3 * n + i)) ≡ Some c)
unfolding read_among
good-below f n s i c p =
    let a = chosen (ltb i n) (f (kind_at s i) (count_at n s i) (count_at n s (n + i)) (count_at n s (2 * n + i)) (count_at n s (3 * n + i))) None p (bad≢good c) in
    (ltb-true i n a.0, a.1)

-- ---- what is read after a put, in a log

module _ (s : List ℕ) (h : Header) (p : sound_of s ≡ Some h) (i : ℕ) (l : i < cells_of h) where
  n : ℕ
  n = cells_of h

  same : cells_at s ≡ n
  unfolding n
  same = cells_at_lem s h p

  room : Room s n
  unfolding n
  room = room_of s h p

  below : i < n
  unfolding n
  below = l

  module _ (c : Cell) where
    cell-of : (j : ℕ) → cell_at (put_cell s i c) j ≡ cell_among n (put_cell_among n s i c) j
    cell-of j = cell_at-among (put_cell s i c) n (cells_at-put_cell s i c ∙ same) j ∙ ap (λ (t : List ℕ). cell_among n t j) (put_cell-among s n same i c)

    -- a cell that is put is the one that is read there
    pub cell_at-put : IsCell c → cell_at (put_cell s i c) i ≡ Some c
    cell_at-put k =
        cell-of i ∙ cell_in n (put_cell_among n s i c) i below ∙ ap cell_from (parts-there n s room i below c k.fits) ∙ kind_cell-of c k.right

    -- every other cell stays
    pub cell_at-put-other : (j : ℕ) → (j ≡ i → ⊥) → cell_at (put_cell s i c) j ≡ cell_at s j
    cell_at-put-other j ne =
        cell-of j ∙ same_cell n (put_cell_among n s i c) s j (λ m. parts-elsewhere n s room i below c j m ne) ∙ sym (cell_at-among s n same j)

    -- and so do all lapses
    pub lapses_at-put : (j : ℕ) → lapses_at (put_cell s i c) j ≡ lapses_at s j
    lapses_at-put j =
        lapses_at-among (put_cell s i c) n (cells_at-put_cell s i c ∙ same) j
        ∙ ap (λ (t : List ℕ). lapses_among n t j) (put_cell-among s n same i c)
        ∙ same-lapses n (put_cell_among n s i c) s j
        (λ m. byte-stays n s room i below c (lapses_place n j) (behind-off n i (lapses_place n j) below (omega arith)) (λ e. omega (arith, room.fours, below)))
        ∙ sym (lapses_at-among s n same j)

  module _ (x : ℕ) where
    lapses-of : (j : ℕ) → lapses_at (put_lapses s i x) j ≡ lapses_among n (put_lapses_among n s i x) j
    lapses-of j = lapses_at-among (put_lapses s i x) n (cells_at-put_lapses s i x ∙ same) j ∙ ap (λ (t : List ℕ). lapses_among n t j) (put_lapses-among s n same i x)

    -- lapses that are put are there, and no other lapses and no cell change
    pub lapses_at-lapses : lapses_at (put_lapses s i x) i ≡ x
    lapses_at-lapses =
        lapses-of i ∙ lapses-in-log n (put_lapses_among n s i x) i below ∙ ap (λ (q : Parts). q.lapses) (lapses-there n s room i below x)

    -- every other cell keeps its lapses
    pub lapses_at-lapses-other : (j : ℕ) → (j ≡ i → ⊥) → lapses_at (put_lapses s i x) j ≡ lapses_at s j
    lapses_at-lapses-other j ne =
        lapses-of j
        ∙ same-lapses n (put_lapses_among n s i x) s j (λ m. ap (λ (q : Parts). q.lapses) (lapses-elsewhere n s room i below x j m ne))
        ∙ sym (lapses_at-among s n same j)

    -- and all cells stay
    pub cell_at-lapses : (j : ℕ) → cell_at (put_lapses s i x) j ≡ cell_at s j
    cell_at-lapses j =
        cell_at-among (put_lapses s i x) n (cells_at-put_lapses s i x ∙ same) j
        ∙ ap (λ (t : List ℕ). cell_among n t j) (put_lapses-among s n same i x)
        ∙ same-front n (put_lapses_among n s i x) s j (front-lapses n s room i below x j)
        ∙ sym (cell_at-among s n same j)

-- ---- bytes stay bytes

bytes-set : (s : List ℕ) (i b : ℕ) → Bytes s → b < 256 → Bytes (set s i b)
bytes-set [] i b k l j = k j
bytes-set (x ∷ s) zero b k l zero = l
bytes-set (x ∷ s) zero b k l (suc j) = k (suc j)
bytes-set (x ∷ s) (suc i) b k l zero = k 0
bytes-set (x ∷ s) (suc i) b k l (suc j) = bytes-set s i b (λ m. k (suc m)) l j

-- bytes stored among bytes
pub bytes-written : (s : List ℕ) (i : ℕ) (bs : List ℕ) → Bytes s → Bytes bs → Bytes (written s i bs)
unfolding written
bytes-written s i [] k l = k
bytes-written s i (b ∷ bs) k l = bytes-written (set s i b) (suc i) bs (bytes-set s i b k (l 0)) (λ j. l (suc j))

-- a cell that is put leaves bytes
pub bytes-put_cell : (s : List ℕ) (i : ℕ) (c : Cell) → Bytes s → Bytes (put_cell s i c)
unfolding put_cell put_cell_among put_counts put_kind
bytes-put_cell s i c k = go (cells_at s) (ltb i (cells_at s))
  where
    one : (n : ℕ) (t : List ℕ) (m x : ℕ) → Bytes t → Bytes (written t (count_place n m) (bytes_of 2 x))
    one n t m x b = bytes-written t (count_place n m) (bytes_of 2 x) b (bytes-bytes_of 2 x)

    kinds : Bytes (put_kind s i (kind_of c))
    kinds = bytes-written s (kind_place i) _ k (bytes-cons _ [] (pair-byte (byte_at s (kind_place i)) (i % 4) (kind_of c) (kind-four c)) bytes-nil)

    go : (n : ℕ) (b : Bool) → Bytes (cond b (put_counts n (put_kind s i (kind_of c)) i (e_plus_of c) (e_minus_of c) (r_plus_of c) (r_minus_of c)) s)
    go n true = one n _ (3 * n + i) (r_minus_of c) (one n _ (2 * n + i) (r_plus_of c) (one n _ (n + i) (e_minus_of c) (one n _ i (e_plus_of c) kinds)))
    go n false = k

-- and so do lapses that fit a byte
pub bytes-put_lapses : (s : List ℕ) (i x : ℕ) → Bytes s → x < 256 → Bytes (put_lapses s i x)
unfolding put_lapses put_lapses_among
bytes-put_lapses s i x k l = go (ltb i (cells_at s))
  where
    go : (b : Bool) → Bytes (cond b (written s (lapses_place (cells_at s) i) (x ∷ [])) s)
    go true = bytes-written s (lapses_place (cells_at s) i) (x ∷ []) k (bytes-cons x [] l bytes-nil)
    go false = k

-- ---- the image of a header, its cells and their lapses

-- a byte for the kinds of four cells
pub length-kinds_bytes : (cs : List Cell) → length (kinds_bytes cs) ≡ length cs / 4
unfolding kinds_bytes
length-kinds_bytes [] = refl
length-kinds_bytes (a ∷ []) = refl
length-kinds_bytes (a ∷ b ∷ []) = refl
length-kinds_bytes (a ∷ b ∷ c ∷ []) = refl
length-kinds_bytes (a ∷ b ∷ c ∷ d ∷ cs) = ap suc (length-kinds_bytes cs) ∙ omega arith

-- two bytes for a count of each cell
pub length-column_bytes : (f : Cell → ℕ) (cs : List Cell) → length (column_bytes f cs) ≡ 2 * length cs
unfolding column_bytes bytes_of
length-column_bytes f [] = refl
length-column_bytes f (c ∷ cs) = ap (λ (n : ℕ). suc (suc n)) (length-column_bytes f cs) ∙ omega arith

-- a byte for the lapses of each cell
pub length-lapses_bytes : (i : ℕ) (cs : List Cell) (lapses : ℕ → ℕ) → length (lapses_bytes i cs lapses) ≡ length cs
unfolding lapses_bytes
length-lapses_bytes i [] lapses = refl
length-lapses_bytes i (c ∷ cs) lapses = ap suc (length-lapses_bytes (suc i) cs lapses)

-- four kinds, by their places in a byte
abbrev kind_in : Cell → Cell → Cell → Cell → ℕ → ℕ
kind_in a b c d m = kind_of (get_or (a ∷ b ∷ c ∷ d ∷ []) m Gap)

four : (a b c d : Cell) (m : ℕ) → m < 4 → pair_of (packed (kind_of a) (kind_of b) (kind_of c) (kind_of d)) m ≡ kind_in a b c d m
four a b c d m l = packed-at (kind_in a b c d) (λ k. kind-four (get_or (a ∷ b ∷ c ∷ d ∷ []) k Gap)) m l

-- what is read of each part
kinds-at : (cs : List Cell) (rest : List ℕ) (i : ℕ) → i < length cs → length cs % 4 ≡ 0 → pair_of (byte_at (kinds_bytes cs ++ rest) (i / 4)) (i % 4) ≡ kind_of (get_or cs i Gap)
unfolding kinds_bytes
kinds-at [] rest i l m = absurd (omega arith)
kinds-at (a ∷ []) rest i l m = absurd (omega arith)
kinds-at (a ∷ b ∷ []) rest i l m = absurd (omega arith)
kinds-at (a ∷ b ∷ c ∷ []) rest i l m = absurd (omega arith)
kinds-at (a ∷ b ∷ c ∷ d ∷ cs) rest zero l m = four a b c d 0 (omega arith)
kinds-at (a ∷ b ∷ c ∷ d ∷ cs) rest (suc zero) l m = four a b c d 1 (omega arith)
kinds-at (a ∷ b ∷ c ∷ d ∷ cs) rest (suc (suc zero)) l m = four a b c d 2 (omega arith)
kinds-at (a ∷ b ∷ c ∷ d ∷ cs) rest (suc (suc (suc zero))) l m = four a b c d 3 (omega arith)
kinds-at (a ∷ b ∷ c ∷ d ∷ cs) rest (suc (suc (suc (suc i)))) l m =
    let e : suc (suc (suc (suc i))) / 4 ≡ suc (i / 4) = omega arith in
    let f : suc (suc (suc (suc i))) % 4 ≡ i % 4 = omega arith in
    rw (e, f) (kinds-at cs rest i (omega arith) (omega arith))

column-at : (f : Cell → ℕ) (cs : List Cell) (rest : List ℕ) (i : ℕ) → i < length cs → number_at (column_bytes f cs ++ rest) (2 * i) 2 ≡ f (get_or cs i Gap) % 65536
unfolding column_bytes
column-at f [] rest i l = absurd (omega arith)
column-at f (c ∷ cs) rest zero l =
    ap (λ (x : List ℕ). number_at x 0 2) (append_assoc (bytes_of 2 (f c)) (column_bytes f cs) rest) ∙ number_at-front 2 (f c) (column_bytes f cs ++ rest)
column-at f (c ∷ cs) rest (suc i) l =
    let e : 2 * suc i ≡ 2 + 2 * i = omega arith in
    ap₂ (λ (x : List ℕ) (k : ℕ). number_at x k 2) (append_assoc (bytes_of 2 (f c)) (column_bytes f cs) rest) e
    ∙ number_at-behind-bytes 2 (f c) (column_bytes f cs ++ rest) (2 * i) 2
    ∙ column-at f cs rest i (omega arith)

lapses-at : (k : ℕ) (cs : List Cell) (lapses : ℕ → ℕ) (rest : List ℕ) (i : ℕ) → i < length cs → byte_at (lapses_bytes k cs lapses ++ rest) i ≡ lapses (k + i)
unfolding lapses_bytes
lapses-at k [] lapses rest i l = absurd (omega arith)
lapses-at k (c ∷ cs) lapses rest zero l = ap lapses (sym (add-zero k))
lapses-at k (c ∷ cs) lapses rest (suc i) l =
    let e : suc k + i ≡ k + suc i = omega arith in
    lapses-at (suc k) cs lapses rest i (omega arith) ∙ ap lapses e

-- behind some bytes
behind-number : (xs ys : List ℕ) (k q p : ℕ) → length xs ≡ k → p ≡ k + q → number_at (xs ++ ys) p 2 ≡ number_at ys q 2
behind-number xs ys k q p e f = ap (λ (m : ℕ). number_at (xs ++ ys) m 2) (f ∙ ap (λ (m : ℕ). m + q) (sym e)) ∙ number_at-behind xs ys q 2

behind-byte : (xs ys : List ℕ) (k q p : ℕ) → length xs ≡ k → p ≡ k + q → byte_at (xs ++ ys) p ≡ byte_at ys q
behind-byte xs ys k q p e f = ap (byte_at (xs ++ ys)) (f ∙ ap (λ (m : ℕ). m + q) (sym e)) ∙ get_or-append-add xs ys q 0

small : (x : ℕ) → x < 65536 → x % 65536 ≡ x
small x l = omega arith

append-nil : (xs : List ℕ) → xs ++ [] ≡ xs
append-nil [] = refl
append-nil (x ∷ xs) = ap (λ (l : List ℕ). x ∷ l) (append-nil xs)

module _ (lapses : ℕ → ℕ) where
  -- the kinds, the four columns of counts and the lapses together
  pub length-cells_bytes : (cs : List Cell) → length (cells_bytes cs lapses) ≡ length cs / 4 + 8 * length cs + length cs
  unfolding cells_bytes
  length-cells_bytes cs =
      simp length-append
      (omega (arith, length-kinds_bytes cs, length-column_bytes e_plus_of cs, length-column_bytes e_minus_of cs, length-column_bytes r_plus_of cs, length-column_bytes r_minus_of cs, length-lapses_bytes 0 cs lapses))

  -- with its header an image is as long as a log of as many cells
  pub length-image_of : (h : Header) (cs : List Cell) → length (image_of h cs lapses) ≡ size_for (length cs)
  unfolding image_of
  length-image_of h cs = length-append (header_bytes h) (cells_bytes cs lapses) ∙ omega (arith, length-header_bytes version h, length-cells_bytes cs)

  -- it is bytes
  bytes-kinds : (cs : List Cell) → Bytes (kinds_bytes cs)
  unfolding kinds_bytes
  bytes-kinds [] = bytes-nil
  bytes-kinds (a ∷ []) = bytes-nil
  bytes-kinds (a ∷ b ∷ []) = bytes-nil
  bytes-kinds (a ∷ b ∷ c ∷ []) = bytes-nil
  bytes-kinds (a ∷ b ∷ c ∷ d ∷ cs) = bytes-cons _ (kinds_bytes cs) (packed_byte (kind_in a b c d) (λ m. kind-four (get_or (a ∷ b ∷ c ∷ d ∷ []) m Gap))) (bytes-kinds cs)

  bytes-column : (f : Cell → ℕ) (cs : List Cell) → Bytes (column_bytes f cs)
  unfolding column_bytes
  bytes-column f [] = bytes-nil
  bytes-column f (c ∷ cs) = bytes-append (bytes_of 2 (f c)) (column_bytes f cs) (bytes-bytes_of 2 (f c)) (bytes-column f cs)

  bytes-lapses : LapsesFit lapses → (i : ℕ) (cs : List Cell) → Bytes (lapses_bytes i cs lapses)
  unfolding lapses_bytes
  bytes-lapses k i [] = bytes-nil
  bytes-lapses k i (c ∷ cs) = bytes-cons (lapses i) (lapses_bytes (suc i) cs lapses) (k i) (bytes-lapses k (suc i) cs)

  -- where its lapses fit a byte and its header is right, it is bytes
  pub bytes-image : (h : Header) (cs : List Cell) → LapsesFit lapses → is_header h ≡ true → Bytes (image_of h cs lapses)
  unfolding image_of cells_bytes
  bytes-image h cs k e =
      let z = lapses_bytes 0 cs lapses in
      let d = column_bytes r_minus_of cs ++ z in
      let c = column_bytes r_plus_of cs ++ d in
      let b = column_bytes e_minus_of cs ++ c in
      let a = column_bytes e_plus_of cs ++ b in
      bytes-append (header_bytes h) (kinds_bytes cs ++ a) (bytes-header version h e)
      (bytes-append (kinds_bytes cs) a (bytes-kinds cs)
      (bytes-append (column_bytes e_plus_of cs) b (bytes-column e_plus_of cs)
      (bytes-append (column_bytes e_minus_of cs) c (bytes-column e_minus_of cs)
      (bytes-append (column_bytes r_plus_of cs) d (bytes-column r_plus_of cs)
      (bytes-append (column_bytes r_minus_of cs) z (bytes-column r_minus_of cs) (bytes-lapses k 0 cs))))))

  -- it is a log
  pub sound-image : (h : Header) (cs : List Cell) → is_header h ≡ true → length cs ≡ cells_of h → sound_of (image_of h cs lapses) ≡ Some h
  unfolding image_of length_of
  sound-image h cs e l = sound-bytes h (cells_bytes cs lapses) e (length-image_of h cs ∙ ap (λ (n : ℕ). size_for n) l)

  -- it is its parts in a row, with whatever lies behind it
  abbrev from-lapses : List Cell → List ℕ → List ℕ
  from-lapses cs rest = lapses_bytes 0 cs lapses ++ rest

  abbrev from-r- : List Cell → List ℕ → List ℕ
  from-r- cs rest = column_bytes r_minus_of cs ++ from-lapses cs rest

  abbrev from-r+ : List Cell → List ℕ → List ℕ
  from-r+ cs rest = column_bytes r_plus_of cs ++ from-r- cs rest

  abbrev from-e- : List Cell → List ℕ → List ℕ
  from-e- cs rest = column_bytes e_minus_of cs ++ from-r+ cs rest

  abbrev from-e+ : List Cell → List ℕ → List ℕ
  from-e+ cs rest = column_bytes e_plus_of cs ++ from-e- cs rest

  in_a_row : (h : Header) (cs : List Cell) (rest : List ℕ) → image_of h cs lapses ++ rest ≡ header_bytes h ++ (kinds_bytes cs ++ from-e+ cs rest)
  unfolding image_of cells_bytes
  in_a_row h cs rest =
      let z = lapses_bytes 0 cs lapses in
      let d = column_bytes r_minus_of cs ++ z in
      let c = column_bytes r_plus_of cs ++ d in
      let b = column_bytes e_minus_of cs ++ c in
      let a = column_bytes e_plus_of cs ++ b in
      append_assoc (header_bytes h) (kinds_bytes cs ++ a) rest
      ∙ ap (λ (x : List ℕ). header_bytes h ++ x) (append_assoc (kinds_bytes cs) a rest
      ∙ ap (λ (x : List ℕ). kinds_bytes cs ++ x) (append_assoc (column_bytes e_plus_of cs) b rest
      ∙ ap (λ (x : List ℕ). column_bytes e_plus_of cs ++ x) (append_assoc (column_bytes e_minus_of cs) c rest
      ∙ ap (λ (x : List ℕ). column_bytes e_minus_of cs ++ x) (append_assoc (column_bytes r_plus_of cs) d rest
      ∙ ap (λ (x : List ℕ). column_bytes r_plus_of cs ++ x) (append_assoc (column_bytes r_minus_of cs) z rest)))))

  module _ (h : Header) (cs : List Cell) (rest : List ℕ) (i : ℕ) (l : i < length cs) where
    kind-in : length cs % 4 ≡ 0 → kind_at (image_of h cs lapses ++ rest) i ≡ kind_of (get_or cs i Gap)
    kind-in m =
        ap (λ (x : List ℕ). pair_of (byte_at x (kind_place i)) (i % 4)) (in_a_row h cs rest)
        ∙ ap (λ (b : ℕ). pair_of b (i % 4)) (behind-byte (header_bytes h) (kinds_bytes cs ++ from-e+ cs rest) header_size (i / 4) (kind_place i) (length-header_bytes version h) refl)
        ∙ kinds-at cs (from-e+ cs rest) i l m

    from-counts : (m : ℕ) → count_at (length cs) (image_of h cs lapses ++ rest) m ≡ number_at (from-e+ cs rest) (2 * m) 2
    from-counts m =
        ap (λ (x : List ℕ). number_at x (count_place (length cs) m) 2) (in_a_row h cs rest)
        ∙ behind-number (header_bytes h) (kinds_bytes cs ++ from-e+ cs rest) header_size (length cs / 4 + 2 * m) (count_place (length cs) m) (length-header_bytes version h) (omega arith)
        ∙ behind-number (kinds_bytes cs) (from-e+ cs rest) (length cs / 4) (2 * m) (length cs / 4 + 2 * m) (length-kinds_bytes cs) refl

    e+-in : count_at (length cs) (image_of h cs lapses ++ rest) i ≡ e_plus_of (get_or cs i Gap) % 65536
    e+-in = from-counts i ∙ column-at e_plus_of cs (from-e- cs rest) i l

    e--in : count_at (length cs) (image_of h cs lapses ++ rest) (length cs + i) ≡ e_minus_of (get_or cs i Gap) % 65536
    e--in =
        from-counts (length cs + i)
        ∙ behind-number (column_bytes e_plus_of cs) (from-e- cs rest) (2 * length cs) (2 * i) (2 * (length cs + i)) (length-column_bytes e_plus_of cs) (omega arith)
        ∙ column-at e_minus_of cs (from-r+ cs rest) i l

    r+-in : count_at (length cs) (image_of h cs lapses ++ rest) (2 * length cs + i) ≡ r_plus_of (get_or cs i Gap) % 65536
    r+-in =
        from-counts (2 * length cs + i)
        ∙ behind-number (column_bytes e_plus_of cs) (from-e- cs rest) (2 * length cs) (2 * (length cs + i)) (2 * (2 * length cs + i)) (length-column_bytes e_plus_of cs) (omega arith)
        ∙ behind-number (column_bytes e_minus_of cs) (from-r+ cs rest) (2 * length cs) (2 * i) (2 * (length cs + i)) (length-column_bytes e_minus_of cs) (omega arith)
        ∙ column-at r_plus_of cs (from-r- cs rest) i l

    r--in : count_at (length cs) (image_of h cs lapses ++ rest) (3 * length cs + i) ≡ r_minus_of (get_or cs i Gap) % 65536
    r--in =
        from-counts (3 * length cs + i)
        ∙ behind-number (column_bytes e_plus_of cs) (from-e- cs rest) (2 * length cs) (2 * (2 * length cs + i)) (2 * (3 * length cs + i)) (length-column_bytes e_plus_of cs) (omega arith)
        ∙ behind-number (column_bytes e_minus_of cs) (from-r+ cs rest) (2 * length cs) (2 * (length cs + i)) (2 * (2 * length cs + i)) (length-column_bytes e_minus_of cs) (omega arith)
        ∙ behind-number (column_bytes r_plus_of cs) (from-r- cs rest) (2 * length cs) (2 * i) (2 * (length cs + i)) (length-column_bytes r_plus_of cs) (omega arith)
        ∙ column-at r_minus_of cs (from-lapses cs rest) i l

    lapses-in : byte_at (image_of h cs lapses ++ rest) (lapses_place (length cs) i) ≡ lapses i
    lapses-in =
        let n = length cs in
        ap (λ (x : List ℕ). byte_at x (lapses_place n i)) (in_a_row h cs rest)
        ∙ behind-byte (header_bytes h) (kinds_bytes cs ++ from-e+ cs rest) header_size (n / 4 + 8 * n + i) (lapses_place n i) (length-header_bytes version h) (omega arith)
        ∙ behind-byte (kinds_bytes cs) (from-e+ cs rest) (n / 4) (8 * n + i) (n / 4 + 8 * n + i) (length-kinds_bytes cs) (omega arith)
        ∙ behind-byte (column_bytes e_plus_of cs) (from-e- cs rest) (2 * n) (6 * n + i) (8 * n + i) (length-column_bytes e_plus_of cs) (omega arith)
        ∙ behind-byte (column_bytes e_minus_of cs) (from-r+ cs rest) (2 * n) (4 * n + i) (6 * n + i) (length-column_bytes e_minus_of cs) (omega arith)
        ∙ behind-byte (column_bytes r_plus_of cs) (from-r- cs rest) (2 * n) (2 * n + i) (4 * n + i) (length-column_bytes r_plus_of cs) (omega arith)
        ∙ behind-byte (column_bytes r_minus_of cs) (from-lapses cs rest) (2 * n) i (2 * n + i) (length-column_bytes r_minus_of cs) refl
        ∙ lapses-at 0 cs lapses rest i l
        ∙ ap lapses (zero-add i)

    -- its i-th cell is the i-th cell, with its lapses
    pub image-parts : length cs % 4 ≡ 0 → IsCell (get_or cs i Gap) → parts_at (length cs) (image_of h cs lapses ++ rest) i ≡ parts_of (get_or cs i Gap) (lapses i)
    image-parts m is =
        let f = counts-fit (get_or cs i Gap) is.fits in
        let k = kind-in m in
        let e₁ = e+-in ∙ small (e_plus_of (get_or cs i Gap)) f.e_plus in
        let e₂ = e--in ∙ small (e_minus_of (get_or cs i Gap)) f.e_minus in
        let e₃ = r+-in ∙ small (r_plus_of (get_or cs i Gap)) f.r_plus in
        let e₄ = r--in ∙ small (r_minus_of (get_or cs i Gap)) f.r_minus in
        let x = lapses-in in
        λ t. record { kind = k t; e+ = e₁ t; e- = e₂ t; r+ = e₃ t; r- = e₄ t; lapses = x t }

  -- read
  module _ (h : Header) (cs : List Cell) (e : is_header h ≡ true) (count : length cs ≡ cells_of h) where
    says : cells_at (image_of h cs lapses) ≡ length cs
    says = cells_at_lem (image_of h cs lapses) h (sound-image h cs e count) ∙ sym count

    fours : length cs % 4 ≡ 0
    fours = ap (λ (n : ℕ). n % 4) count ∙ cells-fours h

    -- its header says as many cells as it was made of, whatever stands behind it
    pub says-front : (rest : List ℕ) → cells_at (image_of h cs lapses ++ rest) ≡ length cs
    unfolding image_of cells_at
    says-front rest =
        ap (λ (x : List ℕ). cells_of (header_at x)) (append_assoc (header_bytes h) (cells_bytes cs lapses) rest)
        ∙ ap cells_of (header_at-bytes version h (cells_bytes cs lapses ++ rest) (header-ranges h e).ke-to)
        ∙ sym count

    -- what stands behind it is no part of its cells
    pub cell_at-front : (rest : List ℕ) (i : ℕ) → i < length cs → IsCell (get_or cs i Gap) → cell_at (image_of h cs lapses ++ rest) i ≡ Some (get_or cs i Gap)
    cell_at-front rest i l is =
        cell_at-among (image_of h cs lapses ++ rest) (length cs) (says-front rest) i
        ∙ cell_in (length cs) (image_of h cs lapses ++ rest) i l
        ∙ ap cell_from (image-parts h cs rest i l fours is)
        ∙ kind_cell-of (get_or cs i Gap) is.right

    -- its i-th cell is read as the one that it was made of
    pub cell_at-image : (i : ℕ) → i < length cs → IsCell (get_or cs i Gap) → cell_at (image_of h cs lapses) i ≡ Some (get_or cs i Gap)
    cell_at-image i l is = ap (λ (s : List ℕ). cell_at s i) (sym (append-nil (image_of h cs lapses))) ∙ cell_at-front [] i l is

    -- and so are its lapses
    pub lapses_at-image : (i : ℕ) → i < length cs → lapses_at (image_of h cs lapses) i ≡ lapses i
    lapses_at-image i l =
        lapses_at-among (image_of h cs lapses) (length cs) says i
        ∙ lapses-in-log (length cs) (image_of h cs lapses) i l
        ∙ ap (λ (s : List ℕ). byte_at s (lapses_place (length cs) i)) (sym (append-nil (image_of h cs lapses)))
        ∙ lapses-in h cs [] i l

-- only the lapses of its own indices matter
lapses-alike : (a b : ℕ → ℕ) (i : ℕ) (cs : List Cell) → ((j : ℕ) → i ≤ j → j < i + length cs → a j ≡ b j) → lapses_bytes i cs a ≡ lapses_bytes i cs b
unfolding lapses_bytes
lapses-alike a b i [] k = refl
lapses-alike a b i (c ∷ cs) k =
    ap₂ (λ (n : ℕ) (x : List ℕ). n ∷ x) (k i (omega arith) (omega arith)) (lapses-alike a b (suc i) cs (λ j l m. k j (omega arith) (omega arith)))

-- lapses that are alike at its own cells make the same image
pub image-alike : (h : Header) (cs : List Cell) (a b : ℕ → ℕ) → ((j : ℕ) → j < length cs → a j ≡ b j) → image_of h cs a ≡ image_of h cs b
unfolding image_of cells_bytes
image-alike h cs a b k =
    let e = lapses-alike a b 0 cs (λ j l m. k j (omega arith)) in
    ap (λ (x : List ℕ). header_bytes h ++ (kinds_bytes cs ++ (column_bytes e_plus_of cs ++ (column_bytes e_minus_of cs ++ (column_bytes r_plus_of cs ++ (column_bytes r_minus_of cs ++ x)))))) e

-- ---- cells put one behind the other

-- its first bytes are the header's
image-head : (h : Header) (cs : List Cell) (lapses : ℕ → ℕ) (rest : List ℕ) (q : ℕ) → q < header_size → byte_at (image_of h cs lapses ++ rest) q ≡ byte_at (header_bytes h) q
image-head h cs lapses rest q l =
    let more = kinds_bytes cs ++ from-e+ lapses cs rest in
    ap (λ (x : List ℕ). byte_at x q) (in_a_row lapses h cs rest) ∙ get_or-append (header_bytes h) more 0 q (omega (arith, length-header_bytes version h))

-- bytes with a header, with all the cells that it says and their lapses, and behind them what was there: however they were laid, they are the image
pub image-laid : (s u : List ℕ) (h : Header) (cs : List Cell) (lapses : ℕ → ℕ) → Bytes s → Bytes u → is_header h ≡ true → length cs ≡ cells_of h → AllCells cs
    → LapsesFit lapses → length_of h ≤ length s → length u ≡ length s
    → ((q : ℕ) → q < header_size → byte_at u q ≡ byte_at (header_bytes h) q)
    → ((q : ℕ) → length_of h ≤ q → byte_at u q ≡ byte_at s q)
    → ((i : ℕ) → i < length cs → parts_at (length cs) u i ≡ parts_of (get_or cs i Gap) (lapses i))
    → u ≡ written s 0 (image_of h cs lapses)
unfolding length_of
image-laid s u h cs lapses bs bu right count each fit room long head behind parts =
    let image = image_of h cs lapses in
    let v = written s 0 image in
    let n = length cs in
    let size : length image ≡ size_for n = length-image_of lapses h cs in
    let enough : size_for n ≤ length s = rw (sym count) at room in
    let front : v ≡ image ++ drop (0 + length image) s = written-fits s 0 image (omega (arith, size)) in
    let four : n % 4 ≡ 0 = ap (λ (k : ℕ). k % 4) count ∙ cells-fours h in
    same_bytes u v bu (bytes-written s 0 image bs (bytes-image lapses h cs fit right)) n four
    (λ i l. parts i l ∙ sym (ap (λ (x : List ℕ). parts_at n x i) front ∙ image-parts lapses h cs (drop (0 + length image) s) i l four (each i l)))
    (long ∙ sym (length-written s 0 image))
    (λ q l. head q l ∙ sym (ap (λ (x : List ℕ). byte_at x q) front ∙ image-head h cs lapses (drop (0 + length image) s) q l))
    (λ q l. behind q (rw (sym count) l) ∙ sym (byte_at-kept s 0 image q (inr (omega (arith, size)))))

-- the first i of some cells with their lapses, put one behind the other over bytes whose header, and whose rest behind all of the cells, stay
pub record Laid (s u : List ℕ) (cs : List Cell) (lapses : ℕ → ℕ) (i : ℕ) : Type 0 where
  pub bytes : Bytes u
  pub long : length u ≡ length s
  pub head : (q : ℕ) → q < header_size → byte_at u q ≡ byte_at s q
  pub behind : (q : ℕ) → size_for (length cs) ≤ q → byte_at u q ≡ byte_at s q
  pub parts : (j : ℕ) → j < i → parts_at (length cs) u j ≡ parts_of (get_or cs j Gap) (lapses j)

-- before the first cell is put all is as it was
pub none-laid : (s : List ℕ) (cs : List Cell) (lapses : ℕ → ℕ) → Bytes s → Laid s s cs lapses 0
none-laid s cs lapses b = record { bytes = b; long = refl; head = λ q l. refl; behind = λ q l. refl; parts = λ j l. absurd (omega arith) }

-- one cell more, with its lapses
pub one-laid : (s u w : List ℕ) (cs : List Cell) (lapses : ℕ → ℕ) (i : ℕ) (c : Cell) → Laid s u cs lapses i → Room s (length cs) → i < length cs → Bytes w
    → get_or cs i Gap ≡ c → IsCell c → w ≡ put_lapses_among (length cs) (put_cell_among (length cs) u i c) i (lapses i) → Laid s w cs lapses (i + 1)
one-laid s u w cs lapses i c laid room l b here is p =
    record {
      bytes = b;
      long = ap length p ∙ length-put_lapses_among n put i (lapses i) ∙ length-put_cell_among n u i c ∙ laid.long;
      head = λ q m. stays q (before-off n i q (omega arith)) (λ e. omega arith) (λ e. omega arith) ∙ laid.head q m;
      behind = λ q m. stays q (behind-off n i q l (omega arith)) (λ e. omega (arith, room.fours)) (λ e. omega arith) ∙ laid.behind q m;
      parts = λ j m. go j m (eqb j i) refl;
    }
  where
    n : ℕ
    n = length cs

    put : List ℕ
    put = put_cell_among n u i c

    has : Room u n
    has = room-kept s u n laid.long room

    after : Room put n
    after = room-kept u put n (length-put_cell_among n u i c) has

    stays : (q : ℕ) → Off n i q → (q ≡ kind_place i → ⊥) → (q ≡ lapses_place n i → ⊥) → byte_at w q ≡ byte_at u q
    stays q off kind late = ap (λ (x : List ℕ). byte_at x q) p ∙ byte-lapses n put after i l (lapses i) q late ∙ byte-stays n u has i l c q off kind

    go : (j : ℕ) → j < i + 1 → (a : Bool) → eqb j i ≡ a → parts_at n w j ≡ parts_of (get_or cs j Gap) (lapses j)
    go j m true e =
        let same = eqb-true j i e in
        ap (λ (x : List ℕ). parts_at n x j) p
        ∙ ap (parts_at n (put_lapses_among n put i (lapses i))) same
        ∙ lapses-there n put after i l (lapses i)
        ∙ ap (λ (x : Parts). lapsed x (lapses i)) (parts-there n u has i l c is.fits)
        ∙ ap (λ (x : Cell). parts_of x (lapses i)) (sym here)
        ∙ ap (λ (k : ℕ). parts_of (get_or cs k Gap) (lapses k)) (sym same)
    go j m false e =
        let other = eqb-false j i e in
        let before : j < i = omega (arith, other) in
        ap (λ (x : List ℕ). parts_at n x j) p
        ∙ lapses-elsewhere n put after i l (lapses i) j (omega arith) other
        ∙ parts-elsewhere n u has i l c j (omega arith) other
        ∙ laid.parts j before

-- a header, and behind it all the cells that it says: the image
pub all_laid : (s t u : List ℕ) (h : Header) (cs : List Cell) (lapses : ℕ → ℕ) → Bytes s → is_header h ≡ true → length cs ≡ cells_of h → AllCells cs
    → LapsesFit lapses → length_of h ≤ length s → t ≡ written s 0 (header_bytes h) → Laid t u cs lapses (length cs) → u ≡ written s 0 (image_of h cs lapses)
unfolding length_of
all_laid s t u h cs lapses b right count each fit room p laid =
    let top = length-header_bytes version h in
    image-laid s u h cs lapses b laid.bytes right count each fit room (laid.long ∙ ap length p ∙ length-written s 0 (header_bytes h))
    (λ q l. laid.head q l ∙ ap (λ (x : List ℕ). byte_at x q) p ∙ head q l)
    (λ q l. laid.behind q (omega (arith, count)) ∙ ap (λ (x : List ℕ). byte_at x q) p ∙ byte_at-kept s 0 (header_bytes h) q (inr (omega (arith, top))))
    laid.parts
  where
    head : (q : ℕ) → q < header_size → byte_at (written s 0 (header_bytes h)) q ≡ byte_at (header_bytes h) q
    head q l =
        let top = length-header_bytes version h in
        let z : 0 + q ≡ q = omega arith in
        sym (ap (byte_at (written s 0 (header_bytes h))) z) ∙ byte_at-written s 0 (header_bytes h) q (omega (arith, top)) (omega arith)

-- bytes written over all of a list
over : (s bs : List ℕ) → length bs ≡ length s → written s 0 bs ≡ bs
over s bs e =
    written-fits s 0 bs (omega arith)
    ∙ ap (λ (x : List ℕ). bs ++ x) (drop_of_length-le s {i = 0 + length bs} (omega arith))
    ∙ append-nil bs

-- ---- a log is the image of its header, its cells and their lapses

-- what is seen one after the other, one by one
seen_one : (cell : ℕ → Option Cell) (k n : ℕ) (cs : List Cell) → seen_from cell k n ≡ map Some cs
    → (length cs ≡ n) × ((i : ℕ) → i < n → cell (k + i) ≡ Some (get_or cs i Gap))
unfolding seen_from
seen_one cell k zero [] p = (refl, λ i l. absurd (omega arith))
seen_one cell k zero (c ∷ cs) p = let z : ◌≡◌ {A = ℕ} 0 1 = cc in absurd (omega arith)
seen_one cell k (suc n) [] p = let z : ◌≡◌ {A = ℕ} 0 1 = cc in absurd (omega arith)
seen_one cell k (suc n) (c ∷ cs) p =
    let first : cell k ≡ Some c = cc in
    let others : seen_from cell (suc k) n ≡ map Some cs = cc in
    let w = seen_one cell (suc k) n cs others in
    (ap suc w.0, each first w.1)
  where
    each : cell k ≡ Some c → ((i : ℕ) → i < n → cell (suc k + i) ≡ Some (get_or cs i Gap)) → (i : ℕ) → i < suc n → cell (k + i) ≡ Some (get_or (c ∷ cs) i Gap)
    each first others zero l = ap cell (add-zero k) ∙ first
    each first others (suc i) l =
        let e : suc k + i ≡ k + suc i = omega arith in
        sym (ap cell e) ∙ others i (omega arith)

module _ (s : List ℕ) (bytes : Bytes s) where
  -- a cell that is read is one
  pub read-is-cell : (i : ℕ) (c : Cell) → cell_at s i ≡ Some c → IsCell c
  unfolding cell_at
  read-is-cell i c p =
      let n = cells_at s in
      let k = kind-of _ _ _ _ _ c (good-below kind_cell n s i c p).1 in
      let f : CountsFit (count_at n s i) (count_at n s (n + i)) (count_at n s (2 * n + i)) (count_at n s (3 * n + i)) =
      record { e_plus = two-below s _ bytes; e_minus = two-below s _ bytes; r_plus = two-below s _ bytes; r_minus = two-below s _ bytes } in
      record { right = k.right; fits = k.fits f }

  read-parts : (n i : ℕ) (c : Cell) → cell_among n s i ≡ Some c → parts_at n s i ≡ parts_of c (byte_at s (lapses_place n i))
  read-parts n i c p =
      let k = kind-of _ _ _ _ _ c (good-below kind_cell n s i c p).1 in
      λ t. record { kind = k.kind-is t; e+ = k.e+-is t; e- = k.e--is t; r+ = k.r+-is t; r- = k.r--is t; lapses = byte_at s (lapses_place n i) }

  -- lapses that are read fit a byte
  pub lapses-fit : LapsesFit (lapses_at s)
  unfolding lapses_at lapses_among
  lapses-fit i = go (cells_at s) (ltb i (cells_at s))
    where
      go : (n : ℕ) (b : Bool) → cond b (byte_at s (lapses_place n i)) 0 < 256
      go n true = bytes (lapses_place n i)
      go n false = omega arith

  -- a log whose cells are all good is the image of its header, of these cells and of their lapses
  pub image-of-log : (h : Header) (cs : List Cell) → sound_of s ≡ Some h → seen_from (cell_at s) 0 (cells_of h) ≡ map Some cs → s ≡ image_of h cs (lapses_at s)
  unfolding length_of
  image-of-log h cs p q =
      let w = seen_one (cell_at s) 0 (cells_of h) cs q in
      let l = sound-log s h p in
      let lapses = lapses_at s in
      let n = length cs in
      let count : n ≡ cells_of h = w.0 in
      let four : n % 4 ≡ 0 = ap (λ (k : ℕ). k % 4) count ∙ cells-fours h in
      let says : cells_at s ≡ n = cells_at_lem s h p ∙ sym count in
      let seen : (i : ℕ) → i < n → cell_at s i ≡ Some (get_or cs i Gap) = λ i m. rw zero-add at (w.1 i (rw (sym count) m)) in
      let each : AllCells cs = λ i m. read-is-cell i (get_or cs i Gap) (seen i m) in
      let size : length s ≡ size_for n = l.size ∙ ap (λ (k : ℕ). size_for k) (sym count) in
      let head : (j : ℕ) → j < header_size → byte_at s j ≡ byte_at (header_bytes h) j =
      λ j m. sym (get_or-take header_size s j 0 m) ∙ ap (λ (x : List ℕ). byte_at x j) (sound-front s h bytes p) in
      let parts : (i : ℕ) → i < n → parts_at n s i ≡ parts_of (get_or cs i Gap) (lapses i) =
      λ i m. read-parts n i (get_or cs i Gap) (sym (cell_at-among s n says i) ∙ seen i m)
      ∙ ap (parts_of (get_or cs i Gap)) (sym (lapses_at-among s n says i ∙ lapses-in-log n s i m)) in
      image-laid s s h cs lapses bytes bytes l.ranges count each lapses-fit (omega (arith, l.size)) refl head (λ j m. refl) parts
      ∙ over s (image_of h cs lapses) (length-image_of lapses h cs ∙ sym size)

-- ---- what `&mut s[a..a + k]` and `&mut s[a..]` leave of s where bytes were written to the front of the part

module _ (s : List ℕ) (a : ℕ) (bs part : List ℕ) where
  -- what was written to the part is written to s at the part's place
  pub part-put : (k : ℕ) → length bs ≤ k → part ≡ written (take k (drop a s)) 0 bs → take a s ++ (part ++ drop k (drop a s)) ≡ written s a bs
  part-put k l p =
      let fits : 0 + length bs ≤ k = omega arith in
      ap (λ (x : List ℕ). take a s ++ (x ++ drop k (drop a s))) p ∙ written-part a k s 0 bs fits ∙ ap (λ (n : ℕ). written s n bs) (add-zero a)
