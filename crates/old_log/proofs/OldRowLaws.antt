-- The laws of the old layout: what is seen after a change is what was seen, so changed, and what is seen of an image is its header, cells and lapses.
use Prim.Native.Nat.{ℕ, zero, suc, ◌+◌, ◌*◌, ◌≤◌, ◌<◌}
use native.Mathlib.Nat.{add-zero, zero-add}
use native.Mathlib.Omega.{arith}
use mathlib.Core.Path.{◌≡◌, refl, sym, ap, ap₂, ◌∙◌}
use mathlib.Core.Bool.{Bool, true, false, cond, ◌&&◌}
use mathlib.Core.List.{List, [], ◌∷◌, ◌++◌, append_assoc}
use mathlib.Core.Logic.{inl, inr}
use lib.Dec.{ltb, eqb}
use lib.ListN.{length, get_or, take, drop, length-append, length-take, length-drop, get_or-eq_default}
use lib.Seq.{take_at, drop-nil, drop-cons, drop-append-add, get_or-drop, get_or-append_seam}
use borrow.Author.Tests.{ltb-true, ltb-false, eqb-true, eqb-false, eq-eqb, ne_eqb}
use Rattle.std.specs.Prelude.{None, Some}
use Rattle.test_laws.proofs.Test.{chosen}
use Rattle.byte_numbers.specs.Place.{byte_at, number_at, written}
use Rattle.byte_numbers.proofs.PlaceLaws.{length-written, part-kept, part-written, byte_at-kept, byte_at-written, number_at-kept}
use Rattle.log_header.specs.Header.{header_size, version, cells_of, is_header, header_bytes, header_at, mark_right, version_right, fields_right, header_of}
use Rattle.log_header.proofs.HeaderLaws.{length-header_bytes, mark-right, version-right, header-right}
use Rattle.log_cell.specs.Cell.{counts_size, cell_size, cell_of, counts_bytes, cell_bytes, IsCell}
use Rattle.log_cell.proofs.CellLaws.{length-counts_bytes, length-cell_bytes, cell_of-bytes}
use Rattle.energy_log.specs.Image.{AllCells}
use Rattle.energy_log.specs.View.{View}
use Rattle.energy_log.proofs.ViewLaws.{changed, Holds, cell_in, cell_in_lem, none_in, view_by, same_view, within}
use Rattle.old_log.specs.OldRows.{length_of, fitted_to, sound_of, cell_start, lapses_place, cell_at, lapses_at, view_of, put_cell, put_lapses, applied, cells_bytes, image_of}
use Rattle.log_header.specs.declared.header.Header.{Header}
use Rattle.log_cell.specs.declared.cell.Cell.{Cell}
use Rattle.log_cell.specs.declared.cell.Cell.TheVariants.{Gap}
use Rattle.energy_log.specs.declared.image.Change.{Change}
use Rattle.energy_log.specs.declared.image.Change.TheVariants.{None, Put, Lapses}

-- ---- an old log is as long as its header says

unsound≢sound : (h : Header) → None ≡ Some h → ⊥
unsound≢sound h p = let z : ◌≡◌ {A = ℕ} 0 1 = cc in omega arith

fitted-right : (f : Bool) (n : ℕ) (x h : Header) → fitted_to n (cond f (Some x) None) ≡ Some h
    → cond (eqb n (length_of x)) (Some x) None ≡ Some h
unfolding fitted_to
fitted-right true n x h p = p
fitted-right false n x h p = absurd (unsound≢sound h p)

-- a log is as long as its header says
pub sound-size : (s : List ℕ) (h : Header) → sound_of s ≡ Some h → length s ≡ length_of h
unfolding sound_of header_of
sound-size s h p =
    let a = chosen (mark_right s && version_right s) (fitted_to (length s) (header_of s)) None p (unsound≢sound h) in
    let b = fitted-right (fields_right s) (length s) (header_at s) h a.1 in
    let c = chosen (eqb (length s) (length_of (header_at s))) (Some (header_at s)) None b (unsound≢sound h) in
    let e : header_at s ≡ h = cc c.1 in
    eqb-true _ _ c.0 ∙ ap length_of e

-- what is written behind the header leaves it, and the length
module _ (s : List ℕ) (a : ℕ) (bs : List ℕ) (l : header_size ≤ a) where
  byte-kept : (j : ℕ) → j < header_size → byte_at (written s a bs) j ≡ byte_at s j
  byte-kept j h = byte_at-kept s a bs j (inl (omega arith))

  number-kept : (j : ℕ) → j + 2 ≤ header_size → number_at (written s a bs) j 2 ≡ number_at s j 2
  number-kept j h = number_at-kept s a bs j 2 (inl (omega arith))

  header_at-kept : header_at (written s a bs) ≡ header_at s
  unfolding header_at
  header_at-kept =
      let day = byte-kept 7 (omega arith) in
      let ke = number-kept 10 (omega arith) in
      simp (byte-kept 5 (omega arith), byte-kept 6 (omega arith), day, byte-kept 8 (omega arith), byte-kept 9 (omega arith), ke, byte-kept 12 (omega arith))

  sound_of-kept : sound_of (written s a bs) ≡ sound_of s
  unfolding sound_of mark_right version_right header_of fields_right
  sound_of-kept =
      simp (byte-kept 0 (omega arith), byte-kept 1 (omega arith), byte-kept 2 (omega arith), number-kept 3 (omega arith), header_at-kept, byte-kept 13 (omega arith), length-written)

-- the header and the length stay, whatever the index
sound_of-put_cell : (s : List ℕ) (i : ℕ) (c : Cell) → sound_of (put_cell s i c) ≡ sound_of s
unfolding put_cell
sound_of-put_cell s i c = sound_of-kept s (cell_start i) (counts_bytes c) (omega arith)

sound_of-put_lapses : (s : List ℕ) (i n : ℕ) → sound_of (put_lapses s i n) ≡ sound_of s
unfolding put_lapses
sound_of-put_lapses s i n = sound_of-kept s (lapses_place i) (n ∷ []) (omega arith)

-- ---- what is read

-- cell i lies in a log that has so many
cell-within : (s : List ℕ) (h : Header) (i : ℕ) → sound_of s ≡ Some h → i < cells_of h → cell_start i + cell_size ≤ length s
unfolding length_of
cell-within s h i p l = omega (arith, sound-size s h p)

-- past the end there is no cell and no lapse
short : (s : List ℕ) (i : ℕ) → length s < cell_start i + counts_size → eqb (length (take counts_size (drop (cell_start i) s))) counts_size ≡ false
short s i h =
    let e : length (take counts_size (drop (cell_start i) s)) < counts_size = simp (length-take, length-drop) (omega arith) in
    ne_eqb (length (take counts_size (drop (cell_start i) s))) counts_size (λ q. omega arith)

cell_at-past : (s : List ℕ) (i : ℕ) → length s < cell_start i + counts_size → cell_at s i ≡ None
unfolding cell_at cell_of
cell_at-past s i h = simp (short s i h)

lapses_at-past : (s : List ℕ) (i : ℕ) → length s ≤ lapses_place i → lapses_at s i ≡ 0
lapses_at-past s i h = get_or-eq_default s 0 {n = lapses_place i} h

cell_at-put : (s : List ℕ) (i : ℕ) (c : Cell) → IsCell c → cell_start i + cell_size ≤ length s → cell_at (put_cell s i c) i ≡ Some c
unfolding cell_at put_cell
cell_at-put s i c k h =
    ap (λ (n : ℕ). cell_of (take n (drop (cell_start i) (written s (cell_start i) (counts_bytes c))))) (sym (length-counts_bytes c))
    ∙ ap cell_of (part-written s (cell_start i) (counts_bytes c) (omega (arith, length-counts_bytes c)))
    ∙ cell_of-bytes c k

-- every other cell stays
cell_at-put-other : (s : List ℕ) (i j : ℕ) (c : Cell) → (j ≡ i → ⊥) → cell_at (put_cell s i c) j ≡ cell_at s j
unfolding cell_at put_cell
cell_at-put-other s i j c ne = ap cell_of (go (ltb j i) refl)
  where
    go : (b : Bool) → ltb j i ≡ b
        → take counts_size (drop (cell_start j) (written s (cell_start i) (counts_bytes c))) ≡ take counts_size (drop (cell_start j) s)
    go true e = part-kept s (cell_start i) (counts_bytes c) (cell_start j) counts_size (inl (omega (arith, ltb-true j i e)))
    go false e =
        let n : i < j = omega (arith, ltb-false j i e, ne) in
        part-kept s (cell_start i) (counts_bytes c) (cell_start j) counts_size (inr (omega (arith, length-counts_bytes c)))

-- and so do all lapses
lapses_at-put : (s : List ℕ) (i j : ℕ) (c : Cell) → lapses_at (put_cell s i c) j ≡ lapses_at s j
unfolding put_cell
lapses_at-put s i j c = go (ltb j i) refl
  where
    go : (b : Bool) → ltb j i ≡ b → byte_at (written s (cell_start i) (counts_bytes c)) (lapses_place j) ≡ byte_at s (lapses_place j)
    go true e = byte_at-kept s (cell_start i) (counts_bytes c) (lapses_place j) (inl (omega (arith, ltb-true j i e)))
    go false e = byte_at-kept s (cell_start i) (counts_bytes c) (lapses_place j) (inr (omega (arith, ltb-false j i e, length-counts_bytes c)))

-- lapses that are put are there, and no other lapses and no cell change
lapses_at-lapses : (s : List ℕ) (i n : ℕ) → cell_start i + cell_size ≤ length s → lapses_at (put_lapses s i n) i ≡ n
unfolding put_lapses
lapses_at-lapses s i n h =
    ap (byte_at (written s (lapses_place i) (n ∷ []))) (sym (add-zero (lapses_place i))) ∙ byte_at-written s (lapses_place i) (n ∷ []) 0 (omega arith) (omega arith)

lapses_at-lapses-other : (s : List ℕ) (i j n : ℕ) → (j ≡ i → ⊥) → lapses_at (put_lapses s i n) j ≡ lapses_at s j
unfolding put_lapses
lapses_at-lapses-other s i j n ne = go (ltb j i) refl
  where
    go : (b : Bool) → ltb j i ≡ b → byte_at (written s (lapses_place i) (n ∷ [])) (lapses_place j) ≡ byte_at s (lapses_place j)
    go true e = byte_at-kept s (lapses_place i) (n ∷ []) (lapses_place j) (inl (omega (arith, ltb-true j i e)))
    go false e =
        let m : i < j = omega (arith, ltb-false j i e, ne) in
        byte_at-kept s (lapses_place i) (n ∷ []) (lapses_place j) (inr (omega arith))

cell_at-lapses : (s : List ℕ) (i j n : ℕ) → cell_at (put_lapses s i n) j ≡ cell_at s j
unfolding cell_at put_lapses
cell_at-lapses s i j n = ap cell_of (go (ltb i j) refl)
  where
    go : (b : Bool) → ltb i j ≡ b
        → take counts_size (drop (cell_start j) (written s (lapses_place i) (n ∷ []))) ≡ take counts_size (drop (cell_start j) s)
    go true e = part-kept s (lapses_place i) (n ∷ []) (cell_start j) counts_size (inr (omega (arith, ltb-true i j e)))
    go false e = part-kept s (lapses_place i) (n ∷ []) (cell_start j) counts_size (inl (omega (arith, ltb-false i j e)))

-- ---- the old image of a header, its cells and their lapses

module _ (lapses : ℕ → ℕ) where
  length-cells_bytes : (i : ℕ) (cs : List Cell) → length (cells_bytes i cs lapses) ≡ cell_size * length cs
  unfolding cells_bytes
  length-cells_bytes i [] = refl
  length-cells_bytes i (c ∷ cs) =
      length-append (cell_bytes c (lapses i)) (cells_bytes (suc i) cs lapses) ∙ omega (arith, length-cell_bytes c (lapses i), length-cells_bytes (suc i) cs)

  -- the old image's length, by which it is a log
  pub length-image_of : (h : Header) (cs : List Cell) → length (image_of h cs lapses) ≡ header_size + cell_size * length cs
  unfolding image_of
  length-image_of h cs = length-append (header_bytes h) (cells_bytes 0 cs lapses) ∙ omega (arith, length-header_bytes version h, length-cells_bytes 0 cs)

  -- it is a log
  sound-image : (h : Header) (cs : List Cell) → is_header h ≡ true → length cs ≡ cells_of h → sound_of (image_of h cs lapses) ≡ Some h
  unfolding image_of sound_of fitted_to length_of
  sound-image h cs e l =
      let rest = cells_bytes 0 cs lapses in
      let size : length (header_bytes h ++ rest) ≡ length_of h = length-image_of h cs ∙ ap (λ (n : ℕ). header_size + cell_size * n) l in
      simp (mark-right version h rest, version-right h rest, header-right version h rest e, eq-eqb _ _ size)

  drop-cell : (i : ℕ) (c : Cell) (cs : List Cell) (n : ℕ) → drop (cell_size + n) (cells_bytes i (c ∷ cs) lapses) ≡ drop n (cells_bytes (suc i) cs lapses)
  unfolding cells_bytes
  drop-cell i c cs n =
      let first = cell_bytes c (lapses i) in
      let others = cells_bytes (suc i) cs lapses in
      ap (λ (k : ℕ). drop (k + n) (first ++ others)) (sym (length-cell_bytes c (lapses i))) ∙ drop-append-add first others n

  drop_cells : (i : ℕ) (cs : List Cell) (j : ℕ) → drop (cell_size * j) (cells_bytes i cs lapses) ≡ cells_bytes (i + j) (drop j cs) lapses
  unfolding cells_bytes
  drop_cells i cs zero = ap (λ (k : ℕ). cells_bytes k cs lapses) (sym (add-zero i))
  drop_cells i [] (suc j) = drop-nil {A = ℕ} (cell_size * suc j)
  drop_cells i (c ∷ cs) (suc j) =
      let e : cell_size * suc j ≡ cell_size + cell_size * j = omega arith in
      let f : suc i + j ≡ i + suc j = omega arith in
      ap (λ (n : ℕ). drop n (cells_bytes i (c ∷ cs) lapses)) e
      ∙ drop-cell i c cs (cell_size * j)
      ∙ drop_cells (suc i) cs j
      ∙ ap (λ (k : ℕ). cells_bytes k (drop j cs) lapses) f

  -- behind the header the cells' bytes follow
  drop-header : (h : Header) (cs : List Cell) (n : ℕ) → drop (header_size + n) (image_of h cs lapses) ≡ drop n (cells_bytes 0 cs lapses)
  unfolding image_of
  drop-header h cs n =
      ap (λ (k : ℕ). drop (k + n) (header_bytes h ++ cells_bytes 0 cs lapses)) (sym (length-header_bytes version h))
      ∙ drop-append-add (header_bytes h) (cells_bytes 0 cs lapses) n

  -- from its i-th cell on
  from_cell : (h : Header) (cs : List Cell) (i : ℕ) → i < length cs
      → drop (cell_start i) (image_of h cs lapses) ≡ counts_bytes (get_or cs i Gap) ++ (lapses i ∷ cells_bytes (suc i) (drop (suc i) cs) lapses)
  unfolding cells_bytes cell_bytes
  from_cell h cs i l =
      drop-header h cs (cell_size * i)
      ∙ drop_cells 0 cs i
      ∙ ap₂ (λ (k : ℕ) (x : List Cell). cells_bytes k x lapses) (zero-add i) (drop-cons cs i Gap l)
      ∙ append_assoc (counts_bytes (get_or cs i Gap)) (lapses i ∷ []) (cells_bytes (suc i) (drop (suc i) cs) lapses)

  -- its i-th cell is the i-th cell, with its lapses
  cell_at-image : (h : Header) (cs : List Cell) (i : ℕ) → i < length cs → IsCell (get_or cs i Gap) → cell_at (image_of h cs lapses) i ≡ Some (get_or cs i Gap)
  unfolding cell_at
  cell_at-image h cs i l k =
      let c = get_or cs i Gap in
      ap (λ (x : List ℕ). cell_of (take counts_size x)) (from_cell h cs i l)
      ∙ ap cell_of (take_at (counts_bytes c) (lapses i ∷ cells_bytes (suc i) (drop (suc i) cs) lapses) counts_size (length-counts_bytes c))
      ∙ cell_of-bytes c k

  lapses_at-image : (h : Header) (cs : List Cell) (i : ℕ) → i < length cs → lapses_at (image_of h cs lapses) i ≡ lapses i
  lapses_at-image h cs i l =
      let c = get_or cs i Gap in
      let rest = lapses i ∷ cells_bytes (suc i) (drop (suc i) cs) lapses in
      sym (get_or-drop (cell_start i) (image_of h cs lapses) counts_size 0)
      ∙ ap (λ (x : List ℕ). byte_at x counts_size) (from_cell h cs i l)
      ∙ ap (byte_at (counts_bytes c ++ rest)) (sym (length-counts_bytes c))
      ∙ get_or-append_seam (counts_bytes c) (lapses i) (cells_bytes (suc i) (drop (suc i) cs) lapses) 0

-- ---- what is seen

-- what is seen of a log with this header
abbrev seen_of : Header → List ℕ → View
seen_of h s = record { lent = Some h; cell = cell_at s; lapses = lapses_at s }

seen_of_lem : (s : List ℕ) (h : Header) → sound_of s ≡ Some h → view_of s ≡ seen_of h s
seen_of_lem s h p = rw p

module _ (s : List ℕ) (h : Header) (i : ℕ) (p : sound_of s ≡ Some h) (l : i < cells_of h) where
  cell-put : (c : Cell) → IsCell c → (j : ℕ) (b : Bool) → eqb j i ≡ b → cell_at (put_cell s i c) j ≡ cond b (Some c) (cell_at s j)
  cell-put c k j true e = ap (cell_at (put_cell s i c)) (eqb-true j i e) ∙ cell_at-put s i c k (cell-within s h i p l)
  cell-put c k j false e = cell_at-put-other s i j c (eqb-false j i e)

  lapses-put : (n j : ℕ) (b : Bool) → eqb j i ≡ b → lapses_at (put_lapses s i n) j ≡ cond b n (lapses_at s j)
  lapses-put n j true e = ap (lapses_at (put_lapses s i n)) (eqb-true j i e) ∙ lapses_at-lapses s i n (cell-within s h i p l)
  lapses-put n j false e = lapses_at-lapses-other s i j n (eqb-false j i e)

  view-put : (c : Cell) → IsCell c → view_of (put_cell s i c) ≡ changed (Put i c) (view_of s)
  unfolding changed
  view-put c k =
      seen_of_lem (put_cell s i c) h (sound_of-put_cell s i c ∙ p)
      ∙ same_view h (λ j. cell-put c k j (eqb j i) refl) (λ j. lapses_at-put s i j c)
      ∙ ap (changed (Put i c)) (sym (seen_of_lem s h p))

  view-lapses : (n : ℕ) → view_of (put_lapses s i n) ≡ changed (Lapses i n) (view_of s)
  unfolding changed
  view-lapses n =
      seen_of_lem (put_lapses s i n) h (sound_of-put_lapses s i n ∙ p)
      ∙ same_view h (λ j. cell_at-lapses s i j n) (λ j. lapses-put n j (eqb j i) refl)
      ∙ ap (changed (Lapses i n)) (sym (seen_of_lem s h p))

-- a change leaves the length
pub length-applied : (ch : Change) (s : List ℕ) → length (applied ch s) ≡ length s
unfolding applied put_cell put_lapses
length-applied None s = refl
length-applied (Put i c) s = length-written s (cell_start i) (counts_bytes c)
length-applied (Lapses i n) s = length-written s (lapses_place i) (n ∷ [])

-- what is seen after a change that the log can hold is what was seen, so changed
pub view-applied : (s : List ℕ) (ch : Change) → Holds (view_of s) ch → view_of (applied ch s) ≡ changed ch (view_of s)
unfolding applied changed
view-applied s None k = refl
view-applied s (Put i c) k = let w = within (sound_of s) i k.0 in view-put s w.0 i w.1.0 w.1.1 c k.1
view-applied s (Lapses i n) k = let w = within (sound_of s) i k.0 in view-lapses s w.0 i w.1.0 w.1.1 n

-- what is seen of an old image is what it was made of, as of a new one
pub view-image : (h : Header) (cs : List Cell) (lapses : ℕ → ℕ) → is_header h ≡ true → length cs ≡ cells_of h → AllCells cs
    → view_of (image_of h cs lapses) ≡ view_by h cs lapses
view-image h cs lapses e l k =
    seen_of_lem (image_of h cs lapses) h (sound-image lapses h cs e l) ∙ same_view h (λ i. cell i (ltb i (length cs)) refl) (λ i. lapsed i (ltb i (length cs)) refl)
  where
    cell : (i : ℕ) (b : Bool) → ltb i (length cs) ≡ b → cell_at (image_of h cs lapses) i ≡ cell_in cs i
    cell i true t = let m = ltb-true i (length cs) t in cell_at-image lapses h cs i m (k i m) ∙ sym (cell_in_lem cs i m)
    cell i false t =
        let m = ltb-false i (length cs) t in
        cell_at-past (image_of h cs lapses) i (omega (arith, length-image_of lapses h cs)) ∙ sym (none_in cs i m)

    lapsed : (i : ℕ) (b : Bool) → ltb i (length cs) ≡ b → lapses_at (image_of h cs lapses) i ≡ cond b (lapses i) 0
    lapsed i true t = lapses_at-image lapses h cs i (ltb-true i (length cs) t)
    lapsed i false t =
        let m = ltb-false i (length cs) t in
        lapses_at-past (image_of h cs lapses) i (omega (arith, length-image_of lapses h cs))
