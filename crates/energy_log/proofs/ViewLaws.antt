-- The laws of this layout, by which other crates know it: what is seen after a change, which bytes a change leaves, that an image is its
-- header and its cells, and what is seen of one.
use Rattle.std.specs.Prelude.{None, Option, Some}
use Prim.Native.Nat.{ℕ, zero, suc, ◌+◌, ◌≤◌, ◌<◌}
use native.Mathlib.Nat.{not-suc-le-zero}
use native.Mathlib.Omega.{arith}
use mathlib.Core.Path.{◌≡◌, refl, sym, ap, ap₂, subst, ◌∙◌, fun_ext}
use mathlib.Core.Bool.{Bool, true, false, cond, false≢true}
use mathlib.Core.List.{List, [], ◌∷◌, map}
use lib.Dec.{eqb, ltb}
use lib.ListN.{length, get_or, take, drop, set, length-set}
use lib.Seq.{drop-cons, get_or-set_same, get_or-set_other}
use borrow.Author.Tests.{ltb-true, ltb-false, eqb-true, eqb-false, ne_eqb}
use Rattle.byte_numbers.specs.Number.{Bytes}
use Rattle.byte_numbers.specs.Place.{byte_at}
use Rattle.log_header.specs.Header.{cells_of, is_header, sound_of}
use Rattle.log_cell.specs.Cell.{IsCell}
use Rattle.energy_log.specs.Pair.{pair_of}
use Rattle.energy_log.specs.Image.{lapses_place, cells_at, cell_at, lapses_at, put_cell_among, put_lapses_among, put_cell, put_lapses, OutsideCell, of_lapses, applied, image_of}
use Rattle.energy_log.specs.Image.{all_good, goods, AllCells, LapsesFit}
use Rattle.energy_log.specs.Walk.{seen_from}
use Rattle.energy_log.specs.View.{View, view_of}
use Rattle.log_cell.proofs.CellLaws.{bad≢good}
use Rattle.energy_log.proofs.ColumnLaws.{outside-stays, byte-lapses}
use Rattle.energy_log.proofs.ImageLaws.{length-put_cell, length-put_lapses, sound_of-put_cell, sound_of-put_lapses, put_cell-among, put_lapses-among, cells_at_lem, room_of, cell_at-past, lapses_at-past}
use Rattle.energy_log.proofs.ImageLaws.{cell_at-put, cell_at-put-other, lapses_at-put, lapses_at-lapses, lapses_at-lapses-other, cell_at-lapses, bytes-put_cell, bytes-put_lapses}
use Rattle.energy_log.proofs.ImageLaws.{read-is-cell, bytes-image, sound-image, cell_at-image, lapses_at-image, image-alike, image-of-log}
use Rattle.log_header.specs.declared.header.Header.{Header}
use Rattle.log_cell.specs.declared.cell.Cell.{Cell}
use Rattle.log_cell.specs.declared.cell.Cell.TheVariants.{Gap}
use Rattle.energy_log.specs.declared.image.Change.{Change}
use Rattle.energy_log.specs.declared.image.Change.TheVariants.{None, Put, Lapses}

-- ---- a change, and what is seen after it

-- what a change does to a view
unfoldable pub changed : Change → View → View
changed None v = v
changed (Put i c) v = record { lent = v.lent; cell = λ j. cond (eqb j i) (Some c) (v.cell j); lapses = v.lapses }
changed (Lapses i n) v = record { lent = v.lent; cell = v.cell; lapses = λ j. cond (eqb j i) n (v.lapses j) }

-- cell i is one of the log's
abbrev pub Within : Option Header → ℕ → Type 0
Within (Some h) i = i < cells_of h
Within None i = ⊥

-- a change that a log with this view can hold
abbrev pub Holds : View → Change → Type 0
Holds v None = Unit
Holds v (Put i c) = Within v.lent i × IsCell c
Holds v (Lapses i n) = Within v.lent i × (n < 256)

-- what is seen of a log with this header
abbrev seen_of : Header → List ℕ → View
seen_of h s = record { lent = Some h; cell = cell_at s; lapses = lapses_at s }

seen_of_lem : (s : List ℕ) (h : Header) → sound_of s ≡ Some h → view_of s ≡ seen_of h s
seen_of_lem s h p = rw p

-- two views with the same cells and the same lapses are one
pub same_view : (h : Header) {a b : ℕ → Option Cell} {m n : ℕ → ℕ} → ((j : ℕ) → a j ≡ b j) → ((j : ℕ) → m j ≡ n j)
    → ◌≡◌ {A = View} (record { lent = Some h; cell = a; lapses = m }) (record { lent = Some h; cell = b; lapses = n })
same_view h p q = ap₂ (λ (f : ℕ → Option Cell) (g : ℕ → ℕ). record { lent = Some h; cell = f; lapses = g }) (fun_ext p) (fun_ext q)

module _ (s : List ℕ) (h : Header) (i : ℕ) (p : sound_of s ≡ Some h) (l : i < cells_of h) where
  cell-put : (c : Cell) → IsCell c → (j : ℕ) (b : Bool) → eqb j i ≡ b → cell_at (put_cell s i c) j ≡ cond b (Some c) (cell_at s j)
  cell-put c k j true e = ap (cell_at (put_cell s i c)) (eqb-true j i e) ∙ cell_at-put s h p i l c k
  cell-put c k j false e = cell_at-put-other s h p i l c j (eqb-false j i e)

  lapses-put : (n j : ℕ) (b : Bool) → eqb j i ≡ b → lapses_at (put_lapses s i n) j ≡ cond b n (lapses_at s j)
  lapses-put n j true e = ap (lapses_at (put_lapses s i n)) (eqb-true j i e) ∙ lapses_at-lapses s h p i l n
  lapses-put n j false e = lapses_at-lapses-other s h p i l n j (eqb-false j i e)

  view-put : (c : Cell) → IsCell c → view_of (put_cell s i c) ≡ changed (Put i c) (view_of s)
  unfolding changed
  view-put c k =
      seen_of_lem (put_cell s i c) h (sound_of-put_cell s i c ∙ p)
      ∙ same_view h (λ j. cell-put c k j (eqb j i) refl) (λ j. lapses_at-put s h p i l c j)
      ∙ ap (changed (Put i c)) (sym (seen_of_lem s h p))

  view-lapses : (n : ℕ) → view_of (put_lapses s i n) ≡ changed (Lapses i n) (view_of s)
  unfolding changed
  view-lapses n =
      seen_of_lem (put_lapses s i n) h (sound_of-put_lapses s i n ∙ p)
      ∙ same_view h (λ j. cell_at-lapses s h p i l n j) (λ j. lapses-put n j (eqb j i) refl)
      ∙ ap (changed (Lapses i n)) (sym (seen_of_lem s h p))

-- a cell of the log is one of a header's
pub within : (a : Option Header) (i : ℕ) → Within a i → (h : Header) × ((a ≡ Some h) × (i < cells_of h))
within None i w = absurd w
within (Some h) i w = (h, (refl, w))

-- what is seen after a change that the log can hold is what was seen, so changed
pub view-applied : (s : List ℕ) (ch : Change) → Holds (view_of s) ch → view_of (applied ch s) ≡ changed ch (view_of s)
unfolding applied changed
view-applied s None k = refl
view-applied s (Put i c) k = let w = within (sound_of s) i k.0 in view-put s w.0 i w.1.0 w.1.1 c k.1
view-applied s (Lapses i n) k = let w = within (sound_of s) i k.0 in view-lapses s w.0 i w.1.0 w.1.1 n

-- ---- the bits that a change leaves

-- the cell that a change is one of
abbrev pub At : Change → ℕ → Type 0
At None i = Unit
At (Put k c) i = k ≡ i
At (Lapses k n) i = k ≡ i

-- past the last cell nothing is put
put-none : (n : ℕ) (s : List ℕ) (m : ℕ) (c : Cell) → ltb m n ≡ false → put_cell_among n s m c ≡ s
unfolding put_cell_among
put-none n s m c e = simp e

lapses-none : (n : ℕ) (s : List ℕ) (m x : ℕ) → ltb m n ≡ false → put_lapses_among n s m x ≡ s
unfolding put_lapses_among
lapses-none n s m x e = simp e

-- a change of one cell of a log leaves every pair of bits that is none of that cell's: every byte outside it, and in the byte of its kind those of the
-- three others
pub elsewhere : (s : List ℕ) (h : Header) (ch : Change) (i q j : ℕ) → sound_of s ≡ Some h → At ch i → j < 4
    → OutsideCell (cells_of h) i q j → pair_of (byte_at (applied ch s) q) j ≡ pair_of (byte_at s q) j
unfolding applied
elsewhere s h None i q j p a jl out = refl
elsewhere s h (Put m c) i q j p a jl out =
    ap (λ (t : List ℕ). pair_of (byte_at t q) j) (put_cell-among s (cells_of h) (cells_at_lem s h p) m c) ∙ go (ltb m (cells_of h)) refl
  where
    go : (b : Bool) → ltb m (cells_of h) ≡ b → pair_of (byte_at (put_cell_among (cells_of h) s m c) q) j ≡ pair_of (byte_at s q) j
    go true e =
        outside-stays (cells_of h) s (room_of s h p) m (ltb-true m (cells_of h) e) c q j jl (subst (λ (x : ℕ). OutsideCell (cells_of h) x q j) (sym a) out)
    go false e = ap (λ (t : List ℕ). pair_of (byte_at t q) j) (put-none (cells_of h) s m c e)
elsewhere s h (Lapses m x) i q j p a jl out =
    ap (λ (t : List ℕ). pair_of (byte_at t q) j) (put_lapses-among s (cells_of h) (cells_at_lem s h p) m x) ∙ go (ltb m (cells_of h)) refl
  where
    go : (b : Bool) → ltb m (cells_of h) ≡ b → pair_of (byte_at (put_lapses_among (cells_of h) s m x) q) j ≡ pair_of (byte_at s q) j
    go true e =
        ap (λ (b : ℕ). pair_of b j)
        (byte-lapses (cells_of h) s (room_of s h p) m (ltb-true m (cells_of h) e) x q (λ d. out (of_lapses (d ∙ ap (lapses_place (cells_of h)) a))))
    go false e = ap (λ (t : List ℕ). pair_of (byte_at t q) j) (lapses-none (cells_of h) s m x e)

-- and every other cell with its lapses
pub others_stay : (s : List ℕ) (ch : Change) (i j : ℕ) → Holds (view_of s) ch → At ch i → (j ≡ i → ⊥)
    → ((view_of (applied ch s)).cell j ≡ (view_of s).cell j) × ((view_of (applied ch s)).lapses j ≡ (view_of s).lapses j)
unfolding changed
others_stay s None i j k a ne = (ap (λ (v : View). v.cell j) (view-applied s None k), ap (λ (v : View). v.lapses j) (view-applied s None k))
others_stay s (Put m c) i j k a ne =
    let seen = view-applied s (Put m c) k in
    (ap (λ (v : View). v.cell j) seen ∙ simp (ne_eqb j m (λ e. ne (e ∙ a))), ap (λ (v : View). v.lapses j) seen)
others_stay s (Lapses m x) i j k a ne =
    let seen = view-applied s (Lapses m x) k in
    (ap (λ (v : View). v.cell j) seen, ap (λ (v : View). v.lapses j) seen ∙ simp (ne_eqb j m (λ e. ne (e ∙ a))))

-- no change makes a log longer or shorter
pub length-applied : (ch : Change) (s : List ℕ) → length (applied ch s) ≡ length s
unfolding applied
length-applied None s = refl
length-applied (Put i c) s = length-put_cell s i c
length-applied (Lapses i n) s = length-put_lapses s i n

-- a change that the log can hold leaves bytes
pub bytes-applied : (s : List ℕ) (ch : Change) → Bytes s → Holds (view_of s) ch → Bytes (applied ch s)
unfolding applied
bytes-applied s None b k = b
bytes-applied s (Put i c) b k = bytes-put_cell s i c b
bytes-applied s (Lapses i n) b k = bytes-put_lapses s i n b k.1

-- ---- what is seen of bytes

-- what is seen as a cell is one
abbrev pub AreCells : (ℕ → Option Cell) → Type 0
AreCells cell = (i : ℕ) (c : Cell) → cell i ≡ Some c → IsCell c

-- it is so of all bytes, whether they are a log or not
pub seen-are-cells : (s : List ℕ) → Bytes s → AreCells (view_of s).cell
seen-are-cells s bytes i c p = go (sound_of s) refl
  where
    go : (a : Option Header) → sound_of s ≡ a → IsCell c
    go None e = absurd (bad≢good c (rw e at p))
    go (Some h) e = read-is-cell s bytes i c (rw e at p)

-- ---- an image is its header and its cells

-- the i-th of some cells
unfoldable pub cell_in : List Cell → ℕ → Option Cell
cell_in [] i = None
cell_in (c ∷ cs) zero = Some c
cell_in (c ∷ cs) (suc i) = cell_in cs i

-- each of them is found at its index
pub cell_in_lem : (cs : List Cell) (i : ℕ) → i < length cs → cell_in cs i ≡ Some (get_or cs i Gap)
unfolding cell_in
cell_in_lem [] i l = absurd (not-suc-le-zero l)
cell_in_lem (c ∷ cs) zero l = refl
cell_in_lem (c ∷ cs) (suc i) l = cell_in_lem cs i (omega arith)

-- past the last of them there is none
pub none_in : (cs : List Cell) (i : ℕ) → length cs ≤ i → cell_in cs i ≡ None
unfolding cell_in
none_in [] i l = refl
none_in (c ∷ cs) zero l = absurd (omega arith)
none_in (c ∷ cs) (suc i) l = none_in cs i (omega arith)

-- in a row they are those cells
pub seen-in : (cs : List Cell) (i n : ℕ) → i + n ≤ length cs → seen_from (cell_in cs) i n ≡ map Some (take n (drop i cs))
unfolding seen_from
seen-in cs i zero l = refl
seen-in cs i (suc n) l =
    let here : i < length cs = omega arith in
    ap₂ (λ (a : Option Cell) (x : List (Option Cell)). a ∷ x) (cell_in_lem cs i here) (seen-in cs (suc i) n (omega arith))
    ∙ sym (ap (λ (x : List Cell). map Some (take (suc n) x)) (drop-cons cs i Gap here))

-- what is seen of a log with this header, these cells and these lapses
abbrev pub view_by : Header → List Cell → (ℕ → ℕ) → View
view_by h cs lapses = record { lent = Some h; cell = cell_in cs; lapses = λ i. cond (ltb i (length cs)) (lapses i) 0 }

-- what is seen of an image is what it was made of
pub view-image : (h : Header) (cs : List Cell) (lapses : ℕ → ℕ) → is_header h ≡ true → length cs ≡ cells_of h → AllCells cs
    → view_of (image_of h cs lapses) ≡ view_by h cs lapses
view-image h cs lapses e l k =
    seen_of_lem (image_of h cs lapses) h (sound-image lapses h cs e l) ∙ same_view h (λ i. cell i (ltb i (length cs)) refl) (λ i. lapsed i (ltb i (length cs)) refl)
  where
    says : cells_at (image_of h cs lapses) ≡ cells_of h
    says = cells_at_lem (image_of h cs lapses) h (sound-image lapses h cs e l)

    cell : (i : ℕ) (b : Bool) → ltb i (length cs) ≡ b → cell_at (image_of h cs lapses) i ≡ cell_in cs i
    cell i true t = let m = ltb-true i (length cs) t in cell_at-image lapses h cs e l i m (k i m) ∙ sym (cell_in_lem cs i m)
    cell i false t = let m = ltb-false i (length cs) t in cell_at-past (image_of h cs lapses) i (omega (arith, says, l)) ∙ sym (none_in cs i m)

    lapsed : (i : ℕ) (b : Bool) → ltb i (length cs) ≡ b → lapses_at (image_of h cs lapses) i ≡ cond b (lapses i) 0
    lapsed i true t = lapses_at-image lapses h cs e l i (ltb-true i (length cs) t)
    lapsed i false t = lapses_at-past (image_of h cs lapses) i (omega (arith, says, l, ltb-false i (length cs) t))

all_seen : (read : List (Option Cell)) → all_good read ≡ true → read ≡ map Some (goods read)
unfolding all_good goods
all_seen [] e = refl
all_seen (Some c ∷ read) e = ap (λ (x : List (Option Cell)). Some c ∷ x) (all_seen read e)
all_seen (None ∷ read) e = absurd (false≢true e)

all-good : (cs : List Cell) → all_good (map Some cs) ≡ true
unfolding all_good
all-good [] = refl
all-good (c ∷ cs) = all-good cs

-- two logs that are seen alike, and whose cells are all good, are the same bytes
pub only_one : (s t : List ℕ) (h : Header) → Bytes s → Bytes t → sound_of s ≡ Some h → view_of s ≡ view_of t
    → all_good (seen_from (view_of s).cell 0 (cells_of h)) ≡ true → s ≡ t
only_one s t h a b p same good =
    let n = cells_of h in
    let q : sound_of t ≡ Some h = sym (ap (λ (v : View). v.lent) same) ∙ p in
    let alike : seen_from (cell_at s) 0 n ≡ seen_from (cell_at t) 0 n = rw (p, q) at (ap (λ (v : View). seen_from v.cell 0 n) same) in
    let lapses : (i : ℕ) → lapses_at s i ≡ lapses_at t i = λ i. rw (p, q) at (ap (λ (v : View). v.lapses i) same) in
    let cs = goods (seen_from (cell_at s) 0 n) in
    let one = all_seen (seen_from (cell_at s) 0 n) (rw p at good) in
    image-of-log s a h cs p one ∙ image-alike h cs (lapses_at s) (lapses_at t) (λ i l. lapses i) ∙ sym (image-of-log t b h cs q (sym alike ∙ one))

-- ---- a change of an image

-- the cells and the lapses after a change
abbrev pub cells_after : Change → List Cell → List Cell
cells_after None cs = cs
cells_after (Put i c) cs = set cs i c
cells_after (Lapses i n) cs = cs

-- and the lapses, at each index
abbrev pub lapses_after : Change → (ℕ → ℕ) → ℕ → ℕ
lapses_after None lapses j = lapses j
lapses_after (Put i c) lapses j = lapses j
lapses_after (Lapses i n) lapses j = cond (eqb j i) n (lapses j)

-- what an image is made of
pub record Whole (h : Header) (cs : List Cell) (lapses : ℕ → ℕ) : Type 0 where
  pub right : is_header h ≡ true
  pub count : length cs ≡ cells_of h
  pub each : AllCells cs
  pub fit : LapsesFit lapses

module _ (h : Header) (cs : List Cell) (lapses : ℕ → ℕ) where
  cell_set : (i : ℕ) (c : Cell) → i < length cs → (j : ℕ) → cond (eqb j i) (Some c) (cell_in cs j) ≡ cell_in (set cs i c) j
  cell_set i c l j = go (eqb j i) refl (ltb j (length cs)) refl
    where
      go : (b : Bool) → eqb j i ≡ b → (d : Bool) → ltb j (length cs) ≡ d → cond b (Some c) (cell_in cs j) ≡ cell_in (set cs i c) j
      go true p d q =
          let e = eqb-true j i p in
          sym (ap (cell_in (set cs i c)) e ∙ cell_in_lem (set cs i c) i (rw length-set l) ∙ ap Some (get_or-set_same cs i c Gap l))
      go false p true q =
          let m = ltb-true j (length cs) q in
          cell_in_lem cs j m ∙ ap Some (sym (get_or-set_other cs i j c Gap (eqb-false j i p))) ∙ sym (cell_in_lem (set cs i c) j (rw length-set m))
      go false p false q =
          let m = ltb-false j (length cs) q in
          none_in cs j m ∙ sym (none_in (set cs i c) j (rw length-set m))

  -- a changed view of these is the view of these changed
  view-changed : (ch : Change) → Holds (view_by h cs lapses) ch → length cs ≡ cells_of h
      → changed ch (view_by h cs lapses) ≡ view_by h (cells_after ch cs) (lapses_after ch lapses)
  unfolding changed
  view-changed None k n = refl
  view-changed (Put i c) k n =
      same_view h (cell_set i c (omega (arith, k.0))) (λ j. ap (λ (m : ℕ). cond (ltb j m) (lapses j) 0) (sym (length-set cs i c)))
  view-changed (Lapses i m) k n = same_view h (λ j. refl) (λ j. go j (eqb j i) refl (ltb j (length cs)) refl)
    where
      go : (j : ℕ) (b : Bool) → eqb j i ≡ b → (d : Bool) → ltb j (length cs) ≡ d → cond b m (cond d (lapses j) 0) ≡ cond d (cond b m (lapses j)) 0
      go j true p true q = refl
      go j true p false q = absurd (omega (arith, eqb-true j i p, ltb-false j (length cs) q, k.0, n))
      go j false p true q = refl
      go j false p false q = refl

  good-after : (ch : Change) → Holds (view_by h cs lapses) ch → Whole h cs lapses → Whole h (cells_after ch cs) (lapses_after ch lapses)
  good-after None k w = w
  good-after (Put i c) k w = record {
    right = w.right;
    count = length-set cs i c ∙ w.count;
    each = λ j l. go j (eqb j i) refl (w.each j (rw length-set at l));
    fit = w.fit;
  }
    where
      go : (j : ℕ) (b : Bool) → eqb j i ≡ b → IsCell (get_or cs j Gap) → IsCell (get_or (set cs i c) j Gap)
      go j true p x = subst (λ (m : ℕ). IsCell (get_or (set cs i c) m Gap)) (sym (eqb-true j i p)) (rw (get_or-set_same cs i c Gap (omega (arith, w.count, k.0))) k.1)
      go j false p x = rw (get_or-set_other cs i j c Gap (eqb-false j i p)) x
  good-after (Lapses i n) k w = record { right = w.right; count = w.count; each = w.each; fit = λ j. go j (eqb j i) }
    where
      go : (j : ℕ) (b : Bool) → cond b n (lapses j) < 256
      go j true = k.1
      go j false = w.fit j

-- a change of an image is the image of what it is made of, changed
pub applied-image : (h : Header) (cs : List Cell) (lapses : ℕ → ℕ) (ch : Change) → Whole h cs lapses → Holds (view_by h cs lapses) ch
    → applied ch (image_of h cs lapses) ≡ image_of h (cells_after ch cs) (lapses_after ch lapses)
applied-image h cs lapses ch w k =
    let s = image_of h cs lapses in
    let ds = cells_after ch cs in
    let after = good-after h cs lapses ch k w in
    let seen = view-image h cs lapses w.right w.count w.each in
    let held : Holds (view_of s) ch = subst (λ (v : View). Holds v ch) (sym seen) k in
    let same : view_of (applied ch s) ≡ view_by h ds (lapses_after ch lapses) =
    view-applied s ch held ∙ ap (changed ch) seen ∙ view-changed h cs lapses ch k w.count in
    let there = view-image h ds (lapses_after ch lapses) after.right after.count after.each in
    only_one (applied ch s) (image_of h ds (lapses_after ch lapses)) h
    (bytes-applied s ch (bytes-image lapses h cs w.fit w.right) held)
    (bytes-image (lapses_after ch lapses) h ds after.fit after.right)
    (ap (λ (v : View). v.lent) same)
    (same ∙ sym there)
    (ap (λ (v : View). all_good (seen_from v.cell 0 (cells_of h))) same
    ∙ ap all_good (seen-in ds 0 (cells_of h) (omega (arith, after.count))) ∙ all-good (take (cells_of h) ds))
