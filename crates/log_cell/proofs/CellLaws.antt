-- What follows from the definition of a cell: a cell and its nine bytes say the same, and its lapses are the tenth.
use Rattle.std.specs.Prelude.{None, Option, Some}
use Prim.Native.Nat.{ℕ, ◌+◌, ◌*◌, ◌/◌, ◌%◌, ◌<◌}
use native.Mathlib.Omega.{arith}
use mathlib.Core.Path.{◌≡◌, refl, sym, ap, subst, ◌∙◌}
use mathlib.Core.Bool.{Bool, true, false, cond, not}
use mathlib.Core.List.{List, [], ◌∷◌, ◌++◌}
use lib.Dec.{eqb}
use lib.ListN.{length, length-append}
use lib.Seq.{take_all}
use borrow.Author.Tests.{eqb-true, eqb-false, ltb-true, lt-ltb, le-ltb, ne_eqb, not-true}
use Rattle.byte_numbers.specs.Number.{number, bytes_of, Bytes}
use Rattle.byte_numbers.specs.Place.{byte_at, number_at}
use Rattle.test_laws.proofs.Test.{both, chosen}
use Rattle.byte_numbers.proofs.NumberLaws.{bytes-bytes_of}
use Rattle.byte_numbers.proofs.ByteLaws.{run, take-run, two, low, high, bytes-cons, bytes-append}
use Rattle.log_cell.specs.Cell.{kind_of, e_plus_of, e_minus_of, r_plus_of, r_minus_of}
use Rattle.log_cell.specs.Cell.{counts_size, cell_size, cell_bytes, no_counts, is_cell, kind_bytes, counts_bytes, kind_fits}
use Rattle.log_cell.specs.Cell.{cell_by, kind_cell, kind_names, cell_of, if_good, CountsFit, CellFits, IsCell}
use Rattle.log_cell.specs.declared.cell.Cell.{Cell}
use Rattle.log_cell.specs.declared.cell.Cell.TheVariants.{Gap, Empty, Measured}

-- a gap is a right cell
pub gap-is-cell : IsCell Gap
unfolding is_cell
gap-is-cell = record { right = refl; fits = tt }

-- and so is an empty one
pub empty-is-cell : IsCell Empty
unfolding is_cell
empty-is-cell = record { right = refl; fits = tt }

-- ---- from the cell to its bytes and back

-- a cell's kind and counts are nine bytes
pub length-counts_bytes : (c : Cell) → length (counts_bytes c) ≡ counts_size
unfolding counts_bytes kind_bytes bytes_of
length-counts_bytes Gap = refl
length-counts_bytes Empty = refl
length-counts_bytes (Measured e+ e- r+ r-) = refl

bytes-kind : (kind e+ e- r+ r- : ℕ) → kind < 256 → Bytes (kind_bytes kind e+ e- r+ r-)
unfolding kind_bytes
bytes-kind kind e+ e- r+ r- k =
    let c = bytes_of 2 r+ ++ bytes_of 2 r- in
    let b = bytes_of 2 e- ++ c in
    let a = bytes_of 2 e+ ++ b in
    bytes-cons kind a k
    (bytes-append (bytes_of 2 e+) b (bytes-bytes_of 2 e+)
    (bytes-append (bytes_of 2 e-) c (bytes-bytes_of 2 e-)
    (bytes-append (bytes_of 2 r+) (bytes_of 2 r-) (bytes-bytes_of 2 r+) (bytes-bytes_of 2 r-))))

-- each of them is a byte
pub bytes-cell : (c : Cell) → Bytes (counts_bytes c)
unfolding counts_bytes
bytes-cell Gap = bytes-kind 0 0 0 0 0 (omega arith)
bytes-cell Empty = bytes-kind 1 0 0 0 0 (omega arith)
bytes-cell (Measured e+ e- r+ r-) = bytes-kind 2 e+ e- r+ r- (omega arith)

-- with the lapses
pub length-cell_bytes : (c : Cell) (lapses : ℕ) → length (cell_bytes c lapses) ≡ cell_size
unfolding cell_bytes
length-cell_bytes c lapses = length-append (counts_bytes c) (lapses ∷ []) ∙ ap (λ (n : ℕ). n + 1) (length-counts_bytes c)

low-high : (n : ℕ) → n < 65536 → (0 * 256 + n / 256 % 256) * 256 + n % 256 ≡ n
low-high n h = omega arith

-- a cell's nine bytes are read back as the cell
pub cell_of-bytes : (c : Cell) → IsCell c → cell_of (counts_bytes c) ≡ Some c
unfolding cell_of counts_bytes kind_bytes kind_cell kind_fits cell_by is_cell no_counts bytes_of number_at number
cell_of-bytes Gap i = refl
cell_of-bytes Empty i = refl
cell_of-bytes (Measured e+ e- r+ r-) i =
    simp (low-high e+ i.fits.e_plus, low-high e- i.fits.e_minus, low-high r+ i.fits.r_plus, low-high r- i.fits.r_minus, not-true (no_counts e+ e- r+ r-) i.right)

-- and from its kind and its counts
pub kind_cell-of : (c : Cell) → is_cell c ≡ true → kind_cell (kind_of c) (e_plus_of c) (e_minus_of c) (r_plus_of c) (r_minus_of c) ≡ Some c
unfolding kind_cell kind_fits cell_by is_cell no_counts
kind_cell-of Gap i = refl
kind_cell-of Empty i = refl
kind_cell-of (Measured e+ e- r+ r-) i = simp (not-true (no_counts e+ e- r+ r-) i)

-- ---- from the bytes to the cell and back

-- what is known of a cell that was read as a kind and four counts
pub record Kind (kind e+ e- r+ r- : ℕ) (c : Cell) : Type 0 where
  pub right : is_cell c ≡ true
  pub fits : CountsFit e+ e- r+ r- → CellFits c
  pub bytes : counts_bytes c ≡ kind_bytes kind e+ e- r+ r-
  pub kind-is : kind ≡ kind_of c
  pub e+-is : e+ ≡ e_plus_of c
  pub e--is : e- ≡ e_minus_of c
  pub r+-is : r+ ≡ r_plus_of c
  pub r--is : r- ≡ r_minus_of c

-- an answer that there is no cell gives none
pub bad≢good : (c : Cell) → None ≡ Some c → ⊥
bad≢good c p = let z : ◌≡◌ {A = ℕ} 0 1 = cc in omega arith

module _ (kind e+ e- r+ r- : ℕ) where
  no_kind : (c : Cell) → kind ≡ kind_of c → no_counts e+ e- r+ r- ≡ true → is_cell c ≡ true → CellFits c
      → 0 ≡ e_plus_of c → 0 ≡ e_minus_of c → 0 ≡ r_plus_of c → 0 ≡ r_minus_of c → Kind kind e+ e- r+ r- c
  unfolding no_counts counts_bytes
  no_kind c e z right fits f g h i =
      let a = both _ _ z in
      let b = both _ _ a.0 in
      let d = both _ _ b.0 in
      let p = eqb-true e+ 0 d.0 ∙ f in
      let q = eqb-true e- 0 d.1 ∙ g in
      let r = eqb-true r+ 0 b.1 ∙ h in
      let t = eqb-true r- 0 a.1 ∙ i in
      record { right = right; fits = λ k. fits; bytes = λ x. sym (λ y. kind_bytes (e y) (p y) (q y) (r y) (t y)) x; kind-is = e; e+-is = p; e--is = q; r+-is = r; r--is = t }

  fit-kind : (n : Bool) → no_counts e+ e- r+ r- ≡ n → kind_fits kind n ≡ true → Kind kind e+ e- r+ r- (cell_by kind e+ e- r+ r-)
  unfolding kind_fits cell_by is_cell counts_bytes
  fit-kind true z p = go (eqb kind 0) refl (eqb kind 1) refl
    where
      go : (g : Bool) → eqb kind 0 ≡ g → (m : Bool) → eqb kind 1 ≡ m → Kind kind e+ e- r+ r- (cond g Gap (cond m Empty (Measured e+ e- r+ r-)))
      go true k m _ = no_kind Gap (eqb-true kind 0 k) z refl tt refl refl refl refl
      go false _ true k = no_kind Empty (eqb-true kind 1 k) z refl tt refl refl refl refl
      go false k false l = absurd (omega (arith, ltb-true kind 2 p, eqb-false kind 0 k, eqb-false kind 1 l))
  fit-kind false z p =
      let e : kind ≡ 2 = eqb-true kind 2 p in
      rw e (record { right = ap not z; fits = λ f. f; bytes = refl; kind-is = refl; e+-is = refl; e--is = refl; r+-is = refl; r--is = refl })

  -- all this holds of whatever cell was read
  pub kind-of : (c : Cell) → kind_cell kind e+ e- r+ r- ≡ Some c → Kind kind e+ e- r+ r- c
  unfolding kind_cell
  kind-of c p =
      let n = no_counts e+ e- r+ r- in
      let a = chosen (kind_fits kind n) (Some (cell_by kind e+ e- r+ r-)) None p (bad≢good c) in
      let q : cell_by kind e+ e- r+ r- ≡ c = cc a.1 in
      subst (Kind kind e+ e- r+ r-) q (fit-kind n refl a.0)

-- nine bytes that are a cell
record Nine (bs : List ℕ) (c : Cell) : Type 0 where
  nine : length bs ≡ counts_size
  kind : Kind (byte_at bs 0) (number_at bs 1 2) (number_at bs 3 2) (number_at bs 5 2) (number_at bs 7 2) c

nine-of : (bs : List ℕ) (c : Cell) → cell_of bs ≡ Some c → Nine bs c
unfolding cell_of
nine-of bs c p =
    let a = chosen (eqb (length bs) counts_size) (kind_cell (byte_at bs 0) (number_at bs 1 2) (number_at bs 3 2) (number_at bs 5 2) (number_at bs 7 2)) None p (bad≢good c) in
    record { nine = eqb-true _ _ a.0; kind = kind-of _ _ _ _ _ c a.1 }

-- a kind above the three goes with no counts
pub kind-above : (kind : ℕ) (n : Bool) → 2 < kind → kind_fits kind n ≡ false
unfolding kind_fits
kind-above kind true l = le-ltb kind 2 (omega arith)
kind-above kind false l = ne_eqb kind 2 (λ e. omega arith)

-- a kind that goes with its counts is one of the three
fits_below : (kind : ℕ) (n : Bool) → kind_fits kind n ≡ true → kind < 3
unfolding kind_fits
fits_below kind true p = omega (arith, ltb-true kind 2 p)
fits_below kind false p = omega (arith, eqb-true kind 2 p)

-- so the cell that the kind names is the one that is read
pub fits-named : (kind e+ e- r+ r- : ℕ) (n : Bool) → kind_fits kind n ≡ true → kind_names kind e+ e- r+ r- ≡ Some (cell_by kind e+ e- r+ r-)
unfolding kind_names
fits-named kind e+ e- r+ r- n p = simp (lt-ltb kind 3 (fits_below kind n p))

-- a number of two bytes, such as a count, is below 65,536
pub two-below : (bs : List ℕ) (i : ℕ) → Bytes bs → number_at bs i 2 < 65536
two-below bs i h = omega (arith, two bs i, h i, h (i + 1))

-- what nine bytes are read as is a right cell
pub good-is-cell : (bs : List ℕ) (c : Cell) → Bytes bs → cell_of bs ≡ Some c → IsCell c
good-is-cell bs c h p =
    let n = nine-of bs c p in
    let f : CountsFit (number_at bs 1 2) (number_at bs 3 2) (number_at bs 5 2) (number_at bs 7 2) =
    record { e_plus = two-below bs 1 h; e_minus = two-below bs 3 h; r_plus = two-below bs 5 h; r_minus = two-below bs 7 h } in
    record { right = n.kind.right; fits = n.kind.fits f }

-- nine bytes are those of the kind and the counts that stand there
listed : (bs : List ℕ) → Bytes bs
    → run bs 0 counts_size ≡ kind_bytes (byte_at bs 0) (number_at bs 1 2) (number_at bs 3 2) (number_at bs 5 2) (number_at bs 7 2)
unfolding run kind_bytes bytes_of
listed bs h = simp (low bs h 1, high bs h 1, low bs h 3, high bs h 3, low bs h 5, high bs h 5, low bs h 7, high bs h 7)

-- nine bytes that are read as a cell are that cell's
pub good-bytes : (bs : List ℕ) (c : Cell) → Bytes bs → cell_of bs ≡ Some c → counts_bytes c ≡ bs
good-bytes bs c h p =
    let n = nine-of bs c p in
    n.kind.bytes ∙ sym (listed bs h) ∙ sym (take-run counts_size 0 bs (omega (arith, n.nine))) ∙ take_all counts_size bs (omega (arith, n.nine))

-- what holds of both values holds of the one that is chosen
pub by-good : {A : Type 0} (P : A → Type 0) (a : Option Cell) {x : A} {f : Cell → A}
    → (a ≡ None → P x) → ((c : Cell) → a ≡ Some c → P (f c)) → P (if_good a x f)
by-good P None other k = other refl
by-good P (Some c) other k = k c refl
