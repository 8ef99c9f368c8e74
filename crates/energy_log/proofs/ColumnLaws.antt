-- What follows from the places of a log's cells: what is read after a put, there and elsewhere, in a log of n cells.
use Rattle.std.specs.Prelude.{None, Option}
use Prim.Native.Nat.{ℕ, suc, ◌+◌, ◌-◌, ◌*◌, ◌/◌, ◌%◌, ◌≤◌, ◌<◌}
use native.Mathlib.Omega.{arith}
use mathlib.Core.Path.{◌≡◌, refl, sym, ap, ◌∙◌}
use mathlib.Core.Bool.{Bool, true, false, cond}
use mathlib.Core.List.{List, [], ◌∷◌}
use mathlib.Core.Logic.{inl, inr}
use lib.Dec.{ltb, eqb}
use lib.ListN.{length, set}
use lib.Seq.{get_or-set_same, ext_get_or}
use borrow.Author.Tests.{ltb-true, ltb-false, lt-ltb, le-ltb, eqb-true, eqb-false, eq-eqb, ne_eqb}
use Rattle.byte_numbers.specs.Number.{bytes_of, Bytes}
use Rattle.byte_numbers.specs.Place.{byte_at, written}
use Rattle.byte_numbers.proofs.PlaceLaws.{Apart, length-written, byte_at-kept, number_at-kept, number_at-written}
use Rattle.log_header.specs.Header.{header_size, size_for}
use Rattle.log_cell.specs.Cell.{kind_of, e_plus_of, e_minus_of, r_plus_of, r_minus_of, kind_cell, CountsFit, CellFits}
use Rattle.energy_log.specs.Pair.{pair_of, put_pair}
use Rattle.energy_log.proofs.PairLaws.{pair_put, same-pairs}
use Rattle.byte_numbers.proofs.ByteLaws.{two}
use Rattle.energy_log.specs.Image.{kind_place, count_place, lapses_place, kind_at, count_at, read_among, cell_among, lapses_among, put_kind, put_count, put_counts}
use Rattle.energy_log.specs.Image.{put_cell_among, put_lapses_among, Two, of_kind, of-e+, of-e-, of-r+, of-r-, OutsideCell}
use Rattle.log_cell.specs.declared.cell.Cell.{Cell}
use Rattle.log_cell.specs.declared.cell.Cell.TheVariants.{Gap, Empty, Measured}

-- the room of a log of n cells
pub record Room (s : List ℕ) (n : ℕ) : Type 0 where
  pub fours : n % 4 ≡ 0
  pub size : size_for n ≤ length s

-- bytes of the same length have the same room
pub room-kept : (s t : List ℕ) (n : ℕ) → length t ≡ length s → Room s n → Room t n
room-kept s t n e r = record { fours = r.fours; size = omega (arith, e, r.size) }

-- what stands at a cell's places
pub record Parts : Type 0 where
  pub kind : ℕ
  pub e+ : ℕ
  pub e- : ℕ
  pub r+ : ℕ
  pub r- : ℕ
  pub lapses : ℕ

-- those of cell i in a log of n cells
abbrev pub parts_at : ℕ → List ℕ → ℕ → Parts
parts_at n s i =
    record { kind = kind_at s i; e+ = count_at n s i; e- = count_at n s (n + i); r+ = count_at n s (2 * n + i); r- = count_at n s (3 * n + i); lapses = byte_at s (lapses_place n i) }

-- those that a cell with these lapses has
abbrev pub parts_of : Cell → ℕ → Parts
parts_of c x = record { kind = kind_of c; e+ = e_plus_of c; e- = e_minus_of c; r+ = r_plus_of c; r- = r_minus_of c; lapses = x }

-- the same with other lapses
abbrev pub lapsed : Parts → ℕ → Parts
lapsed p x = record { kind = p.kind; e+ = p.e+; e- = p.e-; r+ = p.r+; r- = p.r-; lapses = x }

-- the cell that they are
abbrev pub cell_from : Parts → Option Cell
cell_from p = kind_cell p.kind p.e+ p.e- p.r+ p.r-

-- a kind fits its two bits
pub kind-four : (c : Cell) → kind_of c < 4
kind-four Gap = omega arith
kind-four Empty = omega arith
kind-four (Measured e+ e- r+ r-) = omega arith

-- the counts of a cell that fits are numbers of 16 bits
pub counts-fit : (c : Cell) → CellFits c → CountsFit (e_plus_of c) (e_minus_of c) (r_plus_of c) (r_minus_of c)
counts-fit Gap f = record { e_plus = omega arith; e_minus = omega arith; r_plus = omega arith; r_minus = omega arith }
counts-fit Empty f = record { e_plus = omega arith; e_minus = omega arith; r_plus = omega arith; r_minus = omega arith }
counts-fit (Measured e+ e- r+ r-) f = f

-- ---- a byte, a count

-- a byte that is put is the one that is read there
pub byte_put : (s : List ℕ) (q x : ℕ) → q < length s → byte_at (written s q (x ∷ [])) q ≡ x
unfolding written
byte_put s q x l = get_or-set_same s q x 0 l

-- two bytes put by themselves are the number that they are
pub two-put : (s : List ℕ) (q x : ℕ) → x < 65536 → set (set s q (x % 256)) (q + 1) (x / 256) ≡ written s q (bytes_of 2 x)
unfolding written bytes_of
two-put s q x l =
    let e : q + 1 ≡ suc q = omega arith in
    let f : x / 256 ≡ x / 256 % 256 = omega arith in
    λ t. set (set s q (x % 256)) (e t) (f t)

-- one byte and another
apart-one : (q p : ℕ) → (q ≡ p → ⊥) → Apart q 1 p 1
apart-one q p ne = go (ltb q p) refl
  where
    go : (b : Bool) → ltb q p ≡ b → Apart q 1 p 1
    go true e = inl (omega (arith, ltb-true q p e))
    go false e = let l = ltb-false q p e in let m : p < q = omega (arith, ne) in inr (omega arith)

-- a byte that is put leaves every other
pub byte-other : (s : List ℕ) (p x q : ℕ) → (q ≡ p → ⊥) → byte_at (written s p (x ∷ [])) q ≡ byte_at s q
byte-other s p x q ne = byte_at-kept s p (x ∷ []) q (apart-one q p ne)

-- a byte that is none of two
apart-two : (q p : ℕ) → (Two p q → ⊥) → Apart q 1 p 2
apart-two q p none = go (ltb q p) refl
  where
    go : (b : Bool) → ltb q p ≡ b → Apart q 1 p 2
    go true e = inl (omega (arith, ltb-true q p e))
    go false e =
        let a : (q ≡ p → ⊥) = λ d. none (inl d) in
        let b : (q ≡ p + 1 → ⊥) = λ d. none (inr d) in
        let l = ltb-false q p e in
        let m : p + 2 ≤ q = omega (arith, a, b) in
        inr m

count-apart : (n m p : ℕ) → (m ≡ p → ⊥) → Apart (count_place n m) 2 (count_place n p) 2
count-apart n m p ne = go (ltb m p) refl
  where
    go : (b : Bool) → ltb m p ≡ b → Apart (count_place n m) 2 (count_place n p) 2
    go true e = let l = ltb-true m p e in inl (omega arith)
    go false e = let l = ltb-false m p e in let k : p < m = omega (arith, ne) in inr (omega arith)

-- a count that is put is there, and every other stays
count-there : (n : ℕ) (s : List ℕ) (m x : ℕ) → x < 65536 → count_place n m + 2 ≤ length s → count_at n (put_count n s m x) m ≡ x
count-there n s m x f l = number_at-written s (count_place n m) 2 x l ∙ omega arith

count-other : (n : ℕ) (s : List ℕ) (p x m : ℕ) → (m ≡ p → ⊥) → count_at n (put_count n s p x) m ≡ count_at n s m
unfolding bytes_of
count-other n s p x m ne = number_at-kept s (count_place n p) (bytes_of 2 x) (count_place n m) 2 (count-apart n m p ne)

-- ---- the four counts of a cell

-- the count with index m is none of cell i's
record Foreign (n i m : ℕ) : Type 0 where
  e+ : m ≡ i → ⊥
  e- : m ≡ n + i → ⊥
  r+ : m ≡ 2 * n + i → ⊥
  r- : m ≡ 3 * n + i → ⊥

-- nor is byte q
pub record Off (n i q : ℕ) : Type 0 where
  pub e+ : Apart q 1 (count_place n i) 2
  pub e- : Apart q 1 (count_place n (n + i)) 2
  pub r+ : Apart q 1 (count_place n (2 * n + i)) 2
  pub r- : Apart q 1 (count_place n (3 * n + i)) 2

module _ (n : ℕ) (s : List ℕ) (i a b c d : ℕ) where
  -- counts that are put leave the length
  pub length-put_counts : length (put_counts n s i a b c d) ≡ length s
  unfolding put_counts
  length-put_counts = simp length-written

  counts-other : (m : ℕ) → Foreign n i m → count_at n (put_counts n s i a b c d) m ≡ count_at n s m
  unfolding put_counts
  counts-other m f =
      count-other n _ (3 * n + i) d m f.r- ∙ count-other n _ (2 * n + i) c m f.r+ ∙ count-other n _ (n + i) b m f.e- ∙ count-other n s i a m f.e+

  byte-off : (q : ℕ) → Off n i q → byte_at (put_counts n s i a b c d) q ≡ byte_at s q
  unfolding put_counts bytes_of
  byte-off q o =
      byte_at-kept _ (count_place n (3 * n + i)) (bytes_of 2 d) q o.r-
      ∙ byte_at-kept _ (count_place n (2 * n + i)) (bytes_of 2 c) q o.r+
      ∙ byte_at-kept _ (count_place n (n + i)) (bytes_of 2 b) q o.e-
      ∙ byte_at-kept s (count_place n i) (bytes_of 2 a) q o.e+

-- before the counts and behind them
pub before-off : (n i q : ℕ) → q < count_place n 0 → Off n i q
before-off n i q h = record { e+ = inl (omega arith); e- = inl (omega arith); r+ = inl (omega arith); r- = inl (omega arith) }

-- a byte of the lapses, or behind the log, is no count's
pub behind-off : (n i q : ℕ) → i < n → lapses_place n 0 ≤ q → Off n i q
behind-off n i q l h = record { e+ = inr (omega arith); e- = inr (omega arith); r+ = inr (omega arith); r- = inr (omega arith) }

module _ (n i j : ℕ) (l : i < n) (h : j < n) (ne : j ≡ i → ⊥) where
  foreign-e+ : Foreign n i j
  foreign-e+ = record { e+ = ne; e- = λ e. omega arith; r+ = λ e. omega arith; r- = λ e. omega arith }

  foreign-e- : Foreign n i (n + j)
  foreign-e- = record { e+ = λ e. omega arith; e- = λ e. ne (omega arith); r+ = λ e. omega arith; r- = λ e. omega arith }

  foreign-r+ : Foreign n i (2 * n + j)
  foreign-r+ = record { e+ = λ e. omega arith; e- = λ e. omega arith; r+ = λ e. ne (omega arith); r- = λ e. omega arith }

  foreign-r- : Foreign n i (3 * n + j)
  foreign-r- = record { e+ = λ e. omega arith; e- = λ e. omega arith; r+ = λ e. omega arith; r- = λ e. ne (omega arith) }

-- the cell's own are there
module _ (n : ℕ) (s : List ℕ) (i a b c d : ℕ) (l : i < n) (room : size_for n ≤ length s) where
  there-e+ : a < 65536 → count_at n (put_counts n s i a b c d) i ≡ a
  unfolding put_counts
  there-e+ f =
      count-other n _ (3 * n + i) d i (λ e. omega arith)
      ∙ count-other n _ (2 * n + i) c i (λ e. omega arith)
      ∙ count-other n _ (n + i) b i (λ e. omega arith)
      ∙ count-there n s i a f (omega arith)

  there-e- : b < 65536 → count_at n (put_counts n s i a b c d) (n + i) ≡ b
  unfolding put_counts
  there-e- f =
      count-other n _ (3 * n + i) d (n + i) (λ e. omega arith)
      ∙ count-other n _ (2 * n + i) c (n + i) (λ e. omega arith)
      ∙ count-there n _ (n + i) b f (simp length-written (omega arith))

  there-r+ : c < 65536 → count_at n (put_counts n s i a b c d) (2 * n + i) ≡ c
  unfolding put_counts
  there-r+ f = count-other n _ (3 * n + i) d (2 * n + i) (λ e. omega arith) ∙ count-there n _ (2 * n + i) c f (simp length-written (omega arith))

  there-r- : d < 65536 → count_at n (put_counts n s i a b c d) (3 * n + i) ≡ d
  unfolding put_counts
  there-r- f = count-there n _ (3 * n + i) d f (simp length-written (omega arith))

-- ---- the kind

module _ (s : List ℕ) (i k : ℕ) (below : k < 4) (l : kind_place i < length s) where
  -- every pair of bits but its own stays
  pub pair-kept : (q j : ℕ) → j < 4 → ((q ≡ kind_place i) × (j ≡ i % 4) → ⊥) → pair_of (byte_at (put_kind s i k) q) j ≡ pair_of (byte_at s q) j
  unfolding put_kind
  pair-kept q j jl ne = go (eqb q (kind_place i)) refl
    where
      go : (b : Bool) → eqb q (kind_place i) ≡ b → pair_of (byte_at (put_kind s i k) q) j ≡ pair_of (byte_at s q) j
      go true e =
          let same = eqb-true q (kind_place i) e in
          let old = byte_at s (kind_place i) in
          rw same
          (ap (λ (x : ℕ). pair_of x j) (byte_put s (kind_place i) (put_pair old (i % 4) k) l)
          ∙ pair_put old (i % 4) k below j jl
          ∙ simp (ne_eqb j (i % 4) (λ d. ne (same, d))))
      go false e = ap (λ (x : ℕ). pair_of x j) (byte-other s (kind_place i) _ q (eqb-false q (kind_place i) e))

  kind-there : kind_at (put_kind s i k) i ≡ k
  unfolding put_kind
  kind-there =
      let old = byte_at s (kind_place i) in
      ap (λ (x : ℕ). pair_of x (i % 4)) (byte_put s (kind_place i) (put_pair old (i % 4) k) l)
      ∙ pair_put old (i % 4) k below (i % 4) (omega arith)
      ∙ simp (eq-eqb (i % 4) (i % 4) refl)

-- a kind that is put leaves the length
pub length-put_kind : (s : List ℕ) (i k : ℕ) → length (put_kind s i k) ≡ length s
unfolding put_kind
length-put_kind s i k = length-written s (kind_place i) _

-- ---- a cell

-- where there is none, nothing is put
pub length-put_cell_among : (n : ℕ) (s : List ℕ) (i : ℕ) (c : Cell) → length (put_cell_among n s i c) ≡ length s
unfolding put_cell_among
length-put_cell_among n s i c = go (ltb i n)
  where
    go : (b : Bool) → length (cond b (put_counts n (put_kind s i (kind_of c)) i (e_plus_of c) (e_minus_of c) (r_plus_of c) (r_minus_of c)) s) ≡ length s
    go true = length-put_counts n (put_kind s i (kind_of c)) i (e_plus_of c) (e_minus_of c) (r_plus_of c) (r_minus_of c) ∙ length-put_kind s i (kind_of c)
    go false = refl

-- lapses that are put leave the length
pub length-put_lapses_among : (n : ℕ) (s : List ℕ) (i x : ℕ) → length (put_lapses_among n s i x) ≡ length s
unfolding put_lapses_among
length-put_lapses_among n s i x = go (ltb i n)
  where
    go : (b : Bool) → length (cond b (written s (lapses_place n i) (x ∷ [])) s) ≡ length s
    go true = length-written s (lapses_place n i) (x ∷ [])
    go false = refl

module _ (n : ℕ) (s : List ℕ) (room : Room s n) (i : ℕ) (l : i < n) where
  place : kind_place i < length s
  place = omega (arith, room.fours, room.size)

  module _ (c : Cell) where
    kinds : List ℕ
    kinds = put_kind s i (kind_of c)

    put : List ℕ
    put = put_counts n kinds i (e_plus_of c) (e_minus_of c) (r_plus_of c) (r_minus_of c)

    put_in : put_cell_among n s i c ≡ put
    unfolding put_cell_among put kinds
    put_in = simp (lt-ltb i n l)

    -- the bytes that are neither a count of the cell nor the byte of its kind
    pub byte-stays : (q : ℕ) → Off n i q → (q ≡ kind_place i → ⊥) → byte_at (put_cell_among n s i c) q ≡ byte_at s q
    unfolding put kinds put_kind
    byte-stays q o ne = rw put_in (byte-off n kinds i _ _ _ _ q o ∙ byte-other s (kind_place i) _ q ne)

    -- the pairs of bits that are none of the cell's
    pub bits-stay : (q j : ℕ) → j < 4 → Off n i q → ((q ≡ kind_place i) × (j ≡ i % 4) → ⊥) → pair_of (byte_at (put_cell_among n s i c) q) j ≡ pair_of (byte_at s q) j
    unfolding put kinds
    bits-stay q j jl o ne = rw put_in (ap (λ (x : ℕ). pair_of x j) (byte-off n kinds i _ _ _ _ q o) ∙ pair-kept s i (kind_of c) (kind-four c) place q j jl ne)

    size : size_for n ≤ length kinds
    unfolding kinds
    size = rw length-put_kind room.size

    kind-kept : (m : ℕ) → count_at n kinds m ≡ count_at n s m
    unfolding kinds put_kind
    kind-kept m = number_at-kept s (kind_place i) _ (count_place n m) 2 (inr (omega (arith, room.fours)))

    -- the cell is there, with the lapses that it had
    pub parts-there : CellFits c → parts_at n (put_cell_among n s i c) i ≡ parts_of c (byte_at s (lapses_place n i))
    unfolding put kinds
    parts-there f =
        let g = counts-fit c f in
        let kind-is : kind_at kinds i ≡ kind_of c = kind-there s i (kind_of c) (kind-four c) place in
        let k : kind_at (put_cell_among n s i c) i ≡ kind_of c =
        rw put_in (ap (λ (x : ℕ). pair_of x (i % 4)) (byte-off n kinds i _ _ _ _ (kind_place i) (before-off n i (kind_place i) (omega (arith, room.fours)))) ∙ kind-is) in
        let e₁ : count_at n (put_cell_among n s i c) i ≡ e_plus_of c = rw put_in (there-e+ n kinds i _ _ _ _ l size g.e_plus) in
        let e₂ : count_at n (put_cell_among n s i c) (n + i) ≡ e_minus_of c = rw put_in (there-e- n kinds i _ _ _ _ l size g.e_minus) in
        let e₃ : count_at n (put_cell_among n s i c) (2 * n + i) ≡ r_plus_of c = rw put_in (there-r+ n kinds i _ _ _ _ l size g.r_plus) in
        let e₄ : count_at n (put_cell_among n s i c) (3 * n + i) ≡ r_minus_of c = rw put_in (there-r- n kinds i _ _ _ _ l size g.r_minus) in
        let x = byte-stays (lapses_place n i) (behind-off n i (lapses_place n i) l (omega arith)) (λ e. omega (arith, room.fours)) in
        λ t. record { kind = k t; e+ = e₁ t; e- = e₂ t; r+ = e₃ t; r- = e₄ t; lapses = x t }

    -- every other cell stays
    pub parts-elsewhere : (j : ℕ) → j < n → (j ≡ i → ⊥) → parts_at n (put_cell_among n s i c) j ≡ parts_at n s j
    unfolding put
    parts-elsewhere j h ne =
        let k : kind_at (put_cell_among n s i c) j ≡ kind_at s j =
        bits-stay (kind_place j) (j % 4) (omega arith) (before-off n i (kind_place j) (omega (arith, room.fours))) (λ e. ne (omega (arith, e.0, e.1))) in
        let e₁ : count_at n (put_cell_among n s i c) j ≡ count_at n s j = rw put_in (counts-other n kinds i _ _ _ _ j (foreign-e+ n i j l h ne) ∙ kind-kept j) in
        let e₂ : count_at n (put_cell_among n s i c) (n + j) ≡ count_at n s (n + j) =
        rw put_in (counts-other n kinds i _ _ _ _ (n + j) (foreign-e- n i j l h ne) ∙ kind-kept (n + j)) in
        let e₃ : count_at n (put_cell_among n s i c) (2 * n + j) ≡ count_at n s (2 * n + j) =
        rw put_in (counts-other n kinds i _ _ _ _ (2 * n + j) (foreign-r+ n i j l h ne) ∙ kind-kept (2 * n + j)) in
        let e₄ : count_at n (put_cell_among n s i c) (3 * n + j) ≡ count_at n s (3 * n + j) =
        rw put_in (counts-other n kinds i _ _ _ _ (3 * n + j) (foreign-r- n i j l h ne) ∙ kind-kept (3 * n + j)) in
        let x = byte-stays (lapses_place n j) (behind-off n i (lapses_place n j) l (omega arith)) (λ e. omega (arith, room.fours)) in
        λ t. record { kind = k t; e+ = e₁ t; e- = e₂ t; r+ = e₃ t; r- = e₄ t; lapses = x t }

    -- what is outside the cell stays, bit by bit
    pub outside-stays : (q j : ℕ) → j < 4 → OutsideCell n i q j → pair_of (byte_at (put_cell_among n s i c) q) j ≡ pair_of (byte_at s q) j
    outside-stays q j jl out =
        let o : Off n i q = record {
          e+ = apart-two q (count_place n i) (λ w. out (of-e+ w));
          e- = apart-two q (count_place n (n + i)) (λ w. out (of-e- w));
          r+ = apart-two q (count_place n (2 * n + i)) (λ w. out (of-r+ w));
          r- = apart-two q (count_place n (3 * n + i)) (λ w. out (of-r- w));
        } in
        bits-stay q j jl o (λ w. out (of_kind w.0 w.1))

  -- ---- lapses

  module _ (x : ℕ) where
    lapses-in : put_lapses_among n s i x ≡ written s (lapses_place n i) (x ∷ [])
    unfolding put_lapses_among
    lapses-in = simp (lt-ltb i n l)

    -- lapses that are put change no byte but their own
    pub byte-lapses : (q : ℕ) → (q ≡ lapses_place n i → ⊥) → byte_at (put_lapses_among n s i x) q ≡ byte_at s q
    byte-lapses q ne = rw lapses-in (byte-other s (lapses_place n i) x q ne)

    count-lapses : (m : ℕ) → m < 4 * n → count_at n (put_lapses_among n s i x) m ≡ count_at n s m
    count-lapses m h = rw lapses-in (number_at-kept s (lapses_place n i) (x ∷ []) (count_place n m) 2 (inl (omega arith)))

    -- they leave the kind and the counts of every cell
    pub front-lapses : (j : ℕ) → j < n → lapsed (parts_at n (put_lapses_among n s i x) j) 0 ≡ lapsed (parts_at n s j) 0
    front-lapses j h =
        let k : kind_at (put_lapses_among n s i x) j ≡ kind_at s j = ap (λ (b : ℕ). pair_of b (j % 4)) (byte-lapses (kind_place j) (λ e. omega (arith, room.fours))) in
        let e₁ = count-lapses j (omega arith) in
        let e₂ = count-lapses (n + j) (omega arith) in
        let e₃ = count-lapses (2 * n + j) (omega arith) in
        let e₄ = count-lapses (3 * n + j) (omega arith) in
        λ t. record { kind = k t; e+ = e₁ t; e- = e₂ t; r+ = e₃ t; r- = e₄ t; lapses = 0 }

    -- their cell has them, and is else what it was
    pub lapses-there : parts_at n (put_lapses_among n s i x) i ≡ lapsed (parts_at n s i) x
    lapses-there =
        let f = front-lapses i l in
        let e : byte_at (put_lapses_among n s i x) (lapses_place n i) ≡ x = rw lapses-in (byte_put s (lapses_place n i) x (omega (arith, room.size))) in
        λ t. lapsed (f t) (e t)

    -- every other cell keeps its own
    pub lapses-elsewhere : (j : ℕ) → j < n → (j ≡ i → ⊥) → parts_at n (put_lapses_among n s i x) j ≡ parts_at n s j
    lapses-elsewhere j h ne =
        let f = front-lapses j h in
        let e = byte-lapses (lapses_place n j) (λ d. ne (omega arith)) in
        λ t. lapsed (f t) (e t)

-- ---- what is seen goes by the parts

choice : {A : Type 0} (j n : ℕ) {a b : A} (d : A) → (j < n → a ≡ b) → cond (ltb j n) a d ≡ cond (ltb j n) b d
choice {A} j n {a} {b} d f = go (ltb j n) refl
  where
    go : (x : Bool) → ltb j n ≡ x → cond x a d ≡ cond x b d
    go true e = f (ltb-true j n e)
    go false e = refl

-- a cell does not go by its lapses
pub same-front : (n : ℕ) (s t : List ℕ) (j : ℕ) → (j < n → lapsed (parts_at n s j) 0 ≡ lapsed (parts_at n t j) 0) → cell_among n s j ≡ cell_among n t j
unfolding read_among
same-front n s t j e = choice j n None (λ l. ap cell_from (e l))

-- cells with the same parts are seen alike
pub same_cell : (n : ℕ) (s t : List ℕ) (j : ℕ) → (j < n → parts_at n s j ≡ parts_at n t j) → cell_among n s j ≡ cell_among n t j
unfolding read_among
same_cell n s t j e = choice j n None (λ l. ap cell_from (e l))

-- lapses go by their byte alone
pub same-lapses : (n : ℕ) (s t : List ℕ) (j : ℕ) → (j < n → byte_at s (lapses_place n j) ≡ byte_at t (lapses_place n j)) → lapses_among n s j ≡ lapses_among n t j
unfolding lapses_among
same-lapses n s t j e = choice j n 0 e

-- a cell of the log is the one that its parts are
pub cell_in : (n : ℕ) (s : List ℕ) (j : ℕ) → j < n → cell_among n s j ≡ cell_from (parts_at n s j)
unfolding read_among
cell_in n s j l = simp (lt-ltb j n l)

-- lapses of a cell of the log are the byte at their place
pub lapses-in-log : (n : ℕ) (s : List ℕ) (j : ℕ) → j < n → lapses_among n s j ≡ byte_at s (lapses_place n j)
unfolding lapses_among
lapses-in-log n s j l = simp (lt-ltb j n l)

-- past the last cell there is none
pub none-past : (f : ℕ → ℕ → ℕ → ℕ → ℕ → Option Cell) (n : ℕ) (s : List ℕ) (j : ℕ) → n ≤ j → read_among f n s j ≡ None
unfolding read_among
none-past f n s j l = simp (le-ltb j n l)

-- nor are there lapses: they are read as 0
pub no-lapses-past : (n : ℕ) (s : List ℕ) (j : ℕ) → n ≤ j → lapses_among n s j ≡ 0
unfolding lapses_among
no-lapses-past n s j l = simp (le-ltb j n l)

-- ---- the same parts are the same bytes

module _ (s t : List ℕ) (bs : Bytes s) (bt : Bytes t) (n : ℕ) (fours : n % 4 ≡ 0) (parts : (i : ℕ) → i < n → parts_at n s i ≡ parts_at n t i) where
  -- every count, in whichever column
  counts : (m : ℕ) → m < 4 * n → count_at n s m ≡ count_at n t m
  counts m l = go (ltb m n) refl (ltb m (2 * n)) refl (ltb m (3 * n)) refl
    where
      moved : (f : Parts → ℕ) (p : ℕ → ℕ) → ((x : List ℕ) (i : ℕ) → f (parts_at n x i) ≡ count_at n x (p i)) → (i : ℕ) → i < n → m ≡ p i → count_at n s m ≡ count_at n t m
      moved f p is i h e = ap (count_at n s) e ∙ sym (is s i) ∙ ap f (parts i h) ∙ is t i ∙ ap (count_at n t) (sym e)

      go : (a : Bool) → ltb m n ≡ a → (b : Bool) → ltb m (2 * n) ≡ b → (c : Bool) → ltb m (3 * n) ≡ c → count_at n s m ≡ count_at n t m
      go true p b q c r = moved (λ (x : Parts). x.e+) (λ i. i) (λ x i. refl) m (ltb-true m n p) refl
      go false p true q c r =
          let u = ltb-false m n p in
          let v = ltb-true m (2 * n) q in
          moved (λ (x : Parts). x.e-) (λ i. n + i) (λ x i. refl) (m - n) (omega arith) (omega arith)
      go false p false q true r =
          let u = ltb-false m (2 * n) q in
          let v = ltb-true m (3 * n) r in
          moved (λ (x : Parts). x.r+) (λ i. 2 * n + i) (λ x i. refl) (m - 2 * n) (omega arith) (omega arith)
      go false p false q false r =
          let u = ltb-false m (3 * n) r in
          moved (λ (x : Parts). x.r-) (λ i. 3 * n + i) (λ x i. refl) (m - 3 * n) (omega arith) (omega arith)

  count-byte : (q : ℕ) → count_place n 0 ≤ q → q < lapses_place n 0 → byte_at s q ≡ byte_at t q
  count-byte q l h = go (eqb (r % 2) 0) refl
    where
      r : ℕ
      r = q - (header_size + n / 4)

      m : ℕ
      m = r / 2

      go : (c : Bool) → eqb (r % 2) 0 ≡ c → byte_at s q ≡ byte_at t q
      go true e =
          let z = eqb-true (r % 2) 0 e in
          let p : q ≡ count_place n m = omega arith in
          let w = counts m (omega arith) in
          ap (byte_at s) p
          ∙ omega (arith, two s (count_place n m), two t (count_place n m), bs (count_place n m), bs (count_place n m + 1), bt (count_place n m), bt (count_place n m + 1))
          ∙ ap (byte_at t) (sym p)
      go false e =
          let z = eqb-false (r % 2) 0 e in
          let p : q ≡ count_place n m + 1 = omega arith in
          let w = counts m (omega arith) in
          ap (byte_at s) p
          ∙ omega (arith, two s (count_place n m), two t (count_place n m), bs (count_place n m), bs (count_place n m + 1), bt (count_place n m), bt (count_place n m + 1))
          ∙ ap (byte_at t) (sym p)

  kind-byte : (j : ℕ) → j < n / 4 → byte_at s (header_size + j) ≡ byte_at t (header_size + j)
  kind-byte j l = same-pairs (byte_at s (header_size + j)) (byte_at t (header_size + j)) (bs (header_size + j)) (bt (header_size + j)) pair
    where
      pair : (m : ℕ) → m < 4 → pair_of (byte_at s (header_size + j)) m ≡ pair_of (byte_at t (header_size + j)) m
      pair m k =
          let a : (4 * j + m) / 4 ≡ j = omega arith in
          let b : (4 * j + m) % 4 ≡ m = omega arith in
          rw (a, b) at (ap (λ (p : Parts). p.kind) (parts (4 * j + m) (omega (arith, fours))))

  -- with the header, and what lies behind the log
  pub same_bytes : length s ≡ length t → ((q : ℕ) → q < header_size → byte_at s q ≡ byte_at t q) → ((q : ℕ) → size_for n ≤ q → byte_at s q ≡ byte_at t q) → s ≡ t
  same_bytes same head behind =
      ext_get_or 0 s t same (λ q l. go q (ltb q header_size) refl (ltb q (count_place n 0)) refl (ltb q (lapses_place n 0)) refl (ltb q (size_for n)) refl)
    where
      go : (q : ℕ) (a : Bool) → ltb q header_size ≡ a → (b : Bool) → ltb q (count_place n 0) ≡ b → (c : Bool) → ltb q (lapses_place n 0) ≡ c
          → (d : Bool) → ltb q (size_for n) ≡ d → byte_at s q ≡ byte_at t q
      go q true p b _ c _ d _ = head q (ltb-true q header_size p)
      go q false p true r c _ d _ =
          let u = ltb-false q header_size p in
          let v = ltb-true q (count_place n 0) r in
          let z : header_size + (q - header_size) ≡ q = omega arith in
          rw z at (kind-byte (q - header_size) (omega arith))
      go q false _ false p true r d _ = count-byte q (ltb-false q (count_place n 0) p) (ltb-true q (lapses_place n 0) r)
      go q false _ false _ false p true r =
          let u = ltb-false q (lapses_place n 0) p in
          let v = ltb-true q (size_for n) r in
          let z : lapses_place n (q - lapses_place n 0) ≡ q = omega arith in
          rw z at (ap (λ (x : Parts). x.lapses) (parts (q - lapses_place n 0) (omega arith)))
      go q false _ false _ false _ false r = behind q (ltb-false q (size_for n) r)
