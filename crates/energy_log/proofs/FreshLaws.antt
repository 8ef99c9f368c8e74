-- What follows from the definition of a fresh log: it is a log with its header, and every cell is a gap.
use Rattle.std.specs.Prelude.{Some}
use Prim.Native.Nat.{ℕ, zero, suc, ◌+◌, ◌*◌, ◌-◌, ◌/◌, ◌%◌, ◌<◌, ◌≤◌}
use native.Mathlib.Nat.{zero-add}
use native.Mathlib.Omega.{arith}
use mathlib.Core.Path.{◌≡◌, refl, sym, ap, ap₂, subst, ◌∙◌}
use mathlib.Core.Bool.{true}
use mathlib.Core.List.{List, ◌∷◌, ◌++◌}
use borrow.Rule.Slice.PartMut.{put_mid}
use lib.ListN.{length, take, drop, get_or, replicate, length-replicate, length-drop, get_or-replicate, replicate-append-replicate}
use lib.Seq.{length-take-le, drop-drop}
use Rattle.byte_numbers.specs.Place.{written}
use Rattle.byte_numbers.specs.Number.{bytes_of}
use Rattle.byte_numbers.proofs.PlaceLaws.{onward, written-fits}
use Rattle.log_header.specs.Header.{header_size, version, size_for, cells_of, length_of, is_header, header_bytes}
use Rattle.log_header.proofs.HeaderLaws.{cells-fours, length-header_bytes}
use Rattle.log_cell.specs.Cell.{e_plus_of, e_minus_of, r_plus_of, r_minus_of, IsCell}
use Rattle.log_cell.proofs.CellLaws.{gap-is-cell}
use Rattle.energy_log.specs.Pair.{packed}
use Rattle.energy_log.specs.Image.{cell_at, kinds_bytes, column_bytes, lapses_bytes, cells_bytes, image_of}
use Rattle.energy_log.proofs.ImageLaws.{cell_at-image, length-image_of}
use Rattle.energy_log.specs.Fresh.{gaps, no_lapses, fresh_image}
use Rattle.log_header.specs.declared.header.Header.{Header}
use Rattle.log_cell.specs.declared.cell.Cell.{Cell}
use Rattle.log_cell.specs.declared.cell.Cell.TheVariants.{Gap}

-- as many gaps as are asked for
pub length-gaps : (n : ℕ) → length (gaps n) ≡ n
unfolding gaps
length-gaps n = length-replicate n Gap

-- each of them is one
pub gap_at : (n i : ℕ) → i < n → get_or (gaps n) i Gap ≡ Gap
unfolding gaps
gap_at n i h = get_or-replicate n i Gap Gap h

-- every cell of a fresh log is read as a gap
pub fresh-gaps : (h : Header) (i : ℕ) → is_header h ≡ true → i < cells_of h → cell_at (fresh_image h) i ≡ Some Gap
unfolding fresh_image
fresh-gaps h i right l =
    let e = gap_at (cells_of h) i l in
    cell_at-image no_lapses h (gaps (cells_of h)) right (length-gaps (cells_of h)) i (rw length-gaps l) (subst IsCell (sym e) gap-is-cell) ∙ ap Some e

-- a fresh log is as long as its header says
pub length-fresh_image : (h : Header) → length (fresh_image h) ≡ length_of h
unfolding fresh_image length_of
length-fresh_image h = length-image_of no_lapses h (gaps (cells_of h)) ∙ ap (λ (n : ℕ). size_for n) (length-gaps (cells_of h))

-- ---- a fresh log is zeros behind its header

abbrev zeros : ℕ → List ℕ
zeros n = replicate n 0

kinds-zero : (m : ℕ) → kinds_bytes (gaps (4 * m)) ≡ zeros m
unfolding kinds_bytes gaps packed
kinds-zero zero = refl
kinds-zero (suc m) =
    let e : 4 * suc m ≡ suc (suc (suc (suc (4 * m)))) = omega arith in
    rw e (ap (λ (x : List ℕ). 0 ∷ x) (kinds-zero m))

column-zero : (f : Cell → ℕ) → f Gap ≡ 0 → (n : ℕ) → column_bytes f (gaps n) ≡ zeros (2 * n)
unfolding column_bytes gaps bytes_of
column-zero f z zero = refl
column-zero f z (suc n) =
    let e : 2 * suc n ≡ suc (suc (2 * n)) = omega arith in
    rw (e, z) (ap (λ (x : List ℕ). 0 ∷ 0 ∷ x) (column-zero f z n))

lapses-zero : (i n : ℕ) → lapses_bytes i (gaps n) no_lapses ≡ zeros n
unfolding lapses_bytes gaps
lapses-zero i zero = refl
lapses-zero i (suc n) = ap (λ (x : List ℕ). 0 ∷ x) (lapses-zero (suc i) n)

-- zeros behind zeros
more : (a b c : ℕ) (xs ys : List ℕ) → xs ≡ zeros a → ys ≡ zeros b → a + b ≡ c → xs ++ ys ≡ zeros c
more a b c xs ys p q e = ap₂ (λ (x y : List ℕ). x ++ y) p q ∙ replicate-append-replicate a b 0 ∙ ap zeros e

cells-zero : (n : ℕ) → n % 4 ≡ 0 → cells_bytes (gaps n) no_lapses ≡ zeros (n / 4 + 8 * n + n)
unfolding cells_bytes
cells-zero n m =
    let z = lapses-zero 0 n in
    let d = more (2 * n) n (2 * n + n) _ _ (column-zero r_minus_of refl n) z refl in
    let c = more (2 * n) (2 * n + n) (4 * n + n) _ _ (column-zero r_plus_of refl n) d (omega arith) in
    let b = more (2 * n) (4 * n + n) (6 * n + n) _ _ (column-zero e_minus_of refl n) c (omega arith) in
    let a = more (2 * n) (6 * n + n) (8 * n + n) _ _ (column-zero e_plus_of refl n) b (omega arith) in
    let four : 4 * (n / 4) ≡ n = omega arith in
    more (n / 4) (8 * n + n) (n / 4 + 8 * n + n) _ _ (rw four at (kinds-zero (n / 4))) a (omega arith)

-- the kinds, the counts and the lapses of gaps are all of them zeros
pub fresh-zeros : (h : Header) → fresh_image h ≡ header_bytes h ++ replicate (length_of h - header_size) 0
unfolding fresh_image image_of length_of
fresh-zeros h =
    let n = cells_of h in
    let e : n / 4 + 8 * n + n ≡ size_for n - header_size = omega arith in
    ap (λ (x : List ℕ). header_bytes h ++ x) (cells-zero n (cells-fours h) ∙ ap zeros e)

-- the header, and zeros up to the image's end
pub fresh-written : (s t u : List ℕ) (h : Header) (end : ℕ) → end ≡ length_of h → t ≡ written s 0 (header_bytes h)
    → u ≡ written t header_size (replicate (end - header_size) 0) → u ≡ written s 0 (fresh_image h)
fresh-written s t u h end e p q =
    onward s t u 0 header_size (header_bytes h) (replicate (end - header_size) 0) p q (zero-add (length (header_bytes h)) ∙ length-header_bytes version h)
    ∙ ap (written s 0) (ap (λ (k : ℕ). header_bytes h ++ replicate (k - header_size) 0) e ∙ sym (fresh-zeros h))

-- a part that is filled with zeros: they are written where it lies
pub zeros-fit : (s t : List ℕ) (i n : ℕ) → i + n ≤ length s → t ≡ replicate (length (take n (drop i s))) 0 → put_mid i n s t ≡ written s i (replicate n 0)
zeros-fit s t i n l p =
    let k : length (take n (drop i s)) ≡ n = length-take-le n (drop i s) (simp length-drop (omega arith)) in
    let r : length (zeros n) ≡ n = length-replicate n 0 in
    let m : take i s ++ (zeros n ++ drop (i + length (zeros n)) s) ≡ put_mid i n s (zeros n) = rw (r, drop-drop) refl in
    ap (put_mid i n s) (p ∙ ap zeros k) ∙ sym (written-fits s i (zeros n) (omega (arith, r)) ∙ m)
