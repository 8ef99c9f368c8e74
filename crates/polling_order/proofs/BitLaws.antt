-- Two images whose cells are the same but for some have the same bits outside those: cell by cell the one becomes the other.
use mathlib.Core.Path.{◌≡◌, refl, sym, ap, ◌∙◌}
use mathlib.Core.Bool.{Bool, true, false}
use mathlib.Core.List.{List}
use mathlib.Core.Logic.{◌⊎◌, inl, inr}
use Prim.Native.Nat.{ℕ, zero, suc, ◌≤◌, ◌<◌}
use native.Mathlib.Omega.{arith}
use lib.Dec.{ltb}
use lib.ListN.{length, get_or, set, length-set}
use lib.Seq.{ext_get_or, set-get_or, get_or-set_same, get_or-set_other}
use borrow.Author.Tests.{ltb-true, ltb-false}
use Rattle.byte_numbers.specs.Place.{byte_at}
use Rattle.log_cell.specs.Cell.{IsCell}
use Rattle.log_header.specs.Header.{cells_of}
use Rattle.energy_log.specs.Image.{OutsideCell, image_of}
use Rattle.energy_log.specs.Pair.{pair_of}
use Rattle.energy_log.proofs.ImageLaws.{sound-image}
use Rattle.energy_log.proofs.ViewLaws.{Whole, applied-image, elsewhere}
use Rattle.log_cell.specs.declared.cell.Cell.{Cell}
use Rattle.log_cell.specs.declared.cell.Cell.TheVariants.{Gap}
use Rattle.log_header.specs.declared.header.Header.{Header}
use Rattle.energy_log.specs.declared.image.Change.TheVariants.{Put}

-- the first m cells are those of another list
up_to : ℕ → List Cell → List Cell → List Cell
up_to zero cs ds = cs
up_to (suc m) cs ds = set (up_to m cs ds) m (get_or ds m Gap)

length-up_to : (m : ℕ) (cs ds : List Cell) → length (up_to m cs ds) ≡ length cs
unfolding up_to
length-up_to zero cs ds = refl
length-up_to (suc m) cs ds = length-set (up_to m cs ds) m (get_or ds m Gap) ∙ length-up_to m cs ds

behind : (m i : ℕ) (cs ds : List Cell) → m ≤ i → get_or (up_to m cs ds) i Gap ≡ get_or cs i Gap
unfolding up_to
behind zero i cs ds l = refl
behind (suc m) i cs ds l = get_or-set_other (up_to m cs ds) m i (get_or ds m Gap) Gap (λ e. omega (arith, e, l)) ∙ behind m i cs ds (omega (arith, l))

before : (m i : ℕ) (cs ds : List Cell) → i < m → i < length cs → get_or (up_to m cs ds) i Gap ≡ get_or ds i Gap
unfolding up_to
before zero i cs ds l n = absurd (omega (arith, l))
before (suc m) i cs ds l n = go (ltb i m) refl (λ less. before m i cs ds less n)
  where
    go : (b : Bool) → ltb i m ≡ b → (i < m → get_or (up_to m cs ds) i Gap ≡ get_or ds i Gap) → get_or (set (up_to m cs ds) m (get_or ds m Gap)) i Gap ≡ get_or ds i Gap
    go true e earlier =
        let less = ltb-true i m e in
        get_or-set_other (up_to m cs ds) m i (get_or ds m Gap) Gap (λ p. omega (arith, p, less)) ∙ earlier less
    go false e earlier =
        let here : i ≡ m = omega (arith, l, ltb-false i m e) in
        ap (λ (k : ℕ). get_or (set (up_to m cs ds) m (get_or ds m Gap)) k Gap) here
        ∙ get_or-set_same (up_to m cs ds) m (get_or ds m Gap) Gap (omega (arith, here, n, length-up_to m cs ds))
        ∙ ap (λ (k : ℕ). get_or ds k Gap) (sym here)

module _ (h : Header) (cs ds : List Cell) (lapses : ℕ → ℕ) (v : Whole h cs lapses) (w : Whole h ds lapses) where
  -- such a list too is made of cells
  whole : (m : ℕ) → Whole h (up_to m cs ds) lapses
  whole m = record { right = v.right; count = length-up_to m cs ds ∙ v.count; each = λ i l. cell i (rw (length-up_to m cs ds) at l) (ltb i m) refl; fit = v.fit }
    where
      cell : (i : ℕ) → i < length cs → (b : Bool) → ltb i m ≡ b → IsCell (get_or (up_to m cs ds) i Gap)
      cell i l true e = rw (before m i cs ds (ltb-true i m e) l) (w.each i (omega (arith, l, v.count, w.count)))
      cell i l false e = rw (behind m i cs ds (ltb-false i m e)) (v.each i l)

  all_changed : up_to (cells_of h) cs ds ≡ ds
  all_changed =
      ext_get_or Gap (up_to (cells_of h) cs ds) ds (length-up_to (cells_of h) cs ds ∙ v.count ∙ sym w.count) (λ i l.
      let n : i < length cs = rw (length-up_to (cells_of h) cs ds) at l in
      before (cells_of h) i cs ds (omega (arith, n, v.count)) n)

  module _ (q j : ℕ) (less : j < 4) (apart : (i : ℕ) → i < cells_of h → (get_or cs i Gap ≡ get_or ds i Gap) ⊎ OutsideCell (cells_of h) i q j) where
    abbrev pair : List Cell → ℕ
    pair xs = pair_of (byte_at (image_of h xs lapses) q) j

    one_more : (m : ℕ) → m < cells_of h → pair (up_to (suc m) cs ds) ≡ pair (up_to m cs ds)
    unfolding up_to
    one_more m l = go (apart m l)
      where
        xs : List Cell
        xs = up_to m cs ds

        go : (get_or cs m Gap ≡ get_or ds m Gap) ⊎ OutsideCell (cells_of h) m q j → pair (set xs m (get_or ds m Gap)) ≡ pair xs
        go (inl same) = ap pair (ap (set xs m) (sym same ∙ sym (behind m m cs ds (omega arith))) ∙ set-get_or xs m Gap)
        go (inr out) =
            let u = whole m in
            let c = get_or ds m Gap in
            ap (λ (s : List ℕ). pair_of (byte_at s q) j) (sym (applied-image h xs lapses (Put m c) u (l, w.each m (omega (arith, l, w.count)))))
            ∙ elsewhere (image_of h xs lapses) h (Put m c) m q j (sound-image lapses h xs u.right u.count) refl less out

    up-to : (m : ℕ) → m ≤ cells_of h → pair (up_to m cs ds) ≡ pair cs
    unfolding up_to
    up-to zero l = refl
    up-to (suc m) l = one_more m l ∙ up-to m (omega (arith, l))

    -- so the bits that hold none of the cells that differ are the same
    pub same_bits : pair cs ≡ pair ds
    same_bits = sym (up-to (cells_of h) (omega arith)) ∙ ap pair all_changed
