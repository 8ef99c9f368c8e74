-- What follows from the definitions of specs/Form.antt, for proofs alone: no contract cites it.
use Prim.Native.Nat.{ℕ, suc, ◌+◌, ◌-◌, ◌<◌, ◌≤◌}
use native.Mathlib.Nat.{sub-zero}
use native.Mathlib.Numerals.{add-one}
use mathlib.Core.Path.{◌≡◌, refl}
use mathlib.Core.Bool.{Bool, true, false, cond, ◌&&◌}
use mathlib.Core.List.{List, [], ◌∷◌}
use lib.Dec.{eqb}
use lib.ListN.{length, get_or, drop, drop_of_length-le}
use lib.Seq.{drop-cons}
use lib.Pointwise.{pointwise}
use Rattle.text.specs.Reading.{number_of_text}
use Rattle.console.specs.Line.{spaces_in, word_at}
use Rattle.console.specs.Form.{same_bytes, place_from, place_of, is_up_to, are_numbers}

-- ---- laws for the walks

-- two texts are the same where each of their bytes is
same_pointwise : (s t : List ℕ) → pointwise eqb s t ≡ same_bytes s t
unfolding same_bytes
same_pointwise [] [] = refl
same_pointwise [] (b ∷ t) = refl
same_pointwise (a ∷ s) [] = refl
same_pointwise (a ∷ s) (b ∷ t) = go (eqb a b) (same_pointwise s t)
  where
    go : (x : Bool) → pointwise eqb s t ≡ same_bytes s t → (x && pointwise eqb s t) ≡ cond x (same_bytes s t) false
    go true e = e
    go false e = refl

module _ (w names : List ℕ) where
  -- `place_of`: its loop begins at the first name
  pub place_start : (last : ℕ) → last ≡ spaces_in names → place_from w names 0 (suc (last - 0)) ≡ place_of w names
  unfolding place_of
  place_start last e = rw (sub-zero, e)

  -- what is told of the word u at place k ends it, or sends it to the next
  pub place_step : (k n : ℕ) {u : List ℕ} {r : Bool} → u ≡ word_at k names → r ≡ pointwise eqb u w
      → place_from w names k (suc n) ≡ cond r k (place_from w names (k + 1) n)
  unfolding place_from
  place_step k n word told = rw (told, word, same_pointwise)

  -- it is none of them
  pub place_none : (k : ℕ) → place_from w names k 0 ≡ length names
  unfolding place_from
  place_none k = refl

module _ (line ms : List ℕ) (i : ℕ) where
  -- `are_numbers`: what is told of a word ends it, or sends it to the next
  pub numbers_step : {r : Bool} → i < length ms → r ≡ is_up_to (get_or ms i 0) (number_of_text (word_at (i + 1) line))
      → are_numbers line (i + 1) (drop i ms) ≡ cond r (are_numbers line (i + 1 + 1) (drop (i + 1) ms)) false
  unfolding are_numbers
  numbers_step h told = rw (drop-cons ms i 0 h, told) (rw (add-one i))

  -- all words seen
  pub numbers_done : length ms ≤ i → are_numbers line (i + 1) (drop i ms) ≡ true
  unfolding are_numbers
  numbers_done h = rw (drop_of_length-le ms h)
