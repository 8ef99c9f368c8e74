-- What follows from the definitions of specs/Path.antt, for proofs alone: no contract cites it.
use Prim.Native.Nat.{ℕ, zero, suc, ◌-◌, ◌<◌}
use mathlib.Core.Path.{◌≡◌, sym, ap, ◌∙◌}
use mathlib.Core.List.{List}
use native.Mathlib.Omega.{arith}
use borrow.Author.Tests.{eq-eqb, ne_eqb}
use lib.ListN.{get_or}
use Rattle.paths_and_locks.specs.Path.{folder_length}

-- ---- the search for the last slash, from the end

-- a slash ends the search: the folder reaches up to it
pub slash-at : (s : List ℕ) (i : ℕ) → 0 < i → get_or s (i - 1) 0 ≡ 47 → folder_length i s ≡ i
unfolding folder_length
slash-at s zero h e = absurd (omega arith)
slash-at s (suc k) h e =
    let m : suc k - 1 ≡ k = omega arith in
    rw (eq-eqb (get_or s k 0) 47 (sym (ap (λ (j : ℕ). get_or s j 0) m) ∙ e))

-- any other sign is passed, towards the front
pub no_slash : (s : List ℕ) (i : ℕ) → 0 < i → (get_or s (i - 1) 0 ≡ 47 → ⊥) → folder_length i s ≡ folder_length (i - 1) s
unfolding folder_length
no_slash s zero h e = absurd (omega arith)
no_slash s (suc k) h e =
    let m : suc k - 1 ≡ k = omega arith in
    rw (m, ne_eqb (get_or s k 0) 47 (λ f. e (ap (λ (j : ℕ). get_or s j 0) m ∙ f)))
