-- What follows from the definitions of specs/Value.antt, for proofs alone: no contract cites it.
use Rattle.std.specs.Prelude.{None, Some}
use Prim.Native.Nat.{ℕ, suc, ◌+◌, ◌-◌, ◌<◌, ◌≤◌}
use native.Mathlib.Omega.{arith}
use mathlib.Core.Path.{◌≡◌}
use mathlib.Core.List.{List, [], ◌∷◌}
use Rattle.refusal.specs.Outcome.{outcome}
use Rattle.byte_numbers.specs.Place.{written}
use Rattle.console.specs.Value.{pair_at, on_pair, read_from}

-- `read_bytes`: the step of its loop, and its ends
module _ (d : List ℕ) (pairs i : ℕ) (out : List ℕ) where
  -- a pair is stored, and the loop goes on
  pub read-on : (b : ℕ) → i < pairs → pair_at d i ≡ Some b
      → read_from d pairs (i + 1) (pairs - (i + 1)) (written out i (b ∷ [])) ≡ read_from d pairs i (pairs - i) out
  unfolding read_from on_pair
  read-on b l h = let e : pairs - i ≡ suc (pairs - (i + 1)) = omega arith in rw (e, h)

  -- a pair that is no byte ends it
  pub read-stops : i < pairs → pair_at d i ≡ None → outcome None out ≡ read_from d pairs i (pairs - i) out
  unfolding read_from on_pair
  read-stops l h = let e : pairs - i ≡ suc (pairs - (i + 1)) = omega arith in rw (e, h)

  -- all pairs are stored
  pub read-ends : pairs ≤ i → outcome (Some pairs) out ≡ read_from d pairs i (pairs - i) out
  unfolding read_from
  read-ends l = let e : pairs - i ≡ 0 = omega arith in rw e
