-- A part of the record's bytes that is lent on to the end, as seen from the whole.
use mathlib.Core.Path.{◌≡◌, ap, ◌∙◌}
use mathlib.Core.List.{List, ◌++◌}
use Prim.Native.Nat.{ℕ, ◌-◌}
use native.Mathlib.Nat.{add-zero}
use lib.ListN.{length, take, drop}
use Rattle.byte_numbers.proofs.Part.{written-rest}
use Rattle.byte_numbers.specs.Place.{written}

-- what `&mut s[a..]` leaves of s, where its borrower left x of it: bs, written from place a on
pub part-put : (a : ℕ) (s x bs : List ℕ) → x ≡ written (take (length s - a) (drop a s)) 0 bs
    → take a s ++ (x ++ drop (length s - a) (drop a s)) ≡ written s a bs
part-put a s x bs e =
    ap (λ (l : List ℕ). take a s ++ (l ++ drop (length s - a) (drop a s))) e
    ∙ written-rest a s 0 bs
    ∙ ap (λ (k : ℕ). written s k bs) (add-zero a)
