-- The count that C is given is the one that the request foretells.
use mathlib.Core.Path.{◌≡◌, refl, sym}
use mathlib.Core.Bool.{Bool, true, false, cond}
use mathlib.Core.List.{List}
use Prim.Native.Nat.{ℕ}
use lib.Dec.{eqb}
use borrow.Author.Tests.{eqb-true}
use Rattle.request.specs.Subject.{subject_of, most_slots}
use Rattle.request.specs.declared.request.Request.{Request}
use Rattle.reader.specs.Reply.{decoded_of, number_of}
use Rattle.c_values.specs.Row.{figures_for}
use Rattle.c_values.proofs.RowLaws.{decoded-foretold}
use Rattle.metlazuel.specs.WireCalls.{count_after}

-- for `decode`: the count given with 0 is the request's, and any other answer leaves the lent one
pub count-foretold : (q : Request) (y : List ℕ) (before : ℕ)
    → cond (eqb (number_of (decoded_of q y)) 0) (figures_for (subject_of q most_slots)) before ≡ count_after (decoded_of q y) y before
unfolding count_after
count-foretold q y before = go (eqb (number_of (decoded_of q y)) 0) refl
  where
    go : (b : Bool) → eqb (number_of (decoded_of q y)) 0 ≡ b
        → cond (eqb (number_of (decoded_of q y)) 0) (figures_for (subject_of q most_slots)) before ≡ count_after (decoded_of q y) y before
    go true e = rw e (sym (decoded-foretold q y (eqb-true _ _ e)))
    go false e = rw e
