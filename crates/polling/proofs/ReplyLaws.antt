-- Listening that stops at a whole reply takes a well-formed one to its end and no further.
use Rattle.std.specs.Prelude.{Err, Ok}
use Prim.Native.Nat.{ℕ, ◌<◌, ◌≤◌}
use native.Mathlib.Omega.{arith}
use mathlib.Core.Path.{◌≡◌, refl}
use mathlib.Core.Bool.{Bool, true, false, cond}
use mathlib.Core.List.{List}
use lib.Dec.{eqb, leb, ltb}
use lib.ListN.{length, take}
use lib.Seq.{get_or-take, length-take-le}
use borrow.Author.Tests.{eqb-true, le-leb, lt-leb, ltb-true, ltb-false}
use Rattle.byte_numbers.specs.Place.{byte_at}
use Rattle.parameters.specs.Code.{refused}
use Rattle.frame.specs.Layout.{function_place, bare_size}
use Rattle.frame.specs.Sealing.{crc_fits}
use Rattle.reader.specs.Form.{length_for, head_of, form_of}
use Rattle.reader.specs.declared.form.Fault.TheVariants as fault
use Rattle.polling.specs.Reply.{is_whole}

-- a well-formed reply has the length that its function says
formed-length : (address function parameter full : ℕ) (y : List ℕ) → form_of address function parameter full y ≡ Ok tt → length y ≡ length_for (byte_at y function_place) full
unfolding form_of
formed-length address function parameter full y e = go (eqb (length y) (length_for (byte_at y function_place) full)) refl e
  where
    go : (b : Bool) → eqb (length y) (length_for (byte_at y function_place) full) ≡ b
        → cond b (cond (crc_fits y) (head_of address function parameter y) (Err fault.Crc)) (Err (fault.Length (length y))) ≡ Ok tt
        → length y ≡ length_for (byte_at y function_place) full
    go true p q = eqb-true _ _ p
    go false p q = let z : ◌≡◌ {A = ℕ} 0 1 = cc in absurd (omega arith)

-- a well-formed reply is whole: listening stops at its end
pub formed-whole : (address function parameter full : ℕ) (y : List ℕ) → form_of address function parameter full y ≡ Ok tt → is_whole full y ≡ true
unfolding is_whole
formed-whole address function parameter full y e = le-leb (length_for (byte_at y function_place) full) (length y) (omega (arith, formed-length address function parameter full y e))

-- "6 with the function's top bit set, else that of its request": no reply is shorter
shortest : (function full : ℕ) → bare_size ≤ full → bare_size ≤ length_for function full
unfolding length_for
shortest function full l = go (leb refused function)
  where
    go : (b : Bool) → bare_size ≤ cond b bare_size full
    go true = omega arith
    go false = l

-- a front that has the function byte is too short for it, and one that lacks it is too short for any
cut_short : (full : ℕ) (y : List ℕ) (n : ℕ) → bare_size ≤ full → n < length_for (byte_at y function_place) full → n ≤ length y → is_whole full (take n y) ≡ false
unfolding is_whole
cut_short full y n f l m = go (ltb 1 n) refl
  where
    go : (b : Bool) → ltb 1 n ≡ b → leb (length_for (byte_at (take n y) function_place) full) (length (take n y)) ≡ false
    go true e = rw (get_or-take n y 1 0 (ltb-true 1 n e), length-take-le n y m) (lt-leb (length_for (byte_at y function_place) full) n l)
    go false e =
        let t = take n y in
        let k : length t ≡ n = length-take-le n y m in
        lt-leb (length_for (byte_at t function_place) full) (length t) (omega (arith, k, shortest (byte_at t function_place) full f, ltb-false 1 n e))

-- no front of a well-formed reply is whole: listening does not stop within it
pub formed-front : (address function parameter full : ℕ) (y : List ℕ) (n : ℕ) → bare_size ≤ full → form_of address function parameter full y ≡ Ok tt → n < length y → is_whole full (take n y) ≡ false
formed-front address function parameter full y n f e l = cut_short full y n f (omega (arith, formed-length address function parameter full y e)) (omega arith)
