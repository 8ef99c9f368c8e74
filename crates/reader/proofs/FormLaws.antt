-- What follows from the definitions of specs/Form.antt, for proofs alone: no contract cites it.
use Rattle.std.specs.Prelude.{Err, Ok, Result}
use native.Mathlib.Omega.{arith}
use mathlib.Core.Path.{◌≡◌, refl, sym, ap, subst, ◌∙◌}
use mathlib.Core.Bool.{Bool, true, false, cond}
use mathlib.Core.List.{List}
use Prim.Native.Nat.{ℕ, ◌≤◌}
use lib.Dec.{eqb}
use lib.ListN.{length}
use Rattle.test_laws.proofs.Test.{either}
use Rattle.byte_numbers.specs.Place.{byte_at}
use Rattle.frame.specs.Sealing.{crc_fits}
use Rattle.frame.specs.Layout.{address_place, function_place, parameter_place, result_place}
use Rattle.reader.specs.Form.{length_for, function_for, head_of, form_of, by_form, reply_of, if_reply, fault_number}
use Rattle.reader.specs.declared.form.Fault.{Fault}
use Rattle.reader.specs.declared.form.Fault.TheVariants as fault
use Rattle.reader.specs.declared.form.ReplyError.TheVariants.{Refused}

-- no other answer has a number so high
pub fault-above : (f : Fault) → 50 ≤ fault_number f
fault-above (fault.Length n) = omega arith
fault-above fault.Crc = omega arith
fault-above fault.Address = omega arith
fault-above fault.Function = omega arith
fault-above fault.Parameter = omega arith

-- the length that a form tells, or else another
told : ℕ → Result Unit Fault → ℕ
told other (Ok tt) = other
told other (Err (fault.Length n)) = n
told other (Err fault.Crc) = other
told other (Err fault.Address) = other
told other (Err fault.Function) = other
told other (Err fault.Parameter) = other

module _ (address function parameter full : ℕ) (y : List ℕ) where
  told-own : told (length y) (form_of address function parameter full y) ≡ length y
  unfolding told form_of head_of
  told-own =
      let P : Result Unit Fault → Type 0 = λ f. told (length y) f ≡ length y in
      let wanted = function_for function (byte_at y result_place) in
      either P (eqb (length y) (length_for (byte_at y function_place) full))
      (either P (crc_fits y)
      (either P (eqb (byte_at y address_place) address)
      (either P (eqb (byte_at y function_place) wanted) (either P (eqb (byte_at y parameter_place) parameter) refl refl) refl)
      refl)
      refl)
      refl

  -- the length that is told of a reply is its own
  pub length-told : (n : ℕ) → form_of address function parameter full y ≡ Err (fault.Length n) → n ≡ length y
  unfolding told
  length-told n e = sym (ap (told (length y)) e) ∙ told-own

-- ---- what a reply comes to, by its form and its result

-- what holds of the value for each case holds of the one that is chosen
module _ {A : Type 0} (P : A → Type 0) (address function parameter full : ℕ) (y : List ℕ) {f : Fault → A} (g : ℕ → A) {x : A} where
  -- three cases: a fault in the form, a result other than 0, and an answer
  pub by-reply : ((fault : Fault) → form_of address function parameter full y ≡ Err fault → P (f fault))
      → (form_of address function parameter full y ≡ Ok tt → eqb (byte_at y result_place) 0 ≡ false → P (g (byte_at y result_place)))
      → (form_of address function parameter full y ≡ Ok tt → eqb (byte_at y result_place) 0 ≡ true → P x)
      → P (if_reply (reply_of address function parameter full y) f g x)
  unfolding reply_of
  by-reply faulty refused answered = go (form_of address function parameter full y) refl (eqb (byte_at y result_place) 0) refl
    where
      go : (form : Result Unit Fault) → form_of address function parameter full y ≡ form → (b : Bool) → eqb (byte_at y result_place) 0 ≡ b
          → P (if_reply (by_form form (byte_at y result_place)) f g x)
      go (Err fault) e b k = faulty fault e
      go (Ok tt) e true k = subst (λ (b : Bool). P (if_reply (cond b (Ok tt) (Err (Refused (byte_at y result_place)))) f g x)) (sym k) (answered e k)
      go (Ok tt) e false k = subst (λ (b : Bool). P (if_reply (cond b (Ok tt) (Err (Refused (byte_at y result_place)))) f g x)) (sym k) (refused e k)

-- a well-formed reply with result 0 is answered, for callers that know both
pub formed-answers : (address function parameter full : ℕ) (y : List ℕ) → form_of address function parameter full y ≡ Ok tt
    → byte_at y result_place ≡ 0 → reply_of address function parameter full y ≡ Ok tt
unfolding reply_of
formed-answers address function parameter full y e z = rw (e, z) refl
