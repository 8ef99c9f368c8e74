-- Laws of requests and what they ask for.
use Rattle.std.specs.Prelude.{None, Option, Some}
use Rattle.request.specs.Subject.{subject_with}
use mathlib.Core.Path.{◌≡◌, refl}
use mathlib.Core.Bool.{Bool, true, false, ◌&&◌, false≢true}
use Prim.Native.Nat.{ℕ, ◌-◌, ◌≤◌}
use native.Mathlib.Omega.{arith}
use lib.Dec.{leb, ltb, lit≤}
use borrow.Author.Tests.{lt-ltb, ltb-true}
use Rattle.test_laws.proofs.Test.{both}
use Rattle.slots.specs.Key.{is_legal}
use Rattle.slots.specs.declared.key.Key.{Key}
use Rattle.parameters.specs.Table.{parameter_row, opens_to, parameter_of}
use Rattle.parameters.proofs.TableLaws.{reply-small}
use Rattle.parameters.specs.declared.code.Parameter.{Parameter}
use Rattle.parameters.specs.declared.table.Fields.{Fields}
use Rattle.parameters.specs.declared.table.Fields.TheVariants.{Unused, Phase, Slot, SixSlots}
use Rattle.request.specs.Subject.{key_of, fields_fit, subject_for, subject_of, most_slots, askable, data_bytes}
use Rattle.request.specs.declared.request.Request.{Request}
use Rattle.request.specs.declared.subject.Subject.{Subject}

-- ---- what a request that asks for something asks for

-- the parameter is open to the function, the fields fit, and the figures are the parameter's
pub record Asked (p : Parameter) (q : Request) (slots : ℕ) : Type 0 where
  pub open-to : opens_to q.reading (parameter_row p) ≡ true
  pub fits : fields_fit (parameter_row p).fields q slots ≡ true
  pub subject : subject_for p q slots ≡ subject_with q.reading p q.detail

-- all of this holds of a request that asks for something
pub asked : (p : Parameter) (q : Request) (slots : ℕ) → askable (subject_for p q slots) ≡ true → Asked p q slots
unfolding subject_for
asked p q slots = go (opens_to q.reading (parameter_row p)) refl (fields_fit (parameter_row p).fields q slots) refl
  where
    go : (a : Bool) → opens_to q.reading (parameter_row p) ≡ a → (b : Bool) → fields_fit (parameter_row p).fields q slots ≡ b
        → askable (subject_for p q slots) ≡ true → Asked p q slots
    go true e true g h = record { open-to = e; fits = g; subject = rw (e, g) }
    go true e false g h = absurd (false≢true (rw (e, g) at h))
    go false e b g h = absurd (false≢true (rw e at h))

-- ---- what is asked of a shorter day is asked of a longer one

legal-wider : (k : Key) (a b : ℕ) → a ≤ b → is_legal k a ≡ true → is_legal k b ≡ true
unfolding is_legal
legal-wider k a b h e =
    let t = both (leb 1 k.month && leb k.month 12 && leb 1 k.day && leb k.day 31) (ltb k.number a) e in
    rw t.0 (lt-ltb k.number b (omega (arith, ltb-true k.number a t.1, h)))

fields-wider : (f : Fields) (q : Request) (a b : ℕ) → a ≤ b → fields_fit f q a ≡ true → fields_fit f q b ≡ true
fields-wider Unused q a b h e = e
fields-wider Phase q a b h e = e
fields-wider Slot q a b h e = legal-wider (key_of q) a b h e
fields-wider SixSlots q a b h e = legal-wider (key_of q) (a - 5) (b - 5) (omega (arith, h)) e

-- a request that a meter of either interval could answer with 0 asks for the same by the most slots
pub subject-wider : (q : Request) (slots : ℕ) → slots ≤ most_slots → askable (subject_of q slots) ≡ true
    → subject_of q most_slots ≡ subject_of q slots
unfolding subject_of subject_for
subject-wider q slots h e =
    let a = asked (parameter_of q.parameter) q slots e in
    rw (a.open-to, a.fits, fields-wider (parameter_row (parameter_of q.parameter)).fields q slots most_slots h a.fits)

-- ---- data bytes

-- a reply to any request has at most 48 bytes of data, so its length is small enough to compute
pub data_bytes-small : (s : Option Subject) → data_bytes s ≤ 48
data_bytes-small (Some asked) = reply-small asked.reading asked.parameter asked.detail
data_bytes-small None = lit≤ tt
