-- Demand 2, a new password: the number that the change stores is that of its eight bytes, and an unlock compares the number of its own eight with it.
use mathlib.Core.Path.{◌≡◌, refl, sym, ap, ap₂, subst, ◌∙◌}
use mathlib.Core.Bool.{Bool, true, false, cond}
use mathlib.Core.List.{List, ◌∷◌}
use Prim.Native.Nat.{ℕ, ◌+◌, ◌≤◌, ◌<◌}
use native.Mathlib.Omega.{arith}
use lib.Dec.{eqb, leb, lit≤}
use lib.ListN.{length}
use borrow.Author.Tests.{leb-true, lt-leb, eq-eqb, ne_eqb}
use Rattle.std.specs.Prelude.{Err, Ok, Result}
use Rattle.test_laws.proofs.Test.{both, either}
use Rattle.byte_numbers.specs.Number.{Bytes, number, bytes_of}
use Rattle.byte_numbers.proofs.NumberLaws.{bytes_of-number}
use Rattle.byte_numbers.specs.Place.{number_at}
use Rattle.parameters.specs.Code.{function_of}
use Rattle.frame.specs.Sealing.{framed}
use Rattle.parameters.specs.Table.{parameter_row, parameter_of, first_of}
use Rattle.parameters.specs.declared.code.Function.TheVariants as function
use Rattle.parameters.specs.declared.code.Parameter.{Parameter}
use Rattle.parameters.specs.declared.code.Parameter.TheVariants as parameter
use Rattle.parameters.specs.declared.table.Access.{Access}
use Rattle.parameters.specs.declared.table.Access.TheVariants as access
use Rattle.meter_clock.specs.Protection.{opened}
use Rattle.meter_clock.specs.declared.protection.Level.{Level}
use Rattle.meter_clock.specs.declared.protection.Level.TheVariants.{Main}
use Rattle.meter_store.specs.Store.{store_bytes}
use Rattle.meter_record.proofs.RangeLaws.{within}
use Rattle.meter_record.specs.Ranges.{is_within}
use Rattle.meter_record.specs.With.{with_protection, with_passwords}
use Rattle.meter_record.specs.declared.record.Passwords.{Passwords}
use Rattle.meter_record.specs.declared.record.Record.{Record}
use Rattle.meter_command.specs.Access.{change_allowed, password_for, level_for, unlock_verdict}
use Rattle.meter_command.specs.Change.{data_fits, passwords_after, changed_to}
use Rattle.meter_command.proofs.KeepLaws.{changed}
use Rattle.meter_command.specs.Judgement.{argument_fits, verdict_of, verdict_by}
use Rattle.meter_command.specs.Command.{parameter_byte, parameter_in, data_in, command_of, detail_in}
use Rattle.meter_command.specs.Verdict.{number_of, is_done}
use Rattle.meter_command.specs.declared.access.Met.TheVariants.{Own}
use Rattle.meter_command.specs.declared.verdict.Refusal.{Refusal}
use Rattle.meter_command.specs.declared.verdict.Refusal.TheVariants.{WrongLength, NoAccess, WrongArgument}
use Rattle.meter.specs.Effect.{renewed, after_by}
use Rattle.meter.specs.Reply.{Outcome, is_sound, met, is_heard, heard, replied, answer_of}
use Rattle.meter.proofs.KeepLaws.{answer-sound}
use Rattle.claims.specs.Changes.{Leaves}
use Rattle.claims.specs.Demand1.{answer_number}
use Rattle.claims.specs.Demand2Password.{level_byte, level_of, other, new_password, unlocking, Eight, given, unlocked, New}
use Rattle.claims.proofs.Alike.{length-by, number_by, sealed-by, met-by-own, answered-by}
use Rattle.claims.proofs.Changes.{after-done, right_password, refused-leaves}
use Rattle.claims.proofs.Done.{change_done}
use Rattle.claims.proofs.Replies.{passed}
use Rattle.claims.proofs.Wire.{OfBytes, bytes-cons}

-- ---- both frames reach the meter

level-small : (level : Access) → level_byte level < 256
level-small access.Main = lit≤ tt
level-small access.Auxiliary = lit≤ tt

message-bytes : (p : ℕ) (level : Access) (password : List ℕ) → p < 256 → Eight password → Bytes (p ∷ level_byte level ∷ password)
message-bytes p level password h e =
    let b : OfBytes (p ∷ level_byte level ∷ password) = bytes-cons p h (bytes-cons (level_byte level) (level-small level) (record { each = e.bytes })) in
    b.each

not-zero : (r : Record) (s : List ℕ) → is_sound r s ≡ true → r.address ≡ 0 → ⊥
unfolding is_sound
not-zero r s sound e =
    let w = leb-true 1 r.address (within r (both (eqb (length s) store_bytes) (is_within r) sound).1).address in
    omega (arith, e, w)

meets : (r : Record) (s : List ℕ) (fn p : ℕ) (level : Access) (password : List ℕ) → fn < 256 → p < 256 → is_sound r s ≡ true → r.address < 256 → Eight password
    → met r (framed (r.address ∷ fn ∷ p ∷ level_byte level ∷ password)) ≡ Own
meets r s fn p level password hf hp sound a e =
    let m = p ∷ level_byte level ∷ password in
    met-by-own r fn m (sealed-by r.address fn m a hf (message-bytes p level password hp e) (omega (arith, e.long))) (not-zero r s sound)

-- ---- the number of eight bytes is their own

one_number : (a b : List ℕ) → Eight a → Eight b → number a ≡ number b → a ≡ b
one_number a b x y e =
    sym (bytes_of-number a x.bytes) ∙ ap₂ bytes_of (x.long ∙ sym y.long) e ∙ bytes_of-number b y.bytes

-- ---- what an unlock is told

unlock-verdict : (k : Passwords) (a : ℕ) (level : Access) (p : List ℕ) → length p ≡ 8
    → unlock_verdict k (command_of (framed (a ∷ 31 ∷ 0 ∷ level_byte level ∷ p))) (framed (a ∷ 31 ∷ 0 ∷ level_byte level ∷ p)) ≡ cond (eqb (number p) (password_for k (level_byte level))) (Ok tt) (Err NoAccess)
unfolding unlock_verdict framed
unlock-verdict k a level p h =
    let m : List ℕ = 0 ∷ level_byte level ∷ p in
    let l : length (framed (a ∷ 31 ∷ m)) ≡ 14 = length-by a 31 m ∙ omega (arith, h) in
    let eight : length m ≡ 10 = omega (arith, h) in
    ap₂ (λ (b : Bool) (n : ℕ). cond b (told n) (Err WrongLength)) (eq-eqb (length (framed (a ∷ 31 ∷ m))) 14 l) (number_by a 31 m eight) ∙ named level
  where
    told : ℕ → Result Unit Refusal
    told n = cond (leb (level_byte level) 1) (cond (eqb n (password_for k (level_byte level))) (Ok tt) (Err NoAccess)) (Err WrongArgument)

    named : (x : Access) → ◌≡◌ {A = Result Unit Refusal}
        (cond (leb (level_byte x) 1) (cond (eqb (number p) (password_for k (level_byte x))) (Ok tt) (Err NoAccess)) (Err WrongArgument))
        (cond (eqb (number p) (password_for k (level_byte x))) (Ok tt) (Err NoAccess))
    named access.Main = refl
    named access.Auxiliary = refl

number-told : (v : Result Unit Refusal) (r : Record) (s f out : List ℕ) → answer_number (replied v r s f out) ≡ number_of v
unfolding replied
number-told v r s f out = either (λ (o : Outcome). answer_number o ≡ number_of v) (is_done v) refl refl

-- 0 where the number is the level's, else 14
abbrev told_by : Passwords → Access → List ℕ → ℕ
told_by k level p = number_of (cond (eqb (number p) (password_for k (level_byte level))) (Ok tt) (Err NoAccess))

told : (r : Record) (s : List ℕ) (level : Access) (p room : List ℕ) → is_sound r s ≡ true → r.address < 256 → Eight p → 64 ≤ length room
    → answer_number (answer_of r s (unlocking r level p) room) ≡ told_by r.passwords level p
unfolding verdict_of verdict_by function_of framed
told r s level p room sound a e space =
    let f = unlocking r level p in
    ap answer_number (answered-by r s f room Own space sound (meets r s 31 0 level p (lit≤ tt) (lit≤ tt) sound a e) refl)
    ∙ number-told (verdict_of Own r (command_of f) f) r s f room
    ∙ ap number_of (unlock-verdict r.passwords r.address level p e.long)

-- ---- the change

password-named : (a : ℕ) (level : Access) (p : List ℕ) → parameter_in (framed (a ∷ 16 ∷ 37 ∷ level_byte level ∷ p)) ≡ parameter.Password
unfolding parameter_byte function_of parameter_of first_of framed
password-named a level p =
    let m : List ℕ = 37 ∷ level_byte level ∷ p in
    let long : leb (length (framed (a ∷ 16 ∷ m))) 4 ≡ false = lt-leb (length (framed (a ∷ 16 ∷ m))) 4 (omega (arith, length-by a 16 m)) in
    ap (λ (b : Bool). parameter_of (cond b 0 37)) long

data-number : (a : ℕ) (level : Access) (p : List ℕ) → length p ≡ 8 → number_at (data_in (framed (a ∷ 16 ∷ 37 ∷ level_byte level ∷ p))) 0 8 ≡ number p
unfolding number_at framed
data-number a level p h = number_by a 16 (37 ∷ level_byte level ∷ p) (omega (arith, h))

-- demand 2's `taken`: a sound meter whose main level is open takes any eight bytes as either level's new password
pub taken : (level : Access) (new : List ℕ) (r : Record) (s out : List ℕ) → Eight new → r.address < 256 → is_sound r s ≡ true → 64 ≤ length out
    → r.protection.level ≡ Main → answer_number (given level new r s out) ≡ 0
unfolding function_of framed heard argument_fits data_fits
taken level new r s out e a sound room m =
    let f = new_password r level new in
    let g = password-named r.address level new in
    let own = meets r s 16 37 level new (lit≤ tt) (lit≤ tt) sound a e in
    let l : length f ≡ 14 = length-by r.address 16 (37 ∷ level_byte level ∷ new) ∙ omega (arith, e.long) in
    change_done r s f out (record { room = room; sound = sound; hears = ap is_heard own }) own refl
    (ap (λ (p : Parameter). (parameter_row p).changeable) g)
    (l ∙ ap (λ (p : Parameter). 6 + (parameter_row p).change_bytes) (sym g))
    (ap₂ change_allowed g m)
    (ap (λ (p : Parameter). argument_fits (parameter_row p) (detail_in f) r.telemetry (data_in f)) g ∙ fits level r new)
  where
    fits : (x : Access) (r : Record) (new : List ℕ) → argument_fits (parameter_row parameter.Password) (detail_in (new_password r x new)) r.telemetry (data_in (new_password r x new)) ≡ true
    fits access.Main r new = refl
    fits access.Auxiliary r new = refl

given-after : (level : Access) (new : List ℕ) (r : Record) (s out room : List ℕ) → New level new r s out room
    → (given level new r s out).answer.after ≡ renewed (with_passwords r (passwords_after r.passwords (level_byte level) (number new)))
unfolding function_of framed after_by changed_to
given-after level new r s out room n =
    let f = new_password r level new in
    after-done r s f out function.Change refl n.zero
    ∙ ap (λ (p : Parameter). renewed (changed p r f)) (password-named r.address level new)
    ∙ ap (λ (x : ℕ). renewed (with_passwords r (passwords_after r.passwords (level_byte level) x))) (data-number r.address level new n.eight.long)

-- ---- what opens then

its_own : (k : Passwords) (level : Access) (n : ℕ) → password_for (passwords_after k (level_byte level) n) (level_byte level) ≡ n
unfolding password_for passwords_after
its_own k access.Main n = refl
its_own k access.Auxiliary n = refl

others : (k : Passwords) (level : Access) (n : ℕ)
    → password_for (passwords_after k (level_byte level) n) (level_byte (other level)) ≡ password_for k (level_byte (other level))
unfolding password_for passwords_after
others k access.Main n = refl
others k access.Auxiliary n = refl

level-named : (level : Access) → level_for (level_byte level) ≡ level_of level
unfolding level_for
level-named access.Main = refl
level-named access.Auxiliary = refl

-- an unlock of some level after the change, by the passwords that it left
module _ (level : Access) (new : List ℕ) (r : Record) (s out room : List ℕ) (n : New level new r s out room) where
  after-told : (tried : Access) (p : List ℕ) → Eight p
      → answer_number (unlocked (given level new r s out) tried p room) ≡ told_by (passwords_after r.passwords (level_byte level) (number new)) tried p
  after-told tried p e =
      let o = given level new r s out in
      let x = given-after level new r s out room n in
      told o.answer.after o.store tried p room (answer-sound r s (new_password r level new) out (passed r s (new_password r level new) out n.zero).sound)
      (subst (λ (y : Record). y.address < 256) (sym x) n.address) e n.room
      ∙ ap (λ (y : Record). told_by y.passwords tried p) x

  -- demand 2's `opens`: they then open that level
  pub opens : let o = given level new r s out in let u = unlocked o level new room in
      (answer_number u ≡ 0) × Leaves (with_protection o.answer.after (opened (level_of level))) o.store u
  unfolding function_of framed
  opens =
      let o = given level new r s out in
      let k = passwords_after r.passwords (level_byte level) (number new) in
      let same : eqb (number new) (password_for k (level_byte level)) ≡ true = eq-eqb _ _ (sym (its_own r.passwords level (number new))) in
      let zero = after-told level new n.eight ∙ ap (λ (b : Bool). number_of (cond b (Ok tt) (Err NoAccess))) same in
      (zero, ap-level o zero)
    where
      ap-level : (o : Outcome) → answer_number (unlocked o level new room) ≡ 0 → Leaves (with_protection o.answer.after (opened (level_of level))) o.store (unlocked o level new room)
      ap-level o zero =
          subst (λ (l : Level). Leaves (with_protection o.answer.after (opened l)) o.store (unlocked o level new room)) (level-named level)
          (right_password o.answer.after o.store (unlocking o.answer.after level new) room refl zero).1

  -- demand 2's `no_other`: no other eight bytes do, the old ones among them: 14, and nothing changes
  pub no_other : (old : List ℕ) → Eight old → (old ≡ new → ⊥)
      → let o = given level new r s out in let u = unlocked o level old room in (answer_number u ≡ 14) × Leaves o.answer.after o.store u
  no_other old e d =
      let o = given level new r s out in
      let k = passwords_after r.passwords (level_byte level) (number new) in
      let differs : eqb (number old) (password_for k (level_byte level)) ≡ false =
      ne_eqb _ _ (λ q. d (one_number old new e n.eight (q ∙ its_own r.passwords level (number new)))) in
      let told = after-told level old e ∙ ap (λ (b : Bool). number_of (cond b (Ok tt) (Err NoAccess))) differs in
      (told, refused-leaves _ _ _ _ (λ z. omega (arith, told, z)))

  -- demand 2's `other_stays`: what is tried on the other level is answered as before the change
  pub other_stays : (tried : List ℕ) → Eight tried
      → answer_number (unlocked (given level new r s out) (other level) tried room) ≡ answer_number (answer_of r s (unlocking r (other level) tried) room)
  other_stays tried e =
      after-told (other level) tried e
      ∙ ap (λ (m : ℕ). number_of (cond (eqb (number tried) m) (Ok tt) (Err NoAccess))) (others r.passwords level (number new))
      ∙ sym (told r s (other level) tried room (passed r s (new_password r level new) out n.zero).sound n.address e n.room)
