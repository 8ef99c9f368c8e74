-- What follows from the definitions of specs/Form.antt, specs/Request.antt and specs/Reply.antt, for proofs alone: no contract cites it.
use Rattle.std.specs.Prelude.{Err, Ok, Result}
use mathlib.Core.Path.{◌≡◌, refl, sym, ap, ap₂, ◌∙◌}
use mathlib.Core.Bool.{Bool, true, false, cond}
use mathlib.Core.List.{List, [], ◌∷◌, ◌++◌, append_assoc, append-nil}
use Prim.Native.Nat.{ℕ, zero, suc, ◌+◌, ◌-◌, ◌^◌, ◌≤◌, ◌<◌}
use native.Mathlib.Nat.{zero-lt-suc}
use native.Mathlib.Omega.{arith}
use lib.Dec.{eqb}
use lib.ListN.{length, take, drop, length-append}
use lib.Seq.{take-add, drop_at}
use borrow.Author.Tests.{eq-eqb, eqb-true}
use Rattle.test_laws.proofs.Test.{both}
use Rattle.byte_numbers.specs.Number.{Bytes, bytes_of}
use Rattle.byte_numbers.specs.Place.{byte_at}
use Rattle.crc16.specs.Crc.{crc_of}
use Rattle.frame.specs.Sealing.{framed, crc_fits}
use Rattle.frame.proofs.SealingLaws.{length-framed, crc_fits-framed, framed-of-fits}
use Rattle.packed_decimal.proofs.PackedLaws.{bytes-append}
use Rattle.mercury.specs.Command.{command_of, is_known, data_size}
use Rattle.mercury.specs.Form.{form_of, request_form, repeats, reply_form}
use Rattle.mercury.specs.Layout.{address_bytes, address_in, head_of}
use Rattle.mercury.specs.Reply.{reply_frame}
use Rattle.mercury.specs.Request.{request_frame}
use Rattle.mercury.specs.declared.form.Fault.{Fault}
use Rattle.mercury.specs.declared.form.Fault.TheVariants as fault
use Rattle.mercury.proofs.LayoutLaws.{length-head, address-head, bytes-head, head-back}

abbrev well-formed : Result Unit Fault
well-formed = Ok tt

-- ---- frames that were made are well formed

-- a frame whose body begins with an address and a command
formed-head : (address code size : ℕ) (rest : List ℕ) → address < 256 ^ 4 → Bytes (head_of address code ++ rest) → 7 + length rest ≡ size
    → form_of address size true (framed (head_of address code ++ rest)) ≡ Ok tt
unfolding form_of framed
formed-head address code size rest h bytes l =
    let head = head_of address code in
    let body = head ++ rest in
    let crc = bytes_of 2 (crc_of body) in
    let long : length (framed body) ≡ size =
    length-framed body ∙ omega (arith, length-append head rest, length-head address code, l) in
    let whose : address_in (framed body) ≡ address =
    ap address_in (append_assoc head rest crc) ∙ address-head address code (rest ++ crc) h in
    rw (eq-eqb (length (framed body)) size long, crc_fits-framed body bytes, eq-eqb (address_in (framed body)) address whose)

command-at : (address code : ℕ) (rest : List ℕ) → byte_at (head_of address code ++ rest) 4 ≡ code
unfolding head_of address_bytes
command-at address code rest = refl

command-framed : (address code : ℕ) (rest : List ℕ) → byte_at (framed (head_of address code ++ rest)) 4 ≡ code
unfolding framed
command-framed address code rest =
    let crc = bytes_of 2 (crc_of (head_of address code ++ rest)) in
    ap (λ (l : List ℕ). byte_at l 4) (append_assoc (head_of address code) rest crc) ∙ command-at address code (rest ++ crc)

module _ (address code : ℕ) (h : address < 256 ^ 4) (small : code < 256) (known : is_known (command_of code) ≡ true) where
  -- a request that was made is heard by its meter
  pub request-formed : request_form address (request_frame address code) ≡ Ok tt
  unfolding request_form request_frame
  request-formed =
      let head = head_of address code in
      let bare : head ++ [] ≡ head = append-nil head in
      let said : byte_at (framed head) 4 ≡ code = rw bare at (command-framed address code []) in
      let made : form_of address 7 true (framed head) ≡ Ok tt =
      rw bare at (formed-head address code 7 [] h (rw bare (bytes-head address code small)) refl) in
      rw (said, known) made

  -- and as the command that it was
  pub request-command : command_of (byte_at (request_frame address code) 4) ≡ command_of code
  unfolding request_frame
  request-command = ap command_of (rw (append-nil (head_of address code)) at (command-framed address code []))

  -- what the bench sends is well formed to the reader
  pub reply-formed : (bytes : List ℕ) → Bytes bytes → length bytes ≡ data_size (command_of code)
      → reply_form address code (reply_frame address code bytes) ≡ Ok tt
  unfolding reply_form reply_frame
  reply-formed bytes b l =
      let head = head_of address code in
      rw (known, eq-eqb (byte_at (framed (head ++ bytes)) 4) code (command-framed address code bytes))
      (formed-head address code (7 + data_size (command_of code)) bytes h (bytes-append head bytes (bytes-head address code small) b) (ap (λ (k : ℕ). 7 + k) l))

-- the data of a reply, with its CRC behind them
pub data-behind : (address code : ℕ) (bytes : List ℕ) → drop 5 (reply_frame address code bytes) ≡ bytes ++ bytes_of 2 (crc_of (head_of address code ++ bytes))
unfolding reply_frame framed
data-behind address code bytes =
    let head = head_of address code in
    let crc = bytes_of 2 (crc_of (head ++ bytes)) in
    ap (drop 5) (append_assoc head bytes crc) ∙ drop_at head (bytes ++ crc) 5 (length-head address code)

-- ---- what a well-formed reply is made of

-- what is known of a reply that was accepted
pub record Accepted (address code : ℕ) (y : List ℕ) : Type 0 where
  pub size : length y ≡ 7 + data_size (command_of code)
  pub crc : crc_fits y ≡ true
  pub whose : address_in y ≡ address
  pub known : is_known (command_of code) ≡ true
  pub command : byte_at y 4 ≡ code

-- it is known of every well-formed one
pub accepted : (address code : ℕ) (y : List ℕ) → reply_form address code y ≡ Ok tt → Accepted address code y
unfolding reply_form form_of
accepted address code y =
    go (eqb (length y) (7 + data_size (command_of code))) refl (crc_fits y) refl (eqb (address_in y) address) refl (repeats code y) refl
  where
    go : (a : Bool) → eqb (length y) (7 + data_size (command_of code)) ≡ a → (b : Bool) → crc_fits y ≡ b → (c : Bool) → eqb (address_in y) address ≡ c
        → (d : Bool) → repeats code y ≡ d
        → cond a (cond b (cond c (cond d well-formed (Err fault.Command)) (Err fault.Address)) (Err fault.Crc)) (Err fault.Length) ≡ well-formed
        → Accepted address code y
    go true p true q true r true s h =
        let t = both (is_known (command_of code)) (eqb (byte_at y 4) code) s in
        record {
          size = eqb-true (length y) (7 + data_size (command_of code)) p;
          crc = q;
          whose = eqb-true (address_in y) address r;
          known = t.0;
          command = eqb-true (byte_at y 4) code t.1;
        }
    go true p true q true r false s h = absurd cc
    go true p true q false r d s h = absurd cc
    go true p false q c r d s h = absurd cc
    go false p b q c r d s h = absurd cc

-- the first five bytes are address and command
head-of : (y : List ℕ) → Bytes y → 5 ≤ length y → head_of (address_in y) (byte_at y 4) ≡ take 5 y
head-of (a ∷ b ∷ c ∷ d ∷ e ∷ s) bytes l = head-back a b c d e s four
  where
    four : Bytes (d ∷ c ∷ b ∷ a ∷ [])
    four zero = bytes 3
    four (suc zero) = bytes 2
    four (suc (suc zero)) = bytes 1
    four (suc (suc (suc zero))) = bytes 0
    four (suc (suc (suc (suc i)))) = zero-lt-suc 255
head-of (a ∷ b ∷ c ∷ d ∷ []) bytes l = absurd (omega (arith, l))
head-of (a ∷ b ∷ c ∷ []) bytes l = absurd (omega (arith, l))
head-of (a ∷ b ∷ []) bytes l = absurd (omega (arith, l))
head-of (a ∷ []) bytes l = absurd (omega (arith, l))
head-of [] bytes l = absurd (omega (arith, l))

-- a reply that is well formed is that of its own data
pub reply-back : (address code : ℕ) (y bytes : List ℕ) → Bytes y → Accepted address code y
    → bytes ≡ take (data_size (command_of code)) (drop 5 y) → reply_frame address code bytes ≡ y
unfolding reply_frame
reply-back address code y bytes b a e =
    let k = data_size (command_of code) in
    let n : length y - 2 ≡ 5 + k = omega (arith, a.size) in
    let head : head_of address code ≡ take 5 y =
    ap₂ head_of (sym a.whose) (sym a.command) ∙ head-of y b (omega (arith, a.size)) in
    ap framed (ap₂ ◌++◌ head e ∙ sym (take-add 5 k y) ∙ ap (λ (m : ℕ). take m y) (sym n)) ∙ sym (framed-of-fits y b a.crc)

-- a request that is well formed has one of the three commands
pub requested : (address : ℕ) (q : List ℕ) → request_form address q ≡ Ok tt → is_known (command_of (byte_at q 4)) ≡ true
unfolding request_form form_of
requested address q = go (eqb (length q) 7) (crc_fits q) (eqb (address_in q) address) (is_known (command_of (byte_at q 4))) refl
  where
    go : (a b c d : Bool) → is_known (command_of (byte_at q 4)) ≡ d
        → cond a (cond b (cond c (cond d well-formed (Err fault.Command)) (Err fault.Address)) (Err fault.Crc)) (Err fault.Length) ≡ well-formed
        → is_known (command_of (byte_at q 4)) ≡ true
    go true true true true s h = s
    go true true true false s h = absurd cc
    go true true false d s h = absurd cc
    go true false c d s h = absurd cc
    go false b c d s h = absurd cc
