-- What follows from the definitions of specs/Ask.antt, for proofs alone: no contract cites it.
use Rattle.std.specs.Prelude.{None, Option, Some}
use mathlib.Core.Path.{◌≡◌, refl, ap, ◌∙◌}
use mathlib.Core.Bool.{Bool, true, false}
use mathlib.Core.List.{List, [], append-nil}
use Prim.Native.Nat.{ℕ}
use native.Mathlib.Nat.{zero-add}
use native.Mathlib.Omega.{arith}
use borrow.Author.Tests.{eqb-true}
use lib.Dec.{eqb}
use lib.ListN.{length, drop, drop_of_length-le}
use Rattle.byte_numbers.specs.Place.{written}
use Rattle.byte_numbers.proofs.PlaceLaws.{written-fits}
use Rattle.logger.specs.declared.held.OpenAsk.{OpenAsk}
use Rattle.c_values.specs.Ask.{ask_bytes, ask_of}

-- ---- there and back

-- what was written is read as it was
pub ask-back : (held : Option OpenAsk) → ask_of (ask_bytes held) ≡ Some held
unfolding ask_of ask_bytes
ask-back None = refl
ask-back (Some ask) = refl

length-ask_bytes : (held : Option OpenAsk) → length (ask_bytes held) ≡ 4
unfolding ask_bytes
length-ask_bytes None = refl
length-ask_bytes (Some ask) = refl

-- an ask has four bytes
pub ask-size : (bs : List ℕ) (held : Option OpenAsk) → ask_of bs ≡ Some held → length bs ≡ 4
unfolding ask_of
ask-size bs held e = go (eqb (length bs) 4) refl
  where
    go : (b : Bool) → eqb (length bs) 4 ≡ b → length bs ≡ 4
    go true q = eqb-true _ _ q
    go false q =
        let no : None ≡ Some held = rw q at e in
        let z : ◌≡◌ {A = ℕ} 0 1 = cc in
        absurd (omega arith)

-- and what is written over one is read as it was
pub ask-again : (bs : List ℕ) (held : Option OpenAsk) → length bs ≡ 4 → ask_of (written bs 0 (ask_bytes held)) ≡ Some held
ask-again bs held e =
    let size = length-ask_bytes held in
    let rest : drop (length (ask_bytes held)) bs ≡ [] = drop_of_length-le bs {i = length (ask_bytes held)} (omega arith) in
    ap ask_of (written-fits bs 0 (ask_bytes held) (omega arith) ∙ rw (zero-add, rest) (append-nil (ask_bytes held))) ∙ ask-back held
