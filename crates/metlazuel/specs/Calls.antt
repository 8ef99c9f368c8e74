-- What C is given of every call: document 01's number, and with it the lent memory as the call leaves it. Source: document 01, "Refusal numbers"; document 02, request 2.
use Rattle.std.specs.Prelude.{cond, List, ℕ, eqb, ltb, length}
use Rattle.refusal.specs.Outcome.{Outcome, outcome}
use Rattle.byte_numbers.specs.Place.{byte_at}
use Rattle.frame.specs.Layout.{result_place}

-- an answer's number in its place
abbrev pub numbered : {A L : Type 0} → (A → ℕ) → Outcome A L → Outcome ℕ L
numbered number o = outcome (number o.result) o.left

-- the same, and a lent length before what is left: the one that the answer has, or as it was
abbrev pub sized : {A L : Type 0} → (A → ℕ) → (A → ℕ → ℕ) → Outcome A L → ℕ → Outcome ℕ (ℕ × L)
sized number size o before = outcome (number o.result) (size o.result before, o.left)

-- bytes that are no ask or no record, with an output of so much room: "28 stands right after 1"
unfoldable pub unread_number : ℕ → ℕ → ℕ
unread_number room least = cond (ltb room least) 1 28

-- the lent result, by the number for a reply y: 24 is "meter's result not 0; returned", and any other leaves it
unfoldable pub result_after : ℕ → List ℕ → ℕ → ℕ
result_after n y before = cond (eqb n 24) (byte_at y result_place) before

-- the lent length, by the number for a reply y: "For a wrong length also return the length received", and any other leaves it
unfoldable pub received_after : ℕ → List ℕ → ℕ → ℕ
received_after n y before = cond (eqb n 50) (length y) before
