-- `put_request` meets its contract: a body in front, then sealed, is a frame (`sealed-written`).
use Rattle.std.specs.Prelude.{Ok}
use Rattle.byte_numbers.specs.Place.{written}
use Rattle.refusal.specs.Outcome.{outcome}
use Rattle.request.specs.Request.{requested, request_frame}
use Rattle.request.specs.Subject.{askable}
use Rattle.frame.specs.Sealing.{framed, sealed}
use Rattle.frame.proofs.SealingLaws.{sealed-written}
use borrow.Author.Tests.{le-ltb}
use native.Mathlib.Omega.{arith}
use Prim.Native.Nat.{ℕ}
use mathlib.Core.List.{List, [], ◌∷◌}
use mathlib.Core.Path.{◌≡◌, sym, ap, ◌∙◌}
use Rattle.request.proofs.request.put_request.Goals as goal

pub returns : goal.returns
unfolding requested request_frame
returns c =
    let s = c.args.out.now in
    let q = c.args.q in
    let body : ℕ → List ℕ = λ n. q.address ∷ n ∷ q.parameter ∷ q.offset ∷ q.tariff ∷ q.detail ∷ [] in
    let made : c.seal.new.out ≡ written s 0 (request_frame q) = c.seal.ensures
    ∙ ap (λ (l : List ℕ). sealed l 6) c.put_bytes.ensures
    ∙ sealed-written s (body c.from.result) (omega (arith, c.if-out-lt-READ_BYTES.false))
    ∙ ap (λ (n : ℕ). written s 0 (framed (body n))) c.from.ensures in
    simp (le-ltb _ _ c.if-out-lt-READ_BYTES.false, ap askable (sym c.subject_of.ensures) ∙ sym c.is_askable.ensures ∙ c.if-not-is_askable.false)
    (ap (outcome (Ok tt)) made)
