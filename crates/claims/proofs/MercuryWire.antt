-- The Mercury's page: the bench answers a request by its reply (`answered` of `Inverse`), and the codec's bytes of an address and of digits, worked out one
-- behind the other, are those of the page.
use mathlib.Core.Path.{◌≡◌, refl, sym, ap, ap₂, ◌∙◌}
use mathlib.Core.Bool.{true}
use mathlib.Core.List.{List, [], ◌∷◌, ◌++◌}
use Prim.Native.Nat.{ℕ, ◌+◌, ◌*◌, ◌/◌, ◌%◌, ◌≤◌}
use native.Mathlib.Omega.{arith}
use lib.ListN.{length}
use borrow.Author.Tests.{le-leb}
use Rattle.std.specs.Prelude.{Ok}
use Rattle.byte_numbers.specs.Number.{bytes_of}
use Rattle.byte_numbers.specs.Place.{written}
use Rattle.refusal.specs.Outcome.{outcome}
use Rattle.frame.specs.Sealing.{framed}
use Rattle.packed_decimal.specs.Packed.{pair_of, packed_of}
use Rattle.mercury.specs.Command.{command_of, code_of, is_known}
use Rattle.mercury.specs.Data.{tariffs_bytes, load_bytes, rest_bytes, frequency_bytes}
use Rattle.mercury.specs.Layout.{address_bytes, head_of}
use Rattle.mercury.specs.Reply.{reply_frame}
use Rattle.mercury.specs.Request.{request_frame, requested}
use Rattle.mercury.specs.declared.command.Command.{Command}
use Rattle.mercury.specs.declared.command.Command.TheVariants as command
use Rattle.mercury_bench.specs.Meter.{is_within}
use Rattle.mercury_bench.specs.Reply as bench
use Rattle.mercury_bench.specs.Reply.{data_of, reply_of}
use Rattle.mercury_bench.specs.declared.meter.Meter.{Meter}
use Rattle.claims.specs.MercuryInverse.{FitsMeter}
use Rattle.claims.specs.MercuryWire.{address, two, four, six, eight, MercuryWire}
use Rattle.claims.proofs.MercuryInverse as there

-- ---- the codec's bytes

address_is : (n : ℕ) → address_bytes n ≡ address n
unfolding address_bytes bytes_of
address_is n =
    let a : n / 256 / 256 / 256 % 256 ≡ n / 16777216 % 256 = omega arith in
    let b : n / 256 / 256 % 256 ≡ n / 65536 % 256 = omega arith in
    ap₂ (λ (x y : ℕ). x ∷ y ∷ n / 256 % 256 ∷ n % 256 ∷ []) a b

pair_is : (n : ℕ) → pair_of (n % 100) ≡ two n
pair_is n =
    let a : n % 100 / 10 % 10 ≡ n / 10 % 10 = omega arith in
    let b : n % 100 % 10 ≡ n % 10 = omega arith in
    ap₂ (λ (x y : ℕ). x * 16 + y) a b

hundreds : (n : ℕ) → n / 100 / 100 ≡ n / 10000
hundreds n = omega arith

ten-thousands : (n : ℕ) → n / 100 / 100 / 100 ≡ n / 1000000
ten-thousands n = omega arith

four_is : (n : ℕ) → packed_of 2 n ≡ four n
unfolding packed_of
four_is n = ap₂ (λ (x y : ℕ). x ∷ y ∷ []) (pair_is (n / 100)) (pair_is n)

six-is : (n : ℕ) → packed_of 3 n ≡ six n
unfolding packed_of
six-is n = ap₂ (λ (x : ℕ) (xs : List ℕ). x ∷ xs) (pair_is (n / 100 / 100) ∙ ap two (hundreds n)) (four_is n)

eight_is : (n : ℕ) → packed_of 4 n ≡ eight n
unfolding packed_of
eight_is n = ap₂ (λ (x : ℕ) (xs : List ℕ). x ∷ xs) (pair_is (n / 100 / 100 / 100) ∙ ap two (ten-thousands n)) (six-is n)

-- ---- requests

request-is : (n code : ℕ) → request_frame n code ≡ framed (address n ++ (code ∷ []))
unfolding request_frame head_of
request-is n code = ap (λ (bs : List ℕ). framed (bs ++ (code ∷ []))) (address_is n)

asked : (n : ℕ) (c : Command) (out : List ℕ) → is_known (command_of (code_of c)) ≡ true → 7 ≤ length out
    → requested n (code_of c) out ≡ outcome (Ok tt) (written out 0 (framed (address n ++ (code_of c ∷ []))))
unfolding requested
asked n c out known room =
    simp (le-leb 7 (length out) room, known) (ap (λ (f : List ℕ). outcome (Ok tt) (written out 0 f)) (request-is n (code_of c)))

-- ---- replies: one shape for the three

reply-is : (m : Meter) (c : Command) (bs : List ℕ) → data_of c m ≡ bs → reply_of c m ≡ framed (address m.address ++ (code_of c ∷ bs))
unfolding reply_of reply_frame head_of address_bytes
reply-is m c bs e = ap₂ (λ (xs ys : List ℕ). framed (xs ++ (code_of c ∷ []) ++ ys)) (address_is m.address) e

answers : (m : Meter) (c : Command) (bs out : List ℕ) → data_of c m ≡ bs → FitsMeter m → is_within m ≡ true → is_known c ≡ true → 64 ≤ length out
    → let y = framed (address m.address ++ (code_of c ∷ bs)) in
    bench.answered m (framed (address m.address ++ (code_of c ∷ []))) out ≡ outcome (Ok (length y)) (written out 0 y)
answers m c bs out e fits within known room =
    ap (λ (q : List ℕ). bench.answered m q out) (sym (request-is m.address (code_of c))) ∙ there.answered m c out fits within known room
    ∙ ap (λ (y : List ℕ). outcome (Ok (length y)) (written out 0 y)) (reply-is m c bs e)

-- the claim `MercuryWire`: each request and reply of the Mercury 206 in the bytes of its page
pub page : MercuryWire
unfolding command_of data_of tariffs_bytes load_bytes frequency_bytes framed bytes_of
page = record {
  tariffs_request = λ n out h. asked n command.Tariffs out refl h;
  load_request = λ n out h. asked n command.Load out refl h;
  frequency_request = λ n out h. asked n command.Frequency out refl h;
  tariffs = λ m out fits within room.
      let t = m.tariffs in
      answers m command.Tariffs _ out
      (ap₂ ◌++◌ (eight_is t.first.0) (ap₂ ◌++◌ (eight_is t.second.0) (ap₂ ◌++◌ (eight_is t.third.0) (eight_is t.fourth.0)))) fits within refl room;
  load = λ m out fits within room.
      let l = m.load in
      answers m command.Load _ out (ap₂ ◌++◌ (four_is l.voltage.0) (ap₂ ◌++◌ (four_is l.current.0) (six-is l.power.0))) fits within refl room;
  frequency = λ m out fits within room.
      answers m command.Frequency _ out (ap (λ (bs : List ℕ). bs ++ rest_bytes m.frequency.rest) (four_is m.frequency.frequency.0)) fits within refl room;
}
