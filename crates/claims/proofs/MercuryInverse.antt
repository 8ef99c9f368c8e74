-- The bench's reply to a request is well formed, and its data are those of the figures, which read back.
use mathlib.Core.Path.{◌≡◌, refl, sym, ap, ap₂, ◌∙◌}
use mathlib.Core.Bool.{Bool, true, false, cond, false≢true}
use mathlib.Core.List.{List, ◌++◌}
use Prim.Native.Nat.{ℕ, ◌^◌, ◌≤◌, ◌<◌}
use native.Mathlib.Omega.{arith}
use lib.Dec.{leb}
use lib.ListN.{length, take}
use borrow.Author.Tests.{le-leb, leb-true}
use Rattle.std.specs.Prelude.{Err, Ok, Result}
use Rattle.test_laws.proofs.Test.{both}
use Rattle.byte_numbers.specs.Number.{Bytes}
use Rattle.byte_numbers.specs.Place.{byte_at, written}
use Rattle.byte_numbers.proofs.PlaceLaws.{part-written}
use Rattle.refusal.specs.Outcome.{outcome}
use Rattle.packed_decimal.specs.Packed.{packed_of}
use Rattle.packed_decimal.proofs.PackedLaws.{bytes-append, bytes-packed_of}
use Rattle.mercury.specs.Command.{command_of, code_of, is_known, data_size}
use Rattle.mercury.specs.Data.{tariffs_bytes, load_bytes, frequency_bytes, rest_bytes}
use Rattle.mercury.specs.Form.{request_form, reply_form}
use Rattle.mercury.specs.Layout.{command_place}
use Rattle.mercury.specs.Reply.{reply_frame, figures_of, decoded_of}
use Rattle.mercury.specs.Request.{request_frame}
use Rattle.mercury.specs.declared.command.Command.{Command}
use Rattle.mercury.specs.declared.command.Command.TheVariants.{Tariffs, Load, Frequency, Unknown}
use Rattle.mercury.specs.declared.form.Fault.{Fault}
use Rattle.mercury.proofs.CommandLaws.{command-code, code-command, code-byte, data-small}
use Rattle.mercury.proofs.DataLaws.{FitsTariffs, FitsLoad, tariffs-read, load_read, frequency-read}
use Rattle.mercury.proofs.ReplyLaws.{request-formed, request-command, reply-formed, data-behind, requested}
use Rattle.mercury_bench.specs.Meter.{tariffs_fit, load_fits, is_within}
use Rattle.mercury_bench.specs.Reply as bench
use Rattle.mercury_bench.specs.Reply.{data_of, reply_of, command_in}
use Rattle.mercury_bench.specs.declared.meter.Meter.{Meter}
use Rattle.mercury_bench.specs.declared.reply.AnswerError.{AnswerError}
use Rattle.mercury_bench.specs.declared.reply.AnswerError.TheVariants.{TooShort, OutOfRange}
use Rattle.mercury_bench.proofs.ReplyLaws.{length-data, length-reply}
use Rattle.claims.specs.MercuryInverse.{own_figures, FitsMeter}

-- ---- legal figures

record Legal (m : Meter) : Type 0 where
  tariffs : FitsTariffs m.tariffs
  load : FitsLoad m.load
  frequency : m.frequency.frequency.0 < 100 ^ 2

legal : (m : Meter) → is_within m ≡ true → Legal m
unfolding is_within tariffs_fit load_fits
legal m h =
    let t = m.tariffs in
    let l = m.load in
    let a = both _ _ h in
    let b = both _ _ a.1 in
    let t1 = both _ _ a.0 in
    let t2 = both _ _ t1.1 in
    let t3 = both _ _ t2.1 in
    let l1 = both _ _ b.0 in
    let l2 = both _ _ l1.1 in
    record {
      tariffs = record {
        first = omega (arith, leb-true t.first.0 99999999 t1.0);
        second = omega (arith, leb-true t.second.0 99999999 t2.0);
        third = omega (arith, leb-true t.third.0 99999999 t3.0);
        fourth = omega (arith, leb-true t.fourth.0 99999999 t3.1);
      };
      load = record {
        voltage = omega (arith, leb-true l.voltage.0 9999 l1.0);
        current = omega (arith, leb-true l.current.0 9999 l2.0);
        power = omega (arith, leb-true l.power.0 999999 l2.1);
      };
      frequency = omega (arith, leb-true m.frequency.frequency.0 9999 b.1);
    }

-- ---- the reply to a command

bytes-data : (c : Command) (m : Meter) → Bytes (rest_bytes m.frequency.rest) → Bytes (data_of c m)
unfolding data_of tariffs_bytes load_bytes frequency_bytes
bytes-data Tariffs m h =
    let t = m.tariffs in
    bytes-append (packed_of 4 t.first.0) _ (bytes-packed_of 4 t.first.0)
    (bytes-append (packed_of 4 t.second.0) _ (bytes-packed_of 4 t.second.0)
    (bytes-append (packed_of 4 t.third.0) _ (bytes-packed_of 4 t.third.0) (bytes-packed_of 4 t.fourth.0)))
bytes-data Load m h =
    let l = m.load in
    bytes-append (packed_of 2 l.voltage.0) _ (bytes-packed_of 2 l.voltage.0)
    (bytes-append (packed_of 2 l.current.0) _ (bytes-packed_of 2 l.current.0) (bytes-packed_of 3 l.power.0))
bytes-data Frequency m h = bytes-append (packed_of 2 m.frequency.frequency.0) _ (bytes-packed_of 2 m.frequency.frequency.0) h
bytes-data Unknown m h = λ i. omega arith

figures-read : (c : Command) (m : Meter) (rest : List ℕ) → Legal m → is_known c ≡ true → figures_of c (data_of c m ++ rest) ≡ own_figures c m
unfolding figures_of data_of
figures-read Tariffs m rest h k = tariffs-read m.tariffs rest h.tariffs
figures-read Load m rest h k = load_read m.load rest h.load
figures-read Frequency m rest h k = frequency-read m.frequency rest h.frequency
figures-read Unknown m rest h k = absurd (false≢true k)

-- CR 1's `decoded`: the bench's reply to a known command decodes to the meter's legal figures
pub decoded : (m : Meter) (c : Command) → FitsMeter m → is_within m ≡ true → is_known c ≡ true
    → decoded_of m.address (code_of c) (reply_of c m) ≡ own_figures c m
unfolding decoded_of reply_of
decoded m c fits within known =
    let same = command-code c in
    let formed : reply_form m.address (code_of c) (reply_frame m.address (code_of c) (data_of c m)) ≡ Ok tt =
    reply-formed m.address (code_of c) fits.address (omega (arith, code-byte c)) (ap is_known same ∙ known) (data_of c m)
    (bytes-data c m fits.rest) (length-data c m ∙ sym (ap data_size same)) in
    rw (formed, data-behind m.address (code_of c) (data_of c m), same) (figures-read c m _ (legal m within) known)

-- ---- the bench's answer

-- CR 1's `answered`: a request to a meter whose figures are legal is answered with that reply
pub answered : (m : Meter) (c : Command) (out : List ℕ) → FitsMeter m → is_within m ≡ true → is_known c ≡ true → 64 ≤ length out
    → bench.answered m (request_frame m.address (code_of c)) out ≡ outcome (Ok (length (reply_of c m))) (written out 0 (reply_of c m))
unfolding bench.answered bench.heard
answered m c out fits within known room =
    let same = command-code c in
    let known' : is_known (command_of (code_of c)) ≡ true = ap is_known same ∙ known in
    let small : code_of c < 256 = omega (arith, code-byte c) in
    let formed = request-formed m.address (code_of c) fits.address small known' in
    let named : command_in (request_frame m.address (code_of c)) ≡ c =
    request-command m.address (code_of c) fits.address small known' ∙ same in
    rw (le-leb 64 (length out) room, within, formed, named)

-- what an answer with 0 says
record AnsweredDone (m : Meter) (q out : List ℕ) (n : ℕ) : Type 0 where
  within : is_within m ≡ true
  room : 64 ≤ length out
  known : is_known (command_in q) ≡ true
  size : length (reply_of (command_in q) m) ≡ n
  left : (bench.answered m q out).left ≡ written out 0 (reply_of (command_in q) m)

module _ (m : Meter) (q out : List ℕ) (n : ℕ) where
  heard-done : (f : Result Unit Fault) → request_form m.address q ≡ f → is_within m ≡ true → 64 ≤ length out
      → (bench.heard f (command_in q) m out).result ≡ Ok n → AnsweredDone m q out n
  unfolding bench.heard bench.answered
  heard-done (Ok tt) e within room h = record {
    within = within;
    room = room;
    known = requested m.address q e;
    size = let o : ◌≡◌ {A = Result ℕ AnswerError} (Ok (length (reply_of (command_in q) m))) (Ok n) = h in (cc);
    left = rw (le-leb 64 (length out) room, within, e);
  }
  heard-done (Err fault) e within room h = let z : ◌≡◌ {A = ℕ} 0 1 = cc in absurd (omega arith)

  answered-done : (bench.answered m q out).result ≡ Ok n → AnsweredDone m q out n
  unfolding bench.answered
  answered-done = go (leb 64 (length out)) refl (is_within m) refl
    where
      go : (a : Bool) → leb 64 (length out) ≡ a → (b : Bool) → is_within m ≡ b
          → (cond a (cond b (bench.heard (request_form m.address q) (command_in q) m out) (outcome (Err OutOfRange) out)) (outcome (Err TooShort) out)).result ≡ Ok n
          → AnsweredDone m q out n
      go true p true w h = heard-done (request_form m.address q) refl w (leb-true 64 (length out) p) h
      go true p false w h = let z : ◌≡◌ {A = ℕ} 0 1 = cc in absurd (omega arith)
      go false p b w h = let z : ◌≡◌ {A = ℕ} 0 1 = cc in absurd (omega arith)

  -- CR 1's `read`: whatever the request's bytes were, an answer with 0 decodes to the meter's figures
  pub read : FitsMeter m → (bench.answered m q out).result ≡ Ok n
      → decoded_of m.address (byte_at q command_place) (take n (bench.answered m q out).left) ≡ own_figures (command_in q) m
  read fits h =
      let a = answered-done h in
      let c = command_in q in
      let reply = reply_of c m in
      let front : take n (bench.answered m q out).left ≡ reply =
      ap₂ take (sym a.size) a.left ∙ part-written out 0 reply (omega (arith, length-reply c m, data-small c, a.room)) in
      let named : code_of c ≡ byte_at q 4 = code-command (byte_at q 4) a.known in
      ap₂ (decoded_of m.address) (sym named) front ∙ decoded m c fits a.within a.known
