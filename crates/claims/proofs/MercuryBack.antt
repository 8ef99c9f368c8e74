-- The figures of a reply that is accepted: their bytes are those of the reply's data, and they are within their digits.
use mathlib.Core.Path.{◌≡◌, refl, sym, ap, ap₂, ◌∙◌}
use mathlib.Core.Bool.{true, ◌&&◌}
use mathlib.Core.List.{List}
use Prim.Native.Nat.{ℕ, ◌^◌, ◌≤◌, ◌<◌}
use native.Mathlib.Omega.{arith}
use lib.ListN.{length, take, drop, length-drop}
use borrow.Author.Tests.{le-leb}
use Rattle.std.specs.Prelude.{Err, Ok, Result}
use Rattle.test_laws.proofs.Test.{both}
use Rattle.byte_numbers.specs.Number.{Bytes}
use Rattle.mercury.specs.Command.{command_of, code_of, data_size}
use Rattle.mercury.specs.Data.{tariffs_bytes, load_bytes, frequency_bytes}
use Rattle.mercury.specs.Form.{reply_form}
use Rattle.mercury.specs.Reply.{reply_frame, figures_of, formed, decoded_of, number_of}
use Rattle.mercury.specs.declared.command.Command.{Command}
use Rattle.mercury.specs.declared.command.Command.TheVariants as command
use Rattle.mercury.specs.declared.reply.Decoded.{Decoded}
use Rattle.mercury.specs.declared.units.Tariffs.{Tariffs as FourTariffs}
use Rattle.mercury.specs.declared.units.Load.{Load as LoadFigures}
use Rattle.mercury.specs.declared.units.Frequency.{Frequency as FrequencyFigures}
use Rattle.mercury.specs.declared.reply.DecodeError.{DecodeError}
use Rattle.mercury.specs.declared.form.Fault.{Fault}
use Rattle.mercury.proofs.CommandLaws.{code-command}
use Rattle.mercury.proofs.DataLaws.{FitsTariffs, FitsLoad, tariffs-back, load-back, frequency-back, tariffs-cases, load-cases, frequency-cases}
use Rattle.mercury.proofs.ReplyLaws.{Accepted, accepted, reply-back}
use Rattle.mercury_bench.specs.Meter.{tariffs_fit, load_fits, frequency_fits, is_within}
use Rattle.mercury_bench.specs.Reply.{data_of, reply_of}
use Rattle.mercury_bench.specs.declared.meter.Meter.{Meter}
use Rattle.claims.specs.MercuryInverse.{with_figures}

-- ---- the data of an accepted reply

module _ (address code : ℕ) (y : List ℕ) (e : reply_form address code y ≡ Ok tt) (c : Command) (k : command_of code ≡ c) where
  a : Accepted address code y
  a = accepted address code y e

  -- as many bytes as the command's figures have, and the CRC
  data-length : data_size c ≤ length (drop 5 y)
  data-length =
      let size : data_size (command_of code) ≡ data_size c = ap data_size k in
      rw length-drop (omega (arith, a.size, size))

  given_back : (bytes : List ℕ) → Bytes y → bytes ≡ take (data_size c) (drop 5 y) → reply_frame address (code_of c) bytes ≡ y
  given_back bytes b p =
      ap (λ (n : ℕ). reply_frame address n bytes) (ap code_of (sym k) ∙ code-command code a.known)
      ∙ reply-back address code y bytes b a (p ∙ ap (λ (x : Command). take (data_size x) (drop 5 y)) (sym k))

-- ---- the reply given back

-- CR 1's `back`: the figures of an accepted reply, in any meter, give that reply back
pub back : (address code : ℕ) (y : List ℕ) (m : Meter) → Bytes y → let d = decoded_of address code y in number_of d ≡ 0
    → reply_of (command_of code) (with_figures address d m) ≡ y
unfolding decoded_of formed figures_of reply_of data_of
back address code y m b = go (reply_form address code y) refl (command_of code) refl
  where
    go : (f : Result Unit Fault) → reply_form address code y ≡ f → (c : Command) → command_of code ≡ c → number_of (formed f c y) ≡ 0
        → reply_of c (with_figures address (formed f c y) m) ≡ y
    go (Err fault) e c k = λ h. absurd (omega (arith, h))
    go (Ok tt) e command.Tariffs k =
        tariffs-cases (drop 5 y) (λ (x : Result Decoded DecodeError). number_of x ≡ 0 → reply_of command.Tariffs (with_figures address x m) ≡ y)
        (λ t p h. given_back address code y e command.Tariffs k (tariffs_bytes t) b (tariffs-back (drop 5 y) t (data-length address code y e command.Tariffs k) p).put)
        (λ h. absurd (omega (arith, h)))
    go (Ok tt) e command.Load k =
        load-cases (drop 5 y) (λ (x : Result Decoded DecodeError). number_of x ≡ 0 → reply_of command.Load (with_figures address x m) ≡ y)
        (λ l p h. given_back address code y e command.Load k (load_bytes l) b (load-back (drop 5 y) l (data-length address code y e command.Load k) p).put)
        (λ h. absurd (omega (arith, h)))
    go (Ok tt) e command.Frequency k =
        frequency-cases (drop 5 y) (λ (x : Result Decoded DecodeError). number_of x ≡ 0 → reply_of command.Frequency (with_figures address x m) ≡ y)
        (λ f p h. given_back address code y e command.Frequency k (frequency_bytes f) b (frequency-back (drop 5 y) f (data-length address code y e command.Frequency k) p).put)
        (λ h. absurd (omega (arith, h)))
    go (Ok tt) e command.Unknown k = λ h. absurd (omega (arith, h))

-- ---- legal figures

fits-tariffs : (t : FourTariffs) → FitsTariffs t → tariffs_fit t ≡ true
unfolding tariffs_fit
fits-tariffs t h =
    ap₂ ◌&&◌ (le-leb t.first.0 99999999 (omega (arith, h.first)))
    (ap₂ ◌&&◌ (le-leb t.second.0 99999999 (omega (arith, h.second)))
    (ap₂ ◌&&◌ (le-leb t.third.0 99999999 (omega (arith, h.third))) (le-leb t.fourth.0 99999999 (omega (arith, h.fourth)))))

fits-load : (l : LoadFigures) → FitsLoad l → load_fits l ≡ true
unfolding load_fits
fits-load l h =
    ap₂ ◌&&◌ (le-leb l.voltage.0 9999 (omega (arith, h.voltage)))
    (ap₂ ◌&&◌ (le-leb l.current.0 9999 (omega (arith, h.current))) (le-leb l.power.0 999999 (omega (arith, h.power))))

fits-frequency : (f : FrequencyFigures) → f.frequency.0 < 100 ^ 2 → frequency_fits f ≡ true
fits-frequency f h = le-leb f.frequency.0 9999 (omega (arith, h))

-- each of a meter's readings
record Within (m : Meter) : Type 0 where
  tariffs : tariffs_fit m.tariffs ≡ true
  load : load_fits m.load ≡ true
  frequency : frequency_fits m.frequency ≡ true

within : (m : Meter) → is_within m ≡ true → Within m
unfolding is_within
within m w =
    let a = both (tariffs_fit m.tariffs) (load_fits m.load && frequency_fits m.frequency) w in
    let b = both (load_fits m.load) (frequency_fits m.frequency) a.1 in
    record { tariffs = a.0; load = b.0; frequency = b.1 }

-- CR 1's `legal`: and they are figures that the bench takes
pub legal : (address code : ℕ) (y : List ℕ) (m : Meter) → is_within m ≡ true → let d = decoded_of address code y in number_of d ≡ 0
    → is_within (with_figures address d m) ≡ true
unfolding decoded_of formed figures_of is_within
legal address code y m w = go (reply_form address code y) refl (command_of code) refl
  where
    go : (f : Result Unit Fault) → reply_form address code y ≡ f → (c : Command) → command_of code ≡ c → number_of (formed f c y) ≡ 0
        → is_within (with_figures address (formed f c y) m) ≡ true
    go (Err fault) e c k = λ h. absurd (omega (arith, h))
    go (Ok tt) e command.Tariffs k =
        tariffs-cases (drop 5 y) (λ (x : Result Decoded DecodeError). number_of x ≡ 0 → is_within (with_figures address x m) ≡ true)
        (λ t p h. ap₂ ◌&&◌ (fits-tariffs t (tariffs-back (drop 5 y) t (data-length address code y e command.Tariffs k) p).fits)
        (ap₂ ◌&&◌ (within m w).load (within m w).frequency))
        (λ h. absurd (omega (arith, h)))
    go (Ok tt) e command.Load k =
        load-cases (drop 5 y) (λ (x : Result Decoded DecodeError). number_of x ≡ 0 → is_within (with_figures address x m) ≡ true)
        (λ l p h. ap₂ ◌&&◌ (within m w).tariffs
        (ap₂ ◌&&◌ (fits-load l (load-back (drop 5 y) l (data-length address code y e command.Load k) p).fits) (within m w).frequency))
        (λ h. absurd (omega (arith, h)))
    go (Ok tt) e command.Frequency k =
        frequency-cases (drop 5 y) (λ (x : Result Decoded DecodeError). number_of x ≡ 0 → is_within (with_figures address x m) ≡ true)
        (λ f p h. ap₂ ◌&&◌ (within m w).tariffs (ap₂ ◌&&◌ (within m w).load
        (fits-frequency f (frequency-back (drop 5 y) f (data-length address code y e command.Frequency k) p).fits)))
        (λ h. absurd (omega (arith, h)))
    go (Ok tt) e command.Unknown k = λ h. absurd (omega (arith, h))
