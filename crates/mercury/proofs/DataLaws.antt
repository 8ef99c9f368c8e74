-- What follows from the definitions of specs/Data.antt, for proofs alone: no contract cites it.
use Rattle.std.specs.Prelude.{Err, None, Ok, Option, Result, Some}
use Rattle.mercury.specs.declared.reply.DecodeError.{DecodeError}
use mathlib.Core.Path.{◌≡◌, refl, sym, ap, ap₂, ◌∙◌}
use mathlib.Core.List.{List, [], ◌∷◌, ◌++◌, append_assoc}
use Prim.Native.Nat.{ℕ, ◌+◌, ◌^◌, ◌≤◌, ◌<◌}
use native.Mathlib.Nat.{zero-add}
use native.Mathlib.Omega.{arith}
use lib.Dec.{lit≤}
use lib.ListN.{length, take, drop, length-append}
use lib.Seq.{take-add, drop-drop}
use Rattle.byte_numbers.specs.Place.{written}
use Rattle.byte_numbers.proofs.PlaceLaws.{written-append}
use Rattle.packed_decimal.specs.Packed.{packed_of, decimal_at}
use Rattle.packed_decimal.proofs.PackedLaws.{length-packed_of, decimal-front, decimal-behind, decimal-at-put, decimal-at-small}
use Rattle.mercury.specs.Data.{tariffs_bytes, load_bytes, frequency_bytes, rest_bytes, rest_of, tariffs_by, tariffs_of, load_by, load_of, frequency_by, frequency_of}
use Rattle.mercury.specs.declared.units.Tariffs.{Tariffs as FourTariffs}
use Rattle.mercury.specs.declared.units.Load.{Load as LoadFigures}
use Rattle.mercury.specs.declared.units.Frequency.{Frequency as FrequencyFigures}
use Rattle.mercury.specs.declared.reply.Decoded.{Decoded}
use Rattle.mercury.specs.declared.reply.DecodeError.TheVariants as decoded_error
use Rattle.mercury.specs.declared.reply.Decoded.TheVariants.{Tariffs, Load, Frequency}

-- ---- figures put one behind the other

three-parts : (s A B C : List ℕ) (i j : ℕ) → length A ≡ i → length B ≡ j
    → written (written (written s 0 A) i B) (i + j) C ≡ written s 0 (A ++ (B ++ C))
three-parts s A B C i j a b =
    sym (written-append s 0 A (B ++ C)
    ∙ ap (λ (k : ℕ). written (written s 0 A) k (B ++ C)) (zero-add (length A) ∙ a)
    ∙ written-append (written s 0 A) i B C
    ∙ ap (λ (k : ℕ). written (written (written s 0 A) i B) (i + k) C) b)

-- the four stores of `put_tariffs` are one
pub put_four : (s : List ℕ) (t : FourTariffs) → written (written (written (written s 0 (packed_of 4 t.first.0)) 4 (packed_of 4 t.second.0)) 8
    (packed_of 4 t.third.0)) 12 (packed_of 4 t.fourth.0) ≡ written s 0 (tariffs_bytes t)
unfolding tariffs_bytes
put_four s t =
    let A = packed_of 4 t.first.0 in
    let B = packed_of 4 t.second.0 in
    let C = packed_of 4 t.third.0 in
    let D = packed_of 4 t.fourth.0 in
    ap (λ (k : ℕ). written (written (written (written s 0 A) 4 B) 8 C) (8 + k) D) (sym (length-packed_of 4 t.third.0))
    ∙ sym (written-append (written (written s 0 A) 4 B) 8 C D)
    ∙ three-parts s A B (C ++ D) 4 4 (length-packed_of 4 t.first.0) (length-packed_of 4 t.second.0)

-- the three stores of `put_load` are one
pub put_three : (s : List ℕ) (l : LoadFigures)
    → written (written (written s 0 (packed_of 2 l.voltage.0)) 2 (packed_of 2 l.current.0)) 4 (packed_of 3 l.power.0) ≡ written s 0 (load_bytes l)
unfolding load_bytes
put_three s l =
    three-parts s (packed_of 2 l.voltage.0) (packed_of 2 l.current.0) (packed_of 3 l.power.0) 2 2
    (length-packed_of 2 l.voltage.0) (length-packed_of 2 l.current.0)

-- ---- how many bytes they have

-- the length that a reply with tariffs must have
pub length-tariffs : (t : FourTariffs) → length (tariffs_bytes t) ≡ 16
unfolding tariffs_bytes
length-tariffs t = simp (length-append, length-packed_of)

-- that of one with voltage, current and power
pub length-load : (l : LoadFigures) → length (load_bytes l) ≡ 7
unfolding load_bytes
length-load l = simp (length-append, length-packed_of)

-- that of one with the frequency
pub length-frequency : (f : FrequencyFigures) → length (frequency_bytes f) ≡ 9
unfolding frequency_bytes
length-frequency f = simp (length-append, length-packed_of)

-- ---- what was put is read back: figures within their digits, whatever stands behind them

-- tariffs that their digits hold: what the bench is tested for
pub record FitsTariffs (t : FourTariffs) : Type 0 where
  pub first : t.first.0 < 100 ^ 4
  pub second : t.second.0 < 100 ^ 4
  pub third : t.third.0 < 100 ^ 4
  pub fourth : t.fourth.0 < 100 ^ 4

-- the same of voltage, current and power
pub record FitsLoad (l : LoadFigures) : Type 0 where
  pub voltage : l.voltage.0 < 100 ^ 2
  pub current : l.current.0 < 100 ^ 2
  pub power : l.power.0 < 100 ^ 3

-- from the bench's bytes to its figures, for the claim that the reader is its inverse
pub tariffs-read : (t : FourTariffs) (rest : List ℕ) → FitsTariffs t → tariffs_of (tariffs_bytes t ++ rest) ≡ Ok (Tariffs t)
unfolding tariffs_of tariffs_bytes
tariffs-read t rest h =
    let A = packed_of 4 t.first.0 in
    let B = packed_of 4 t.second.0 in
    let C = packed_of 4 t.third.0 in
    let D = packed_of 4 t.fourth.0 in
    let apart : A ++ (B ++ (C ++ D)) ++ rest ≡ A ++ (B ++ (C ++ (D ++ rest))) = simp append_assoc in
    let all = A ++ (B ++ (C ++ (D ++ rest))) in
    let first : decimal_at all 0 4 ≡ Some t.first.0 = decimal-front 4 t.first.0 (B ++ (C ++ (D ++ rest))) (lit≤ tt) h.first in
    let second : decimal_at all 4 4 ≡ Some t.second.0 =
    decimal-behind 4 t.first.0 (B ++ (C ++ (D ++ rest))) 0 4 ∙ decimal-front 4 t.second.0 (C ++ (D ++ rest)) (lit≤ tt) h.second in
    let third : decimal_at all 8 4 ≡ Some t.third.0 =
    decimal-behind 4 t.first.0 (B ++ (C ++ (D ++ rest))) 4 4 ∙ decimal-behind 4 t.second.0 (C ++ (D ++ rest)) 0 4
    ∙ decimal-front 4 t.third.0 (D ++ rest) (lit≤ tt) h.third in
    let fourth : decimal_at all 12 4 ≡ Some t.fourth.0 =
    decimal-behind 4 t.first.0 (B ++ (C ++ (D ++ rest))) 8 4 ∙ decimal-behind 4 t.second.0 (C ++ (D ++ rest)) 4 4
    ∙ decimal-behind 4 t.third.0 (D ++ rest) 0 4 ∙ decimal-front 4 t.fourth.0 rest (lit≤ tt) h.fourth in
    rw (apart, first, second, third, fourth)

-- likewise for voltage, current and power
pub load_read : (l : LoadFigures) (rest : List ℕ) → FitsLoad l → load_of (load_bytes l ++ rest) ≡ Ok (Load l)
unfolding load_of load_bytes
load_read l rest h =
    let A = packed_of 2 l.voltage.0 in
    let B = packed_of 2 l.current.0 in
    let C = packed_of 3 l.power.0 in
    let apart : A ++ (B ++ C) ++ rest ≡ A ++ (B ++ (C ++ rest)) = simp append_assoc in
    let all = A ++ (B ++ (C ++ rest)) in
    let voltage : decimal_at all 0 2 ≡ Some l.voltage.0 = decimal-front 2 l.voltage.0 (B ++ (C ++ rest)) (lit≤ tt) h.voltage in
    let current : decimal_at all 2 2 ≡ Some l.current.0 =
    decimal-behind 2 l.voltage.0 (B ++ (C ++ rest)) 0 2 ∙ decimal-front 2 l.current.0 (C ++ rest) (lit≤ tt) h.current in
    let power : decimal_at all 4 3 ≡ Some l.power.0 =
    decimal-behind 2 l.voltage.0 (B ++ (C ++ rest)) 2 3 ∙ decimal-behind 2 l.current.0 (C ++ rest) 0 3
    ∙ decimal-front 3 l.power.0 rest (lit≤ tt) h.power in
    rw (apart, voltage, current, power)

-- likewise for the frequency
pub frequency-read : (f : FrequencyFigures) (rest : List ℕ) → f.frequency.0 < 100 ^ 2 → frequency_of (frequency_bytes f ++ rest) ≡ Ok (Frequency f)
unfolding frequency_of frequency_bytes packed_of
frequency-read f rest h =
    let A = packed_of 2 f.frequency.0 in
    let hertz : decimal_at (A ++ (rest_bytes f.rest ++ rest)) 0 2 ≡ Some f.frequency.0 =
    decimal-front 2 f.frequency.0 (rest_bytes f.rest ++ rest) (lit≤ tt) h in
    rw hertz

-- ---- what is read gives its bytes back, and is within its digits

-- the data of a reply as its four tariffs
pub in-fours : (d : List ℕ) → take 16 d ≡ take 4 d ++ (take 4 (drop 4 d) ++ (take 4 (drop 8 d) ++ take 4 (drop 12 d)))
in-fours d =
    take-add 4 12 d
    ∙ ap (λ (l : List ℕ). take 4 d ++ l)
    (take-add 4 8 (drop 4 d)
    ∙ ap (λ (l : List ℕ). take 4 (drop 4 d) ++ l)
    (ap (take 8) (drop-drop 4 4 d)
    ∙ take-add 4 4 (drop 8 d)
    ∙ ap (λ (l : List ℕ). take 4 (drop 8 d) ++ take 4 l) (drop-drop 4 8 d)))

-- what is known of tariffs that were read
pub record ReadTariffs (d : List ℕ) (t : FourTariffs) : Type 0 where
  pub put : tariffs_bytes t ≡ take 16 d
  pub fits : FitsTariffs t

-- from a reply's bytes to figures and back, the claim's other half
pub tariffs-back : (d : List ℕ) (t : FourTariffs) → 16 ≤ length d → tariffs_of d ≡ Ok (Tariffs t) → ReadTariffs d t
unfolding tariffs_of tariffs_bytes
tariffs-back d t l = go (decimal_at d 0 4) refl (decimal_at d 4 4) refl (decimal_at d 8 4) refl (decimal_at d 12 4) refl
  where
    go : (a : Option ℕ) → decimal_at d 0 4 ≡ a → (b : Option ℕ) → decimal_at d 4 4 ≡ b → (c : Option ℕ) → decimal_at d 8 4 ≡ c
        → (e : Option ℕ) → decimal_at d 12 4 ≡ e → tariffs_by a b c e ≡ Ok (Tariffs t) → ReadTariffs d t
    go (Some a) p (Some b) q (Some c) r (Some e) s h =
        let same : record { first = record { 0 = a }; second = record { 0 = b }; third = record { 0 = c }; fourth = record { 0 = e } } ≡ t = cc in
        rw (← same) (record {
          put =
              ap₂ ◌++◌ (decimal-at-put d 0 4 a (omega (arith, l)) p)
              (ap₂ ◌++◌ (decimal-at-put d 4 4 b (omega (arith, l)) q)
              (ap₂ ◌++◌ (decimal-at-put d 8 4 c (omega (arith, l)) r) (decimal-at-put d 12 4 e (omega (arith, l)) s)))
              ∙ sym (in-fours d);
          fits = record {
            first = decimal-at-small d 0 4 a p;
            second = decimal-at-small d 4 4 b q;
            third = decimal-at-small d 8 4 c r;
            fourth = decimal-at-small d 12 4 e s;
          };
        })
    go None p b q c r e s h = absurd cc
    go (Some a) p None q c r e s h = absurd cc
    go (Some a) p (Some b) q None r e s h = absurd cc
    go (Some a) p (Some b) q (Some c) r None s h = absurd cc

-- what is known of a load that was read
pub record ReadLoad (d : List ℕ) (l : LoadFigures) : Type 0 where
  pub put : load_bytes l ≡ take 7 d
  pub fits : FitsLoad l

-- the data of a reply as voltage, current and power
pub in_three : (d : List ℕ) → take 7 d ≡ take 2 d ++ (take 2 (drop 2 d) ++ take 3 (drop 4 d))
in_three d =
    take-add 2 5 d
    ∙ ap (λ (l : List ℕ). take 2 d ++ l) (take-add 2 3 (drop 2 d) ∙ ap (λ (l : List ℕ). take 2 (drop 2 d) ++ take 3 l) (drop-drop 2 2 d))

-- its other half for voltage, current and power
pub load-back : (d : List ℕ) (l : LoadFigures) → 7 ≤ length d → load_of d ≡ Ok (Load l) → ReadLoad d l
unfolding load_of load_bytes
load-back d l n = go (decimal_at d 0 2) refl (decimal_at d 2 2) refl (decimal_at d 4 3) refl
  where
    go : (a : Option ℕ) → decimal_at d 0 2 ≡ a → (b : Option ℕ) → decimal_at d 2 2 ≡ b → (c : Option ℕ) → decimal_at d 4 3 ≡ c
        → load_by a b c ≡ Ok (Load l) → ReadLoad d l
    go (Some a) p (Some b) q (Some c) r h =
        let same : record { voltage = record { 0 = a }; current = record { 0 = b }; power = record { 0 = c } } ≡ l = cc in
        rw (← same) (record {
          put =
              ap₂ ◌++◌ (decimal-at-put d 0 2 a (omega (arith, n)) p)
              (ap₂ ◌++◌ (decimal-at-put d 2 2 b (omega (arith, n)) q) (decimal-at-put d 4 3 c (omega (arith, n)) r))
              ∙ sym (in_three d);
          fits = record {
            voltage = decimal-at-small d 0 2 a p;
            current = decimal-at-small d 2 2 b q;
            power = decimal-at-small d 4 3 c r;
          };
        })
    go None p b q c r h = absurd cc
    go (Some a) p None q c r h = absurd cc
    go (Some a) p (Some b) q None r h = absurd cc

-- what is known of a frequency that was read
pub record ReadFrequency (d : List ℕ) (f : FrequencyFigures) : Type 0 where
  pub put : frequency_bytes f ≡ take 9 d
  pub fits : f.frequency.0 < 100 ^ 2

-- the seven bytes behind the first two
rest_back : (d : List ℕ) → 9 ≤ length d → rest_bytes (rest_of d) ≡ take 7 (drop 2 d)
rest_back (a ∷ b ∷ c ∷ d ∷ e ∷ f ∷ g ∷ h ∷ i ∷ s) n = refl
rest_back (a ∷ b ∷ c ∷ d ∷ e ∷ f ∷ g ∷ h ∷ []) n = absurd (omega (arith, n))
rest_back (a ∷ b ∷ c ∷ d ∷ e ∷ f ∷ g ∷ []) n = absurd (omega (arith, n))
rest_back (a ∷ b ∷ c ∷ d ∷ e ∷ f ∷ []) n = absurd (omega (arith, n))
rest_back (a ∷ b ∷ c ∷ d ∷ e ∷ []) n = absurd (omega (arith, n))
rest_back (a ∷ b ∷ c ∷ d ∷ []) n = absurd (omega (arith, n))
rest_back (a ∷ b ∷ c ∷ []) n = absurd (omega (arith, n))
rest_back (a ∷ b ∷ []) n = absurd (omega (arith, n))
rest_back (a ∷ []) n = absurd (omega (arith, n))
rest_back [] n = absurd (omega (arith, n))

-- its other half for the frequency
pub frequency-back : (d : List ℕ) (f : FrequencyFigures) → 9 ≤ length d → frequency_of d ≡ Ok (Frequency f) → ReadFrequency d f
unfolding frequency_of frequency_bytes
frequency-back d f n = go (decimal_at d 0 2) refl
  where
    go : (a : Option ℕ) → decimal_at d 0 2 ≡ a → frequency_by a (rest_of d) ≡ Ok (Frequency f) → ReadFrequency d f
    go (Some a) p h =
        let same : record { frequency = record { 0 = a }; rest = rest_of d } ≡ f = cc in
        rw (← same) (record {
          put = ap₂ ◌++◌ (decimal-at-put d 0 2 a (omega (arith, n)) p) (rest_back d n) ∙ sym (take-add 2 7 d);
          fits = decimal-at-small d 0 2 a p;
        })
    go None p h = absurd cc

-- ---- what is decoded is the figures asked for, or nothing is

-- a proof over decoded tariffs goes by two cases: figures, or a half-byte above 9
pub tariffs-cases : (d : List ℕ) (P : Result Decoded DecodeError → Type 0) → ((t : FourTariffs) → tariffs_of d ≡ Ok (Tariffs t) → P (Ok (Tariffs t))) → P (Err decoded_error.NotDecimal)
    → P (tariffs_of d)
unfolding tariffs_of
tariffs-cases d P given refused = go (decimal_at d 0 4) (decimal_at d 4 4) (decimal_at d 8 4) (decimal_at d 12 4) refl
  where
    go : (a b c e : Option ℕ) → tariffs_of d ≡ tariffs_by a b c e → P (tariffs_by a b c e)
    go (Some a) (Some b) (Some c) (Some e) h = given _ h
    go (Some a) (Some b) (Some c) None h = refused
    go (Some a) (Some b) None e h = refused
    go (Some a) None c e h = refused
    go None b c e h = refused

-- likewise over a load
pub load-cases : (d : List ℕ) (P : Result Decoded DecodeError → Type 0) → ((l : LoadFigures) → load_of d ≡ Ok (Load l) → P (Ok (Load l))) → P (Err decoded_error.NotDecimal) → P (load_of d)
unfolding load_of
load-cases d P given refused = go (decimal_at d 0 2) (decimal_at d 2 2) (decimal_at d 4 3) refl
  where
    go : (a b c : Option ℕ) → load_of d ≡ load_by a b c → P (load_by a b c)
    go (Some a) (Some b) (Some c) h = given _ h
    go (Some a) (Some b) None h = refused
    go (Some a) None c h = refused
    go None b c h = refused

-- likewise over a frequency
pub frequency-cases : (d : List ℕ) (P : Result Decoded DecodeError → Type 0) → ((f : FrequencyFigures) → frequency_of d ≡ Ok (Frequency f) → P (Ok (Frequency f)))
    → P (Err decoded_error.NotDecimal) → P (frequency_of d)
unfolding frequency_of
frequency-cases d P given refused = go (decimal_at d 0 2) refl
  where
    go : (a : Option ℕ) → frequency_of d ≡ frequency_by a (rest_of d) → P (frequency_by a (rest_of d))
    go (Some a) h = given _ h
    go None h = refused
