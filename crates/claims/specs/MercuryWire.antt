-- The Mercury 206's wire on one page: its three commands and their replies written out in bytes, from the bench's figures by name. To be laid beside source
-- document 000, its section on the Mercury 206: the table of its fields (address, 4 bytes, high byte first; command, 1; data; CRC16, low byte first) and the
-- examples under 0x27, 0x63 and 0x81.
--
-- As in `Wire` of the SS-301, nothing is said by the codec's own words: two figures exchanged on both sides read back as they were, and break this page.
-- Proofs: `mercury-wire`, proofs/Claims.antt.
use Rattle.std.specs.Prelude.{◌≡◌, true, List, [], ◌∷◌, ◌++◌, ℕ, ◌+◌, ◌*◌, ◌/◌, ◌%◌, ◌≤◌, length, Ok}
use Rattle.byte_numbers.specs.Place.{written}
use Rattle.refusal.specs.Outcome.{outcome}
use Rattle.frame.specs.Sealing.{framed}
use Rattle.mercury.specs.Request.{requested}
use Rattle.mercury_bench.specs.Meter.{is_within}
use Rattle.mercury_bench.specs.Reply.{answered}
use Rattle.mercury_bench.specs.declared.meter.Meter.{Meter}
use Rattle.claims.specs.MercuryInverse.{FitsMeter}

-- the network address: "high byte first"
abbrev pub address : ℕ → List ℕ
address n = n / 16777216 % 256 ∷ n / 65536 % 256 ∷ n / 256 % 256 ∷ n % 256 ∷ []

-- the last two decimal digits of a number in one byte, the higher one in its high half: the 2,300 tenths of 230.0 V are 23 00
abbrev pub two : ℕ → ℕ
two n = n / 10 % 10 * 16 + n % 10

abbrev pub four : ℕ → List ℕ
four n = two (n / 100) ∷ two n ∷ []

abbrev pub six : ℕ → List ℕ
six n = two (n / 10000) ∷ two (n / 100) ∷ two n ∷ []

abbrev pub eight : ℕ → List ℕ
eight n = two (n / 1000000) ∷ two (n / 10000) ∷ two (n / 100) ∷ two n ∷ []

pub record MercuryWire : Type 0 where
  -- requests: address and command
  pub tariffs_request : (n : ℕ) (out : List ℕ) → 7 ≤ length out → requested n 0x27 out ≡ outcome (Ok tt) (written out 0 (framed (address n ++ (0x27 ∷ []))))
  pub load_request : (n : ℕ) (out : List ℕ) → 7 ≤ length out → requested n 0x63 out ≡ outcome (Ok tt) (written out 0 (framed (address n ++ (0x63 ∷ []))))
  pub frequency_request : (n : ℕ) (out : List ℕ) → 7 ≤ length out
      → requested n 0x81 out ≡ outcome (Ok tt) (written out 0 (framed (address n ++ (0x81 ∷ []))))
  -- 0x27: tariffs 1 to 4, four bytes each, in units of 10 Wh
  pub tariffs : (m : Meter) (out : List ℕ) → FitsMeter m → is_within m ≡ true → 64 ≤ length out → let t = m.tariffs in
      answered m (framed (address m.address ++ (0x27 ∷ []))) out ≡ outcome (Ok 23) (written out 0 (framed (
      address m.address ++ (0x27 ∷ eight t.first.0 ++ eight t.second.0 ++ eight t.third.0 ++ eight t.fourth.0))))
  -- 0x63: voltage x 10 (two bytes), current x 100 (two), power (three)
  pub load : (m : Meter) (out : List ℕ) → FitsMeter m → is_within m ≡ true → 64 ≤ length out → let l = m.load in
      answered m (framed (address m.address ++ (0x63 ∷ []))) out ≡ outcome (Ok 14) (written out 0 (framed (
      address m.address ++ (0x63 ∷ four l.voltage.0 ++ four l.current.0 ++ six l.power.0))))
  -- 0x81: frequency x 100 (two bytes), and seven more as they are
  pub frequency : (m : Meter) (out : List ℕ) → FitsMeter m → is_within m ≡ true → 64 ≤ length out → let f = m.frequency in let r = f.rest in
      answered m (framed (address m.address ++ (0x81 ∷ []))) out ≡ outcome (Ok 16) (written out 0 (framed (
      address m.address ++ (0x81 ∷ four f.frequency.0 ++ (r.0 ∷ r.1 ∷ r.2 ∷ r.3 ∷ r.4 ∷ r.5 ∷ r.6 ∷ [])))))
