-- The wire on one page: every command and its reply written out in bytes, from the record's fields by name. To be laid beside the figures of source
-- document 002. Document 01, "Frames": "Address (1 byte), function (1), message, CRC (2, low byte first). Numbers of several bytes travel lowest byte first."
--
-- What goes through a codec and back comes out the same, even where both sides exchange two fields. So nothing here is said by the codecs' own words:
-- `framed` puts the CRC behind the bytes, `bytes_of k n` is the number n in k bytes, lowest first, and the rest are the figures' own bytes, from left to
-- right. Proofs: `wire`, proofs/Claims.antt.
use Rattle.std.specs.Prelude.{◌≡◌, Bool, true, false, cond, ◌&&◌, ◌||◌, List, [], ◌∷◌, ◌++◌, ◌⊎◌, ℕ, ◌+◌, ◌*◌, ◌-◌, ◌^◌, ◌≤◌, ◌<◌, eqb, leb, ltb, Float, length, take}
use Rattle.std.specs.Float.{binary32}
use Rattle.std.specs.Float.Ieee.{add, to_bits}
use Rattle.byte_numbers.specs.Number.{bytes_of}
use Rattle.frame.specs.Sealing.{framed}
use Rattle.parameters.specs.declared.code.Reading.TheVariants.{Stored, Displayed}
use Rattle.calendar.specs.Sunday.{last_sunday}
use Rattle.calendar.specs.Time.{is_time}
use Rattle.calendar.specs.declared.time.DateTime.{DateTime}
use Rattle.wire_values.specs.Telemetry.{FitsTelemetry}
use Rattle.wire_values.specs.declared.mask.DisplayMask.{DisplayMask}
use Rattle.wire_values.specs.declared.power.Phases.{Phases}
use Rattle.wire_values.specs.declared.telemetry.Telemetry.{Telemetry}
use Rattle.kilowatt_hours.specs.Bits.{kwh_bits}
use Rattle.slots.specs.Day.{slots_of}
use Rattle.slots.specs.Key.{is_legal}
use Rattle.request.specs.Request.{requested, number_of}
use Rattle.request.specs.declared.request.Request.{Request}
use Rattle.meter_clock.specs.Season.{is_switchable}
use Rattle.meter_clock.specs.declared.protection.Level.TheVariants.{Shut, Auxiliary, Main}
use Rattle.meter_clock.specs.declared.season.SwitchDate.TheVariants.{Automatic, ByHand}
use Rattle.meter_store.specs.Store.{key_of, slice_of, count_at}
use Rattle.meter_record.specs.declared.record.Record.{Record}
use Rattle.meter_command.specs.Access.{is_main, is_open}
use Rattle.meter.specs.Reply.{Outcome, is_sound, answer_of}
use Rattle.claims.specs.Demand1.{answer_number}
use Rattle.claims.specs.Demand2.{reply_in}

-- a meter within its ranges, with room for its reply, that a frame names: by its own address or by 0
pub record Named (r : Record) (s out : List ℕ) (a : ℕ) : Type 0 where
  pub room : 64 ≤ length out
  pub sound : is_sound r s ≡ true
  pub byte : a < 256
  pub by : (a ≡ r.address) ⊎ (a ≡ 0)

-- ---- reads: figure 3 (page 5), address, 3 or 4, parameter, offset, tariff, detail; and figure 4 (page 6), address, function, parameter, result, data

-- a frame gets these bytes: the meter answers 0
pub record Gets (r : Record) (s out frame reply : List ℕ) : Type 0 where
  pub done : answer_number (answer_of r s frame out) ≡ 0
  pub bytes : reply_in (answer_of r s frame out) ≡ reply

-- section 4.3 (page 9): "4-byte numbers in floating point"
abbrev pub float : Float → List ℕ
float x = bytes_of 4 (to_bits binary32 x)

-- parameters 8 and 9: figure 9 (page 9), the total, A, B, C; details 1 to 3 one phase
pub record PowersRead (r : Record) (s out : List ℕ) (a parameter : ℕ) (p : Phases) : Type 0 where
  pub all : Gets r s out (framed (a ∷ 3 ∷ parameter ∷ 0 ∷ 0 ∷ 0 ∷ []))
      (framed (a ∷ 3 ∷ parameter ∷ 0 ∷ float (add binary32 (add binary32 p.a p.b) p.c) ++ float p.a ++ float p.b ++ float p.c))
  pub phase_a : Gets r s out (framed (a ∷ 3 ∷ parameter ∷ 0 ∷ 0 ∷ 1 ∷ [])) (framed (a ∷ 3 ∷ parameter ∷ 0 ∷ float p.a))
  pub phase_b : Gets r s out (framed (a ∷ 3 ∷ parameter ∷ 0 ∷ 0 ∷ 2 ∷ [])) (framed (a ∷ 3 ∷ parameter ∷ 0 ∷ float p.b))
  pub phase_c : Gets r s out (framed (a ∷ 3 ∷ parameter ∷ 0 ∷ 0 ∷ 3 ∷ [])) (framed (a ∷ 3 ∷ parameter ∷ 0 ∷ float p.c))

-- figure 18 (page 18) with function 3: E+, E-, R+, R-, two bytes each
abbrev pub slice : List ℕ → List ℕ
slice row = bytes_of 2 (count_at row 0) ++ bytes_of 2 (count_at row 1) ++ bytes_of 2 (count_at row 2) ++ bytes_of 2 (count_at row 3)

-- and with function 4, four bytes each: the float nearest to N x Ke x KI x KU millionths (document 02, CR 3; `nearest` of `Function4`)
abbrev pub shown : Record → ℕ → List ℕ
shown r n = bytes_of 4 (kwh_bits (n * r.telemetry.ke * r.ratios.ki * r.ratios.ku))

pub record Reads (r : Record) (s out : List ℕ) (a : ℕ) : Type 0 where
  pub active : PowersRead r s out a 8 r.active
  pub reactive : PowersRead r s out a 9 r.reactive
  -- section 4.5, table 4 (page 12): the network address, one byte
  pub address : Gets r s out (framed (a ∷ 3 ∷ 21 ∷ 0 ∷ 0 ∷ 0 ∷ [])) (framed (a ∷ 3 ∷ 21 ∷ 0 ∷ r.address ∷ []))
  -- figure 13 (page 13): K (4 bytes), Ke (2), reserve (2)
  pub telemetry : let t = r.telemetry in Gets r s out (framed (a ∷ 3 ∷ 24 ∷ 0 ∷ 0 ∷ 0 ∷ []))
      (framed (a ∷ 3 ∷ 24 ∷ 0 ∷ bytes_of 4 t.k ++ bytes_of 2 t.ke ++ bytes_of 2 t.reserve))
  -- section 4.6 (page 13): "6 bytes (s, min, hour, day, month, year)", the year counted from 2000; "at 2 o'clock on the last Sunday of March", "at 3 o'clock
  -- on the last Sunday of October", in the clock's year, unless a date is written by hand
  pub summer : r.time.summer ≡ Automatic → let y = r.time.clock.date.year in Gets r s out (framed (a ∷ 3 ∷ 27 ∷ 0 ∷ 0 ∷ 0 ∷ []))
      (framed (a ∷ 3 ∷ 27 ∷ 0 ∷ 0 ∷ 0 ∷ 2 ∷ last_sunday y 3 ∷ 3 ∷ y ∷ []))
  pub summer_by_hand : (t : DateTime) → r.time.summer ≡ ByHand t → Gets r s out (framed (a ∷ 3 ∷ 27 ∷ 0 ∷ 0 ∷ 0 ∷ []))
      (framed (a ∷ 3 ∷ 27 ∷ 0 ∷ t.second ∷ t.minute ∷ t.hour ∷ t.date.day ∷ t.date.month ∷ t.date.year ∷ []))
  pub winter : r.time.winter ≡ Automatic → let y = r.time.clock.date.year in Gets r s out (framed (a ∷ 3 ∷ 28 ∷ 0 ∷ 0 ∷ 0 ∷ []))
      (framed (a ∷ 3 ∷ 28 ∷ 0 ∷ 0 ∷ 0 ∷ 3 ∷ last_sunday y 10 ∷ 10 ∷ y ∷ []))
  pub winter_by_hand : (t : DateTime) → r.time.winter ≡ ByHand t → Gets r s out (framed (a ∷ 3 ∷ 28 ∷ 0 ∷ 0 ∷ 0 ∷ []))
      (framed (a ∷ 3 ∷ 28 ∷ 0 ∷ t.second ∷ t.minute ∷ t.hour ∷ t.date.day ∷ t.date.month ∷ t.date.year ∷ []))
  -- section 4.9 (page 15), as figure 11 (page 10) has a time: second, minute, hour, day, month, year
  pub clock : let t = r.time.clock in Gets r s out (framed (a ∷ 3 ∷ 32 ∷ 0 ∷ 0 ∷ 0 ∷ []))
      (framed (a ∷ 3 ∷ 32 ∷ 0 ∷ t.second ∷ t.minute ∷ t.hour ∷ t.date.day ∷ t.date.month ∷ t.date.year ∷ []))
  -- figure 16 (page 17): parameters (4 bytes), tariffs (1), directions (1)
  pub mask : let m = r.mask in Gets r s out (framed (a ∷ 3 ∷ 35 ∷ 0 ∷ 0 ∷ 0 ∷ []))
      (framed (a ∷ 3 ∷ 35 ∷ 0 ∷ bytes_of 4 m.parameters ++ (m.tariffs ∷ m.directions ∷ [])))
  -- figure 17 (page 18): month, day, number of the slice; its counts are the store's for that key
  pub slices : (month day number : ℕ) → is_legal (key_of month day number) (slots_of r.minutes) ≡ true
      → Gets r s out (framed (a ∷ 3 ∷ 36 ∷ month ∷ day ∷ number ∷ [])) (framed (a ∷ 3 ∷ 36 ∷ 0 ∷ slice (slice_of s (key_of month day number))))
  pub displayed : (month day number : ℕ) → is_legal (key_of month day number) (slots_of r.minutes) ≡ true → let row = slice_of s (key_of month day number) in
      Gets r s out (framed (a ∷ 4 ∷ 36 ∷ month ∷ day ∷ number ∷ []))
      (framed (a ∷ 4 ∷ 36 ∷ 0 ∷ shown r (count_at row 0) ++ shown r (count_at row 1) ++ shown r (count_at row 2) ++ shown r (count_at row 3)))
  -- section 4.13 (page 18), parameter 40: six of figure 18, the named slice and the five after it
  pub six : (month day number : ℕ) → is_legal (key_of month day number) (slots_of r.minutes - 5) ≡ true
      → let at : ℕ → List ℕ = λ k. slice (slice_of s (key_of month day k)) in
      Gets r s out (framed (a ∷ 3 ∷ 40 ∷ month ∷ day ∷ number ∷ []))
      (framed (a ∷ 3 ∷ 40 ∷ 0 ∷ at number ++ at (number + 1) ++ at (number + 2) ++ at (number + 3) ++ at (number + 4) ++ at (number + 5)))

-- ---- what changes the record: figure 5 (page 6), address, 16, parameter, detail, data; figure 7, address, 30, parameter, 0; figures 21 and 22 (page 20)

-- A command that names the meter and has all that it needs is answered 0; and one that is answered 0 gets these bytes (figure 6, page 6) and leaves this
-- value in its field of the record. That it leaves every other field is demand 2's (`change`, `zeroing`, `right_password`, `lock`).
pub record Sets {A : Type 0} (r : Record) (s out : List ℕ) (a : ℕ) (frame reply : List ℕ) (able : Bool) (field : Record → A) (value : A) : Type 0 where
  pub done : Named r s out a → able ≡ true → answer_number (answer_of r s frame out) ≡ 0
  pub bytes : answer_number (answer_of r s frame out) ≡ 0 → reply_in (answer_of r s frame out) ≡ reply
  pub after : answer_number (answer_of r s frame out) ≡ 0 → field (answer_of r s frame out).answer.after ≡ value

-- changes and zeroings come by the meter's own address (document 02, CR 6), which the reply repeats "also when the command changed it"
pub record Changes (r : Record) (s out : List ℕ) : Type 0 where
  pub address : (n : ℕ) → n < 256 → Sets r s out r.address (framed (r.address ∷ 16 ∷ 21 ∷ 0 ∷ n ∷ [])) (framed (r.address ∷ 16 ∷ 21 ∷ 0 ∷ []))
      (is_open r.protection.level && leb 1 n) (λ (x : Record). x.address) n
  pub telemetry : (t : Telemetry) → FitsTelemetry t
      → Sets r s out r.address (framed (r.address ∷ 16 ∷ 24 ∷ 0 ∷ bytes_of 4 t.k ++ bytes_of 2 t.ke ++ bytes_of 2 t.reserve))
      (framed (r.address ∷ 16 ∷ 24 ∷ 0 ∷ []))
      (is_main r.protection.level && (eqb t.ke r.telemetry.ke && (leb 40000 (t.k * t.ke) && leb (t.k * t.ke) 5000000)))
      (λ (x : Record). x.telemetry) t
  pub summer : (t : DateTime)
      → Sets r s out r.address (framed (r.address ∷ 16 ∷ 27 ∷ 0 ∷ t.second ∷ t.minute ∷ t.hour ∷ t.date.day ∷ t.date.month ∷ t.date.year ∷ []))
      (framed (r.address ∷ 16 ∷ 27 ∷ 0 ∷ [])) (is_main r.protection.level && is_switchable t) (λ (x : Record). x.time.summer) (ByHand t)
  pub winter : (t : DateTime)
      → Sets r s out r.address (framed (r.address ∷ 16 ∷ 28 ∷ 0 ∷ t.second ∷ t.minute ∷ t.hour ∷ t.date.day ∷ t.date.month ∷ t.date.year ∷ []))
      (framed (r.address ∷ 16 ∷ 28 ∷ 0 ∷ [])) (is_main r.protection.level && is_switchable t) (λ (x : Record). x.time.winter) (ByHand t)
  -- section 4.9 (page 15): detail 2 sets date and time
  pub clock : (t : DateTime)
      → Sets r s out r.address (framed (r.address ∷ 16 ∷ 32 ∷ 2 ∷ t.second ∷ t.minute ∷ t.hour ∷ t.date.day ∷ t.date.month ∷ t.date.year ∷ []))
      (framed (r.address ∷ 16 ∷ 32 ∷ 0 ∷ [])) (is_main r.protection.level && is_time t) (λ (x : Record). x.time.clock) t
  pub mask : (m : DisplayMask) → m.parameters < 2 ^ 32 → m.tariffs < 256 → m.directions < 256
      → Sets r s out r.address (framed (r.address ∷ 16 ∷ 35 ∷ 0 ∷ bytes_of 4 m.parameters ++ (m.tariffs ∷ m.directions ∷ [])))
      (framed (r.address ∷ 16 ∷ 35 ∷ 0 ∷ [])) (is_open r.protection.level) (λ (x : Record). x.mask) m
  -- section 4.14 (page 19): detail 0 the main password, 1 the auxiliary; its eight bytes are one number, the first of them lowest
  pub main_password : (n : ℕ) → n < 2 ^ 64
      → Sets r s out r.address (framed (r.address ∷ 16 ∷ 37 ∷ 0 ∷ bytes_of 8 n)) (framed (r.address ∷ 16 ∷ 37 ∷ 0 ∷ []))
      (is_main r.protection.level) (λ (x : Record). x.passwords.main.0) n
  pub auxiliary_password : (n : ℕ) → n < 2 ^ 64
      → Sets r s out r.address (framed (r.address ∷ 16 ∷ 37 ∷ 1 ∷ bytes_of 8 n)) (framed (r.address ∷ 16 ∷ 37 ∷ 0 ∷ []))
      (is_main r.protection.level) (λ (x : Record). x.passwords.auxiliary.0) n
  -- figure 7 (page 6) and section 4.6 (page 13); figure 19 (page 18), whose slices are gone (`slices_zeroed` of `Demand2Again`)
  pub summer_zeroed : Sets r s out r.address (framed (r.address ∷ 30 ∷ 27 ∷ 0 ∷ [])) (framed (r.address ∷ 30 ∷ 27 ∷ 0 ∷ []))
      (is_main r.protection.level) (λ (x : Record). x.time.summer) Automatic
  pub winter_zeroed : Sets r s out r.address (framed (r.address ∷ 30 ∷ 28 ∷ 0 ∷ [])) (framed (r.address ∷ 30 ∷ 28 ∷ 0 ∷ []))
      (is_main r.protection.level) (λ (x : Record). x.time.winter) Automatic
  pub slices_zeroed : Sets r s out r.address (framed (r.address ∷ 30 ∷ 36 ∷ 0 ∷ [])) (framed (r.address ∷ 30 ∷ 36 ∷ 0 ∷ []))
      (is_main r.protection.level) (λ (x : Record). x.next) 0

-- the protection commands, by the meter's own address or by 0: figure 21 (page 20), 0, level, eight bytes of password; figure 22, 0, 0
pub record Protects (r : Record) (s out : List ℕ) (a : ℕ) : Type 0 where
  pub main : (n : ℕ) → n < 2 ^ 64 → Sets r s out a (framed (a ∷ 31 ∷ 0 ∷ 0 ∷ bytes_of 8 n)) (framed (a ∷ 31 ∷ 0 ∷ 0 ∷ []))
      (eqb n r.passwords.main.0) (λ (x : Record). x.protection) (record { level = Main; left = 240 })
  pub auxiliary : (n : ℕ) → n < 2 ^ 64 → Sets r s out a (framed (a ∷ 31 ∷ 0 ∷ 1 ∷ bytes_of 8 n)) (framed (a ∷ 31 ∷ 0 ∷ 0 ∷ []))
      (eqb n r.passwords.auxiliary.0) (λ (x : Record). x.protection) (record { level = Auxiliary; left = 240 })
  pub shut : Sets r s out a (framed (a ∷ 32 ∷ 0 ∷ 0 ∷ [])) (framed (a ∷ 32 ∷ 0 ∷ 0 ∷ [])) true (λ (x : Record). x.protection) (record { level = Shut; left = 0 })

-- ---- refusals: figure 4 without data, the function's top bit set (section 4, page 6)

-- a byte's top bit, set
abbrev pub top_bit : ℕ → ℕ
top_bit n = cond (ltb n 128) (128 + n) n

-- the result by document 01's number: Appendix B (page 22) has 1 for an unknown function, 2 for an unknown parameter, 4 for "unauthorised access" and 3 for a
-- wrong argument; "For 10 to 14 the result byte is Appendix B's code for that fault, else 3"; 16 "with the result used for 14" (document 02, CR 6)
pub record Refused (o : Outcome) (a function parameter : ℕ) : Type 0 where
  pub unknown_function : answer_number o ≡ 10 → reply_in o ≡ framed (a ∷ function ∷ parameter ∷ 1 ∷ [])
  pub unknown_parameter : answer_number o ≡ 11 → reply_in o ≡ framed (a ∷ function ∷ parameter ∷ 2 ∷ [])
  pub not_open : answer_number o ≡ 12 → reply_in o ≡ framed (a ∷ function ∷ parameter ∷ 3 ∷ [])
  pub wrong_length : answer_number o ≡ 13 → reply_in o ≡ framed (a ∷ function ∷ parameter ∷ 3 ∷ [])
  pub no_access : answer_number o ≡ 14 → reply_in o ≡ framed (a ∷ function ∷ parameter ∷ 4 ∷ [])
  pub wrong_argument : answer_number o ≡ 15 → reply_in o ≡ framed (a ∷ function ∷ parameter ∷ 3 ∷ [])
  pub by_zero : answer_number o ≡ 16 → reply_in o ≡ framed (a ∷ function ∷ parameter ∷ 4 ∷ [])

-- a frame of five bytes or more repeats its parameter; "a frame of 4 bytes counts as parameter 0"; "a refusal frame for an unknown function, or a command
-- without a parameter, puts 0 there". What follows in the frame is any bytes; one that gets such a number was heard.
pub record Refusals (r : Record) (s out : List ℕ) (a : ℕ) : Type 0 where
  pub read : (p b c : ℕ) (more : List ℕ) → Refused (answer_of r s (a ∷ 3 ∷ p ∷ b ∷ c ∷ more) out) a 131 p
  pub displayed : (p b c : ℕ) (more : List ℕ) → Refused (answer_of r s (a ∷ 4 ∷ p ∷ b ∷ c ∷ more) out) a 132 p
  pub change : (p b c : ℕ) (more : List ℕ) → Refused (answer_of r s (a ∷ 16 ∷ p ∷ b ∷ c ∷ more) out) a 144 p
  pub zeroing : (p b c : ℕ) (more : List ℕ) → Refused (answer_of r s (a ∷ 30 ∷ p ∷ b ∷ c ∷ more) out) a 158 p
  pub unlock : (more : List ℕ) → Refused (answer_of r s (a ∷ 31 ∷ more) out) a 159 0
  pub lock : (more : List ℕ) → Refused (answer_of r s (a ∷ 32 ∷ more) out) a 160 0
  pub short : (function b c : ℕ) → Refused (answer_of r s (a ∷ function ∷ b ∷ c ∷ []) out) a (top_bit function) 0
  pub unknown : (function : ℕ) (more : List ℕ)
      → (eqb function 3 || eqb function 4 || eqb function 16 || eqb function 30 || eqb function 31 || eqb function 32) ≡ false
      → Refused (answer_of r s (a ∷ function ∷ more) out) a (top_bit function) 0

-- ---- the page

pub record Wire : Type 0 where
  -- a request that is made, from its fields: with function 3 and with function 4
  pub request : (q : Request) (room : List ℕ) → q.reading ≡ Stored → number_of (requested q room).result ≡ 0
      → take 8 (requested q room).left ≡ framed (q.address ∷ 3 ∷ q.parameter ∷ q.offset ∷ q.tariff ∷ q.detail ∷ [])
  pub request_displayed : (q : Request) (room : List ℕ) → q.reading ≡ Displayed → number_of (requested q room).result ≡ 0
      → take 8 (requested q room).left ≡ framed (q.address ∷ 4 ∷ q.parameter ∷ q.offset ∷ q.tariff ∷ q.detail ∷ [])
  pub reads : (r : Record) (s out : List ℕ) (a : ℕ) → Named r s out a → Reads r s out a
  pub changes : (r : Record) (s out : List ℕ) → Changes r s out
  pub protects : (r : Record) (s out : List ℕ) (a : ℕ) → Protects r s out a
  pub refusals : (r : Record) (s out : List ℕ) (a : ℕ) → Refusals r s out a
