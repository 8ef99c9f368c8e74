-- Demand 2, the address that a command came by. Document 02, CR 6: "The frame check must now say whether its own address or 0 was met, and
-- everything above it must heed that. Reads by 0 go on. Changes, a new password too, and zeroing by 0 are refused; the protection commands are
-- still accepted. Demand 2's 'access it needs' includes this." Proofs: `demand-2-by-zero`, proofs/Claims.antt.
use Rattle.std.specs.Prelude.{◌≡◌, Bool, true, false, ◌&&◌, ◌||◌, List, ◌∷◌, ℕ, ◌+◌, ◌≤◌, ◌<◌, eqb, length}
use Rattle.byte_numbers.specs.Number.{Bytes}
use Rattle.byte_numbers.specs.Place.{byte_at, written}
use Rattle.parameters.specs.Code.{function_of}
use Rattle.frame.specs.Layout.{address_place, result_place, bare_size}
use Rattle.frame.specs.Sealing.{framed}
use Rattle.parameters.specs.declared.code.Function.{Function}
use Rattle.parameters.specs.declared.code.Function.TheVariants as function
use Rattle.meter_record.specs.declared.record.Record.{Record}
use Rattle.meter_command.specs.Command.{command_of}
use Rattle.meter_command.specs.declared.access.Met.TheVariants.{Zero}
use Rattle.meter.specs.Reply.{Outcome, is_sound, met, answer_of}
use Rattle.claims.specs.Changes.{Leaves}
use Rattle.claims.specs.Demand1.{answer_number}
use Rattle.claims.specs.Demand2Done.{Ready}

-- changes and zeroings: functions 16 and 30
abbrev pub changes : Function → Bool
changes function.Change = true
changes function.Zero = true
changes (function.Read reading) = false
changes function.Unlock = false
changes function.Lock = false
changes function.Unknown = false

-- whether a change or a zeroing is of a parameter that the function may change, and of its length: 11, 12 and 13 are passed
abbrev pub form_fits : Function → List ℕ → Bool
form_fits function.Change f = let w = (command_of f).row in w.changeable && eqb (length f) (bare_size + w.change_bytes)
form_fits function.Zero f = (command_of f).row.zeroable && eqb (length f) bare_size
form_fits (function.Read reading) f = false
form_fits function.Unlock f = false
form_fits function.Lock f = false
form_fits function.Unknown f = false

-- the frame of a command by an address: function, and message
abbrev pub frame_by : ℕ → ℕ → List ℕ → List ℕ
frame_by address fn message = framed (address ∷ fn ∷ message)

-- two answers that differ in the reply's first byte alone, and so in its CRC: the one has 0 there, the other the meter's own address
pub record Alike (own : ℕ) (out : List ℕ) (zero mine : Outcome) : Type 0 where
  pub answer : zero.answer ≡ mine.answer
  pub slices : zero.store ≡ mine.store
  pub rest : List ℕ
  pub by_zero : zero.out ≡ written out 0 (framed (0 ∷ rest))
  pub by-own : mine.out ≡ written out 0 (framed (own ∷ rest))

pub record Demand2ByZero : Type 0 where
  -- a change or a zeroing that was answered 0 came by the meter's own address, which is not 0
  pub came_by_own : (r : Record) (s f out : List ℕ) → let c = command_of f in changes c.function ≡ true → answer_number (answer_of r s f out) ≡ 0
      → (byte_at f address_place ≡ r.address) × (byte_at f address_place ≡ 0 → ⊥)
  -- one by 0 changes nothing, whatever the access and the bytes, and is never answered 0
  pub by_zero_refused : (r : Record) (s f out : List ℕ) → let c = command_of f in changes c.function ≡ true → byte_at f address_place ≡ 0
      → Leaves r s (answer_of r s f out) × (answer_number (answer_of r s f out) ≡ 0 → ⊥)
  -- "16, after 13 and before 14": past 11, 12 and 13 it is 16, whatever the access and the argument
  pub sixteen : (r : Record) (s f out : List ℕ) → let c = command_of f in Ready r s f out → met r f ≡ Zero → changes c.function ≡ true
      → form_fits c.function f ≡ true → answer_number (answer_of r s f out) ≡ 16
  -- "refusal frame with the result used for 14": Appendix B's code 4 (002, page 22) stands in the frame of both
  pub result : (r : Record) (s f out : List ℕ) → let o = answer_of r s f out in 64 ≤ length out → (eqb (answer_number o) 14 || eqb (answer_number o) 16) ≡ true
      → byte_at o.out result_place ≡ 4
  -- "Reads by 0 go on"; "the protection commands are still accepted": what is no change and no zeroing is answered by 0 as by the meter's own address,
  -- for every function, every message that a frame has room for, and every sound meter
  pub others_alike : (r : Record) (s : List ℕ) (fn : ℕ) (message out : List ℕ) → changes (function_of fn) ≡ false → fn < 256 → Bytes message
      → length message ≤ 60 → r.address < 256 → is_sound r s ≡ true → 64 ≤ length out
      → Alike r.address out (answer_of r s (frame_by 0 fn message) out) (answer_of r s (frame_by r.address fn message) out)
