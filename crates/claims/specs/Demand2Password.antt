-- Demand 2, a new password. Document 01, "Protection": "Two levels, main and auxiliary, each with a password of 8 bytes"; "Password, parameter 37, is written and
-- never read": what was written shows in what opens. The frames are written out, byte by byte: the eight that the change carried are the eight that open, and no
-- other eight do. Proofs: `demand-2-password`, proofs/Claims.antt.
use Rattle.std.specs.Prelude.{◌≡◌, true, List, ◌∷◌, ℕ, ◌≤◌, ◌<◌, length}
use Rattle.byte_numbers.specs.Number.{Bytes}
use Rattle.frame.specs.Sealing.{framed}
use Rattle.parameters.specs.declared.table.Access.{Access}
use Rattle.parameters.specs.declared.table.Access.TheVariants as access
use Rattle.meter_clock.specs.Protection.{opened}
use Rattle.meter_clock.specs.declared.protection.Level.{Level}
use Rattle.meter_clock.specs.declared.protection.Level.TheVariants.{Auxiliary, Main}
use Rattle.meter_record.specs.With.{with_protection}
use Rattle.meter_record.specs.declared.record.Record.{Record}
use Rattle.meter.specs.Reply.{Outcome, is_sound, answer_of}
use Rattle.claims.specs.Changes.{Leaves}
use Rattle.claims.specs.Demand1.{answer_number}

-- the byte of a level, in both frames: 0 main, 1 auxiliary (002, section 4.14, page 19, and figure 21, page 20)
abbrev pub level_byte : Access → ℕ
level_byte access.Main = 0
level_byte access.Auxiliary = 1

abbrev pub level_of : Access → Level
level_of access.Main = Main
level_of access.Auxiliary = Auxiliary

abbrev pub other : Access → Access
other access.Main = access.Auxiliary
other access.Auxiliary = access.Main

-- "Change: function 16, parameter, data": parameter 37, the level in the detail's place, and the password
abbrev pub new_password : Record → Access → List ℕ → List ℕ
new_password r level password = framed (r.address ∷ 16 ∷ 37 ∷ level_byte level ∷ password)

-- function 31, 0, the level, and the password (figure 21)
abbrev pub unlocking : Record → Access → List ℕ → List ℕ
unlocking r level password = framed (r.address ∷ 31 ∷ 0 ∷ level_byte level ∷ password)

-- "a password of 8 bytes"
pub record Eight (password : List ℕ) : Type 0 where
  pub long : length password ≡ 8
  pub bytes : Bytes password

-- what the meter answers a new password, and then an unlock of a level
abbrev pub given : Access → List ℕ → Record → List ℕ → List ℕ → Outcome
given level new r s out = answer_of r s (new_password r level new) out

abbrev pub unlocked : Outcome → Access → List ℕ → List ℕ → Outcome
unlocked o level password room = answer_of o.answer.after o.store (unlocking o.answer.after level password) room

-- a new password of eight bytes that was answered 0, and room for the next reply
pub record New (level : Access) (new : List ℕ) (r : Record) (s out next : List ℕ) : Type 0 where
  pub eight : Eight new
  pub address : r.address < 256
  pub zero : answer_number (given level new r s out) ≡ 0
  pub room : 64 ≤ length next

pub record Demand2Password : Type 0 where
  -- a sound meter whose main level is open takes any eight bytes, for either level
  pub taken : (level : Access) (new : List ℕ) (r : Record) (s out : List ℕ) → Eight new → r.address < 256 → is_sound r s ≡ true → 64 ≤ length out
      → r.protection.level ≡ Main → answer_number (given level new r s out) ≡ 0
  -- they then open that level
  pub opens : (level : Access) (new : List ℕ) (r : Record) (s out room : List ℕ) → New level new r s out room
      → let o = given level new r s out in let u = unlocked o level new room in
      (answer_number u ≡ 0) × Leaves (with_protection o.answer.after (opened (level_of level))) o.store u
  -- and no other eight do, those that opened it before among them: 14, "A wrong password changes nothing, an open level included"
  pub no_other : (level : Access) (new : List ℕ) (r : Record) (s out room : List ℕ) → New level new r s out room → (old : List ℕ) → Eight old → (old ≡ new → ⊥)
      → let o = given level new r s out in let u = unlocked o level old room in (answer_number u ≡ 14) × Leaves o.answer.after o.store u
  -- the other level's password stays: whatever eight bytes are tried on it are answered as before
  pub other_stays : (level : Access) (new : List ℕ) (r : Record) (s out room : List ℕ) → New level new r s out room → (tried : List ℕ) → Eight tried
      → answer_number (unlocked (given level new r s out) (other level) tried room) ≡ answer_number (answer_of r s (unlocking r (other level) tried) room)
