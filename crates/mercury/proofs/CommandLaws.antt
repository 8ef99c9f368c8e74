-- What follows from the definitions of specs/Command.antt, for proofs alone: no contract cites it.
use mathlib.Core.Path.{◌≡◌, refl, sym}
use mathlib.Core.Bool.{Bool, true, false, cond, false≢true}
use Prim.Native.Nat.{ℕ, ◌≤◌}
use lib.Dec.{lit≤, eqb}
use borrow.Author.Tests.{eqb-true}
use Rattle.mercury.specs.Command.{code_of, command_of, is_known, data_size}
use Rattle.mercury.specs.declared.command.Command.{Command}
use Rattle.mercury.specs.declared.command.Command.TheVariants.{Tariffs, Load, Frequency, Unknown}

-- every reply fits the longest frame
pub data-small : (c : Command) → data_size c ≤ 16
data-small Tariffs = lit≤ tt
data-small Load = lit≤ tt
data-small Frequency = lit≤ tt
data-small Unknown = lit≤ tt

-- a command is the one that its code names
pub command-code : (c : Command) → command_of (code_of c) ≡ c
unfolding command_of
command-code Tariffs = refl
command-code Load = refl
command-code Frequency = refl
command-code Unknown = refl

-- a command's code is one byte of the frame
pub code-byte : (c : Command) → code_of c ≤ 255
code-byte Tariffs = lit≤ tt
code-byte Load = lit≤ tt
code-byte Frequency = lit≤ tt
code-byte Unknown = lit≤ tt

-- the code of a command that is known is the one that named it
pub code-command : (n : ℕ) → is_known (command_of n) ≡ true → code_of (command_of n) ≡ n
unfolding command_of
code-command n = go (eqb n 0x27) refl (eqb n 0x63) refl (eqb n 0x81) refl
  where
    go : (a : Bool) → eqb n 0x27 ≡ a → (b : Bool) → eqb n 0x63 ≡ b → (c : Bool) → eqb n 0x81 ≡ c
        → is_known (cond a Tariffs (cond b Load (cond c Frequency Unknown))) ≡ true
        → code_of (cond a Tariffs (cond b Load (cond c Frequency Unknown))) ≡ n
    go true p b q c r h = sym (eqb-true n 0x27 p)
    go false p true q c r h = sym (eqb-true n 0x63 q)
    go false p false q true r h = sym (eqb-true n 0x81 r)
    go false p false q false r h = absurd (false≢true h)
