-- The function of a read request, there and back, and as a byte.
use mathlib.Core.Path.{◌≡◌, refl}
use mathlib.Core.Bool.{true, false}
use Prim.Native.Nat.{◌+◌, ◌<◌}
use lib.Dec.{leb, lit≤}
use Rattle.parameters.specs.Code.{function_of, reading_code}
use Rattle.parameters.specs.Table.{parameter_row, opens_to}
use Rattle.parameters.specs.declared.code.Function.TheVariants as function
use Rattle.parameters.specs.declared.code.Parameter.TheVariants as parameter
use Rattle.parameters.specs.declared.code.Reading.{Reading}
use Rattle.parameters.specs.declared.code.Reading.TheVariants.{Stored, Displayed}

-- the meter takes a request's function byte for the reading that it was made for
pub reading-back : (x : Reading) → function_of (reading_code x) ≡ function.Read x
unfolding function_of
reading-back Stored = refl
reading-back Displayed = refl

-- the function of a read request fits its byte
pub code-byte : (x : Reading) → reading_code x < 256
code-byte Stored = lit≤ tt
code-byte Displayed = lit≤ tt

-- and so it does with its top bit set, in a refusal
pub refused-byte : (x : Reading) → 128 + reading_code x < 256
refused-byte Stored = lit≤ tt
refused-byte Displayed = lit≤ tt

-- its top bit, which a refusal sets
pub code_below : (x : Reading) → leb 128 (reading_code x) ≡ false
code_below Stored = refl
code_below Displayed = refl

-- with it set the reader sees a refusal
pub refused-top : (x : Reading) → leb 128 (128 + reading_code x) ≡ true
refused-top Stored = refl
refused-top Displayed = refl

-- no read opens what is unknown
pub unknown-shut : (x : Reading) → opens_to x (parameter_row parameter.Unknown) ≡ false
unknown-shut Stored = refl
unknown-shut Displayed = refl
