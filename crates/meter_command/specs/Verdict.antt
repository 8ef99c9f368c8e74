-- What became of a frame. Source: document 01, "Refusal numbers": "For 10 to 14 the result byte is Appendix B's code for that fault, else 3."
-- Document 02, CR 6: "16, .. refusal frame with the result used for 14".
use Rattle.refusal.specs.Number.{answer_number}
use Rattle.meter_command.specs.declared.verdict.Refusal.{Refusal}
use Rattle.std.specs.Prelude.{Bool, true, false, ℕ, Err, Ok, Result}
use Rattle.meter_command.specs.declared.verdict.Refusal.TheVariants.{TooShort, Unsound, Silent, UnknownFunction, UnknownParameter}
use Rattle.meter_command.specs.declared.verdict.Refusal.TheVariants.{NotOpen, WrongLength, ByAddressZero, NoAccess, WrongArgument}

-- document 01's numbers, and document 02's 16
abbrev pub error_number : Refusal → ℕ
error_number TooShort = 1
error_number Unsound = 28
error_number Silent = 2
error_number UnknownFunction = 10
error_number UnknownParameter = 11
error_number NotOpen = 12
error_number WrongLength = 13
error_number ByAddressZero = 16
error_number NoAccess = 14
error_number WrongArgument = 15

abbrev pub number_of : Result Unit Refusal → ℕ
number_of = answer_number error_number

abbrev pub is_done : Result Unit Refusal → Bool
is_done (Ok tt) = true
is_done (Err TooShort) = false
is_done (Err Unsound) = false
is_done (Err Silent) = false
is_done (Err UnknownFunction) = false
is_done (Err UnknownParameter) = false
is_done (Err NotOpen) = false
is_done (Err WrongLength) = false
is_done (Err ByAddressZero) = false
is_done (Err NoAccess) = false
is_done (Err WrongArgument) = false

-- the result byte of a reply: Appendix B (page 22) has codes for 10, 11 and 14; 16 has 14's
abbrev pub result_of : Result Unit Refusal → ℕ
result_of (Ok tt) = 0
result_of (Err UnknownFunction) = 1
result_of (Err UnknownParameter) = 2
result_of (Err NoAccess) = 4
result_of (Err ByAddressZero) = 4
result_of (Err TooShort) = 3
result_of (Err Unsound) = 3
result_of (Err Silent) = 3
result_of (Err NotOpen) = 3
result_of (Err WrongLength) = 3
result_of (Err WrongArgument) = 3
