-- Well-formed replies. Source: document 01, "The reader and the log": "A well-formed reply has the right length (6 with the function's
-- top bit set, else that of its request; 14 for a slice), a right CRC, and the address, function and parameter asked for, the top bit
-- being set exactly where the result isn't 0." What is wrong with another one is told by document 02, request 2.
use Rattle.reader.specs.declared.form.ReplyError.{ReplyError}
use Rattle.std.specs.Prelude.{cond, List, ℕ, ◌+◌, eqb, leb, length, Err, Ok, Result}
use Rattle.byte_numbers.specs.Place.{byte_at}
use Rattle.frame.specs.Sealing.{crc_fits}
use Rattle.parameters.specs.Code.{refused}
use Rattle.frame.specs.Layout.{address_place, function_place, parameter_place, result_place, bare_size}
use Rattle.reader.specs.declared.form.Fault.{Fault}
use Rattle.reader.specs.declared.form.Fault.TheVariants as fault
use Rattle.reader.specs.declared.form.ReplyError.TheVariants.{Malformed, Refused}

-- "6 with the function's top bit set, else that of its request"
unfoldable pub length_for : ℕ → ℕ → ℕ
length_for function full = cond (leb refused function) bare_size full

-- the function asked for, its top bit "set exactly where the result isn't 0"
unfoldable pub function_for : ℕ → ℕ → ℕ
function_for function result = cond (eqb result 0) function (refused + function)

-- address, function, parameter, result: a reply's first four bytes
unfoldable pub head_of : ℕ → ℕ → ℕ → List ℕ → Result Unit Fault
unfolding function_for
head_of address function parameter y =
    cond (eqb (byte_at y address_place) address)
    (cond (eqb (byte_at y function_place) (function_for function (byte_at y result_place)))
    (cond (eqb (byte_at y parameter_place) parameter)
    (Ok tt)
    (Err fault.Parameter))
    (Err fault.Function))
    (Err fault.Address)

-- the form of a reply y to a request for a parameter, with a function, sent to an address, whose full reply has so many bytes; "for a
-- wrong length also return the length received"
unfoldable pub form_of : ℕ → ℕ → ℕ → ℕ → List ℕ → Result Unit Fault
unfolding length_for head_of
form_of address function parameter full y =
    cond (eqb (length y) (length_for (byte_at y function_place) full))
    (cond (crc_fits y) (head_of address function parameter y) (Err fault.Crc))
    (Err (fault.Length (length y)))

-- by its form and its result: 24 is "meter's result not 0; returned"
abbrev pub by_form : Result Unit Fault → ℕ → Result Unit ReplyError
by_form (Err fault) result = Err (Malformed fault)
by_form (Ok tt) result = cond (eqb result 0) (Ok tt) (Err (Refused result))

-- what a reply y comes to, before its figures are looked at
unfoldable pub reply_of : ℕ → ℕ → ℕ → ℕ → List ℕ → Result Unit ReplyError
reply_of address function parameter full y = by_form (form_of address function parameter full y) (byte_at y result_place)

-- one value by what is wrong with a reply, one by a result that is not 0, else another
abbrev pub if_reply : {A : Type 0} → Result Unit ReplyError → (Fault → A) → (ℕ → A) → A → A
if_reply (Err (Malformed fault)) f g other = f fault
if_reply (Err (Refused result)) f g other = g result
if_reply (Ok tt) f g other = other

-- "50 length, 51 CRC, 52 address, 53 function, or a top bit that belies the result, 54 parameter"
abbrev pub fault_number : Fault → ℕ
fault_number (fault.Length n) = 50
fault_number fault.Crc = 51
fault_number fault.Address = 52
fault_number fault.Function = 53
fault_number fault.Parameter = 54

-- the length received, which 50 alone tells; another with the others
abbrev pub length_or : Fault → ℕ → ℕ
length_or (fault.Length n) other = n
length_or fault.Crc other = other
length_or fault.Address other = other
length_or fault.Function other = other
length_or fault.Parameter other = other
