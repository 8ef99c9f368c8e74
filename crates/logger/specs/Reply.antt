-- A reply about a slice: whether it is well formed, its result, its four counts. Source: document 01, "The reader and the log".
use Rattle.reader.specs.declared.form.ReplyError.{ReplyError}
use Rattle.std.specs.Prelude.{cond, List, ℕ, eqb, Err, Ok, Result}
use Rattle.byte_numbers.specs.Place.{byte_at}
use Rattle.parameters.specs.Code.{read, slice}
use Rattle.frame.specs.Layout.{result_place, data_place, slice_reply}
use Rattle.wire_values.specs.Row.{row_at}
use Rattle.wire_values.specs.declared.row.Row.{Row}
use Rattle.reader.specs.Form.{form_of, reply_of}
use Rattle.reader.specs.declared.form.Fault.{Fault}

-- the form of a reply to an ask for a slice: "14 for a slice"
abbrev pub slice_form : ℕ → List ℕ → Result Unit Fault
slice_form address y = form_of address read slice slice_reply y

-- what such a reply comes to
abbrev pub slice_reply_of : ℕ → List ℕ → Result Unit ReplyError
slice_reply_of address y = reply_of address read slice slice_reply y

-- one value by the fault of a reply that is not well formed, else another
abbrev pub if_formed : {A : Type 0} → Result Unit Fault → (Fault → A) → A → A
if_formed (Err fault) f other = f fault
if_formed (Ok tt) f other = other

abbrev pub result_of : List ℕ → ℕ
result_of y = byte_at y result_place

-- one value for a result that is not 0, else another
abbrev pub if_ok : {A : Type 0} → ℕ → A → A → A
if_ok result refused ok = cond (eqb result 0) ok refused

-- "Data: E+, E-, R+, R-, 2 bytes each", behind address, function, parameter and result
abbrev pub row_of : List ℕ → Row
row_of y = row_at y data_place
