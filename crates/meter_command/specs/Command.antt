-- The command that a frame's bytes are. Source: document 01, "Frames", and "Refusal numbers": "With functions 3, 16 and 30 a frame of 4 bytes
-- counts as parameter 0 and gets 11; a refusal frame for an unknown function, or a command without a parameter, puts 0 there."
use Rattle.std.specs.Prelude.{Bool, true, false, cond, List, ℕ, leb, length, drop}
use Rattle.byte_numbers.specs.Place.{byte_at}
use Rattle.parameters.specs.Code.{function_of}
use Rattle.frame.specs.Layout.{address_place, function_place, parameter_place, detail_place, data_place, shortest}
use Rattle.parameters.specs.Table.{parameter_row, parameter_of}
use Rattle.parameters.specs.declared.code.Function.{Function}
use Rattle.parameters.specs.declared.code.Function.TheVariants as function
use Rattle.parameters.specs.declared.code.Parameter.{Parameter}
use Rattle.parameters.specs.declared.code.Reading.{Reading}
use Rattle.parameters.specs.declared.code.Reading.TheVariants.{Stored}
use Rattle.request.specs.declared.request.Request.{Request}
use Rattle.meter_command.specs.declared.command.Command.{Command}

abbrev pub function_in : List ℕ → Function
function_in f = function_of (byte_at f function_place)

-- the functions whose commands name a parameter: 3, 16 and 30, and 4, "whose 4-byte frame gets 11" (document 02, request 3)
abbrev pub named : Function → Bool
named (function.Read reading) = true
named function.Change = true
named function.Zero = true
named function.Unlock = false
named function.Lock = false
named function.Unknown = false

-- the parameter's byte in a command and in its reply
abbrev pub parameter_by : Function → List ℕ → ℕ
parameter_by fn f = cond (leb (length f) shortest) 0 (cond (named fn) (byte_at f parameter_place) 0)

unfoldable pub parameter_byte : List ℕ → ℕ
parameter_byte f = parameter_by (function_in f) f

abbrev pub parameter_in : List ℕ → Parameter
parameter_in f = parameter_of (parameter_byte f)

-- what a read is answered with; of another command it is not looked at
abbrev pub reading_of : Function → Reading
reading_of (function.Read reading) = reading
reading_of function.Change = Stored
reading_of function.Zero = Stored
reading_of function.Unlock = Stored
reading_of function.Lock = Stored
reading_of function.Unknown = Stored

-- "Read: function 3, then parameter, offset, tariff, detail"; function 4 likewise
abbrev pub request_by : Function → List ℕ → Request
request_by fn f = record {
  reading = reading_of fn;
  address = byte_at f address_place;
  parameter = byte_at f parameter_place;
  offset = byte_at f 3;
  tariff = byte_at f 4;
  detail = byte_at f 5;
}

abbrev pub request_in : List ℕ → Request
request_in f = request_by (function_in f) f

-- a change: "function 16, parameter, data", with a detail byte before the data (002, figure 5, page 6)
abbrev pub detail_in : List ℕ → ℕ
detail_in f = byte_at f detail_place

abbrev pub data_in : List ℕ → List ℕ
data_in f = drop data_place f

-- the whole command: what it is, which parameter it names, the table's row of that, and its fields; its data stay in the frame
abbrev pub command_of : List ℕ → Command
command_of f = record {
  function = function_in f;
  function_byte = byte_at f function_place;
  parameter_byte = parameter_byte f;
  parameter = parameter_in f;
  row = parameter_row (parameter_in f);
  request = request_in f;
  detail = detail_in f;
  length = length f;
}
