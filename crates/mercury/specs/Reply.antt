-- Replies. Source: document 02, CR 1: "40 wrong length, CRC, address or command at either side, then 41 a half-byte above 9".
use Rattle.mercury.specs.declared.reply.DecodeError.{DecodeError}
use Rattle.mercury.specs.declared.form.Fault.{Fault}
use Rattle.std.specs.Prelude.{List, ◌++◌, ℕ, drop, Err, Ok, Result}
use Rattle.refusal.specs.Number.{answer_number}
use Rattle.frame.specs.Sealing.{framed}
use Rattle.mercury.specs.Command.{command_of}
use Rattle.mercury.specs.Data.{tariffs_of, load_of, frequency_of}
use Rattle.mercury.specs.Form.{reply_form}
use Rattle.mercury.specs.Layout.{head_of, data_place}
use Rattle.mercury.specs.declared.command.Command.{Command}
use Rattle.mercury.specs.declared.command.Command.TheVariants as command
use Rattle.mercury.specs.declared.form.Fault.TheVariants as fault
use Rattle.mercury.specs.declared.reply.Decoded.{Decoded}
use Rattle.mercury.specs.declared.reply.DecodeError.TheVariants.{Malformed, NotDecimal}

-- a reply repeats address and command, and has data behind them
unfoldable pub reply_frame : ℕ → ℕ → List ℕ → List ℕ
reply_frame address code bytes = framed (head_of address code ++ bytes)

-- the figures that the data of a reply hold; a command that is not known has none
unfoldable pub figures_of : Command → List ℕ → Result Decoded DecodeError
figures_of command.Tariffs bs = tariffs_of bs
figures_of command.Load bs = load_of bs
figures_of command.Frequency bs = frequency_of bs
figures_of command.Unknown bs = Err (Malformed fault.Command)

unfoldable pub formed : Result Unit Fault → Command → List ℕ → Result Decoded DecodeError
unfolding figures_of
formed (Ok tt) c y = figures_of c (drop data_place y)
formed (Err fault) c y = Err (Malformed fault)

-- a reply y decoded against the request with an address and a command: 40, then 41
unfoldable pub decoded_of : ℕ → ℕ → List ℕ → Result Decoded DecodeError
unfolding formed
decoded_of address code y = formed (reply_form address code y) (command_of code) y

abbrev pub error_number : DecodeError → ℕ
error_number (Malformed fault) = 40
error_number NotDecimal = 41

abbrev pub number_of : Result Decoded DecodeError → ℕ
number_of = answer_number error_number
