-- Whether bytes are a frame for the one that they came to. Source: document 02, CR 1: "40 wrong length, CRC, address or command at either side".
use Rattle.mercury.specs.declared.form.Fault.{Fault}
use Rattle.std.specs.Prelude.{Bool, ◌&&◌, List, ℕ, ◌+◌, eqb, length, Err, Ok, Result}
use Rattle.byte_numbers.specs.Place.{byte_at}
use Rattle.refusal.specs.Outcome.{check}
use Rattle.frame.specs.Sealing.{crc_fits}
use Rattle.mercury.specs.Command.{command_of, is_known, data_size}
use Rattle.mercury.specs.Layout.{address_in, command_place, bare_size}
use Rattle.mercury.specs.declared.form.Fault.TheVariants as fault

-- the form of a frame of so many bytes for an address, its command being right or not
unfoldable pub form_of : ℕ → ℕ → Bool → List ℕ → Result Unit Fault
form_of address size right y =
    check (eqb (length y) size) (Err fault.Length) (
    check (crc_fits y) (Err fault.Crc) (
    check (eqb (address_in y) address) (Err fault.Address) (
    check right (Err fault.Command) (Ok tt))))

-- a request to the meter with an address: any of the three commands
unfoldable pub request_form : ℕ → List ℕ → Result Unit Fault
unfolding form_of
request_form address q = form_of address bare_size (is_known (command_of (byte_at q command_place))) q

-- a reply repeats the command, which has to be one of the three
abbrev pub repeats : ℕ → List ℕ → Bool
repeats code y = is_known (command_of code) && eqb (byte_at y command_place) code

-- a reply to the request with an address and a command
unfoldable pub reply_form : ℕ → ℕ → List ℕ → Result Unit Fault
unfolding form_of
reply_form address code y = form_of address (bare_size + data_size (command_of code)) (repeats code y) y
