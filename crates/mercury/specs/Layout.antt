-- Where the parts of a frame stand. Source: document 02, CR 1: "address (4 bytes, high byte first), command, 0 to 17 data bytes, the same CRC low
-- byte first"; 000, the table of its fields.
use Rattle.std.specs.Prelude.{List, [], ◌∷◌, ◌++◌, ℕ}
use Rattle.byte_numbers.specs.Number.{number, bytes_of}
use Rattle.byte_numbers.specs.Place.{byte_at}

abbrev pub command_place : ℕ
command_place = 4

abbrev pub data_place : ℕ
data_place = 5

-- a frame without data, as a request is
abbrev pub bare_size : ℕ
bare_size = 7

-- the first four bytes, the last of them first
abbrev pub turned : List ℕ → List ℕ
turned s = byte_at s 3 ∷ byte_at s 2 ∷ byte_at s 1 ∷ byte_at s 0 ∷ []

-- "high byte first"
unfoldable pub address_bytes : ℕ → List ℕ
address_bytes address = turned (bytes_of 4 address)

unfoldable pub address_in : List ℕ → ℕ
address_in frame = number (turned frame)

-- address and command
unfoldable pub head_of : ℕ → ℕ → List ℕ
unfolding address_bytes
head_of address code = address_bytes address ++ (code ∷ [])
