-- Frames and their CRC. Source: document 01, "Frames": "Address (1 byte), function (1), message, CRC (2, low byte first)", "The CRC covers
-- all bytes before it", "A frame is 4 to 64 bytes (house)".
use Rattle.std.specs.Prelude.{Bool, ◌&&◌, List, ◌++◌, ℕ, ◌-◌, leb, eqb, length, take}
use Rattle.byte_numbers.specs.Number.{bytes_of}
use Rattle.byte_numbers.specs.Place.{number_at, written}
use Rattle.crc16.specs.Crc.{crc_of}
use Rattle.frame.specs.Layout.{shortest, longest, crc_size}

-- a frame: its bytes, and behind them their CRC, low byte first
unfoldable pub framed : List ℕ → List ℕ
framed body = body ++ bytes_of crc_size (crc_of body)

-- a buffer whose first n bytes got their CRC behind them
unfoldable pub sealed : List ℕ → ℕ → List ℕ
sealed s n = written s n (bytes_of crc_size (crc_of (take n s)))

-- whether the last two bytes are the CRC of all bytes before them
unfoldable pub crc_fits : List ℕ → Bool
crc_fits s = leb crc_size (length s) && eqb (number_at s (length s - crc_size) crc_size) (crc_of (take (length s - crc_size) s))

-- whether the bytes are a frame
unfoldable pub is_sealed : List ℕ → Bool
is_sealed s = leb shortest (length s) && leb (length s) longest && crc_fits s
