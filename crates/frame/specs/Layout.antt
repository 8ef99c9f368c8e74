-- Where the parts of a frame stand, and how many bytes a frame has. Source: document 01, "Frames"; 002, the figures named.
use Rattle.std.specs.Prelude.{ℕ}

-- "Address (1 byte), function (1), message": a message begins with its parameter
abbrev pub address_place : ℕ
address_place = 0

abbrev pub function_place : ℕ
function_place = 1

abbrev pub parameter_place : ℕ
parameter_place = 2

-- "A reply repeats the command's address, function and parameter, then a result byte, then the data"
abbrev pub result_place : ℕ
result_place = 3

-- a change has a detail there (figure 5, page 6), a zeroing and a lock a 0 (figures 19 and 22), an unlock its level (figure 21)
abbrev pub detail_place : ℕ
detail_place = 3

abbrev pub data_place : ℕ
data_place = 4

-- "A frame is 4 to 64 bytes (house)"; "replies: under 64 bytes" are 1
abbrev pub shortest : ℕ
shortest = 4

abbrev pub longest : ℕ
longest = 64

-- "CRC (2, low byte first)"
abbrev pub crc_size : ℕ
crc_size = 2

-- "Read: function 3, then parameter, offset, tariff, detail: 8 bytes in all"
abbrev pub read_size : ℕ
read_size = 8

-- a frame without data: "no data follow: 6 bytes (house)", "Figure 19 gives 6 bytes for it", and figure 22
abbrev pub bare_size : ℕ
bare_size = 6

-- figure 21 (page 20)
abbrev pub unlock_size : ℕ
unlock_size = 14

-- "14 for a slice"
abbrev pub slice_reply : ℕ
slice_reply = 14
