-- The refusal numbers in words. Source: document 01, "Refusal numbers": the column "When", cut to what a message needs; document 02,
-- request 2, for 50 to 54, and request 6 for 16.
use Rattle.std.specs.Prelude.{ℕ, cond, List, [], ◌∷◌, eqb, length}
use Prim.Native.String.{String}
use Rattle.refusal.specs.Outcome.{Outcome, outcome}
use Rattle.byte_numbers.specs.Place.{written}
use Rattle.text.specs.Ascii.{ascii}

-- the words of a number's row, where one of these has the number
unfoldable pub words_in : List (ℕ × String) → ℕ → List ℕ → List ℕ
words_in [] n others = others
words_in (row ∷ rest) n others = cond (eqb n row.0) (ascii row.1) (words_in rest n others)

-- ---- the table, a row a number

-- what any call answers, and the meter
abbrev pub meter_rows : List (ℕ × String)
meter_rows =
    (0, "done")
    ∷ (1, "lent output too short")
    ∷ (2, "meter: length, CRC or address wrong")
    ∷ (10, "unknown function")
    ∷ (11, "unknown parameter")
    ∷ (12, "parameter not open to this function")
    ∷ (13, "length wrong for it")
    ∷ (14, "level too low, or wrong password")
    ∷ (15, "wrong argument")
    ∷ (16, "change or zeroing by address 0")
    ∷ []

-- the log, the reader, and what a call is lent
abbrev pub log_rows : List (ℕ × String)
log_rows =
    (20, "no ask open")
    ∷ (21, "ask already open")
    ∷ (22, "interval or report day not in the log")
    ∷ (24, "meter's result not 0")
    ∷ (25, "other counts than those measured")
    ∷ (26, "power reply with an infinity or no number")
    ∷ (27, "setting, new log's header or request out of range")
    ∷ (28, "log with a wrong header, length or cell, or meter record outside its ranges")
    ∷ []

-- "23 goes ..; in its place and this order 50 length, 51 CRC, 52 address, 53 function, or a top bit that belies the result, 54 parameter"
abbrev pub reply_rows : List (ℕ × String)
reply_rows =
    (50, "reply of a wrong length")
    ∷ (51, "reply with a wrong CRC")
    ∷ (52, "reply of another address")
    ∷ (53, "reply with another function, or a top bit that belies its result")
    ∷ (54, "reply about another parameter")
    ∷ []

-- "30 to 35: file: mark, version, header field, length, CRC, cell"
abbrev pub file_rows : List (ℕ × String)
file_rows =
    (30, "the file's mark is wrong")
    ∷ (31, "the file's version is wrong")
    ∷ (32, "a header field of the file is wrong")
    ∷ (33, "the file's length is wrong")
    ∷ (34, "the file's CRC is wrong")
    ∷ (35, "a cell of the file is wrong")
    ∷ []

-- document 02, CR 1: "40 wrong length, CRC, address or command at either side, then 41 a half-byte above 9"
abbrev pub mercury_rows : List (ℕ × String)
mercury_rows = (40, "Mercury 206: length, CRC, address or command wrong") ∷ (41, "Mercury 206: a half-byte above 9") ∷ []

unfoldable pub mercury_words : ℕ → List ℕ
mercury_words n = words_in mercury_rows n (ascii "no number of the table")

unfoldable pub file_words : ℕ → List ℕ
file_words n = words_in file_rows n (mercury_words n)

unfoldable pub reply_words : ℕ → List ℕ
reply_words n = words_in reply_rows n (file_words n)

unfoldable pub log_words : ℕ → List ℕ
log_words n = words_in log_rows n (reply_words n)

unfoldable pub words_of : ℕ → List ℕ
words_of n = words_in meter_rows n (log_words n)

-- ---- a text at the front of a lent buffer

-- a text stored at the front of a buffer, and how long it is
unfoldable pub at_front : List ℕ → List ℕ → Outcome ℕ (List ℕ)
at_front text out = outcome (length text) (written out 0 text)
