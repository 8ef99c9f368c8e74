-- How long the line is listened to after a request. Source: document 01, "The reader and the log": "the right length (6 with
-- the function's top bit set, else that of its request; 14 for a slice)". The silent reads are the line's: document 01 leaves time-outs
-- to others.
use Rattle.std.specs.Prelude.{ℕ, Bool, true, cond, List, eqb, leb, ltb, length}
use Rattle.byte_numbers.specs.Place.{byte_at}
use Rattle.frame.specs.Layout.{function_place}
use Rattle.reader.specs.Form.{length_for}

-- whether a reply has all its bytes, or more, where a full one has so many
unfoldable pub is_whole : ℕ → List ℕ → Bool
is_whole full y = leb (length_for (byte_at y function_place) full) (length y)

-- the silent reads before a reply's first byte that mean that none comes
abbrev pub silent_most : ℕ
silent_most = 10

-- whether to stop listening to a reply that is not whole, with so many of its bytes heard: so many reads were silent before its first byte, or
-- one behind it
abbrev pub is_ended : ℕ → ℕ → Bool
is_ended heard silent = cond (eqb heard 0) (leb silent_most silent) (ltb 0 silent)

unfoldable pub is_over : ℕ → List ℕ → ℕ → Bool
unfolding is_whole
is_over full y silent = cond (is_whole full y) true (is_ended (length y) silent)

-- the same where every reply has its full length: the Mercury 206's have (document 02, CR 1)
unfoldable pub is_enough : ℕ → ℕ → ℕ → Bool
is_enough full heard silent = cond (leb full heard) true (is_ended heard silent)
