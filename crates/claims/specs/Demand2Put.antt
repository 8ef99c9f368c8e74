-- Demand 2, slices that the bench puts. Document 01, "Slices": "A slice with a key already there .. replaces it; any other goes to the next place in turn, round from
-- the last to the first, so the oldest goes." That a slice that was put is read is `Demand2Again`'s; here stands what becomes of the others, as a reader decodes them from
-- the meter's answers. Proofs: `demand-2-put`, proofs/Claims.antt.
use Rattle.std.specs.Prelude.{◌≡◌, Bool, true, false, not, ◌&&◌, List, [], ◌∷◌, ℕ, ◌≤◌, ◌<◌, length, Ok, Result}
use Rattle.byte_numbers.specs.Number.{Bytes}
use Rattle.slots.specs.Day.{slots_of}
use Rattle.slots.specs.Key.{is_legal}
use Rattle.slots.specs.declared.key.Key.{Key}
use Rattle.reader.specs.declared.reply.Decoded.{Decoded}
use Rattle.reader.specs.declared.reply.Decoded.TheVariants as decoded
use Rattle.reader.specs.declared.reply.DecodeError.{DecodeError}
use Rattle.meter_store.specs.Store.{key_at, same_key, is_kept, count_at}
use Rattle.meter_record.specs.Widths.{FitsRecord}
use Rattle.meter_record.specs.declared.record.Record.{Record}
use Rattle.meter.specs.Bench.{slice_put}
use Rattle.meter.specs.Reply.{is_sound}
use Rattle.claims.specs.Demand2Again.{slice_read, read_back}
use Rattle.claims.specs.Demand2Second.{record_after}
use Rattle.claims.specs.Figures.{four_counts}

-- a slice that is put: its key and its four counts
pub record Slice : Type 0 where
  pub key : Key
  pub counts : List ℕ

-- a meter's record and its store
pub record Meter : Type 0 where
  pub kept : Record
  pub store : List ℕ

-- after slices that are put one after the other, each on record and store as the one before left them
unfoldable pub put_all : Meter → List Slice → Meter
put_all m [] = m
put_all m (p ∷ ps) =
    let o = slice_put m.kept m.store p.key p.counts in
    put_all (record { kept = record_after o.result m.kept; store = o.left }) ps

-- none of them has the key
unfoldable pub none_has : Key → List Slice → Bool
none_has k [] = true
none_has k (p ∷ ps) = not (same_key p.key k) && none_has k ps

-- whose numbers fit their widths, as those of every Rattle value do
pub record Fits (m : Meter) : Type 0 where
  pub numbers : FitsRecord m.kept
  pub bytes : Bytes m.store

-- what the reader makes of the meter's answer to a read of a slice
abbrev pub slice_back : Meter → Key → List ℕ → Result Decoded DecodeError
slice_back m k room = read_back m.kept m.store (slice_read m.kept 36 k) room

pub record Demand2Put : Type 0 where
  -- a slice of another key reads as before, but for the one that stood in the place in turn, where the put slice's key is not already there
  pub others_stay : (m : Meter) (x : Record) (k j : Key) (row room : List ℕ) → let o = slice_put m.kept m.store k row in let n : Meter = record { kept = x; store = o.left } in
      o.result ≡ Ok x → Fits m → Fits n → is_legal j (slots_of m.kept.minutes) ≡ true → (j ≡ k → ⊥)
      → (is_kept m.store k ≡ false → key_at m.store m.kept.next ≡ j → ⊥) → 64 ≤ length room → slice_back n j room ≡ slice_back m j room
  -- "round from the last to the first, so the oldest goes": a slice that was not there stays while fewer than 2,976 others are put after it, whatever their keys
  pub lasts : (m : Meter) (p : Slice) (ps : List Slice) (room : List ℕ) → is_sound m.kept m.store ≡ true → is_legal p.key (slots_of m.kept.minutes) ≡ true
      → is_kept m.store p.key ≡ false → length p.counts ≡ 4 → ((i : ℕ) → count_at p.counts i < 65536) → none_has p.key ps ≡ true → length ps < 2976
      → let n = put_all m (p ∷ ps) in Fits n → 64 ≤ length room → slice_back n p.key room ≡ Ok (decoded.Slice (four_counts p.counts))
