-- Demand 2, the six rows of parameter 40: what the reader takes from the meter's data are the store's six slices.
use mathlib.Core.Path.{◌≡◌, sym, ap, ◌∙◌}
use mathlib.Core.List.{List, ◌++◌, append_assoc}
use Prim.Native.Nat.{ℕ, ◌+◌}
use native.Mathlib.Nat.{add_assoc}
use Rattle.byte_numbers.specs.Number.{Bytes}
use Rattle.byte_numbers.specs.Place.{number_at}
use Rattle.byte_numbers.proofs.PlaceLaws.{number_at-behind}
use Rattle.slots.specs.declared.key.Key.{Key}
use Rattle.meter_store.specs.Store.{slice_of, later, six_of, row_bytes}
use Rattle.meter_reply_data.specs.Reading.{six_bytes}
use Rattle.meter.proofs.ReplyLaws.{length-row}
use Rattle.wire_values.specs.Row.{row_at}
use Rattle.reader.specs.Rows.{four_of, six_of as six_in}
use Rattle.claims.specs.Figures.{four_counts}
use Rattle.claims.proofs.Figures.{row-again}
use Rattle.claims.proofs.Wire.{four-counts, slice_fits}

-- the row at a place, as an array
abbrev counts_row : List ℕ → ℕ → List ℕ
counts_row bs i = four_of (row_at bs i)

-- the row at the front, and those behind it
front : (s : List ℕ) (k : Key) (rest : List ℕ) → Bytes s → counts_row (row_bytes (slice_of s k) ++ rest) 0 ≡ slice_of s k
unfolding four_counts
front s k rest b =
    let e = row-again (slice_of s k) rest (slice_fits s k b) in
    ap four_of e ∙ four-counts s k

behind : (row rest : List ℕ) (i : ℕ) → counts_row (row_bytes row ++ rest) (8 + i) ≡ counts_row rest i
unfolding row_at
behind row rest i =
    let at : (j : ℕ) → number_at (row_bytes row ++ rest) (8 + j) 2 ≡ number_at rest j 2 =
    λ j. ap (λ (n : ℕ). number_at (row_bytes row ++ rest) (n + j) 2) (sym (length-row row)) ∙ number_at-behind (row_bytes row) rest j 2 in
    let shift : (k : ℕ) → number_at (row_bytes row ++ rest) (8 + i + k) 2 ≡ number_at rest (i + k) 2 =
    λ k. ap (λ (n : ℕ). number_at (row_bytes row ++ rest) n 2) (add_assoc 8 i k) ∙ at (i + k) in
    rw (at i, shift 2, shift 4, shift 6)

-- the reader's six rows of the meter's data, whatever stands behind them
pub six-again : (s : List ℕ) (k : Key) (rest : List ℕ) → Bytes s → six_in (six_bytes (six_of s k) ++ rest) ≡ six_of s k
unfolding six_in six_bytes six_of
six-again s k rest b =
    let a = row_bytes (slice_of s k) in
    let p = row_bytes (slice_of s (later k 1)) in
    let c = row_bytes (slice_of s (later k 2)) in
    let d = row_bytes (slice_of s (later k 3)) in
    let e = row_bytes (slice_of s (later k 4)) in
    let f = row_bytes (slice_of s (later k 5)) in
    let apart : a ++ (p ++ (c ++ (d ++ (e ++ f)))) ++ rest ≡ a ++ (p ++ (c ++ (d ++ (e ++ (f ++ rest))))) = simp append_assoc in
    let bs = a ++ (p ++ (c ++ (d ++ (e ++ (f ++ rest))))) in
    let r0 : counts_row bs 0 ≡ slice_of s k = front s k (p ++ (c ++ (d ++ (e ++ (f ++ rest))))) b in
    let r1 : counts_row bs 8 ≡ slice_of s (later k 1) = behind (slice_of s k) _ 0 ∙ front s (later k 1) (c ++ (d ++ (e ++ (f ++ rest)))) b in
    let r2 : counts_row bs 16 ≡ slice_of s (later k 2) =
    behind (slice_of s k) _ 8 ∙ behind (slice_of s (later k 1)) _ 0 ∙ front s (later k 2) (d ++ (e ++ (f ++ rest))) b in
    let r3 : counts_row bs 24 ≡ slice_of s (later k 3) =
    behind (slice_of s k) _ 16 ∙ behind (slice_of s (later k 1)) _ 8 ∙ behind (slice_of s (later k 2)) _ 0 ∙ front s (later k 3) (e ++ (f ++ rest)) b in
    let r4 : counts_row bs 32 ≡ slice_of s (later k 4) =
    behind (slice_of s k) _ 24 ∙ behind (slice_of s (later k 1)) _ 16 ∙ behind (slice_of s (later k 2)) _ 8 ∙ behind (slice_of s (later k 3)) _ 0
    ∙ front s (later k 4) (f ++ rest) b in
    let r5 : counts_row bs 40 ≡ slice_of s (later k 5) =
    behind (slice_of s k) _ 32 ∙ behind (slice_of s (later k 1)) _ 24 ∙ behind (slice_of s (later k 2)) _ 16 ∙ behind (slice_of s (later k 3)) _ 8
    ∙ behind (slice_of s (later k 4)) _ 0 ∙ front s (later k 5) rest b in
    rw (apart, r0, r1, r2, r3, r4, r5)
