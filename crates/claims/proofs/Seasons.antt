-- Document 02, CR 5: what becomes of slots that do not exist, by the laws of the crates below, and the files of version 1.
use mathlib.Core.Path.{◌≡◌, refl, sym, ap, ◌∙◌}
use mathlib.Core.Bool.{Bool, true, false, cond, ◌&&◌}
use mathlib.Core.List.{List}
use Prim.Native.Nat.{ℕ, ◌+◌, ◌-◌, ◌≤◌, ◌<◌}
use native.Mathlib.Omega.{arith}
use lib.Dec.{eqb, leb}
use lib.ListN.{length, take, get_or}
use borrow.Author.Tests.{eq-eqb, ne_eqb, lt-ltb, le-leb, leb-true}
use Rattle.std.specs.Prelude.{Err, None, Ok, Option, Result, Some}
use Rattle.test_laws.proofs.Test.{both}
use Rattle.refusal.specs.Outcome.{outcome}
use Rattle.byte_numbers.specs.Number.{Bytes}
use Rattle.byte_numbers.specs.Place.{byte_at}
use Rattle.calendar.specs.Date.{is_date}
use Rattle.slots.specs.Day.{is_minutes, slots_of}
use Rattle.season_nights.specs.Night.{is_spring, is_autumn}
use Rattle.season_nights.specs.Run.{hour_of}
use Rattle.log_header.specs.Header.{cells_of, version_at, days_right, is_header, header_at, fields_right, header_of, sound_of}
use Rattle.log_header.specs.Interval.{night_on, exists_at}
use Rattle.energy_log.specs.View.{View, view_of}
use Rattle.energy_log.proofs.ImageLaws.{sound-image}
use Rattle.energy_log.proofs.ViewLaws.{cell_in_lem}
use Rattle.log_cell.specs.declared.cell.Cell.{Cell}
use Rattle.log_cell.specs.declared.cell.Cell.TheVariants.{Gap}
use Rattle.log_header.specs.declared.header.Header.{Header}
use Rattle.day_rows.specs.LogAndRows.{LogAndRows, log_and_rows}
use Rattle.day_rows.specs.Rows.{walked}
use Rattle.day_rows.proofs.FiguresLaws.{slots_there}
use Rattle.day_rows.proofs.RowsLaws.{days-good, walked-adds-up, walked-none-doubled}
use Rattle.log_file.specs.File.{seasons_fit, file_header, file_length_as, file_length, cells_right}
use Rattle.log_file.specs.Read.{read_cells, read_fields, read_file}
use Rattle.log_file.specs.Row.{row_at, lapses_in}
use Rattle.log_file.specs.Write.{written_file}
use Rattle.log_file.proofs.FileLaws as file
use Rattle.log_file.proofs.WalkLaws.{right-missing}
use Rattle.log_file.specs.declared.read.ReadError.{ReadError}
use Rattle.log_file.specs.declared.write.WriteError.TheVariants as wrote
use Rattle.log_file.specs.declared.read.ReadError.TheVariants as read
use Rattle.logger.specs.Book.{Call, AllBytes}
use Rattle.logger.proofs.SeasonLaws.{run-kept}
use Rattle.claims.specs.Demand3.{Start, begin, ran}
use Rattle.claims.specs.Seasons.{Begun, Whole, Misplaced}
use Rattle.claims.proofs.History.{start_seen}
use Rattle.claims.proofs.Second.{missed}

-- CR 5's `stay_gaps`: after any calls the cell of a slot that does not exist is a gap, and counts no lapse
pub stay_gaps : (b : LogAndRows) (start : Start b) (calls : List Call) → AllBytes calls → (i : ℕ) → i < cells_of start.header
    → exists_at start.header i ≡ false → let v = view_of (ran b calls).left.log in (v.cell i ≡ Some Gap) × (v.lapses i ≡ 0)
stay_gaps b start calls k i l x =
    let cs = start.cells in
    let within : i < length cs = omega (arith, start.count) in
    let seen = start_seen start in
    let kept = run-kept start.header i x calls (begin b) (ap (λ (v : View). v.lent) seen) k in (
      kept.0 ∙ ap (λ (v : View). v.cell i) seen ∙ cell_in_lem cs i within ∙ ap Some (start.gaps i within x),
      kept.1 ∙ ap (λ (v : View). v.lapses i) seen ∙ simp (lt-ltb i (length cs) within) (start.quiet i within x),
    )

-- ---- the figures

-- CR 5's `adds_up`: gaps, empties and measured cells make up the slots of the day, an hour less on the March day
pub adds_up : (h : Header) (cell : ℕ → Option Cell) (d : ℕ) → ((i : ℕ) → i < cells_of h → (c : Cell) × (cell i ≡ Some c)) → d < h.days
    → let row = walked h cell d in
    get_or row 0 0 + get_or row 1 0 + get_or row 2 0 ≡ slots_of h.minutes - cond (is_spring (night_on h d)) (hour_of h.minutes) 0
unfolding slots_there
adds_up h cell d good l = walked-adds-up h cell d (days-good h cell good d l)

-- CR 5's `none_doubled`: the eighth number is 0 on every day but the October one
pub none_doubled : (h : Header) (cell : ℕ → Option Cell) (d : ℕ) → is_autumn (night_on h d) ≡ false → get_or (walked h cell d) 7 0 ≡ 0
none_doubled h cell d e = walked-none-doubled h cell d e

-- ---- files of version 1

-- CR 5's `first_version`: a log from a file of version 1 does not follow the seasons
pub first_version : (f out figs : List ℕ) (n : ℕ) (h : Header) → Bytes f → version_at f ≡ 1 → let o = read_file f out figs in o.result ≡ Ok n
    → sound_of (take n o.left.log) ≡ Some h → h.seasons ≡ 0
first_version f out figs n h bytes e p q =
    let b = (read_file f out figs).left in
    let a = file.accepted f bytes out figs b.log b.figures n (ap (λ (r : Result ℕ ReadError). outcome r b) p) in
    let front = file.image-front f out figs b.log b.figures n a in
    let same : Some a.header ≡ Some h = sym (ap sound_of front ∙ sound-image a.lapses a.header a.cells a.whole.right a.whole.count) ∙ q in
    let header : a.header ≡ h = cc in
    sym (ap (λ (x : Header). x.seasons) header) ∙ file.first_read f out figs b.log b.figures n a e

-- ---- files that are refused

begun-read : (f out figs : List ℕ) → Begun f → read_file f out figs ≡ read_fields f out figs
unfolding read_file
begun-read f out figs b = simp (le-leb 5 (length f) (omega (arith, b.long)), b.mark, b.known)

wrong-header : (f out figs : List ℕ) → Begun f → file_header f ≡ None → read_file f out figs ≡ outcome (Err read.WrongHeader) (log_and_rows out figs)
unfolding read_fields
wrong-header f out figs b e = begun-read f out figs b ∙ simp (le-leb 14 (length f) b.long, e)

-- a file with a right header that is not as long as its version has it gets 33: for CR 7's `other_length`
pub wrong_length : (f out figs : List ℕ) (h : Header) → Begun f → file_header f ≡ Some h → (length f ≡ file_length_as (version_at f) h → ⊥)
    → read_file f out figs ≡ outcome (Err read.WrongLength) (log_and_rows out figs)
unfolding read_fields
wrong_length f out figs h b e n =
    begun-read f out figs b ∙ simp (le-leb 14 (length f) b.long, e, ne_eqb (length f) (file_length_as (version_at f) h) n)

fields-wrong : (f : List ℕ) → 1 < byte_at f 12 → fields_right f ≡ false
unfolding fields_right is_header header_at
fields-wrong f l =
    let h = header_at f in
    missed (fields_right f) (λ e.
    let a = both (is_header (header_at f)) (eqb (byte_at f 13) 0) e in
    let b = both (is_date h.start && days_right h && is_minutes h.minutes && leb 1 h.ke && leb h.ke 65535) (leb (byte_at f 12) 1) a.0 in
    omega (arith, l, leb-true (byte_at f 12) 1 b.1))

-- CR 5's `other_byte`: a seasons' byte above 1 gets 32
pub other_byte : (f out figs : List ℕ) → Begun f → 1 < byte_at f 12 → read_file f out figs ≡ outcome (Err read.WrongHeader) (log_and_rows out figs)
unfolding file_header header_of
other_byte f out figs b l = wrong-header f out figs b (simp (fields-wrong f l))

-- CR 5's `first_byte`: in version 1 any but 0 does
pub first_byte : (f out figs : List ℕ) → Begun f → version_at f ≡ 1 → (byte_at f 12 ≡ 0 → ⊥) → read_file f out figs ≡ outcome (Err read.WrongHeader) (log_and_rows out figs)
unfolding file_header header_of seasons_fit header_at
first_byte f out figs b e n = wrong-header f out figs b (go (fields_right f) refl)
  where
    go : (x : Bool) → fields_right f ≡ x → file_header f ≡ None
    go true k = simp (k, e, ne_eqb (byte_at f 12) 0 n)
    go false k = simp k

cells-wrong : (h : Header) (cell : ℕ → Option Cell) (lapses : ℕ → ℕ) → Misplaced h cell lapses → cells_right h cell lapses ≡ false
cells-wrong h cell lapses x =
    missed (cells_right h cell lapses) (λ e.
    let w = right-missing h cell lapses e x.place (omega (arith, x.among)) x.missing in
    x.filled w.gap w.none)

-- CR 5's `misplaced_read`: a file with a filled cell, or lapses, in a slot that does not exist gets 35
pub misplaced_read : (f out figs : List ℕ) (h : Header) → Whole f h → Misplaced h (row_at (version_at f) f) (lapses_in (version_at f) f)
    → read_file f out figs ≡ outcome (Err read.WrongCell) (log_and_rows out figs)
unfolding read_fields read_cells
misplaced_read f out figs h w x =
    begun-read f out figs w.begun
    ∙ simp (le-leb 14 (length f) w.begun.long, w.header, eq-eqb (length f) (file_length_as (version_at f) h) w.size, w.crc, cells-wrong h _ _ x)

-- CR 5's `misplaced_written`: a log with such a cell is not written out, 28
pub misplaced_written : (v : View) (h : Header) (out : List ℕ) → v.lent ≡ Some h → Misplaced h v.cell v.lapses → file_length h ≤ length out
    → written_file v out ≡ outcome (Err wrote.Unsound) out
unfolding written_file
misplaced_written v h out e x l = simp (e, le-leb (file_length h) (length out) l, cells-wrong h v.cell v.lapses x)
