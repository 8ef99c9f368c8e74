-- Where demand 3 begins for C: the length that is told is the one that the call below answers, so what C lends on is the log that stands at the front.
use mathlib.Core.Path.{◌≡◌, refl, ap, subst}
use mathlib.Core.Bool.{true}
use mathlib.Core.List.{List, [], ◌∷◌}
use Prim.Native.Nat.{ℕ, ◌≤◌}
use native.Mathlib.Omega.{arith}
use lib.ListN.{length, take, drop}
use lib.Seq.{take_at}
use Rattle.std.specs.Prelude.{Err, Ok, Option, Result, Some, None}
use Rattle.refusal.specs.Outcome.{outcome}
use Rattle.byte_numbers.specs.Number.{Bytes}
use Rattle.log_header.specs.Header.{is_header, cells_of, length_of}
use Rattle.energy_log.specs.Fresh.{gaps, no_lapses, fresh_number, fresh_image}
use Rattle.energy_log.specs.Image.{cell_at, image_of}
use Rattle.energy_log.specs.View.{view_of}
use Rattle.log_cell.proofs.CellLaws.{gap-is-cell}
use Rattle.energy_log.proofs.FreshLaws.{length-gaps, gap_at}
use Rattle.energy_log.proofs.ImageLaws.{sound-image}
use Rattle.energy_log.specs.declared.fresh.FreshError.{FreshError}
use Rattle.energy_log.specs.declared.fresh.FreshError.TheVariants as fresh-error
use Rattle.log_cell.specs.declared.cell.Cell.{Cell}
use Rattle.log_header.specs.declared.header.Header.{Header}
use Rattle.day_rows.specs.LogAndRows.{LogAndRows}
use Rattle.day_rows.specs.Fresh.{fresh_with}
use Rattle.day_rows.specs.Rows.{figures_of, Right}
use Rattle.day_rows.proofs.FreshLaws.{fresh-made}
use Rattle.log_file.specs.File.{file_bytes}
use Rattle.log_file.specs.Read.{read_file, read_number}
use Rattle.log_file.proofs.FileLaws.{IsLog, accepted, image-front}
use Rattle.log_file.specs.declared.read.ReadError.{ReadError}
use Rattle.log_file.specs.declared.read.ReadError.TheVariants as read_answer
use Rattle.c_values.specs.Ask.{ask_of}
use Rattle.claims.specs.Demand3.{Start}
use Rattle.claims.proofs.Claims as claims
use Rattle.claims.proofs.History as history
use Rattle.metlazuel.specs.LogCalls.{header_from, image_length, length_after}
use Rattle.c_claims.specs.Demand3.{Lent}
use Rattle.c_claims.specs.Beginnings.{fresh_for_c, read_for_c, lent_after, BeginsAs, BeginsFrom}

-- `beginnings`, "with no ask open": four zero bytes are read as no ask
pub none_open : ask_of (0 ∷ 0 ∷ 0 ∷ 0 ∷ []) ≡ Some None
unfolding ask_of
none_open = refl

-- memory with a log's image, its figures and no ask open
begins-as : (m : Lent) (h : Header) (cells : List Cell) (lapses : ℕ → ℕ) → IsLog h cells lapses → m.log ≡ image_of h cells lapses
    → Right h (cell_at (image_of h cells lapses)) m.figures → ask_of m.ask ≡ Some None → BeginsAs m h cells lapses
begins-as m h cells lapses whole image right closed =
    let seen : cell_at (image_of h cells lapses) ≡ (view_of m.log).cell = rw (image, sound-image lapses h cells whole.right whole.count) refl in
    record {
      begins = record {
        start = record {
          header = h;
          cells = cells;
          lapses = lapses;
          right = whole.right;
          count = whole.count;
          each = whole.each;
          fit = whole.fit;
          gaps = whole.gaps;
          quiet = whole.none;
          image = image;
          figures = subst (λ (cell : ℕ → Option Cell). Right h cell m.figures) seen right;
        };
        closed = closed;
      };
      header = refl;
      its_cells = refl;
      its_lapses = refl;
    }

-- ---- a fresh log

all-gaps : (h : Header) → is_header h ≡ true → IsLog h (gaps (cells_of h)) no_lapses
all-gaps h right = record {
  right = right;
  count = length-gaps (cells_of h);
  each = λ i l. rw (gap_at (cells_of h) i (rw length-gaps at l)) gap-is-cell;
  fit = λ i. omega arith;
  gaps = λ i l x. gap_at (cells_of h) i (rw length-gaps at l);
  none = λ i l x. refl;
}

-- 0 comes with the length
fresh-done : (a : Result ℕ FreshError) (word : ℕ) → fresh_number a ≡ 0 → a ≡ Ok (image_length a word)
unfolding image_length
fresh-done (Ok n) word e = refl
fresh-done (Err fresh-error.OutOfRange) word e = absurd (omega (arith, e))
fresh-done (Err fresh-error.TooShort) word e = absurd (omega (arith, e))

-- `beginnings`: a fresh log that C was told is made is a start, of the header that its numbers are, all gaps and without lapses
pub fresh : (year month day days minutes ke seasons : ℕ) (log figs : List ℕ) (word : ℕ) (bs : List ℕ) (result size : ℕ) → ask_of bs ≡ Some None
    → let h = header_from year month day days minutes ke seasons in let o = fresh_for_c h log figs word in
    o.result ≡ 0 → BeginsAs (lent_after o bs result size) h (gaps (cells_of h)) no_lapses
unfolding fresh_image
fresh year month day days minutes ke seasons log figs word bs result size closed z =
    let h = header_from year month day days minutes ke seasons in
    let o = fresh_with h log figs in
    let n = image_length o.result word in
    let a = fresh-made h log figs o.left n (ap (λ (r : Result ℕ FreshError). outcome r o.left) (fresh-done o.result word z)) in
    begins-as _ h (gaps (cells_of h)) no_lapses (all-gaps h a.header) a.image a.right closed

-- `beginnings`: with the room for it a fresh log of every right header is made, and its length is told
pub fresh_had : (year month day days minutes ke seasons : ℕ) (log figs : List ℕ) (word : ℕ)
    → let h = header_from year month day days minutes ke seasons in let o = fresh_for_c h log figs word in
    is_header h ≡ true → length_of h ≤ length log → figures_of h ≤ length figs → (o.result ≡ 0) × (o.left.0 ≡ length_of h)
unfolding image_length
fresh_had year month day days minutes ke seasons log figs word right room many =
    rw ((claims.demand-3).fresh_had (header_from year month day days minutes ke seasons) log figs right room many) (refl, refl)

-- ---- a log that was read

read_done : (a : Result ℕ ReadError) (word : ℕ) → read_number a ≡ 0 → a ≡ Ok (length_after a word)
unfolding length_after
read_done (Ok n) word e = refl
read_done (Err read_answer.WrongMark) word e = absurd (omega (arith, e))
read_done (Err read_answer.WrongVersion) word e = absurd (omega (arith, e))
read_done (Err read_answer.WrongHeader) word e = absurd (omega (arith, e))
read_done (Err read_answer.WrongLength) word e = absurd (omega (arith, e))
read_done (Err read_answer.WrongCrc) word e = absurd (omega (arith, e))
read_done (Err read_answer.WrongCell) word e = absurd (omega (arith, e))
read_done (Err read_answer.TooShort) word e = absurd (omega (arith, e))

-- `beginnings`: a log that C was told is read is a start, with the header, cells and lapses that stand in the file
pub file : (f log figs : List ℕ) (word : ℕ) (bs : List ℕ) (result size : ℕ) → Bytes f → ask_of bs ≡ Some None → let o = read_for_c f log figs word in
    o.result ≡ 0 → BeginsFrom f (lent_after o bs result size)
file f log figs word bs result size bytes closed z =
    let o = read_file f log figs in
    let n = length_after o.result word in
    let a = accepted f bytes log figs o.left.log o.left.figures n (ap (λ (r : Result ℕ ReadError). outcome r o.left) (read_done o.result word z)) in
    record {
      version = a.version;
      known = a.known;
      header = a.header;
      cells = a.cells;
      lapses = a.lapses;
      file = a.file;
      begins = begins-as _ a.header a.cells a.lapses a.whole (image-front f log figs o.left.log o.left.figures n a) a.right closed;
    }

-- `beginnings`: with the room for it the file of every start is read, and gives that log
pub file_had : (b : LogAndRows) (start : Start b) (log figs : List ℕ) (word : ℕ)
    → let h = start.header in let o = read_for_c (file_bytes h start.cells start.lapses) log figs word in
    length b.log ≤ length log → figures_of h ≤ length figs → (o.result ≡ 0) × (take o.left.0 o.left.1.log ≡ b.log)
unfolding length_after
file_had b start log figs word room many =
    rw (history.today-had b log figs start room many) (refl, take_at b.log (drop (length b.log) log) (length b.log) refl)
