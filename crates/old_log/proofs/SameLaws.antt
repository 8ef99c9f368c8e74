-- An old and a new log in which the same is seen get the same answer from every call that goes by what is seen, and the same is seen of them after it.
use mathlib.Core.Path.{◌≡◌, refl, sym, ap, ap₂, subst, ◌∙◌}
use mathlib.Core.Bool.{Bool, true, false, ◌&&◌}
use mathlib.Core.List.{List, [], ◌∷◌}
use Prim.Native.Nat.{ℕ, ◌+◌, ◌≤◌, ◌<◌}
use native.Mathlib.Omega.{arith}
use lib.Dec.{leb, eqb}
use lib.ListN.{length, take, drop, get_or}
use lib.Seq.{take_at}
use borrow.Author.Tests.{le-leb}
use Rattle.std.specs.Prelude.{Err, None, Ok, Option, Some}
use Rattle.refusal.specs.Outcome.{Outcome, outcome, check}
use Rattle.byte_numbers.specs.Number.{Bytes}
use Rattle.byte_numbers.specs.Place.{written}
use Rattle.frame.specs.Sealing.{crc_fits}
use Rattle.log_header.specs.Header.{header_size, is_header, cells_of, length_of, mark_right, version_at, if_right}
use Rattle.energy_log.specs.Image.{applied, image_of, AllCells}
use Rattle.energy_log.specs.View.{View, view_of}
use Rattle.energy_log.specs.Fresh.{gaps, no_lapses, fresh_number}
use Rattle.log_cell.proofs.CellLaws.{gap-is-cell}
use Rattle.energy_log.proofs.FreshLaws.{length-gaps, gap_at}
use Rattle.energy_log.proofs.ImageLaws.{sound-image}
use Rattle.energy_log.proofs.ViewLaws as new
use Rattle.energy_log.proofs.ViewLaws.{changed, Holds}
use Rattle.log_header.specs.declared.header.Header.{Header}
use Rattle.log_cell.specs.declared.cell.Cell.{Cell}
use Rattle.log_cell.specs.declared.cell.Cell.TheVariants.{Gap}
use Rattle.energy_log.specs.declared.image.Change.{Change}
use Rattle.energy_log.specs.declared.fresh.FreshError.TheVariants as fresh
use Rattle.day_rows.specs.LogAndRows.{LogAndRows, log_and_rows, enough}
use Rattle.log_file.specs.Row.{row_at, lapses_in}
use Rattle.log_file.specs.File.{is_version, file_header, file_length_as, cells_in, cells_right}
use Rattle.log_file.specs.Read.{mark_size, read_number}
use Rattle.log_file.proofs.RowLaws.{read-is-cell}
use Rattle.log_file.proofs.WalkLaws.{passed, right-good}
use Rattle.log_file.proofs.FileLaws.{file-header-right, written-front, length-image}
use Rattle.log_file.specs.declared.read.ReadError.TheVariants.{WrongMark, WrongVersion, WrongHeader, WrongLength, WrongCrc, WrongCell, TooShort}
use Rattle.logger.specs.Ask as Ask
use Rattle.logger.specs.Lapse as Lapse
use Rattle.logger.specs.Take as Take
use Rattle.logger.proofs.TakeLaws.{decided-holds}
use Rattle.logger.proofs.LapseLaws.{lapsing-holds}
use Rattle.logger.specs.Book.{Call, ask, lapse, reply, Answer, plain, run_of, CallBytes, AllBytes}
use Rattle.logger.specs.Run.{State, take_answer}
use Rattle.logger.specs.declared.held.OpenAsk.{OpenAsk}
use Rattle.polling.specs.Fate.{fate_of, fate_lapsed}
use Rattle.old_log.specs.OldRows as old
use Rattle.old_log.specs.Layout.{rows, columns, lapsed_in, taken_in, heard_in, settled_in, fresh_in, read_cells_in, read_fields_in, read_in, step_in, run_in}
use Rattle.old_log.specs.Same.{Alike, SameLog, SameBoth, Made, SameMade, SameState, SameRun, Rooms, FileRooms}
use Rattle.old_log.proofs.OldRowLaws as laws

-- ---- calls that alter a log

-- the same change, done to both
same_after : (s t : List ℕ) (c d : Change) → Alike s t → c ≡ d → Holds (view_of t) d → Alike (old.applied c s) (applied d t)
same_after s t c d e same holds =
    ap (λ (x : Change). old.view_of (old.applied x s)) same
    ∙ laws.view-applied s d (subst (λ (v : View). Holds v d) (sym e) holds)
    ∙ ap (changed d) e
    ∙ sym (new.view-applied t d holds)

-- where the held ask is the same too
pub same-lapse : (s t : List ℕ) (h k : Option OpenAsk) → Alike s t → h ≡ k → SameLog (lapsed_in rows s h) (lapsed_in columns t k)
unfolding lapsed_in
same-lapse s t h k e p = record {
  answer = λ i. (Lapse.lapsing (e i) (p i)).answered;
  seen = same_after s t _ _ e (λ i. (Lapse.lapsing (e i) (p i)).change) (lapsing-holds (view_of t) k);
}

-- the field `take` of `SameAnswers`, and a reply's part in other calls
pub same-take : (b c : LogAndRows) (h k : Option OpenAsk) (y : List ℕ) → Alike b.log c.log → b.figures ≡ c.figures → h ≡ k → Bytes y
    → SameBoth (taken_in rows b h y) (taken_in columns c k y)
unfolding taken_in
same-take b c h k y e q p bytes = record {
  answer = λ i. (Take.decided (e i) (q i) (p i) y).result.answered;
  seen = same_after b.log c.log _ _ e (λ i. (Take.decided (e i) (q i) (p i) y).result.change) (decided-holds (view_of c.log) c.figures k y bytes);
  figures = λ i. (Take.decided (e i) (q i) (p i) y).left;
}

same-heard : (s t figs : List ℕ) (h : Option OpenAsk) (y : List ℕ) → Alike s t → Bytes y → SameBoth (heard_in rows (log_and_rows s figs) h y) (heard_in columns (log_and_rows t figs) h y)
unfolding heard_in
same-heard s t figs h [] e bytes = record { answer = refl; seen = e; figures = refl }
same-heard s t figs h (x ∷ y) e bytes =
    let w = same-take (log_and_rows s figs) (log_and_rows t figs) h h (x ∷ y) e refl refl bytes in
    record {
      answer = λ i. record { fate = fate_of (w.answer i).answer; held = (w.answer i).held };
      seen = w.seen;
      figures = w.figures;
    }

-- its field `settle`
pub same-settle : (s t figs : List ℕ) (h : Option OpenAsk) (y : List ℕ) → Alike s t → Bytes y → SameBoth (settled_in rows (log_and_rows s figs) h y) (settled_in columns (log_and_rows t figs) h y)
unfolding settled_in
same-settle s t figs h y e bytes =
    let w = same-heard s t figs h y e bytes in
    let z = same-lapse (heard_in rows (log_and_rows s figs) h y).left.log (heard_in columns (log_and_rows t figs) h y).left.log _ _ w.seen (λ i. (w.answer i).held) in
    record {
      answer = λ i. record { fate = fate_lapsed (z.answer i).answer (w.answer i).fate; held = (z.answer i).held };
      seen = z.seen;
      figures = w.figures;
    }

-- ---- calls that make a log

-- the images of the same header, cells and lapses are alike
pub same-image : (h : Header) (cs : List Cell) (lapses : ℕ → ℕ) → is_header h ≡ true → length cs ≡ cells_of h → AllCells cs
    → Alike (old.image_of h cs lapses) (image_of h cs lapses)
same-image h cs lapses e l k = laws.view-image h cs lapses e l k ∙ sym (new.view-image h cs lapses e l k)

-- an image at the front of an output
front : (out bs : List ℕ) (n : ℕ) → length bs ≡ n → n ≤ length out → take n (written out 0 bs) ≡ bs
front out bs n e l = ap (take n) (written-front out bs n e l) ∙ take_at bs (drop n out) n e

old_length : (h : Header) (cs : List Cell) (lapses : ℕ → ℕ) → length cs ≡ cells_of h → length (old.image_of h cs lapses) ≡ old.length_of h
unfolding old.length_of
old_length h cs lapses e = laws.length-image_of lapses h cs ∙ omega (arith, e)

images-made : {A : Type 0} (done : ℕ → A) (h : Header) (cs : List Cell) (lapses : ℕ → ℕ) (a b figs : List ℕ) → is_header h ≡ true → length cs ≡ cells_of h
    → AllCells cs → Rooms h a b
    → Made done (outcome (done (rows.size h)) (log_and_rows (written a 0 (old.image_of h cs lapses)) figs))
    (outcome (done (columns.size h)) (log_and_rows (written b 0 (image_of h cs lapses)) figs))
images-made done h cs lapses a b figs right count each room =
    let p = front a (old.image_of h cs lapses) (old.length_of h) (old_length h cs lapses count) room.of_rows in
    let q = front b (image_of h cs lapses) (length_of h) (length-image h cs lapses count) room.of_columns in
    record {
      header = h;
      old_told = refl;
      new_told = refl;
      sound = ap (λ (x : List ℕ). (view_of x).lent) q ∙ sound-image lapses h cs right count;
      seen = ap old.view_of p ∙ same-image h cs lapses right count each ∙ sym (ap view_of q);
    }

-- one of a call's checks, by both
module _ {A : Type 0} (number : A → ℕ) (done : ℕ → A) (a b figs : List ℕ) where
  same-refusal : (r : A) → 0 < number r → SameMade number done a b (outcome r (log_and_rows a figs)) (outcome r (log_and_rows b figs))
  same-refusal r l = record { answer = refl; figures = refl; made = λ e. absurd (omega (arith, l, e)); refused = λ n. (refl, refl) }

  same_check : (c : Bool) (r : A) (x y : Outcome A LogAndRows) → 0 < number r → (c ≡ true → SameMade number done a b x y)
      → SameMade number done a b (check c (outcome r (log_and_rows a figs)) x) (check c (outcome r (log_and_rows b figs)) y)
  same_check true r x y l f = f refl
  same_check false r x y l f = same-refusal r l

-- the room is there
room-check : {A : Type 0} (number : A → ℕ) (done : ℕ → A) (a b : List ℕ) (h : Header) (p q x y : Outcome A LogAndRows) → Rooms h a b → SameMade number done a b x y
    → SameMade number done a b (check (leb (rows.size h) (length a)) p x) (check (leb (columns.size h) (length b)) q y)
room-check number done a b h p q x y room f = rw (le-leb _ _ room.of_rows, le-leb _ _ room.of_columns) f

gaps-cells : (n : ℕ) → AllCells (gaps n)
gaps-cells n i l = rw (gap_at n i (rw length-gaps at l)) gap-is-cell

-- its field `fresh`
pub same-fresh : (h : Header) (a b figs : List ℕ) → Rooms h a b → SameMade fresh_number Ok a b (fresh_in rows h a figs) (fresh_in columns h b figs)
unfolding fresh_in
same-fresh h a b figs room =
    same_check fresh_number Ok a b figs (is_header h) (Err fresh.OutOfRange) _ _ (omega arith) (λ right.
    same_check fresh_number Ok a b figs (enough h figs) (Err fresh.TooShort) _ _ (omega arith) (λ many.
    room-check fresh_number Ok a b h _ _ _ _ room (record {
      answer = refl;
      figures = refl;
      made = λ e. images-made Ok h (gaps (cells_of h)) no_lapses a b _ right (length-gaps (cells_of h)) (gaps-cells (cells_of h)) room;
      refused = λ n. absurd (n refl);
    })))

module _ (f a b figs : List ℕ) (bytes : Bytes f) where
  same-cells : (h : Header) → is_header h ≡ true → Rooms h a b → SameMade read_number Ok a b (read_cells_in rows f h a figs) (read_cells_in columns f h b figs)
  unfolding read_cells_in
  same-cells h right room =
      let cell = row_at (version_at f) f in
      let lapses = lapses_in (version_at f) f in
      let cs = cells_in f (cells_of h) in
      same_check read_number Ok a b figs (cells_right h cell lapses) (Err WrongCell) _ _ (omega arith) (λ good.
      room-check read_number Ok a b h _ _ _ _ room (
      same_check read_number Ok a b figs (enough h figs) (Err TooShort) _ _ (omega arith) (λ many.
      let seen = passed cell (cells_of h) 0 (right-good h cell lapses good) in
      record {
        answer = refl;
        figures = refl;
        made = λ e.
            images-made Ok h cs lapses a b _ right seen.count
            (λ j l. read-is-cell (version_at f) f bytes (0 + j) (get_or cs j Gap) (seen.each j (rw seen.count at l))) room;
        refused = λ n. absurd (n refl);
      })))

  same-fields : FileRooms f a b → SameMade read_number Ok a b (read_fields_in rows f a figs) (read_fields_in columns f b figs)
  unfolding read_fields_in
  same-fields room = same_check read_number Ok a b figs (leb header_size (length f)) (Err WrongHeader) _ _ (omega arith) (λ enough. go (file_header f) refl)
    where
      go : (r : Option Header) → file_header f ≡ r
          → SameMade read_number Ok a b
          (if_right r (outcome (Err WrongHeader) (log_and_rows a figs)) (λ h.
          check (eqb (length f) (file_length_as (version_at f) h)) (outcome (Err WrongLength) (log_and_rows a figs)) (
          check (crc_fits f) (outcome (Err WrongCrc) (log_and_rows a figs)) (read_cells_in rows f h a figs))))
          (if_right r (outcome (Err WrongHeader) (log_and_rows b figs)) (λ h.
          check (eqb (length f) (file_length_as (version_at f) h)) (outcome (Err WrongLength) (log_and_rows b figs)) (
          check (crc_fits f) (outcome (Err WrongCrc) (log_and_rows b figs)) (read_cells_in columns f h b figs))))
      go None p = same-refusal read_number Ok a b figs (Err WrongHeader) (omega arith)
      go (Some h) p =
          same_check read_number Ok a b figs (eqb (length f) (file_length_as (version_at f) h)) (Err WrongLength) _ _ (omega arith) (λ size.
          same_check read_number Ok a b figs (crc_fits f) (Err WrongCrc) _ _ (omega arith) (λ crc. same-cells h (file-header-right f h p) (room h p)))

  -- its field `read`
  pub same_read : FileRooms f a b → SameMade read_number Ok a b (read_in rows f a figs) (read_in columns f b figs)
  unfolding read_in
  same_read room =
      same_check read_number Ok a b figs (leb mark_size (length f) && mark_right f) (Err WrongMark) _ _ (omega arith) (λ mark.
      same_check read_number Ok a b figs (is_version (version_at f)) (Err WrongVersion) _ _ (omega arith) (λ known. same-fields room))

-- ---- a list of calls

record SameStep (o n : Outcome Answer State) : Type 0 where
  answer : o.result ≡ n.result
  left : SameState o.left n.left

same_step : (s t : State) (c : Call) → SameState s t → CallBytes c → SameStep (step_in rows s c) (step_in columns t c)
unfolding step_in
same_step s t (ask address day slot out) w k =
    let e = w.seen in
    let p = w.held in
    record {
      answer = λ i. plain (Ask.number_of (Ask.asked (e i) (p i) address day slot out).result.answer);
      left = record { seen = e; figures = w.figures; held = λ i. (Ask.asked (e i) (p i) address day slot out).result.held };
    }
same_step s t lapse w k =
    let z = same-lapse s.log t.log s.held t.held w.seen w.held in
    record {
      answer = λ i. plain (Lapse.number_of (z.answer i).answer);
      left = record { seen = z.seen; figures = w.figures; held = λ i. (z.answer i).held };
    }
same_step s t (reply y) w k =
    let z = same-take (log_and_rows s.log s.figures) (log_and_rows t.log t.figures) s.held t.held y w.seen w.figures w.held k in
    record {
      answer = λ i. take_answer (z.answer i).answer;
      left = record { seen = z.seen; figures = z.figures; held = λ i. (z.answer i).held };
    }

-- its field `run`, call by call
pub same-run : (s t : State) → SameState s t → (calls : List Call) → AllBytes calls → SameRun (run_in rows s calls) (run_in columns t calls)
unfolding run_of
same-run s t w [] k = record { answers = refl; left = w }
same-run s t w (c ∷ calls) k =
    let z = same_step s t c w k.0 in
    let rest = same-run (step_in rows s c).left (step_in columns t c).left z.left calls k.1 in
    record { answers = ap₂ (λ (x : Answer) (xs : List Answer). x ∷ xs) z.answer rest.answers; left = rest.left }
