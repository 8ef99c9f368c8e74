-- One call: the log's step and the book's go together.
use Rattle.logger.specs.Held.{opened_for}
use Rattle.std.specs.Prelude.{Err, None, Ok, Option, Some}
use mathlib.Core.Path.{◌≡◌, refl, sym, ap, subst, ◌∙◌}
use mathlib.Core.Bool.{Bool, true, false, cond, false≢true}
use mathlib.Core.List.{List, [], ◌∷◌, ◌++◌}
use Prim.Native.Nat.{ℕ, ◌+◌, ◌<◌}
use native.Mathlib.Nat.{zero-add}
use native.Mathlib.Omega.{arith}
use lib.Dec.{eqb, ltb}
use lib.ListN.{length, get_or, set}
use lib.Seq.{set-get_or}
use Rattle.refusal.specs.Outcome.{Outcome, outcome}
use Rattle.logger.specs.Ask.{Asked}
use Rattle.test_laws.proofs.Test.{either}
use Rattle.byte_numbers.specs.Number.{Bytes}
use Rattle.byte_numbers.specs.Place.{written}
use Rattle.frame.specs.Layout.{read_size}
use Rattle.log_cell.proofs.CellLaws.{bad≢good}
use Rattle.log_header.specs.Header.{is_header, cells_of, sound_of}
use Rattle.energy_log.specs.Image.{image_of, applied}
use Rattle.energy_log.proofs.ImageLaws.{sound-image, image-alike, bytes-image}
use Rattle.energy_log.specs.View.{View, view_of}
use Rattle.energy_log.proofs.ViewLaws.{AreCells, seen-are-cells, cell_in, cell_in_lem, cell_in_lem, view_by, view-image, Whole, applied-image}
use Rattle.energy_log.specs.declared.image.Change.TheVariants as change
use Rattle.log_header.specs.Interval.{interval_of, comes_twice, if_at}
use Rattle.log_header.proofs.IntervalLaws.{outside≢at, interval-below, in-log, by-at}
use Rattle.log_cell.specs.declared.cell.Cell.{Cell}
use Rattle.log_cell.specs.declared.cell.Cell.TheVariants.{Gap}
use Rattle.log_header.specs.declared.header.Header.{Header}
use Rattle.reader.specs.declared.form.Fault.{Fault}
use Rattle.reader.specs.declared.form.Fault.TheVariants as fault
use Rattle.logger.specs.declared.take.TakeError.TheVariants.{Malformed}
use Rattle.logger.specs.Held.{if_none, OpenFor}
use Rattle.logger.specs.Reply.{slice_form, result_of, row_of}
use Rattle.wire_values.specs.declared.row.Row.{Row}
use Rattle.day_rows.specs.Rows.{Right}
use Rattle.day_rows.specs.Put.{change_of}
use Rattle.day_rows.proofs.PutLaws.{change-right}
use Rattle.day_rows.proofs.RowsLaws.{right-enough}
use Rattle.logger.proofs.TakeLaws.{by-none, by-open, by_form, by-ok, Step, Heard, Cases, decided-cases, RowFits, row_fits, PutsCell, update-cell}
use Rattle.logger.specs.Book.{Call, ask, lapse, reply, Answer, Book, entry, plain, fault_answer, place_of, kept_with, lapses_with, keep_reply, book_reply, book_ask}
use Rattle.logger.specs.Book.{counts_in, book_lapse, book_step, worked_out, cut_at255, lapses_out, afresh, CallBytes}
use Rattle.logger.proofs.BookLaws.{counts-in, effect, update_number, cell-more, number_more, length-worked_out, worked_out-at, worked_out-with, Fitting, fitting-more, afresh-is-cell}
use Rattle.logger.specs.Run.{State, step, take_answer}
use Rattle.logger.specs.declared.held.OpenAsk.{OpenAsk}
use Rattle.logger.specs.Lapse.{LapseDecision}
use Rattle.logger.specs.declared.take.Update.{Update}
use Rattle.logger.specs.declared.take.Update.TheVariants.{Put, Keep, Conflict}
use Rattle.logger.specs.Ask as Ask
use Rattle.logger.specs.Take as Take
use Rattle.logger.specs.Lapse as Lapse
use borrow.Author.Tests.{ltb-true, ltb-false, lt-ltb, eqb-true}
use Rattle.logger.specs.declared.ask.AskError.TheVariants as answer

-- the log and the open ask that a book gives, beside some figures
abbrev pub state_of : Header → Book → List ℕ → State
state_of h b figs = record { log = image_of h (worked_out b.kept 0 (cells_of h)) (lapses_out b.lapses); figures = figs; held = b.held }

-- an open ask is for an interval of the log
abbrev pub HeldIn : Header → Option OpenAsk → Type 0
HeldIn h None = Unit
HeldIn h (Some opened) = interval_of h opened.day opened.slot ≡ Some (place_of h opened.day opened.slot)

-- what a book keeps to
pub record Sane (h : Header) (b : Book) : Type 0 where
  pub inside : HeldIn h b.held
  pub rows : (i : ℕ) → Fitting (b.kept i)

-- a step of the log and an entry of the book go together
pub record Agree (h : Header) (s : Outcome Answer State) (e : Outcome Answer Book) : Type 0 where
  pub answer : s.result ≡ e.result
  pub state : s.left ≡ state_of h e.left s.left.figures

-- ---- an ask

module _ (h : Header) (kept : ℕ → List Row) (lapses : ℕ → ℕ) (figs : List ℕ) (address day slot : ℕ) (out : List ℕ) where
  ask_step : Outcome Asked (List ℕ) → Outcome Answer State
  ask_step o =
      outcome (plain (Ask.number_of o.result.answer)) (state_of h (record { held = o.result.held; kept = kept; lapses = lapses }) figs)

  -- an ask is answered alike by log and book, and opens the same ask in both
  pub ask-agrees : (held : Option OpenAsk) → is_header h ≡ true
      → Agree h (step (state_of h (record { held = held; kept = kept; lapses = lapses }) figs) (ask address day slot out)) (book_ask h held kept lapses address day slot out)
  unfolding step Ask.asked book_ask ask_step
  ask-agrees held e =
      let cells = worked_out kept 0 (cells_of h) in
      let sound : sound_of (image_of h cells (lapses_out lapses)) ≡ Some h = sound-image (lapses_out lapses) h cells e (length-worked_out kept 0 (cells_of h)) in
      rw sound (go (ltb (length out) read_size) held (interval_of h day slot))
    where
      go : (short : Bool) (held : Option OpenAsk) (i : Option ℕ)
          → Agree h
          (ask_step
          (cond short (Ask.answered (Err answer.TooShort) held out) (
          if_none held (Ask.answered (Err answer.AlreadyOpen) held out) (
          if_at i (Ask.answered (Err answer.NotInLog) held out) (λ i.
          Ask.answered (Ok tt) (opened_for address day slot) (written out 0 (Ask.ask_frame h address day slot)))))))
          (cond short (entry (plain 1) held kept lapses) (
          if_none held (entry (plain 21) held kept lapses) (
          if_at i (entry (plain 22) held kept lapses) (λ i.
          entry (plain 0) (opened_for address day slot) kept lapses))))
      go true held i = record { answer = refl; state = refl }
      go false (Some opened) i = record { answer = refl; state = refl }
      go false None None = record { answer = refl; state = refl }
      go false None (Some i) = record { answer = refl; state = refl }

-- ---- a reply

-- what was decided, done to a log, with the figures after it
take_step : List ℕ → Step → Outcome Answer State
take_step s o =
    let d = o.result in
    outcome (take_answer d.answered.answer) (record { log = applied d.change s; figures = o.left; held = d.answered.held })

lapse_step : List ℕ → List ℕ → LapseDecision → Outcome Answer State
lapse_step s figs d = outcome (plain (Lapse.number_of d.answered.answer)) (record { log = applied d.change s; figures = figs; held = d.answered.held })

-- log and book give a reply that is not well formed the same answer
same-fault : (f : Fault) → take_answer (Err (Malformed f)) ≡ fault_answer f
same-fault (fault.Length n) = refl
same-fault fault.Crc = refl
same-fault fault.Address = refl
same-fault fault.Function = refl
same-fault fault.Parameter = refl

-- an update of a cell of an image, whose day's figures can follow it
module _ (h : Header) (cells : List Cell) (lapses : ℕ → ℕ) (twice : Bool) (held : Option OpenAsk) (day i : ℕ) (figs : List ℕ) where
  abbrev old : Cell
  old = get_or cells i Gap

  -- the figures after it
  abbrev after : Update → List ℕ
  after u = (Take.updated u twice held day i old figs).left

  Follows : Update → Type 0
  Follows u = (c : Cell) → u ≡ Put c → (change_of day twice old c figs).result ≡ Ok tt

  update-step : (u : Update) → Whole h cells lapses → i < cells_of h → PutsCell u → Follows u
      → take_step (image_of h cells lapses) (Take.updated u twice held day i old figs)
      ≡ outcome (plain (update_number u)) (record { log = image_of h (set cells i (effect u old)) lapses; figures = after u; held = None })
  unfolding take_step Take.updated Take.put_with update_number effect Follows
  update-step (Put new) w l is done = rw (done new refl, applied-image h cells lapses (change.Put i new) w (l, is)) refl
  update-step Keep w l is done = rw set-get_or (rw (applied-image h cells lapses change.None w tt))
  update-step Conflict w l is done = rw set-get_or (rw (applied-image h cells lapses change.None w tt))

cut_fits : (n : ℕ) → cut_at255 n < 256
unfolding cut_at255
cut_fits n = go (ltb n 255) refl
  where
    go : (b : Bool) → ltb n 255 ≡ b → cond b n 255 < 256
    go true p = omega (arith, ltb-true n 255 p)
    go false p = omega arith

module _ (h : Header) (kept : ℕ → List Row) (lapses : ℕ → ℕ) (figs : List ℕ) (rows : (i : ℕ) → Fitting (kept i)) where
  -- the cells that the book's replies come to
  abbrev pub cells : List Cell
  cells = worked_out kept 0 (cells_of h)

  cell-here : (i : ℕ) → i < cells_of h → get_or cells i Gap ≡ afresh (kept i)
  cell-here i l = worked_out-at kept 0 (cells_of h) i l ∙ ap (λ (k : ℕ). afresh (kept k)) (zero-add i)

  read_here : (i : ℕ) → i < cells_of h → cell_in cells i ≡ Some (get_or cells i Gap)
  read_here i l = cell_in_lem cells i (rw length-worked_out l)

  -- what the log that they give is made of, and what is seen of it
  pub whole : is_header h ≡ true → Whole h cells (lapses_out lapses)
  whole e = record {
    right = e;
    count = length-worked_out kept 0 (cells_of h);
    each = λ i l. rw (cell-here i (rw length-worked_out at l)) (afresh-is-cell (kept i) (rows i));
    fit = λ i. cut_fits (lapses i);
  }

  -- what is seen of the log that they give is the header, these cells and the book's lapses, cut at 255
  pub seen_here : is_header h ≡ true → view_of (image_of h cells (lapses_out lapses)) ≡ view_by h cells (lapses_out lapses)
  seen_here e = let w = whole e in view-image h cells (lapses_out lapses) w.right w.count w.each

  -- the figures are those of the cells
  abbrev RightHere : Type 0
  RightHere = Right h (cell_in cells) figs

  are-cells : is_header h ≡ true → AreCells (cell_in cells)
  are-cells e =
      let w = whole e in
      subst (λ (v : View). AreCells v.cell) (seen_here e)
      (seen-are-cells (image_of h cells (lapses_out lapses)) (bytes-image (lapses_out lapses) h cells w.fit e))

  -- a row that is kept for a cell of the log
  keep-agrees : (held : Option OpenAsk) (i : ℕ) (o : OpenFor h held i) (r : Row) → RowFits r → is_header h ≡ true → RightHere → i < cells_of h
      → Agree h
      (take_step (image_of h cells (lapses_out lapses)) (Take.updated (Take.update_of (get_or cells i Gap) r) (comes_twice h o.day o.slot) held o.day i (get_or cells i Gap) figs))
      (keep_reply kept lapses i r)
  unfolding keep_reply Follows take_step
  keep-agrees held i o r f e right l =
      let c = get_or cells i Gap in
      let u = Take.update_of c r in
      let twice = comes_twice h o.day o.slot in
      let here : c ≡ afresh (kept i) = cell-here i l in
      let follows : Follows h cells (lapses_out lapses) twice held o.day i figs u = λ new p.
      (change-right h (cell_in cells) figs o.day o.slot i c new o.interval (read_here i l) (are-cells e)
      (subst PutsCell p (update-cell r f c)) right).0 in
      let made = update-step h cells (lapses_out lapses) twice held o.day i figs u (whole e) l (update-cell r f c) follows in
      let with_row : worked_out (kept_with kept i r) 0 (cells_of h) ≡ set cells i (afresh (kept i ++ (r ∷ []))) =
      rw zero-add at (worked_out-with kept r 0 (cells_of h) i l) in
      let after : effect u c ≡ afresh (kept i ++ (r ∷ [])) = ap (λ (x : Cell). effect (Take.update_of x r) x) here ∙ cell-more (kept i) r in
      let figs-after = (Take.updated u twice held o.day i c figs).left in
      record {
        answer = ap (λ (s : Outcome Answer State). s.result) made
            ∙ ap plain (ap (λ (x : Cell). update_number (Take.update_of x r)) here ∙ number_more (kept i) r);
        state = ap (λ (s : Outcome Answer State). s.left) made
            ∙ ap (λ (l : List Cell). record { log = image_of h l (lapses_out lapses); figures = figs-after; held = None }) (ap (set cells i) after ∙ sym with_row);
      }

  -- the interval of the open ask is the cell that the book keeps a reply for
  cell-asked : (held : Option OpenAsk) (i : ℕ) (o : OpenFor h held i) → place_of h o.day o.slot ≡ i
  unfolding place_of
  cell-asked held i o = (in-log h o.day o.slot i o.interval).index

  below : (held : Option OpenAsk) (y : List ℕ) (i : ℕ) → Heard h held y i → i < cells_of h
  below held y i o = interval-below h o.ask.day o.ask.slot i o.ask.interval

  reply-cases : (held : Option OpenAsk) (y : List ℕ) → Bytes y → is_header h ≡ true → RightHere → HeldIn h held
      → Cases (λ (d : Step). Agree h (take_step (image_of h cells (lapses_out lapses)) d) (book_reply h held kept lapses y))
      h (view_by h cells (lapses_out lapses)) figs held y
  unfolding take_step book_reply applied
  reply-cases held y bytes e right k = record {
    few = λ n. absurd (false≢true (sym n ∙ right-enough h (cell_in cells) figs right));
    no-ask = λ e. rw e (record { answer = refl; state = refl });
    outside = λ a d t o n. absurd (outside≢at (place_of h d t) (sym n ∙ (rw o at k)));
    malformed = λ i o f e. rw (o.open_ask, e) (record { answer = same-fault f; state = refl });
    refused = λ i o e. rw (o.ask.open_ask, o.formed, e) (record { answer = refl; state = refl });
    bad-cell = λ i o e. absurd (bad≢good (get_or cells i Gap) (sym e ∙ read_here i (below held y i o)));
    counted = λ i o q c g.
        let l = below held y i o in
        let same : c ≡ get_or cells i Gap = cc (g, read_here i l) in
        let Kept-here = keep-agrees held i o.ask (row_of y) (row_fits y bytes) e right l in
        subst (λ (x : Outcome Answer Book).
        Agree h (take_step (image_of h cells (lapses_out lapses)) (Take.updated (Take.update_of c (row_of y)) (comes_twice h o.ask.day o.ask.slot) held o.ask.day i c figs)) x)
        (sym (rw (o.ask.open_ask, o.formed, q, cell-asked held i o.ask, counts-in y) refl))
        (subst (λ (x : Cell).
        Agree h (take_step (image_of h cells (lapses_out lapses)) (Take.updated (Take.update_of x (row_of y)) (comes_twice h o.ask.day o.ask.slot) held o.ask.day i x figs))
        (keep_reply kept lapses i (row_of y))) (sym same) Kept-here);
  }

  -- a reply is answered alike by log and book, and the log after it is the one that the book after it gives
  pub reply-agrees : (held : Option OpenAsk) (y : List ℕ) → Bytes y → is_header h ≡ true → RightHere → HeldIn h held
      → Agree h (step (state_of h (record { held = held; kept = kept; lapses = lapses }) figs) (reply y)) (book_reply h held kept lapses y)
  unfolding take_step step Take.taken
  reply-agrees held y bytes e right k =
      let P : Step → Type 0 = λ d. Agree h (take_step (image_of h cells (lapses_out lapses)) d) (book_reply h held kept lapses y) in
      subst (λ (v : View). P (Take.decided v figs held y)) (sym (seen_here e))
      (decided-cases P (view_by h cells (lapses_out lapses)) figs held y
      (λ u. let z : ◌≡◌ {A = ℕ} 0 1 = cc in absurd (omega arith))
      (λ g q. let same : h ≡ g = cc in rw (← same) (reply-cases held y bytes e right k)))

  -- ---- a lapse

  cut-more : (n : ℕ) → Lapse.one_more (cut_at255 n) ≡ cut_at255 (n + 1)
  unfolding Lapse.one_more cut_at255
  cut-more n = go (ltb n 255) refl (ltb (n + 1) 255) refl
    where
      go : (a : Bool) → ltb n 255 ≡ a → (b : Bool) → ltb (n + 1) 255 ≡ b
          → cond (ltb (cond a n 255) 255) (cond a n 255 + 1) 255 ≡ cond b (n + 1) 255
      go true p true q = simp p
      go true p false q = simp p (omega (arith, ltb-true n 255 p, ltb-false (n + 1) 255 q))
      go false p true q = absurd (omega (arith, ltb-false n 255 p, ltb-true (n + 1) 255 q))
      go false p false q = refl

  -- the lapses of the log, one more for cell i, are those of the book with one more
  lapses-more : (i j : ℕ) → cond (eqb j i) (Lapse.one_more (cut_at255 (lapses i))) (cut_at255 (lapses j)) ≡ cut_at255 (lapses_with lapses i j)
  unfolding lapses_with
  lapses-more i j = go (eqb j i) refl
    where
      go : (b : Bool) → eqb j i ≡ b → cond b (Lapse.one_more (cut_at255 (lapses i))) (cut_at255 (lapses j)) ≡ cut_at255 (cond b (lapses j + 1) (lapses j))
      go true p = cut-more (lapses i) ∙ ap (λ (k : ℕ). cut_at255 (lapses k + 1)) (sym (eqb-true j i p))
      go false p = refl

  -- a lapse is answered alike by log and book, and counts in both
  pub lapse-agrees : (held : Option OpenAsk) → is_header h ≡ true → HeldIn h held
      → Agree h (step (state_of h (record { held = held; kept = kept; lapses = lapses }) figs) lapse) (book_lapse h held kept lapses)
  unfolding step book_lapse Lapse.lapsed Lapse.lapsing lapse_step
  lapse-agrees None e k = let w = whole e in record { answer = refl; state = rw (applied-image h cells (lapses_out lapses) change.None w tt) refl }
  lapse-agrees (Some opened) e k =
      let w = whole e in
      let i = place_of h opened.day opened.slot in
      let l : i < cells_of h = interval-below h opened.day opened.slot i k in
      let m : i < length cells = omega (arith, l, w.count) in
      let n = Lapse.one_more (cut_at255 (lapses i)) in
      let fits : n < 256 = rw (cut-more (lapses i)) (cut_fits (lapses i + 1)) in
      let done : applied (change.Lapses i n) (image_of h cells (lapses_out lapses)) ≡ image_of h cells (lapses_out (lapses_with lapses i)) =
      applied-image h cells (lapses_out lapses) (change.Lapses i n) w (l, fits)
      ∙ image-alike h cells (λ j. cond (eqb j i) n (cut_at255 (lapses j))) (lapses_out (lapses_with lapses i)) (λ j x. lapses-more i j) in
      subst (λ (v : View). Agree h (lapse_step (image_of h cells (lapses_out lapses)) figs (Lapse.lapsing v (Some opened))) (book_lapse h (Some opened) kept lapses))
      (sym (seen_here e))
      (rw (k, read_here i l, lt-ltb i (length cells) m) (record { answer = refl; state = ap (λ (x : List ℕ). record { log = x; figures = figs; held = None }) done }))

-- ---- any call

-- for demand 3: any call on the log that a book gives leaves the log that the book gives after its entry
pub step-agrees : (h : Header) (b : Book) (figs : List ℕ) (c : Call) → is_header h ≡ true → Sane h b → CallBytes c
    → Right h (view_of (state_of h b figs).log).cell figs → Agree h (step (state_of h b figs) c) (book_step h b c)
unfolding book_step
step-agrees h b figs (ask address day slot out) e s k right = ask-agrees h b.kept b.lapses figs address day slot out b.held e
step-agrees h b figs lapse e s k right = lapse-agrees h b.kept b.lapses figs s.rows b.held e s.inside
step-agrees h b figs (reply y) e s k right =
    reply-agrees h b.kept b.lapses figs s.rows b.held y k e
    (subst (λ (v : View). Right h v.cell figs) (seen_here h b.kept b.lapses figs s.rows e) right) s.inside

-- ---- a sane book stays sane

kept-fits : (kept : ℕ → List Row) (i : ℕ) (r : Row) → ((j : ℕ) → Fitting (kept j)) → RowFits r → (j : ℕ) → Fitting (kept_with kept i r j)
unfolding kept_with
kept-fits kept i r rows k j = go (eqb j i)
  where
    go : (b : Bool) → Fitting (cond b (kept j ++ (r ∷ [])) (kept j))
    go true = fitting-more (kept j) r (rows j) k
    go false = rows j

module _ (h : Header) (kept : ℕ → List Row) (lapses : ℕ → ℕ) (rows : (i : ℕ) → Fitting (kept i)) where
  abbrev KeepsSane : Outcome Answer Book → Type 0
  KeepsSane e = Sane h e.left

  ask-sane : (held : Option OpenAsk) (address day slot : ℕ) (out : List ℕ) → HeldIn h held → KeepsSane (book_ask h held kept lapses address day slot out)
  unfolding book_ask place_of
  ask-sane held address day slot out k =
      let same : Sane h (record { held = held; kept = kept; lapses = lapses }) = record { inside = k; rows = rows } in
      either KeepsSane (ltb (length out) read_size) same (
      by-none KeepsSane held (λ a d t o. same) (λ o.
      by-at KeepsSane (interval_of h day slot) (λ e. same) (λ i e.
      record { inside = e ∙ ap Some (sym (in-log h day slot i e).index); rows = rows })))

  reply-sane : (held : Option OpenAsk) (y : List ℕ) → Bytes y → HeldIn h held → KeepsSane (book_reply h held kept lapses y)
  unfolding book_reply keep_reply
  reply-sane held y k q =
      let same : Sane h (record { held = held; kept = kept; lapses = lapses }) = record { inside = q; rows = rows } in
      by-open KeepsSane held (λ o. same) (λ a d t o.
      by_form KeepsSane (slice_form a y) (λ fault e. same) (λ e.
      by-ok KeepsSane (result_of y) (λ e. record { inside = tt; rows = rows }) (λ e.
      record { inside = tt; rows = kept-fits kept (place_of h d t) (counts_in y) rows (subst RowFits (sym (counts-in y)) (row_fits y k)) })))

-- an entry for any call keeps a book sane, so that the next call agrees too
pub step-sane : (h : Header) (b : Book) (c : Call) → Sane h b → CallBytes c → Sane h (book_step h b c).left
unfolding book_step book_lapse
step-sane h b (ask address day slot out) s k = ask-sane h b.kept b.lapses s.rows b.held address day slot out s.inside
step-sane h b lapse s k =
    by-open (λ (e : Outcome Answer Book). Sane h e.left) b.held (λ o. record { inside = tt; rows = s.rows }) (λ a d t o. record { inside = tt; rows = s.rows })
step-sane h b (reply y) s k = reply-sane h b.kept b.lapses s.rows b.held y k s.inside
