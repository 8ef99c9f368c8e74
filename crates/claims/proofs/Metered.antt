-- A whole history: a measured cell is traced back, call by call, to the reply that filled it and to the ask that was open when it came.
use mathlib.Core.Path.{◌≡◌, refl, sym, ap, ap₂, subst, ◌∙◌}
use mathlib.Core.Bool.{Bool, true, false, cond, not, false≢true}
use mathlib.Core.List.{List, [], ◌∷◌, ◌++◌, append_assoc, append-nil}
use mathlib.Core.Logic.{◌⊎◌, inl, inr}
use Prim.Native.Nat.{ℕ, zero, suc, ◌+◌, ◌*◌, ◌-◌, ◌/◌, ◌%◌, ◌<◌}
use native.Mathlib.Nat.{zero-lt-suc}
use native.Mathlib.Omega.{arith}
use lib.Dec.{eqb, ltb}
use lib.ListN.{length, take, get_or}
use borrow.Author.Tests.{eqb-true, ltb-false, lt-ltb}
use Rattle.std.specs.Prelude.{Err, Ok, Result, Some, None, Option}
use Rattle.refusal.specs.Outcome as call
use Rattle.byte_numbers.specs.Number.{Bytes, bytes_of}
use Rattle.byte_numbers.specs.Place.{byte_at, number_at}
use Rattle.frame.specs.Sealing.{framed, crc_fits}
use Rattle.frame.proofs.SealingLaws.{framed-of-fits}
use Rattle.calendar.specs.declared.date.Date.{Date}
use Rattle.slots.specs.Day.{slots_of}
use Rattle.meter_store.specs.Store.{key_of, count_at}
use Rattle.meter_store.proofs.StoreLaws.{RowFits}
use Rattle.reader.specs.Form.{length_for, function_for, head_of, form_of}
use Rattle.reader.specs.declared.form.Fault.{Fault}
use Rattle.reader.specs.declared.form.Fault.TheVariants as fault
use Rattle.byte_numbers.proofs.ByteLaws.{run as bytes_from, take-run, low_of, high-of}
use Rattle.log_cell.specs.Cell.{CountsFit}
use Rattle.log_header.proofs.HeaderLaws.{by-sound, sound-log, header-ranges}
use Rattle.log_header.specs.Header.{cells_of, sound_of}
use Rattle.log_header.specs.Interval.{interval_of}
use Rattle.log_header.proofs.IntervalLaws.{in-log, interval-below, by-at}
use Rattle.energy_log.specs.View.{View, view_of}
use Rattle.energy_log.proofs.ViewLaws.{changed, seen-are-cells, cell_in_lem, view_by, Whole}
use Rattle.log_cell.specs.declared.cell.Cell.{Cell}
use Rattle.log_cell.specs.declared.cell.Cell.TheVariants.{Gap, Empty, Measured}
use Rattle.log_header.specs.declared.header.Header.{Header}
use Rattle.energy_log.specs.declared.image.Change.{Change}
use Rattle.energy_log.specs.declared.image.Change.TheVariants as change
use Rattle.day_rows.specs.LogAndRows.{LogAndRows, log_and_rows}
use Rattle.logger.specs.Ask as Ask
use Rattle.logger.specs.Reply.{slice_form, result_of, row_of}
use Rattle.wire_values.specs.Row.{row, row_at, is_zero, alike}
use Rattle.wire_values.specs.declared.row.Row.{Row}
use Rattle.logger.specs.Take as Take
use Rattle.logger.specs.Lapse as Lapse
use Rattle.logger.specs.Book.{Call, ask, lapse, reply, Book, start_book, book_step, book_run, run_of, worked_out, lapses_out, CallBytes, AllBytes}
use Rattle.logger.specs.Run.{State, step, run}
use Rattle.logger.specs.Ask.{Asked}
use Rattle.logger.specs.declared.held.OpenAsk.{OpenAsk}
use Rattle.logger.specs.Lapse.{LapseDecision}
use Rattle.logger.specs.declared.take.Update.TheVariants.{Put, Keep, Conflict}
use Rattle.logger.specs.Held.{opened_for}
use Rattle.logger.proofs.FigureLaws.{Faithful, step-faithful, run-faithful}
use Rattle.logger.proofs.LapseLaws.{lapsing-ways, lapsed-seen}
use Rattle.logger.proofs.StepLaws.{Sane, step-sane, whole, seen_here}
use Rattle.logger.proofs.TakeLaws.{Step, Heard, by-none, decided-cases, update-cases, decided-ways, taken-seen}
use Rattle.claims.specs.Demand3.{Start, begin, ran, booked}
use Rattle.claims.specs.Metered.{Came, FromMeters}
use Rattle.claims.specs.RegisterToCell.{all_zero, measured_by, cell_after, slice_answer, slice_on, is_skipped, SlotOn, LogWith, AskedFor}
use Rattle.claims.proofs.History.{start-sane, start-faithful, start_seen, log}
use Rattle.claims.proofs.RegisterToCell.{dated, exists-on, interval-on, asked, counts, answer-row, frame-answered, taken-into}
use Rattle.claims.proofs.Seasons.{stay_gaps}
use Rattle.claims.proofs.Wire.{slice_fits}

-- what holds of both values holds of the one that a test chooses
by_cond : {A : Type 0} (P : A → Type 0) (b : Bool) {x y : A} → (b ≡ true → P x) → (b ≡ false → P y) → P (cond b x y)
by_cond P true k l = k refl
by_cond P false k l = l refl

not-true : (b : Bool) → not b ≡ true → b ≡ false
not-true true e = absurd (false≢true e)
not-true false e = refl

-- ---- cells stay cells

good-changed : (ch : Change) (v : View) (i : ℕ) (old : Cell) → v.cell i ≡ Some old → (new : Cell) × ((changed ch v).cell i ≡ Some new)
unfolding changed
good-changed change.None v i old g = (old, g)
good-changed (change.Put j c) v i old g = go (eqb i j)
  where
    go : (b : Bool) → (new : Cell) × (cond b (Some c) (v.cell i) ≡ Some new)
    go true = (c, refl)
    go false = (old, g)
good-changed (change.Lapses j n) v i old g = (old, g)

good-step : (s : State) (c : Call) (i : ℕ) (old : Cell) → CallBytes c → (view_of s.log).cell i ≡ Some old
    → (new : Cell) × ((view_of (step s c).left.log).cell i ≡ Some new)
unfolding step
good-step s (ask address day slot out) i old k g = (old, g)
good-step s lapse i old k g =
    let v = view_of s.log in
    let w = good-changed (Lapse.lapsing v s.held).change v i old g in
    (w.0, ap (λ (x : View). x.cell i) (lapsed-seen s.log s.held) ∙ w.1)
good-step s (reply y) i old k g =
    let v = view_of s.log in
    let w = good-changed (Take.decided v s.figures s.held y).result.change v i old g in
    (w.0, ap (λ (x : View). x.cell i) (taken-seen s.log s.figures s.held y k) ∙ w.1)

good-run : (calls : List Call) (s : State) (i : ℕ) (old : Cell) → AllBytes calls → (view_of s.log).cell i ≡ Some old
    → (new : Cell) × ((view_of (run s calls).left.log).cell i ≡ Some new)
unfolding run_of
good-run [] s i old k g = (old, g)
good-run (c ∷ calls) s i old k g = let w = good-step s c i old k.0 g in good-run calls (step s c).left i w.0 k.1 w.1

-- the whole history's `met`: after any calls the log has what `RegisterToCell` asks of one, for every cell
pub met : (b : LogAndRows) (start : Start b) (calls : List Call) → AllBytes calls → let h = start.header in let s = (ran b calls).left in
    (i : ℕ) → i < h.days * slots_of h.minutes → (c : Cell) × LogWith (log_and_rows s.log s.figures) h i c
unfolding cells_of
met b start calls k i l =
    let f = run-faithful start.header calls (begin b) k (start-faithful start) in
    let seen : (view_of b.log).cell i ≡ Some _ =
    ap (λ (v : View). v.cell i) (start_seen start) ∙ cell_in_lem start.cells i (omega (arith, l, start.count)) in
    let w = good-run calls (begin b) i _ k seen in
    (w.0, record { bytes = f.bytes; lent = f.sound; figures = f.right; cell = w.1 })

-- ---- the log after any calls is one to start from

run-sane : (h : Header) (calls : List Call) (b : Book) → AllBytes calls → Sane h b → Sane h (book_run h b calls).left
unfolding run_of
run-sane h [] b k s = s
run-sane h (c ∷ calls) b k s = run-sane h calls (book_step h b c).left k.1 (step-sane h b c s k.0)

module _ (b : LogAndRows) (start : Start b) (calls : List Call) (k : AllBytes calls) where
  abbrev book : Book
  book = (booked start calls).left

  abbrev cells-now : List Cell
  cells-now = worked_out book.kept 0 (cells_of start.header)

  sane : Sane start.header book
  sane = run-sane start.header calls (start_book start.cells start.lapses) k (start-sane start.header start.cells start.lapses start.each)

  made : Whole start.header cells-now (lapses_out book.lapses)
  made = whole start.header book.kept book.lapses [] sane.rows start.right

  view-now : view_of (ran b calls).left.log ≡ view_by start.header cells-now (lapses_out book.lapses)
  view-now = ap view_of (log b start calls k) ∙ seen_here start.header book.kept book.lapses [] sane.rows start.right

  good-same : (c d : Cell) → Some c ≡ Some d → c ≡ d
  good-same c d p = cc

  -- the whole history's `again`: after any calls the log is one to start from, with the header that it had
  pub again : let s = (ran b calls).left in (now : Start (log_and_rows s.log s.figures)) × (now.header ≡ start.header)
  again = (
    record {
      header = start.header;
      cells = cells-now;
      lapses = lapses_out book.lapses;
      right = made.right;
      count = made.count;
      each = made.each;
      fit = made.fit;
      gaps = λ i l x.
          good-same (get_or cells-now i Gap) Gap
          (sym (cell_in_lem cells-now i l) ∙ sym (ap (λ (v : View). v.cell i) view-now) ∙ (stay_gaps b start calls k i (omega (arith, l, made.count)) x).0);
      quiet = λ i l x.
          sym (simp (lt-ltb i (length cells-now) l)) ∙ sym (ap (λ (v : View). v.lapses i) view-now) ∙ (stay_gaps b start calls k i (omega (arith, l, made.count)) x).1;
      image = log b start calls k;
      figures = (run-faithful start.header calls (begin b) k (start-faithful start)).right;
    },
    refl,
  )

-- ---- a well-formed reply with result 0, by its bytes

faulty≢formed : (f : Fault) → ◌≡◌ {A = Result Unit Fault} (Err f) (Ok tt) → ⊥
faulty≢formed f p = let z : ◌≡◌ {A = ℕ} 0 1 = cc in omega arith

-- what its checks say
record Formed (address : ℕ) (y : List ℕ) : Type 0 where
  size : length y ≡ 14
  crc : crc_fits y ≡ true
  address_is : byte_at y 0 ≡ address
  function-is : byte_at y 1 ≡ 3
  parameter-is : byte_at y 2 ≡ 36

all_pass : (a b c d e : Bool) (f : Fault)
    → ◌≡◌ {A = Result Unit Fault}
    (cond a (cond b (cond c (cond d (cond e (Ok tt) (Err fault.Parameter)) (Err fault.Function)) (Err fault.Address)) (Err fault.Crc)) (Err f)) (Ok tt)
    → (a ≡ true) × (b ≡ true) × (c ≡ true) × (d ≡ true) × (e ≡ true)
all_pass true true true true true f p = (refl, refl, refl, refl, refl)
all_pass true true true true false f p = absurd (faulty≢formed fault.Parameter p)
all_pass true true true false e f p = absurd (faulty≢formed fault.Function p)
all_pass true true false d e f p = absurd (faulty≢formed fault.Address p)
all_pass true false c d e f p = absurd (faulty≢formed fault.Crc p)
all_pass false b c d e f p = absurd (faulty≢formed f p)

formed : (address : ℕ) (y : List ℕ) → slice_form address y ≡ Ok tt → result_of y ≡ 0 → Formed address y
unfolding form_of head_of function_for length_for
formed address y p z =
    let w =
    all_pass (eqb (length y) (length_for (byte_at y 1) 14)) (crc_fits y) (eqb (byte_at y 0) address) (eqb (byte_at y 1) (function_for 3 (byte_at y 3))) (eqb (byte_at y 2) 36)
    (fault.Length (length y)) p in
    let f : byte_at y 1 ≡ 3 = eqb-true _ _ (rw z at w.3) in
    record {
      size = eqb-true _ _ (rw f at w.0);
      crc = w.1;
      address_is = eqb-true _ _ w.2;
      function-is = f;
      parameter-is = eqb-true _ _ w.4;
    }

heard-is : (address : ℕ) (y : List ℕ) (e+ e- r+ r- : ℕ) → Bytes y → slice_form address y ≡ Ok tt → result_of y ≡ 0 → row_of y ≡ row e+ e- r+ r-
    → y ≡ slice_answer address (e+ ∷ e- ∷ r+ ∷ r- ∷ [])
unfolding slice_answer row_at bytes_from bytes_of
heard-is address y e+ e- r+ r- b p z q =
    let f = formed address y p z in
    let n : length y ≡ 14 = f.size in
    let part : take 12 y ≡ bytes_from y 0 12 = take-run 12 0 y (omega (arith, n)) in
    let at : (i n : ℕ) → number_at y i 2 ≡ n → (byte_at y i ≡ n % 256) × (byte_at y (i + 1) ≡ n / 256 % 256) = λ i n e. (low_of y i n b e, high-of y i n b e) in
    let w = at 4 e+ (ap (λ (x : Row). x.e_plus) q) in
    let x = at 6 e- (ap (λ (x : Row). x.e_minus) q) in
    let u = at 8 r+ (ap (λ (x : Row). x.r_plus) q) in
    let v = at 10 r- (ap (λ (x : Row). x.r_minus) q) in
    framed-of-fits y b f.crc
    ∙ ap framed (ap (λ (k : ℕ). take (k - 2) y) n ∙ part ∙ rw (f.address_is, f.function-is, f.parameter-is, z, w.0, w.1, x.0, x.1, u.0, u.1, v.0, v.1) refl)

-- ---- one call, backwards

-- the reply that filled cell i: well formed, with result 0, for the ask that was open for it
record Filled (h : Header) (s : State) (c : Call) (i e+ e- r+ r- : ℕ) : Type 0 where
  address : ℕ
  day : ℕ
  slot : ℕ
  y : List ℕ
  called : c ≡ reply y
  held : s.held ≡ opened_for address day slot
  interval : interval_of h day slot ≡ Some i
  bytes : y ≡ slice_answer address (e+ ∷ e- ∷ r+ ∷ r- ∷ [])

-- a row that puts a measured cell is that cell's
puts-row : (c : Cell) (r : Row) (e+ e- r+ r- : ℕ) → Take.update_of c r ≡ Put (Measured e+ e- r+ r-) → r ≡ row e+ e- r+ r-
unfolding Take.update_of
puts-row c r e+ e- r+ r- p = go c p
  where
    fills : (b : Bool) → cond b (Put Empty) (Put (Measured r.e_plus r.e_minus r.r_plus r.r_minus)) ≡ Put (Measured e+ e- r+ r-) → r ≡ row e+ e- r+ r-
    fills true q = let z : ◌≡◌ {A = ℕ} 0 1 = cc in absurd (omega arith)
    fills false q =
        let a : r.e_plus ≡ e+ = cc in
        let b : r.e_minus ≡ e- = cc in
        let c : r.r_plus ≡ r+ = cc in
        let d : r.r_minus ≡ r- = cc in
        rw (← a, ← b, ← c, ← d) refl

    stays : (a b : Bool) → cond a Keep (cond b Keep Conflict) ≡ Put (Measured e+ e- r+ r-) → r ≡ row e+ e- r+ r-
    stays true b q = let z : ◌≡◌ {A = ℕ} 0 1 = cc in absurd (omega arith)
    stays false true q = let z : ◌≡◌ {A = ℕ} 0 1 = cc in absurd (omega arith)
    stays false false q = let z : ◌≡◌ {A = ℕ} 0 1 = cc in absurd (omega arith)

    go : (c : Cell) → Take.update_of c r ≡ Put (Measured e+ e- r+ r-) → r ≡ row e+ e- r+ r-
    go Gap q = fills (is_zero r) q
    go Empty q = fills (is_zero r) q
    go (Measured a b c d) q = stays (is_zero r) (alike (row a b c d) r) q

module _ (h : Header) (s : State) (y : List ℕ) (i e+ e- r+ r- : ℕ) (sound : sound_of s.log ≡ Some h) (bytes : Bytes y) where
  abbrev v : View
  v = view_of s.log

  abbrev m : Cell
  m = Measured e+ e- r+ r-

  abbrev Back : Step → Type 0
  Back o = (changed o.result.change v).cell i ≡ Some m → (v.cell i ≡ Some m) ⊎ Filled h s (reply y) i e+ e- r+ r-

  put_back : (g : Header) (j : ℕ) (old new : Cell) → g ≡ h → (o : Heard g s.held y j) → result_of y ≡ 0 → Take.update_of old (row_of y) ≡ Put new → (b : Bool) → eqb i j ≡ b
      → cond b (Some new) (v.cell i) ≡ Some m → (v.cell i ≡ Some m) ⊎ Filled h s (reply y) i e+ e- r+ r-
  put_back g j old new same o z q true e p =
      let is : new ≡ m = cc (p) in
      let row_is : row_of y ≡ row e+ e- r+ r- = puts-row old (row_of y) e+ e- r+ r- (q ∙ ap Put is) in
      inr (record {
        address = o.ask.address;
        day = o.ask.day;
        slot = o.ask.slot;
        y = y;
        called = refl;
        held = o.ask.open_ask;
        interval = subst (λ (x : Header). interval_of x o.ask.day o.ask.slot ≡ Some i) same (o.ask.interval ∙ ap Some (sym (eqb-true i j e)));
        bytes = heard-is o.ask.address y e+ e- r+ r- bytes o.formed z row_is;
      })
  put_back g j old new same o z q false e p = inl p

  reply-back : Back (Take.decided v s.figures s.held y)
  unfolding changed
  reply-back =
      decided-cases Back v s.figures s.held y (λ e p. inl p) (λ g e.
      record {
        few = λ n p. inl p;
        no-ask = λ n p. inl p;
        outside = λ a d t o n p. inl p;
        malformed = λ j o fault n p. inl p;
        refused = λ j o n p. inl p;
        bad-cell = λ j o n p. inl p;
        counted = λ j o ok c good.
            update-cases Back _ s.held o.ask.day j c s.figures (Take.update_of c (row_of y))
            (λ new q done p. put_back g j c new (let x : Some g ≡ Some h = sym e ∙ sound in cc) o (eqb-true (result_of y) 0 ok) q (eqb i j) refl p)
            (λ p. inl p) (λ p. inl p) (λ p. inl p);
      })

lapse-back : (s : State) (i : ℕ) → (changed (Lapse.lapsing (view_of s.log) s.held).change (view_of s.log)).cell i ≡ (view_of s.log).cell i
unfolding changed
lapse-back s i =
    lapsing-ways (λ (d : LapseDecision). (changed d.change (view_of s.log)).cell i ≡ (view_of s.log).cell i) (view_of s.log) s.held (record {
      none = λ e. refl;
      refused = λ a n. refl;
      counted = λ h j e o. refl;
    })

-- a cell that is measured after a call was so before it, or the call filled it
cell-back : (h : Header) (s : State) (c : Call) (i e+ e- r+ r- : ℕ) → sound_of s.log ≡ Some h → CallBytes c
    → (view_of (step s c).left.log).cell i ≡ Some (Measured e+ e- r+ r-)
    → ((view_of s.log).cell i ≡ Some (Measured e+ e- r+ r-)) ⊎ Filled h s c i e+ e- r+ r-
unfolding step
cell-back h s (ask address day slot out) i e+ e- r+ r- sound k p = inl p
cell-back h s lapse i e+ e- r+ r- sound k p =
    inl (sym (lapse-back s i) ∙ sym (ap (λ (x : View). x.cell i) (lapsed-seen s.log s.held)) ∙ p)
cell-back h s (reply y) i e+ e- r+ r- sound k p =
    reply-back h s y i e+ e- r+ r- sound k (sym (ap (λ (x : View). x.cell i) (taken-seen s.log s.figures s.held y k)) ∙ p)

-- the ask that opened
record Opened (h : Header) (s : State) (c : Call) (address day slot : ℕ) : Type 0 where
  room : List ℕ
  date : Date
  called : c ≡ ask address day slot room
  slot_on : SlotOn h day slot date
  asked : AskedFor (Ask.asked (view_of s.log) s.held address day slot room) address day slot date room

closed≢open : (a d t : ℕ) → None ≡ opened_for a d t → ⊥
closed≢open a d t p = let z : ◌≡◌ {A = ℕ} 0 1 = cc in omega arith

module _ (h : Header) (s : State) (sound : sound_of s.log ≡ Some h) (address day slot : ℕ) where
  abbrev Before : Call → Option OpenAsk → Type 0
  Before c held = held ≡ opened_for address day slot → (s.held ≡ opened_for address day slot) ⊎ Opened h s c address day slot

  slot_of : (i : ℕ) → interval_of h day slot ≡ Some i → (date : Date) × SlotOn h day slot date
  slot_of i p =
      let w = in-log h day slot i p in
      let right = (sound-log s.log h sound).ranges in
      let d = dated h day right w.day-below in
      let same = exists-on h day slot d.0 d.1 (header-ranges h right).start in
      (d.0, record { day_in = w.day-below; slot_in = w.slot-below; there = not-true (is_skipped h d.0 slot) (sym same ∙ w.there); on = d.1 })

  now-open : (g : Header) (room : List ℕ) (i : ℕ) → sound_of s.log ≡ Some g → ltb (length room) 8 ≡ false → s.held ≡ None → interval_of g day slot ≡ Some i
      → Opened h s (ask address day slot room) address day slot
  now-open g room i e l none p =
      let x : Some g ≡ Some h = sym e ∙ sound in
      let same : g ≡ h = cc in
      let w = slot_of i (subst (λ (x : Header). interval_of x day slot ≡ Some i) same p) in
      record {
        room = room;
        date = w.0;
        called = refl;
        slot_on = w.1;
        asked = subst (λ (o : Option OpenAsk). AskedFor (Ask.asked (view_of s.log) o address day slot room) address day slot w.0 room) (sym none)
            (asked s.log h address day slot w.0 room sound w.1 (ltb-false (length room) 8 l));
      }

  ask-opens : (a d t : ℕ) (room : List ℕ) → Before (ask a d t room) (Ask.asked (view_of s.log) s.held a d t room).result.held
  unfolding Ask.asked
  ask-opens a d t room =
      by_cond P (ltb (length room) 8) (λ l p. inl p) (λ l.
      by-sound P (sound_of s.log) (λ e p. inl p) (λ g e.
      by-none P s.held (λ x y z o p. inl p) (λ none.
      by-at P (interval_of g d t) (λ n p. inl p) (opens g e l none))))
    where
      P : call.Outcome Asked (List ℕ) → Type 0
      P o = Before (ask a d t room) o.result.held

      opens : (g : Header) → sound_of s.log ≡ Some g → ltb (length room) 8 ≡ false → s.held ≡ None → (i : ℕ) → interval_of g d t ≡ Some i
          → Before (ask a d t room) (opened_for a d t)
      opens g e l none i n p =
          let same : ◌≡◌ {A = OpenAsk} (record { address = a; day = d; slot = t }) (record { address = address; day = day; slot = slot }) = cc in
          inr (subst (λ (o : OpenAsk). Opened h s (ask o.address o.day o.slot room) address day slot) (sym same)
          (now-open g room i e l none (subst (λ (o : OpenAsk). interval_of g o.day o.slot ≡ Some i) same n)))

  lapse-opens : Before lapse (Lapse.lapsing (view_of s.log) s.held).answered.held
  lapse-opens =
      lapsing-ways (λ (d : LapseDecision). Before lapse d.answered.held) (view_of s.log) s.held (record {
        none = λ e p. absurd (closed≢open address day slot p);
        refused = λ a n p. inl p;
        counted = λ g j e o p. absurd (closed≢open address day slot p);
      })

  reply-opens : (y : List ℕ) → Before (reply y) (Take.decided (view_of s.log) s.figures s.held y).result.answered.held
  reply-opens y =
      decided-ways (λ (o : Step). Before (reply y) o.result.answered.held) (view_of s.log) s.figures s.held y (record {
        kept-open = λ a n p. inl p;
        closed = λ a n p. absurd (closed≢open address day slot p);
        put = λ g j old c e o held-here is done p. absurd (closed≢open address day slot p);
      })

  -- an ask that is open after a call was open before it, or the call opened it
  held_back : (c : Call) → Before c (step s c).left.held
  unfolding step Lapse.lapsed Take.taken
  held_back (ask a d t room) = ask-opens a d t room
  held_back lapse = lapse-opens
  held_back (reply y) = reply-opens y

-- ---- all calls, backwards

-- a reply that comes while the ask that is open now stays so
record Still (s : State) (h : Header) (calls : List Call) (i address day slot : ℕ) (row : List ℕ) : Type 0 where
  between : List Call
  heard : List ℕ
  after : List Call
  are : calls ≡ between ++ (reply heard ∷ after)
  interval : interval_of h day slot ≡ Some i
  still : (front back : List Call) → between ≡ front ++ back → (run s front).left.held ≡ opened_for address day slot
  bytes : heard ≡ slice_answer address row

data Traced (s : State) (h : Header) (calls : List Call) (i e+ e- r+ r- : ℕ) : Type 0 where
  there : (view_of s.log).cell i ≡ Some (Measured e+ e- r+ r-) → Traced s h calls i e+ e- r+ r-
  open-now : (address day slot : ℕ) → s.held ≡ opened_for address day slot → Still s h calls i address day slot (e+ ∷ e- ∷ r+ ∷ r- ∷ [])
      → Traced s h calls i e+ e- r+ r-
  came : Came s h calls i (e+ ∷ e- ∷ r+ ∷ r- ∷ []) → Traced s h calls i e+ e- r+ r-

-- one call before the moment
tail : {A : Type 0} (x y : A) (xs ys : List A) → x ∷ xs ≡ y ∷ ys → (x ≡ y) × (xs ≡ ys)
tail x y xs ys p = (cc, cc)

no_call : (c : Call) (cs : List Call) → [] ≡ c ∷ cs → ⊥
no_call c cs p = let z : ◌≡◌ {A = ℕ} 0 1 = cc in omega arith

module _ (h : Header) (s : State) (c : Call) (calls : List Call) (i : ℕ) (row : List ℕ) where
  abbrev next : State
  next = (step s c).left

  still-more : (address day slot : ℕ) → s.held ≡ opened_for address day slot → Still next h calls i address day slot row → Still s h (c ∷ calls) i address day slot row
  unfolding run_of
  still-more address day slot held m = record {
    between = c ∷ m.between;
    heard = m.heard;
    after = m.after;
    are = ap (λ (cs : List Call). c ∷ cs) m.are;
    interval = m.interval;
    still = go;
    bytes = m.bytes;
  }
    where
      go : (front back : List Call) → c ∷ m.between ≡ front ++ back → (run s front).left.held ≡ opened_for address day slot
      go [] back p = held
      go (x ∷ front) back p =
          let q = tail c x m.between (front ++ back) p in
          subst (λ (z : Call). (run s (z ∷ front)).left.held ≡ opened_for address day slot) q.0 (m.still front back q.1)

  came-first : (address day slot : ℕ) → Opened h s c address day slot → Still next h calls i address day slot row → Came s h (c ∷ calls) i row
  unfolding run_of
  came-first address day slot o m = record {
    before = [];
    address = address;
    day = day;
    slot = slot;
    date = o.date;
    room = o.room;
    between = m.between;
    heard = m.heard;
    after = m.after;
    are = ap₂ (λ (x : Call) (cs : List Call). x ∷ cs) o.called m.are;
    slot_on = o.slot_on;
    index = (in-log h day slot i m.interval).index;
    asked = o.asked;
    still = λ front back p. subst (λ (z : Call). (run s (z ∷ front)).left.held ≡ opened_for address day slot) o.called (m.still front back p);
    bytes = m.bytes;
  }

  came-later : Came next h calls i row → Came s h (c ∷ calls) i row
  unfolding run_of
  came-later m = record {
    before = c ∷ m.before;
    address = m.address;
    day = m.day;
    slot = m.slot;
    date = m.date;
    room = m.room;
    between = m.between;
    heard = m.heard;
    after = m.after;
    are = ap (λ (cs : List Call). c ∷ cs) m.are;
    slot_on = m.slot_on;
    index = m.index;
    asked = m.asked;
    still = m.still;
    bytes = m.bytes;
  }

now-filled : (h : Header) (s : State) (c : Call) (calls : List Call) (i e+ e- r+ r- : ℕ) → Filled h s c i e+ e- r+ r- → Traced s h (c ∷ calls) i e+ e- r+ r-
unfolding run_of
now-filled h s c calls i e+ e- r+ r- f =
    open-now f.address f.day f.slot f.held (record {
      between = [];
      heard = f.y;
      after = calls;
      are = ap (λ (x : Call). x ∷ calls) f.called;
      interval = f.interval;
      still = go;
      bytes = f.bytes;
    })
  where
    go : (front back : List Call) → [] ≡ front ++ back → (run s front).left.held ≡ opened_for f.address f.day f.slot
    go [] back p = f.held
    go (x ∷ front) back p = absurd (no_call x (front ++ back) p)

trace : (h : Header) (calls : List Call) (s : State) (i e+ e- r+ r- : ℕ) → AllBytes calls → Faithful h s
    → (view_of (run s calls).left.log).cell i ≡ Some (Measured e+ e- r+ r-) → Traced s h calls i e+ e- r+ r-
unfolding run_of
trace h [] s i e+ e- r+ r- k f p = there p
trace h (c ∷ calls) s i e+ e- r+ r- k f p = go (trace h calls (step s c).left i e+ e- r+ r- k.1 (step-faithful h s c k.0 f) p)
  where
    was : ((view_of s.log).cell i ≡ Some (Measured e+ e- r+ r-)) ⊎ Filled h s c i e+ e- r+ r- → Traced s h (c ∷ calls) i e+ e- r+ r-
    was (inl g) = there g
    was (inr x) = now-filled h s c calls i e+ e- r+ r- x

    opened : (a d t : ℕ) → Still (step s c).left h calls i a d t (e+ ∷ e- ∷ r+ ∷ r- ∷ []) → (s.held ≡ opened_for a d t) ⊎ Opened h s c a d t
        → Traced s h (c ∷ calls) i e+ e- r+ r-
    opened a d t m (inl held) = open-now a d t held (still-more h s c calls i _ a d t held m)
    opened a d t m (inr o) = came (came-first h s c calls i _ a d t o m)

    go : Traced (step s c).left h calls i e+ e- r+ r- → Traced s h (c ∷ calls) i e+ e- r+ r-
    go (there g) = was (cell-back h s c i e+ e- r+ r- f.sound k.0 g)
    go (open-now a d t held m) = opened a d t m (held_back h s f.sound a d t c held)
    go (came m) = came (came-later h s c calls i _ m)

gap≢measured : (e+ e- r+ r- : ℕ) → Some Gap ≡ Some (Measured e+ e- r+ r-) → ⊥
gap≢measured e+ e- r+ r- p = let z : ◌≡◌ {A = ℕ} 0 1 = cc in omega arith

-- the whole history's `measured`: a gap that is measured now got its counts from a reply to an ask for it
pub measured : (b : LogAndRows) (start : Start b) (calls : List Call) → AllBytes calls → (i e+ e- r+ r- : ℕ) → (view_of b.log).cell i ≡ Some Gap
    → (view_of (ran b calls).left.log).cell i ≡ Some (Measured e+ e- r+ r-) → Came (begin b) start.header calls i (e+ ∷ e- ∷ r+ ∷ r- ∷ [])
measured b start calls k i e+ e- r+ r- gap p = go (trace start.header calls (begin b) i e+ e- r+ r- k (start-faithful start) p)
  where
    go : Traced (begin b) start.header calls i e+ e- r+ r- → Came (begin b) start.header calls i (e+ ∷ e- ∷ r+ ∷ r- ∷ [])
    go (there g) = absurd (gap≢measured e+ e- r+ r- (sym gap ∙ g))
    go (open-now a d t held m) = absurd (closed≢open a d t held)
    go (came m) = m

-- ---- the meters' slices

-- four counts that fit two bytes each
row-fits-four : (e+ e- r+ r- : ℕ) → CountsFit e+ e- r+ r- → RowFits (e+ ∷ e- ∷ r+ ∷ r- ∷ [])
row-fits-four e+ e- r+ r- f = record { four = refl; below = below }
  where
    below : (i : ℕ) → count_at (e+ ∷ e- ∷ r+ ∷ r- ∷ []) i < 65536
    below zero = f.e_plus
    below (suc zero) = f.e_minus
    below (suc (suc zero)) = f.r_plus
    below (suc (suc (suc zero))) = f.r_minus
    below (suc (suc (suc (suc i)))) = zero-lt-suc 65535

-- the whole history's `by_meters`: where meters answered, these are a meter's slice of the cell's date and slot
pub by_meters : (b : LogAndRows) (start : Start b) (calls : List Call) → AllBytes calls → (meters : FromMeters (begin b) start.header calls)
    → (i e+ e- r+ r- : ℕ) → (view_of b.log).cell i ≡ Some Gap → (view_of (ran b calls).left.log).cell i ≡ Some (Measured e+ e- r+ r-)
    → let row = e+ ∷ e- ∷ r+ ∷ r- ∷ [] in
    (m : Came (begin b) start.header calls i row) × (Measured e+ e- r+ r- ≡ measured_by (slice_on (meters i row m).store m.date m.slot))
by_meters b start calls k meters i e+ e- r+ r- gap p =
    let xs = e+ ∷ e- ∷ r+ ∷ r- ∷ [] in
    let m = measured b start calls k i e+ e- r+ r- gap p in
    let w = meters i xs m in
    let slice = slice_on w.store m.date m.slot in
    let f = run-faithful start.header calls (begin b) k (start-faithful start) in
    let fits = row-fits-four e+ e- r+ r- (seen-are-cells (ran b calls).left.log f.bytes i (Measured e+ e- r+ r-) p).fits in
    let said = frame-answered w.of w.store m.address m.date m.slot w.out w.number in
    let same : slice_answer m.address xs ≡ slice_answer m.address slice = sym m.bytes ∙ sym w.reply ∙ said.reply in
    let rows : counts xs ≡ counts slice =
    sym (answer-row m.address xs fits) ∙ ap row_of same
    ∙ answer-row m.address slice (slice_fits w.store (key_of m.date.month m.date.day m.slot) w.store_bytes) in
    (m, ap (λ (k : Row). Measured k.e_plus k.e_minus k.r_plus k.r_minus) rows)

-- ---- what came is kept

-- a measured cell is never put again
module _ (s : State) (i e+ e- r+ r- : ℕ) (g : (view_of s.log).cell i ≡ Some (Measured e+ e- r+ r-)) where
  never-put : (r : Row) (c : Cell) → Take.update_of (Measured e+ e- r+ r-) r ≡ Put c → ⊥
  unfolding Take.update_of
  never-put r c q = go (is_zero r) (alike (row e+ e- r+ r-) r) q
    where
      go : (a b : Bool) → cond a Keep (cond b Keep Conflict) ≡ Put c → ⊥
      go true b p = let z : ◌≡◌ {A = ℕ} 0 1 = cc in omega arith
      go false true p = let z : ◌≡◌ {A = ℕ} 0 1 = cc in omega arith
      go false false p = let z : ◌≡◌ {A = ℕ} 0 1 = cc in omega arith

  put-stays : (j : ℕ) (old new : Cell) (r : Row) → (view_of s.log).cell j ≡ Some old → Take.update_of old r ≡ Put new → (b : Bool) → eqb i j ≡ b
      → cond b (Some new) ((view_of s.log).cell i) ≡ Some (Measured e+ e- r+ r-)
  put-stays j old new r held q true e =
      let same : i ≡ j = eqb-true i j e in
      let is : Some old ≡ Some (Measured e+ e- r+ r-) = sym held ∙ ap (view_of s.log).cell (sym same) ∙ g in
      let cell : old ≡ Measured e+ e- r+ r- = cc in
      absurd (never-put r new (ap (λ (c : Cell). Take.update_of c r) (sym cell) ∙ q))
  put-stays j old new r held q false e = g

  measured-stays : (c : Call) → CallBytes c → (view_of (step s c).left.log).cell i ≡ Some (Measured e+ e- r+ r-)
  unfolding step changed
  measured-stays (ask address day slot out) k = g
  measured-stays lapse k = ap (λ (x : View). x.cell i) (lapsed-seen s.log s.held) ∙ lapse-back s i ∙ g
  measured-stays (reply y) k =
      ap (λ (x : View). x.cell i) (taken-seen s.log s.figures s.held y k)
      ∙ decided-cases (λ (o : Step). (changed o.result.change (view_of s.log)).cell i ≡ Some (Measured e+ e- r+ r-)) (view_of s.log) s.figures s.held y
      (λ e. g) (λ h e.
      record {
        few = λ n. g;
        no-ask = λ n. g;
        outside = λ a d t o n. g;
        malformed = λ j o fault n. g;
        refused = λ j o n. g;
        bad-cell = λ j o n. g;
        counted = λ j o ok c good.
            update-cases (λ (o : Step). (changed o.result.change (view_of s.log)).cell i ≡ Some (Measured e+ e- r+ r-)) _ s.held o.ask.day j c s.figures
            (Take.update_of c (row_of y)) (λ new q done. put-stays j c new (row_of y) good q (eqb i j) refl) g g g;
      })

run-stays : (calls : List Call) (s : State) (i e+ e- r+ r- : ℕ) → AllBytes calls → (view_of s.log).cell i ≡ Some (Measured e+ e- r+ r-)
    → (view_of (run s calls).left.log).cell i ≡ Some (Measured e+ e- r+ r-)
unfolding run_of
run-stays [] s i e+ e- r+ r- k g = g
run-stays (c ∷ calls) s i e+ e- r+ r- k g = run-stays calls (step s c).left i e+ e- r+ r- k.1 (measured-stays s i e+ e- r+ r- g c k.0)

-- calls one after the other
run-append : (xs ys : List Call) (s : State) → (run s (xs ++ ys)).left ≡ (run (run s xs).left ys).left
unfolding run_of
run-append [] ys s = refl
run-append (c ∷ xs) ys s = run-append xs ys (step s c).left

bytes-split : (xs ys : List Call) → AllBytes (xs ++ ys) → AllBytes xs × AllBytes ys
bytes-split [] ys k = (tt, k)
bytes-split (c ∷ xs) ys k = let w = bytes-split xs ys k.1 in ((k.0, w.0), w.1)

-- a slice that is not all zeros leaves its cell measured
after-measured : (c : Cell) (xs : List ℕ) → all_zero xs ≡ false → (of : List ℕ) × (cell_after c xs ≡ measured_by of)
unfolding cell_after
after-measured Gap xs z = (xs, simp z)
after-measured Empty xs z = (xs, simp z)
after-measured (Measured e+ e- r+ r-) xs z = (e+ ∷ e- ∷ r+ ∷ r- ∷ [], refl)

-- an address that came in a byte is one
came-byte : (address : ℕ) (xs : List ℕ) → Bytes (slice_answer address xs) → address < 256
unfolding slice_answer framed
came-byte address xs b = b 0

module _ (b : LogAndRows) (start : Start b) (calls : List Call) (k : AllBytes calls) (i : ℕ) (xs : List ℕ) (m : Came (begin b) start.header calls i xs)
    (fits : (n : ℕ) → count_at xs n < 65536) (nonzero : all_zero xs ≡ false) where
  abbrev h : Header
  h = start.header

  abbrev four : List ℕ
  four = count_at xs 0 ∷ count_at xs 1 ∷ count_at xs 2 ∷ count_at xs 3 ∷ []

  abbrev j : ℕ
  j = m.day * slots_of h.minutes + m.slot

  abbrev first : List Call
  first = m.before ++ (ask m.address m.day m.slot m.room ∷ m.between)

  abbrev t : State
  t = (ran b first).left

  parts : calls ≡ first ++ (reply m.heard ∷ m.after)
  parts = m.are ∙ sym (append_assoc m.before (ask m.address m.day m.slot m.room ∷ m.between) (reply m.heard ∷ m.after))

  bytes : AllBytes first × AllBytes (reply m.heard ∷ m.after)
  bytes = bytes-split first (reply m.heard ∷ m.after) (subst AllBytes parts k)

  filled : (of : List ℕ) × ((view_of (step t (reply m.heard)).left.log).cell j ≡ Some (measured_by of))
  unfolding step slice_answer all_zero cells_of
  filled =
      let l = interval-below h m.day m.slot j (interval-on h m.day m.slot m.date m.slot_on) in
      let w = met b start first bytes.0 j l in
      let held : t.held ≡ opened_for m.address m.day m.slot = m.still m.between [] (sym (append-nil m.between)) in
      let small = came-byte m.address xs (subst Bytes m.bytes bytes.1.0) in
      let fit = row-fits-four (count_at xs 0) (count_at xs 1) (count_at xs 2) (count_at xs 3)
      (record { e_plus = fits 0; e_minus = fits 1; r_plus = fits 2; r_minus = fits 3 }) in
      let into = taken-into (log_and_rows t.log t.figures) h m.address m.day m.slot m.date w.0 four m.slot_on w.1 small fit in
      let z = after-measured w.0 four nonzero in (
        z.0,
        ap₂ (λ (o : Option OpenAsk) (y : List ℕ). (view_of (Take.taken (log_and_rows t.log t.figures) o y).left.log).cell j) held m.bytes
            ∙ into.cell ∙ ap Some z.1,
      )

  -- the whole history's `kept`: a slice that came and is not all zeros is not lost, its cell is measured
  pub kept : (of : List ℕ) × ((view_of (ran b calls).left.log).cell i ≡ Some (measured_by of))
  unfolding run_of
  kept =
      let w = filled in
      let after = (step t (reply m.heard)).left in
      let same : (ran b calls).left ≡ (run after m.after).left =
      ap (λ (cs : List Call). (ran b cs).left) parts ∙ run-append first (reply m.heard ∷ m.after) (begin b) in
      let g = run-stays m.after after j (count_at w.0 0) (count_at w.0 1) (count_at w.0 2) (count_at w.0 3) bytes.1.1 w.1 in
      (w.0, ap (λ (x : State). (view_of x.log).cell i) same ∙ ap (view_of (run after m.after).left.log).cell (sym m.index) ∙ g)
