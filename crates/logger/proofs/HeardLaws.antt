-- A well-formed reply with result 0 for the open ask, taken: its answer, the cell after it, and that the log's header stays.
use Rattle.std.specs.Prelude.{Err, Ok, Result, Some, None, Option}
use Rattle.logger.specs.Held.{opened_for}
use Rattle.logger.specs.declared.take.TakeError.{TakeError}
use mathlib.Core.Path.{◌≡◌, refl, ap, subst, ◌∙◌}
use mathlib.Core.Bool.{Bool, true}
use mathlib.Core.List.{List}
use Prim.Native.Nat.{ℕ}
use borrow.Author.Tests.{eq-eqb}
use Rattle.byte_numbers.specs.Number.{Bytes}
use Rattle.parameters.specs.Code.{read, slice}
use Rattle.frame.specs.Layout.{slice_reply}
use Rattle.reader.proofs.FormLaws.{formed-answers}
use Rattle.log_header.specs.Header.{sound_of}
use Rattle.energy_log.specs.View.{View, view_of}
use Rattle.energy_log.proofs.ViewLaws.{changed, seen-are-cells}
use Rattle.log_header.specs.Interval.{interval_of, comes_twice}
use Rattle.log_cell.specs.declared.cell.Cell.{Cell}
use Rattle.log_header.specs.declared.header.Header.{Header}
use Rattle.energy_log.specs.declared.image.Change.{Change}
use Rattle.energy_log.specs.declared.image.Change.TheVariants as change
use Rattle.day_rows.specs.LogAndRows.{LogAndRows, enough}
use Rattle.day_rows.specs.Put.{change_of}
use Rattle.day_rows.specs.Rows.{Right}
use Rattle.day_rows.proofs.PutLaws.{change-right}
use Rattle.day_rows.proofs.RowsLaws.{right-enough}
use Rattle.logger.specs.Reply.{slice_form, result_of, row_of}
use Rattle.logger.specs.Take.{update_of, take_closes, put_with, updated, decided, taken, number_of}
use Rattle.logger.specs.Take.{Decision}
use Rattle.logger.specs.declared.take.TakeError.TheVariants as answer
use Rattle.logger.specs.declared.take.Update.{Update}
use Rattle.logger.specs.declared.take.Update.TheVariants.{Put, Keep, Conflict}
use Rattle.logger.specs.declared.held.OpenAsk.{OpenAsk}
use Rattle.logger.proofs.TakeLaws.{Step, PutsCell, row_fits, update-cell, taken-seen}
use Rattle.logger.proofs.BookLaws.{effect, update_number}

-- ---- what an update answers and does to the log

abbrev answer_for : Update → Result Unit TakeError
answer_for (Put new) = Ok tt
answer_for Keep = Ok tt
answer_for Conflict = Err answer.OtherCounts

abbrev change_for : ℕ → Update → Change
change_for i (Put new) = change.Put i new
change_for i Keep = change.None
change_for i Conflict = change.None

number-for : (u : Update) → number_of (answer_for u) ≡ update_number u
unfolding update_number
number-for (Put new) = refl
number-for Keep = refl
number-for Conflict = refl

cell-for : (u : Update) (v : View) (i : ℕ) (old : Cell) → v.cell i ≡ Some old → (changed (change_for i u) v).cell i ≡ Some (effect u old)
unfolding changed effect
cell-for (Put new) v i old g = rw (eq-eqb i i refl) refl
cell-for Keep v i old g = g
cell-for Conflict v i old g = g

-- no change alters what is seen of the header
pub lent-stays : (ch : Change) (v : View) → (changed ch v).lent ≡ v.lent
unfolding changed
lent-stays change.None v = refl
lent-stays (change.Put i new) v = refl
lent-stays (change.Lapses i n) v = refl

-- ---- such a reply, decided

decided-heard : (v : View) (figs : List ℕ) (h : Header) (address day slot i : ℕ) (y : List ℕ) (c : Cell) → v.lent ≡ Some h → enough h figs ≡ true
    → interval_of h day slot ≡ Some i → slice_form address y ≡ Ok tt → result_of y ≡ 0 → v.cell i ≡ Some c
    → decided v figs (opened_for address day slot) y ≡ updated (update_of c (row_of y)) (comes_twice h day slot) (opened_for address day slot) day i c figs
unfolding decided
decided-heard v figs h address day slot i y c p e n f z g = rw (p, e, n, formed-answers address read slice slice_reply y f z, g) refl

updated-is : (u : Update) (twice : Bool) (held : Option OpenAsk) (day i : ℕ) (old : Cell) (figs : List ℕ)
    → ((new : Cell) → u ≡ Put new → (change_of day twice old new figs).result ≡ Ok tt)
    → (updated u twice held day i old figs).result ≡ take_closes (answer_for u) (change_for i u)
unfolding updated put_with
updated-is (Put new) twice held day i old figs k = rw (k new refl) refl
updated-is Keep twice held day i old figs k = refl
updated-is Conflict twice held day i old figs k = refl

-- ---- and taken

-- a log with right figures whose cell i is c, and a well-formed reply with result 0 for an ask for that cell
pub record Hears (b : LogAndRows) (h : Header) (address day slot i : ℕ) (y : List ℕ) (c : Cell) : Type 0 where
  pub log-bytes : Bytes b.log
  pub bytes : Bytes y
  pub lent : sound_of b.log ≡ Some h
  pub figures : Right h (view_of b.log).cell b.figures
  pub interval : interval_of h day slot ≡ Some i
  pub formed : slice_form address y ≡ Ok tt
  pub ok : result_of y ≡ 0
  pub cell : (view_of b.log).cell i ≡ Some c

module _ (b : LogAndRows) (h : Header) (address day slot i : ℕ) (y : List ℕ) (c : Cell) (k : Hears b h address day slot i y c) where
  abbrev held : Option OpenAsk
  held = opened_for address day slot

  abbrev u : Update
  u = update_of c (row_of y)

  follows : (new : Cell) → u ≡ Put new → (change_of day (comes_twice h day slot) c new b.figures).result ≡ Ok tt
  follows new p =
      (change-right h (view_of b.log).cell b.figures day slot i c new k.interval k.cell (seen-are-cells b.log k.log-bytes)
      (subst PutsCell p (update-cell (row_of y) (row_fits y k.bytes) c)) k.figures).0

  decided-is : (decided (view_of b.log) b.figures held y).result ≡ take_closes (answer_for u) (change_for i u)
  decided-is =
      ap (λ (o : Step). o.result)
      (decided-heard (view_of b.log) b.figures h address day slot i y c k.lent (right-enough h (view_of b.log).cell b.figures k.figures) k.interval
      k.formed k.ok k.cell)
      ∙ updated-is u (comes_twice h day slot) held day i c b.figures follows

  -- its answer, and that the ask closes
  pub heard-number : number_of (taken b held y).result.answer ≡ update_number u
  unfolding taken
  heard-number = ap (λ (d : Decision). number_of d.answered.answer) decided-is ∙ number-for u

  -- whether the cell was put, kept or in conflict, no ask is left open
  pub heard-held : (taken b held y).result.held ≡ None
  unfolding taken
  heard-held = ap (λ (d : Decision). d.answered.held) decided-is

  -- the cell after it
  pub heard-cell : (view_of (taken b held y).left.log).cell i ≡ Some (effect u c)
  heard-cell =
      ap (λ (v : View). v.cell i) (taken-seen b.log b.figures held y k.bytes)
      ∙ ap (λ (d : Decision). (changed d.change (view_of b.log)).cell i) decided-is
      ∙ cell-for u (view_of b.log) i c k.cell

  -- and the header
  pub heard-lent : sound_of (taken b held y).left.log ≡ Some h
  heard-lent =
      ap (λ (v : View). v.lent) (taken-seen b.log b.figures held y k.bytes)
      ∙ lent-stays (decided (view_of b.log) b.figures held y).result.change (view_of b.log) ∙ k.lent
