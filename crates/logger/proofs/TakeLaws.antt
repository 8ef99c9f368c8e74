-- What a taken reply can come to, and what is then known: the one walk over its checks (`decided-cases`), and the three ways that it ends
-- in (`decided-ways`).
use Rattle.logger.specs.Held.{opened_for}
use Rattle.std.specs.Prelude.{Err, None, Ok, Option, Result, Some}
use Rattle.day_rows.specs.declared.put.FigureError.{FigureError}
use Rattle.logger.specs.declared.take.TakeError.{TakeError}
use mathlib.Core.Path.{◌≡◌, refl, sym, ap, subst}
use mathlib.Core.Bool.{Bool, true, false, cond, not}
use mathlib.Core.List.{List}
use Prim.Native.Nat.{ℕ, ◌+◌, ◌<◌}
use native.Mathlib.Omega.{arith}
use lib.Dec.{eqb}
use Rattle.byte_numbers.specs.Number.{Bytes}
use Rattle.byte_numbers.specs.Place.{number_at}
use Rattle.parameters.specs.Code.{read, slice}
use Rattle.frame.specs.Layout.{slice_reply}
use Rattle.reader.proofs.FormLaws.{by-reply}
use Rattle.reader.specs.declared.form.Fault.{Fault}
use Rattle.byte_numbers.proofs.ByteLaws.{two}
use Rattle.log_header.proofs.HeaderLaws.{by-sound}
use Rattle.log_cell.specs.Cell.{no_counts, is_cell, CountsFit, IsCell}
use Rattle.wire_values.specs.Row.{row, row_at, is_zero, alike}
use Rattle.log_cell.proofs.CellLaws.{empty-is-cell, by-good}
use Rattle.energy_log.specs.View.{View, view_of}
use Rattle.energy_log.proofs.ViewLaws.{changed, Within, Holds, view-applied}
use Rattle.log_header.specs.Interval.{interval_of, comes_twice}
use Rattle.log_header.proofs.IntervalLaws.{interval-below, by-at}
use Rattle.log_cell.specs.declared.cell.Cell.{Cell}
use Rattle.log_cell.specs.declared.cell.Cell.TheVariants as cell
use Rattle.log_header.specs.declared.header.Header.{Header}
use Rattle.energy_log.specs.declared.image.Change.TheVariants as change
use Rattle.refusal.specs.Outcome.{Outcome, outcome, check}
use Rattle.day_rows.specs.LogAndRows.{log_and_rows, enough}
use Rattle.day_rows.specs.Put.{change_of}
use Rattle.day_rows.proofs.PutLaws.{unfit-leaves}
use Rattle.day_rows.specs.declared.put.FigureError.TheVariants as figure
use Rattle.logger.specs.Held.{if_none, if_open, OpenFor}
use Rattle.logger.specs.Reply.{slice_form, if_formed, result_of, if_ok, row_of}
use Rattle.wire_values.specs.declared.row.Row.{Row}
use Rattle.logger.specs.Take.{update_of, stays, take_closes, put_with, updated, decided, taken}
use Rattle.logger.specs.Take.{Decision}
use Rattle.logger.specs.declared.take.TakeError.TheVariants.{TooShort, NoAskOpen, NotInLog, Malformed, MeterRefused, OtherCounts, Unsound}
use Rattle.logger.specs.declared.take.Update.{Update}
use Rattle.logger.specs.declared.take.Update.TheVariants.{Put, Keep, Conflict}
use Rattle.logger.specs.declared.held.OpenAsk.{OpenAsk}

-- ---- what holds of both values holds of the one that is chosen

-- by whether no ask is open
pub by-none : {A : Type 0} (P : A → Type 0) (held : Option OpenAsk) {x y : A}
    → ((a d t : ℕ) → held ≡ opened_for a d t → P x) → (held ≡ None → P y) → P (if_none held x y)
by-none P (Some ask) other none = other ask.address ask.day ask.slot refl
by-none P None other none = none refl

-- by the ask that is open, if one is
pub by-open : {A : Type 0} (P : A → Type 0) (held : Option OpenAsk) {x : A} {f : ℕ → ℕ → ℕ → A}
    → (held ≡ None → P x) → ((a d t : ℕ) → held ≡ opened_for a d t → P (f a d t)) → P (if_open held x f)
by-open P None other k = other refl
by-open P (Some ask) other k = k ask.address ask.day ask.slot refl

-- by the form of a reply: a fault, or well formed
pub by_form : {A : Type 0} (P : A → Type 0) (form : Result Unit Fault) {f : Fault → A} {x : A}
    → ((fault : Fault) → form ≡ Err fault → P (f fault)) → (form ≡ Ok tt → P x) → P (if_formed form f x)
by_form P (Err fault) k other = k fault refl
by_form P (Ok tt) k other = other refl

-- by the meter's result: 0 or another
pub by-ok : {A : Type 0} (P : A → Type 0) (result : ℕ) {x y : A}
    → (eqb result 0 ≡ false → P x) → (eqb result 0 ≡ true → P y) → P (if_ok result x y)
by-ok P result {x} {y} refused ok = go (eqb result 0) refl
  where
    go : (b : Bool) → eqb result 0 ≡ b → P (cond b y x)
    go true e = ok e
    go false e = refused e

-- by a test that has to pass before what follows it
pub by-test : {A : Type 0} (P : A → Type 0) (b : Bool) {x y : A} → (b ≡ false → P x) → (b ≡ true → P y) → P (check b x y)
by-test P true refused next = next refl
by-test P false refused next = refused refl

-- ---- the cases

-- a well-formed reply for the open ask, which is for cell i
pub record Heard (h : Header) (held : Option OpenAsk) (y : List ℕ) (i : ℕ) : Type 0 where
  pub ask : OpenFor h held i
  pub formed : slice_form ask.address y ≡ Ok tt

-- what a reply comes to, and the figures after it
abbrev pub Step : Type 0
Step = Outcome Decision (List ℕ)

-- what is to be shown of a reply to a log with this header
pub record Cases (P : Step → Type 0) (h : Header) (v : View) (figs : List ℕ) (held : Option OpenAsk) (y : List ℕ) : Type 0 where
  pub few : enough h figs ≡ false → P (outcome (stays (Err TooShort) held) figs)
  pub no-ask : held ≡ None → P (outcome (stays (Err NoAskOpen) held) figs)
  pub outside : (a d t : ℕ) → held ≡ opened_for a d t → interval_of h d t ≡ None → P (outcome (stays (Err NotInLog) held) figs)
  pub malformed : (i : ℕ) (o : OpenFor h held i) (fault : Fault) → slice_form o.address y ≡ Err fault
      → P (outcome (stays (Err (Malformed fault)) held) figs)
  pub refused : (i : ℕ) → Heard h held y i → eqb (result_of y) 0 ≡ false
      → P (outcome (take_closes (Err (MeterRefused (result_of y))) change.None) figs)
  pub bad-cell : (i : ℕ) → Heard h held y i → v.cell i ≡ None → P (outcome (stays (Err Unsound) held) figs)
  pub counted : (i : ℕ) (o : Heard h held y i) → eqb (result_of y) 0 ≡ true → (c : Cell) → v.cell i ≡ Some c
      → P (updated (update_of c (row_of y)) (comes_twice h o.ask.day o.ask.slot) held o.ask.day i c figs)

module _ (P : Step → Type 0) (v : View) (figs : List ℕ) (held : Option OpenAsk) (y : List ℕ) where
  -- what holds of an unsound log, and in each of the cases of a sound one, holds of what is decided
  pub decided-cases : (v.lent ≡ None → P (outcome (stays (Err Unsound) held) figs))
      → ((h : Header) → v.lent ≡ Some h → Cases P h v figs held y) → P (decided v figs held y)
  unfolding decided
  decided-cases unsound cases =
      by-sound P v.lent unsound (λ h e.
      let k = cases h e in
      by-test P (enough h figs) k.few (λ n.
      by-open P held k.no-ask (λ a d t o.
      by-at P (interval_of h d t) (k.outside a d t o) (λ i n.
      let ask : OpenFor h held i = record { address = a; day = d; slot = t; open_ask = o; interval = n } in
      let heard : slice_form a y ≡ Ok tt → Heard h held y i = λ formed. record { ask = ask; formed = formed } in
      by-reply P a read slice slice_reply y (λ result. outcome (take_closes (Err (MeterRefused result)) change.None) figs) (k.malformed i ask)
      (λ formed. k.refused i (heard formed)) (λ formed ok.
      by-good P (v.cell i) (k.bad-cell i (heard formed)) (k.counted i (heard formed) ok))))))

-- ---- a cell's update

-- what holds of a put, of a figure that cannot follow it, and of both answers that keep the cell
module _ (P : Step → Type 0) (twice : Bool) (held : Option OpenAsk) (day i : ℕ) (old : Cell) (figs : List ℕ) where
  -- for `decided-cases`' callers: the four ends of a reply with result 0 for a good cell
  pub update-cases : (u : Update)
      → ((c : Cell) → u ≡ Put c → (change_of day twice old c figs).result ≡ Ok tt
      → P (outcome (take_closes (Ok tt) (change.Put i c)) (change_of day twice old c figs).left))
      → P (outcome (stays (Err Unsound) held) figs) → P (outcome (take_closes (Ok tt) change.None) figs) → P (outcome (take_closes (Err OtherCounts) change.None) figs)
      → P (updated u twice held day i old figs)
  unfolding updated put_with
  update-cases (Put c) put unfit kept other = go (change_of day twice old c figs).result refl
    where
      go : (a : Result Unit FigureError) → (change_of day twice old c figs).result ≡ a → P (outcome (put_with a held i c) (change_of day twice old c figs).left)
      go (Ok tt) e = put c refl e
      go (Err figure.Unfit) e = subst (λ (l : List ℕ). P (outcome (stays (Err Unsound) held) l)) (sym (unfit-leaves day twice old c figs e)) unfit
  update-cases Keep put unfit kept other = kept
  update-cases Conflict put unfit kept other = other

-- counts that fit two bytes, as those of a reply's bytes do
abbrev pub RowFits : Row → Type 0
RowFits r = CountsFit r.e_plus r.e_minus r.r_plus r.r_minus

-- the counts of a reply of bytes fit two bytes each
pub row_fits : (y : List ℕ) → Bytes y → RowFits (row_of y)
unfolding row_at
row_fits y k =
    let fits : (i : ℕ) → number_at y i 2 < 65536 = λ i. omega (arith, two y i, k i, k (i + 1)) in
    record { e_plus = fits _; e_minus = fits _; r_plus = fits _; r_minus = fits _ }

-- they put a cell
abbrev pub PutsCell : Update → Type 0
PutsCell (Put c) = IsCell c
PutsCell Keep = Unit
PutsCell Conflict = Unit

module _ (r : Row) (f : RowFits r) where
  filled-cell : (b : Bool) → is_zero r ≡ b → PutsCell (cond b (Put cell.Empty) (Put (cell.Measured r.e_plus r.e_minus r.r_plus r.r_minus)))
  unfolding is_cell no_counts is_zero
  filled-cell true e = empty-is-cell
  filled-cell false e = record { right = ap not e; fits = f }

  compared-cell : (a b : Bool) → PutsCell (cond a Keep (cond b Keep Conflict))
  compared-cell true b = tt
  compared-cell false true = tt
  compared-cell false false = tt

  -- whatever the cell held, a row that fits puts a cell that a log can hold
  pub update-cell : (c : Cell) → PutsCell (update_of c r)
  unfolding update_of
  update-cell cell.Gap = filled-cell (is_zero r) refl
  update-cell cell.Empty = filled-cell (is_zero r) refl
  update-cell (cell.Measured a b c d) = compared-cell (is_zero r) (alike (row a b c d) r)

-- ---- what a reply comes to

-- whether an answer closes the ask: 0, 24, 25
abbrev pub is_closing : Result Unit TakeError → Bool
is_closing (Ok tt) = true
is_closing (Err TooShort) = false
is_closing (Err NoAskOpen) = false
is_closing (Err NotInLog) = false
is_closing (Err (Malformed fault)) = false
is_closing (Err (MeterRefused result)) = true
is_closing (Err OtherCounts) = true
is_closing (Err Unsound) = false

-- refused, and all stays; or closed, and log and figures are kept; or the cell whose ask was open is put, and its day's figures follow
pub record Ways (P : Step → Type 0) (v : View) (figs : List ℕ) (held : Option OpenAsk) (y : List ℕ) : Type 0 where
  pub kept-open : (a : Result Unit TakeError) → is_closing a ≡ false → P (outcome (stays a held) figs)
  pub closed : (a : Result Unit TakeError) → is_closing a ≡ true → P (outcome (take_closes a change.None) figs)
  pub put : (h : Header) (i : ℕ) (old c : Cell) → v.lent ≡ Some h → (o : OpenFor h held i) → v.cell i ≡ Some old → (Bytes y → IsCell c)
      → (change_of o.day (comes_twice h o.day o.slot) old c figs).result ≡ Ok tt
      → P (outcome (take_closes (Ok tt) (change.Put i c)) (change_of o.day (comes_twice h o.day o.slot) old c figs).left)

-- what holds of the three ways holds of what is decided, for callers that need not tell the refusals apart
pub decided-ways : (P : Step → Type 0) (v : View) (figs : List ℕ) (held : Option OpenAsk) (y : List ℕ) → Ways P v figs held y → P (decided v figs held y)
decided-ways P v figs held y w =
    decided-cases P v figs held y (λ e. w.kept-open (Err Unsound) refl) (λ h e.
    record {
      few = λ n. w.kept-open (Err TooShort) refl;
      no-ask = λ o. w.kept-open (Err NoAskOpen) refl;
      outside = λ a d t o n. w.kept-open (Err NotInLog) refl;
      malformed = λ i o fault n. w.kept-open (Err (Malformed fault)) refl;
      refused = λ i o r. w.closed (Err (MeterRefused (result_of y))) refl;
      bad-cell = λ i o b. w.kept-open (Err Unsound) refl;
      counted = λ i o r c g.
          update-cases P (comes_twice h o.ask.day o.ask.slot) held o.ask.day i c figs (update_of c (row_of y))
          (λ new q done. w.put h i c new e o.ask g (λ k. subst PutsCell q (update-cell (row_of y) (row_fits y k) c)) done)
          (w.kept-open (Err Unsound) refl) (w.closed (Ok tt) refl) (w.closed (Err OtherCounts) refl);
    })

-- what it does to a log, a log can hold
pub decided-holds : (v : View) (figs : List ℕ) (held : Option OpenAsk) (y : List ℕ) → Bytes y → Holds v (decided v figs held y).result.change
decided-holds v figs held y k =
    decided-ways (λ (d : Step). Holds v d.result.change) v figs held y (record {
      kept-open = λ a n. tt;
      closed = λ a n. tt;
      put = λ h i old c e o g is done. (subst (λ (a : Option Header). Within a i) (sym e) (interval-below h o.day o.slot i o.interval), is k);
    })

-- what is seen of the log after it
pub taken-seen : (s figs : List ℕ) (held : Option OpenAsk) (y : List ℕ) → Bytes y
    → view_of (taken (log_and_rows s figs) held y).left.log ≡ changed (decided (view_of s) figs held y).result.change (view_of s)
unfolding taken
taken-seen s figs held y k = view-applied s (decided (view_of s) figs held y).result.change (decided-holds (view_of s) figs held y k)
