-- The figures along any calls (document 02, CR 8): right ones stay right, and those of other days than the open ask's stay as they are.
use Rattle.std.specs.Prelude.{Option, Some}
use mathlib.Core.Path.{◌≡◌, refl, sym, subst, ◌∙◌}
use mathlib.Core.List.{List, [], ◌∷◌}
use Prim.Native.Nat.{ℕ}
use lib.ListN.{length}
use Rattle.byte_numbers.specs.Number.{Bytes}
use Rattle.log_header.specs.Header.{sound_of}
use Rattle.log_header.specs.Interval.{interval_of, comes_twice}
use Rattle.energy_log.specs.View.{View, view_of}
use Rattle.energy_log.proofs.ViewLaws.{AreCells, seen-are-cells, changed, bytes-applied}
use Rattle.log_header.specs.declared.header.Header.{Header}
use Rattle.day_rows.specs.Rows.{row_at, Right}
use Rattle.day_rows.specs.Put.{change_of}
use Rattle.day_rows.proofs.PutLaws.{with_cell, change-right, length-change, row-elsewhere}
use Rattle.logger.specs.Held.{OpenFor}
use Rattle.logger.specs.Take as Take
use Rattle.logger.specs.Lapse as Lapse
use Rattle.logger.specs.Book.{Call, ask, lapse, reply, run_of, CallBytes, AllBytes}
use Rattle.logger.specs.Run.{State, step, run}
use Rattle.logger.specs.declared.held.OpenAsk.{OpenAsk}
use Rattle.logger.specs.Lapse.{LapseDecision}
use Rattle.logger.proofs.TakeLaws.{Step, decided-ways, decided-holds, taken-seen}
use Rattle.logger.proofs.LapseLaws.{lapsing-ways, lapsing-holds, lapsed-seen}

-- a log with this header, whose figures are those of its cells
pub record Faithful (h : Header) (s : State) : Type 0 where
  pub bytes : Bytes s.log
  pub sound : sound_of s.log ≡ Some h
  pub right : Right h (view_of s.log).cell s.figures

-- what a reply and a lapse leave of the header and the cells that the figures are right for
record Fit (h : Header) (v : View) (figs : List ℕ) : Type 0 where
  lent : v.lent ≡ Some h
  right : Right h v.cell figs

module _ (h : Header) (v : View) (p : v.lent ≡ Some h) where
  decided-right : (figs : List ℕ) (held : Option OpenAsk) (y : List ℕ) → Bytes y → AreCells v.cell → Right h v.cell figs
      → let o = Take.decided v figs held y in Fit h (changed o.result.change v) o.left
  unfolding changed
  decided-right figs held y k are right =
      decided-ways (λ (o : Step). Fit h (changed o.result.change v) o.left) v figs held y (record {
        kept-open = λ a n. record { lent = p; right = right };
        closed = λ a n. record { lent = p; right = right };
        put = λ g i old c e o held-here is done.
            let q : Some g ≡ Some h = sym e ∙ p in
            let same : g ≡ h = cc in
            let at : interval_of h o.day o.slot ≡ Some i = subst (λ (x : Header). interval_of x o.day o.slot ≡ Some i) same o.interval in
            record {
              lent = p;
              right = subst (λ (x : Header). Right h (with_cell v.cell i c) (change_of o.day (comes_twice x o.day o.slot) old c figs).left) (sym same)
                  (change-right h v.cell figs o.day o.slot i old c at held-here are (is k) right).1;
            };
      })

  lapsing-right : (figs : List ℕ) (held : Option OpenAsk) → Right h v.cell figs → Fit h (changed (Lapse.lapsing v held).change v) figs
  unfolding changed
  lapsing-right figs held right =
      lapsing-ways (λ (d : LapseDecision). Fit h (changed d.change v) figs) v held (record {
        none = λ e. record { lent = p; right = right };
        refused = λ a n. record { lent = p; right = right };
        counted = λ g i e o. record { lent = p; right = right };
      })

-- one call keeps the log sound and its figures right
pub step-faithful : (h : Header) (s : State) (c : Call) → CallBytes c → Faithful h s → Faithful h (step s c).left
unfolding step Take.taken Lapse.lapsed
step-faithful h s (ask address day slot out) k f = record { bytes = f.bytes; sound = f.sound; right = f.right }
step-faithful h s lapse k f =
    let v = view_of s.log in
    let fit = subst (λ (w : View). Fit h w s.figures) (sym (lapsed-seen s.log s.held)) (lapsing-right h v f.sound s.figures s.held f.right) in
    record {
      bytes = bytes-applied s.log (Lapse.lapsing v s.held).change f.bytes (lapsing-holds v s.held);
      sound = fit.lent;
      right = fit.right;
    }
step-faithful h s (reply y) k f =
    let v = view_of s.log in
    let o = Take.decided v s.figures s.held y in
    let fit =
    subst (λ (w : View). Fit h w o.left) (sym (taken-seen s.log s.figures s.held y k))
    (decided-right h v f.sound s.figures s.held y k (seen-are-cells s.log f.bytes) f.right) in
    record {
      bytes = bytes-applied s.log o.result.change f.bytes (decided-holds v s.figures s.held y k);
      sound = fit.lent;
      right = fit.right;
    }

-- and so does any list of calls (CR 8)
pub run-faithful : (h : Header) (calls : List Call) (s : State) → AllBytes calls → Faithful h s → Faithful h (run s calls).left
unfolding run_of
run-faithful h [] s k f = f
run-faithful h (c ∷ calls) s k f = run-faithful h calls (step s c).left k.1 (step-faithful h s c k.0 f)

-- ---- what a call leaves of the figures, whatever log and figures are

-- day d is another than that of the cell whose ask is open, if one is
abbrev pub OtherDay : State → ℕ → Type 0
OtherDay s d = (h : Header) (i : ℕ) → sound_of s.log ≡ Some h → (o : OpenFor h s.held i) → d ≡ o.day → ⊥

-- a call leaves the figures of every day but the open ask's
pub row_stays : (s : State) (c : Call) (d : ℕ) → OtherDay s d → row_at (step s c).left.figures d ≡ row_at s.figures d
unfolding step Take.taken
row_stays s (ask address day slot out) d other = refl
row_stays s lapse d other = refl
row_stays s (reply y) d other =
    decided-ways (λ (o : Step). row_at o.left d ≡ row_at s.figures d) (view_of s.log) s.figures s.held y (record {
      kept-open = λ a n. refl;
      closed = λ a n. refl;
      put = λ h i old c e o g is done. row-elsewhere o.day (comes_twice h o.day o.slot) old c s.figures d (other h i e o);
    })

-- a call leaves as many figures as there were
pub as_many : (s : State) (c : Call) → length (step s c).left.figures ≡ length s.figures
unfolding step Take.taken
as_many s (ask address day slot out) = refl
as_many s lapse = refl
as_many s (reply y) =
    decided-ways (λ (o : Step). length o.left ≡ length s.figures) (view_of s.log) s.figures s.held y (record {
      kept-open = λ a n. refl;
      closed = λ a n. refl;
      put = λ h i old c e o g is done. length-change o.day (comes_twice h o.day o.slot) old c s.figures;
    })
