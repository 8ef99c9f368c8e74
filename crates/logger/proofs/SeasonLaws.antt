-- Where a slot does not exist (document 02, CR 5): an ask, a lapse and a reply are refused with 22, and no list of calls alters its cell or its lapses.
use Rattle.std.specs.Prelude.{Err, None, Some, Option}
use Rattle.logger.specs.Held.{opened_for}
use mathlib.Core.Path.{◌≡◌, refl, sym, ap, subst, ◌∙◌}
use mathlib.Core.Bool.{false, and-false, false≢true}
use mathlib.Core.List.{List, [], ◌∷◌}
use Prim.Native.Nat.{ℕ, ◌≤◌}
use lib.ListN.{length}
use borrow.Author.Tests.{ne_eqb, le-ltb, le-leb}
use Rattle.refusal.specs.Outcome.{outcome}
use Rattle.frame.specs.Layout.{read_size}
use Rattle.log_header.specs.Header.{sound_of}
use Rattle.energy_log.specs.Image.{applied}
use Rattle.log_header.specs.Interval.{interval_of, exists, exists_at}
use Rattle.log_header.proofs.IntervalLaws.{interval-exists}
use Rattle.energy_log.specs.View.{View, view_of}
use Rattle.energy_log.proofs.ViewLaws.{changed}
use Rattle.log_header.specs.declared.header.Header.{Header}
use Rattle.day_rows.specs.LogAndRows.{log_and_rows}
use Rattle.day_rows.specs.Rows.{figures_of}
use Rattle.logger.specs.Ask as Ask
use Rattle.logger.specs.Take as Take
use Rattle.logger.specs.Lapse as Lapse
use Rattle.logger.specs.Lapse.{LapseDecision}
use Rattle.logger.specs.declared.no_reply.LapseError.TheVariants as silent
use Rattle.logger.proofs.LapseLaws.{lapsing-ways, lapsed-seen}
use Rattle.logger.specs.Held.{OpenFor}
use Rattle.logger.specs.Book.{Call, ask, lapse, reply, run_of, CallBytes, AllBytes}
use Rattle.logger.specs.Run.{State, step, run}
use Rattle.logger.proofs.TakeLaws.{Step, decided-ways, taken-seen}
use Rattle.logger.specs.declared.ask.AskError.TheVariants as asked
use Rattle.logger.specs.declared.take.TakeError.TheVariants as taken
use Rattle.logger.specs.declared.held.OpenAsk.{OpenAsk}

-- ---- 22

not_there : (h : Header) (day slot : ℕ) → exists h day slot ≡ false → interval_of h day slot ≡ None
unfolding interval_of
not_there h day slot e = simp (e, and-false)

-- CR 5: an ask for a slot that does not exist is refused with 22, and none is opened
pub ask_refused : (v : View) (h : Header) (address day slot : ℕ) (out : List ℕ) → v.lent ≡ Some h → exists h day slot ≡ false → read_size ≤ length out
    → Ask.asked v None address day slot out ≡ Ask.answered (Err asked.NotInLog) None out
unfolding Ask.asked
ask_refused v h address day slot out p e l = simp (le-ltb _ _ l, p, not_there h day slot e)

-- CR 5: a reply to an ask for a slot that does not exist is refused with 22, and all stays
pub reply_refused : (s figs : List ℕ) (h : Header) (address day slot : ℕ) (y : List ℕ) → sound_of s ≡ Some h → figures_of h ≤ length figs
    → exists h day slot ≡ false
    → Take.taken (log_and_rows s figs) (opened_for address day slot) y ≡ outcome (record { answer = Err taken.NotInLog; held = opened_for address day slot }) (log_and_rows s figs)
unfolding Take.taken Take.decided applied
reply_refused s figs h address day slot y p l e = simp (p, le-leb _ _ l, not_there h day slot e)

-- CR 5: a lapse of an ask for a slot that does not exist is refused with 22, and all stays
pub lapse_refused : (s : List ℕ) (h : Header) (address day slot : ℕ) → sound_of s ≡ Some h → exists h day slot ≡ false
    → Lapse.lapsed s (opened_for address day slot) ≡ outcome (record { answer = Err silent.NotInLog; held = opened_for address day slot }) s
unfolding Lapse.lapsed Lapse.lapsing applied
lapse_refused s h address day slot p e = simp (p, not_there h day slot e)

-- ---- its cell stays

-- what is seen of cell j stays, and the header does
record Kept (j : ℕ) (before after : View) : Type 0 where
  lent : after.lent ≡ before.lent
  cell : after.cell j ≡ before.cell j
  lapses : after.lapses j ≡ before.lapses j

module _ (h : Header) (j : ℕ) (gone : exists_at h j ≡ false) where
  -- an ask that is open is for another cell
  another : (k : Header) (held : Option OpenAsk) (i : ℕ) → Some h ≡ Some k → OpenFor k held i → j ≡ i → ⊥
  another k held i p o q =
      let same : h ≡ k = cc in
      false≢true (sym gone ∙ ap (exists_at h) q ∙ ap (λ (x : Header). exists_at x i) same ∙ interval-exists k o.day o.slot i o.interval)

  decided-kept : (v : View) (figs : List ℕ) (held : Option OpenAsk) (y : List ℕ) → v.lent ≡ Some h → Kept j v (changed (Take.decided v figs held y).result.change v)
  unfolding changed
  decided-kept v figs held y p =
      decided-ways (λ (d : Step). Kept j v (changed d.result.change v)) v figs held y (record {
        kept-open = λ a n. record { lent = refl; cell = refl; lapses = refl };
        closed = λ a n. record { lent = refl; cell = refl; lapses = refl };
        put = λ k i old c e o g is done. record { lent = refl; cell = simp (ne_eqb j i (another k held i (sym p ∙ e) o)); lapses = refl };
      })

  lapsing-kept : (v : View) (held : Option OpenAsk) → v.lent ≡ Some h → Kept j v (changed (Lapse.lapsing v held).change v)
  unfolding changed
  lapsing-kept v held p =
      lapsing-ways (λ (d : LapseDecision). Kept j v (changed d.change v)) v held (record {
        none = λ e. record { lent = refl; cell = refl; lapses = refl };
        refused = λ a n. record { lent = refl; cell = refl; lapses = refl };
        counted = λ k i e o. record { lent = refl; cell = refl; lapses = simp (ne_eqb j i (another k held i (sym p ∙ e) o)) };
      })

  step_kept : (s : State) (c : Call) → sound_of s.log ≡ Some h → CallBytes c → Kept j (view_of s.log) (view_of (step s c).left.log)
  unfolding step
  step_kept s (ask address day slot out) p b = record { lent = refl; cell = refl; lapses = refl }
  step_kept s lapse p b =
      subst (Kept j (view_of s.log)) (sym (lapsed-seen s.log s.held)) (lapsing-kept (view_of s.log) s.held p)
  step_kept s (reply y) p b =
      subst (Kept j (view_of s.log)) (sym (taken-seen s.log s.figures s.held y b))
      (decided-kept (view_of s.log) s.figures s.held y p)

  -- CR 5: no list of calls alters the cell or the lapses of a slot that does not exist
  pub run-kept : (calls : List Call) (s : State) → sound_of s.log ≡ Some h → AllBytes calls
      → ((view_of (run s calls).left.log).cell j ≡ (view_of s.log).cell j) × ((view_of (run s calls).left.log).lapses j ≡ (view_of s.log).lapses j)
  unfolding run_of
  run-kept [] s p b = (refl, refl)
  run-kept (c ∷ calls) s p b =
      let k = step_kept s c p b.0 in
      let r = run-kept calls (step s c).left (k.lent ∙ p) b.1 in
      (r.0 ∙ k.cell, r.1 ∙ k.lapses)
