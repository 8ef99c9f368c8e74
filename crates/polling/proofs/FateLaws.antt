-- What becomes of an ask is a list of the logger's calls, so that demand 3 speaks of every poll: the log after it is the one worked out
-- afresh from the replies.
use Rattle.std.specs.Prelude.{Option}
use Prim.Native.Nat.{ℕ}
use native.Mathlib.Omega.{arith}
use mathlib.Core.Path.{◌≡◌, refl, ap, ◌∙◌}
use mathlib.Core.List.{List, [], ◌∷◌}
use lib.ListN.{length}
use Rattle.refusal.specs.Outcome.{Outcome, outcome}
use Rattle.polling.specs.declared.fate.Settled.{Settled}
use Rattle.day_rows.specs.LogAndRows.{LogAndRows, log_and_rows}
use Rattle.logger.specs.Book.{Call, lapse, reply, run_of}
use Rattle.logger.specs.Run.{State, state, step, run}
use Rattle.logger.specs.Take.{Taken}
use Rattle.logger.specs.declared.held.OpenAsk.{OpenAsk}
use Rattle.logger.specs.Take as Take
use Rattle.logger.specs.Lapse as Lapse
use Rattle.logger.specs.Lapse.{Lapsed}
use Rattle.polling.specs.Fate.{fate_of, fate_lapsed, heard, ask_settled}
use Rattle.polling.specs.declared.fate.Fate.{Fate}
use Rattle.polling.specs.declared.fate.Fate.TheVariants as fate

-- ---- the two cases

-- for `heard`: no byte is no reply: log and ask stay, and the meter was silent
pub heard-nothing : (b : LogAndRows) (held : Option OpenAsk) (y : List ℕ) → length y ≡ 0
    → heard b held y ≡ outcome (record { fate = fate.Silent; held = held }) b
unfolding heard
heard-nothing b held [] e = refl
heard-nothing b held (x ∷ y) e = absurd (omega arith)

-- for `heard`: any byte heard is taken as a reply, whose answer says the fate
pub heard-some : (b : LogAndRows) (held : Option OpenAsk) (y : List ℕ) (r : Taken) (l : LogAndRows) → (length y ≡ 0 → ⊥)
    → outcome r l ≡ Take.taken b held y
    → outcome (record { fate = fate_of r.answer; held = r.held }) l ≡ heard b held y
unfolding heard
heard-some b held [] r l e p = absurd (e refl)
heard-some b held (x ∷ y) r l e p =
    ap (λ (o : Outcome Taken LogAndRows). outcome (record { fate = fate_of o.result.answer; held = o.result.held }) o.left) p

-- what was heard, and then the lapse
pub settled-by : (b : LogAndRows) (held : Option OpenAsk) (y : List ℕ) (x : Settled) (t : LogAndRows) (l : Lapsed) (u : List ℕ) (f : Fate)
    → outcome x t ≡ heard b held y → outcome l u ≡ Lapse.lapsed t.log x.held → f ≡ fate_lapsed l.answer x.fate
    → outcome (record { fate = f; held = l.held }) (log_and_rows u t.figures) ≡ ask_settled b held y
unfolding ask_settled
settled-by b held y x t l u f p q e =
    ap (λ (g : Fate). outcome (record { fate = g; held = l.held }) (log_and_rows u t.figures)) e
    ∙ ap (λ (o : Outcome Lapsed (List ℕ)).
    outcome (record { fate = fate_lapsed o.result.answer x.fate; held = o.result.held }) (log_and_rows o.left t.figures)) q
    ∙ ap (λ (o : Outcome Settled LogAndRows).
    let l = Lapse.lapsed o.left.log o.result.held in
    outcome (record { fate = fate_lapsed l.result.answer o.result.fate; held = l.result.held }) (log_and_rows l.left o.left.figures)) p

-- ---- the calls

-- a reply where something was heard, and then a lapse, which does nothing where the reply has closed the ask
unfoldable pub settle_calls : List ℕ → List Call
settle_calls [] = lapse ∷ []
settle_calls (b ∷ y) = reply (b ∷ y) ∷ lapse ∷ []

-- the state that an outcome leaves
abbrev pub state_after : Outcome Settled LogAndRows → State
state_after o = state o.left o.result.held

-- what becomes of an ask leaves log and ask as these calls do
pub settled-run : (b : LogAndRows) (held : Option OpenAsk) (y : List ℕ) → state_after (ask_settled b held y) ≡ (run (state b held) (settle_calls y)).left
unfolding ask_settled heard settle_calls run_of step
settled-run b held [] = refl
settled-run b held (x ∷ y) = refl
