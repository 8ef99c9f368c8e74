-- What follows from the definitions of specs/Reached.antt, for proofs alone: no contract cites it.
use Rattle.std.specs.Prelude.{Option}
use Prim.Native.Nat.{ℕ}
use mathlib.Core.Path.{◌≡◌, refl, sym, ap, ◌∙◌}
use mathlib.Core.List.{List, [], ◌∷◌, ◌++◌}
use Rattle.refusal.specs.Outcome.{Outcome, outcome}
use Rattle.byte_numbers.specs.Number.{Bytes}
use Rattle.energy_log.specs.View.{view_of}
use Rattle.day_rows.specs.LogAndRows.{LogAndRows}
use Rattle.logger.specs.Book.{Call, ask, AllBytes, run_of}
use Rattle.logger.specs.Run.{State, state, step, run}
use Rattle.logger.specs.Ask.{Asked}
use Rattle.logger.specs.declared.held.OpenAsk.{OpenAsk}
use Rattle.logger.specs.Ask as Ask
use Rattle.polling.specs.Fate.{ask_settled}
use Rattle.polling.proofs.FateLaws.{settle_calls, settled-run}
use Rattle.polling.specs.declared.fate.Settled.{Settled}
use Rattle.polling.specs.Reached.{Reached}

-- ---- laws

-- no call at all leads from a state to itself
pub stays : (s : State) → Reached s s
unfolding run_of
stays s = record { calls = []; bytes = tt; leads = refl }

both_bytes : (a b : List Call) → AllBytes a → AllBytes b → AllBytes (a ++ b)
both_bytes [] b x y = y
both_bytes (c ∷ a) b x y = (x.0, both_bytes a b x.1 y)

run-both : (s : State) (a b : List Call) → (run s (a ++ b)).left ≡ (run (run s a).left b).left
unfolding run_of
run-both s [] b = refl
run-both s (c ∷ a) b = run-both (step s c).left a b

-- calls that lead on from where others led make one list with them
pub onward : {s t u : State} → Reached s t → Reached t u → Reached s u
onward {s} {t} {u} x y = record {
  calls = x.calls ++ y.calls;
  bytes = both_bytes x.calls y.calls x.bytes y.bytes;
  leads = run-both s x.calls y.calls ∙ ap (λ (w : State). (run w y.calls).left) x.leads ∙ y.leads;
}

-- an ask leaves the log and its figures, and the ask that it answers
pub asks : (b : LogAndRows) (o : Option OpenAsk) (address day slot : ℕ) (out after : List ℕ) (r : Asked) → outcome r after ≡ Ask.asked (view_of b.log) o address day slot out
    → Reached (state b o) (state b r.held)
unfolding run_of step
asks b o address day slot out after r e =
    record { calls = ask address day slot out ∷ []; bytes = (tt, tt); leads = ap (λ (x : Outcome Asked (List ℕ)). state b x.result.held) (sym e) }

settle-bytes : (y : List ℕ) → Bytes y → AllBytes (settle_calls y)
unfolding settle_calls
settle-bytes [] k = (tt, tt)
settle-bytes (b ∷ y) k = (k, (tt, tt))

-- what was heard is taken, and the ask lapses
pub settles : (b : LogAndRows) (o : Option OpenAsk) (y : List ℕ) (after : LogAndRows) (r : Settled) → Bytes y → outcome r after ≡ ask_settled b o y
    → Reached (state b o) (state after r.held)
settles b o y after r k e = record {
  calls = settle_calls y;
  bytes = settle-bytes y k;
  leads = sym (settled-run b o y) ∙ ap (λ (x : Outcome Settled LogAndRows). state x.left x.result.held) (sym e);
}
