-- What follows from the definitions of specs/Served.antt, for proofs alone: no contract cites it.
use Prim.Native.Nat.{ℕ, zero, suc}
use mathlib.Core.Path.{◌≡◌, refl, sym, ap, ◌∙◌}
use mathlib.Core.List.{List, [], ◌∷◌, ◌++◌}
use lib.ListN.{replicate}
use Rattle.frame.specs.Layout.{longest}
use Rattle.meter_record.specs.Record.{second_of}
use Rattle.meter_record.specs.declared.record.Record.{Record}
use Rattle.meter.specs.Reply as meter
use Rattle.meter.specs.declared.reply.Answered.{Answered}
use Rattle.console_meter.specs.SetLines.{record_after, later_by}
use Rattle.console_meter.specs.Served.{Standing, standing, Event, second, frame, answered_by, happened, run, Reached}

-- where nothing happens
pub stays : (m : Standing) → Reached m m
unfolding run
stays m = record { events = []; leads = refl }

run-both : (m : Standing) (a b : List Event) → run m (a ++ b) ≡ run (run m a) b
unfolding run
run-both m [] b = refl
run-both m (e ∷ a) b = run-both (happened m e) a b

-- what happens after what happened before
pub onward : {m n o : Standing} → Reached m n → Reached n o → Reached m o
onward {m} {n} {o} x y = record {
  events = x.events ++ y.events;
  leads = run-both m x.events y.events ∙ ap (λ (w : Standing). run w y.events) x.leads ∙ y.leads;
}

seconds : ℕ → List Event
seconds zero = []
seconds (suc n) = second ∷ seconds n

lead : (n : ℕ) (r : Record) (s : List ℕ) → run (standing r s) (seconds n) ≡ standing (later_by n r) s
unfolding run happened later_by seconds
lead zero r s = refl
lead (suc n) r s = lead n (record_after (second_of r) r) s

-- n seconds
pub later : (n : ℕ) (r : Record) (s : List ℕ) → Reached (standing r s) (standing (later_by n r) s)
later n r s = record { events = seconds n; leads = lead n r s }

-- a frame that is answered
pub answers : (r : Record) (s f t out : List ℕ) (a : Answered) → meter.outcome a t out ≡ meter.answer_of r s f (replicate longest 0)
    → Reached (standing r s) (standing a.after t)
unfolding run happened
answers r s f t out a e = record { events = frame f ∷ []; leads = ap answered_by (sym e) }

-- what happens after some seconds
pub after-seconds : (n : ℕ) (r l : Record) (s : List ℕ) (m : Standing) → l ≡ later_by n r → Reached (standing l s) m → Reached (standing r s) m
after-seconds n r l s m e x = onward (later n r s) (rw (sym e) x)
