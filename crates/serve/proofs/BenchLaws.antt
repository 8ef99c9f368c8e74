-- How the meter on a line goes on, turn by turn, whichever it is. Assumes nothing.
use mathlib.Core.Path.{refl, ◌∙◌}
use mathlib.Core.List.{List}
use Prim.Native.Nat.{ℕ}
use Rattle.console_meter.specs.Served.{standing, Reached}
use Rattle.console_meter.proofs.ServedLaws.{stays, onward}
use Rattle.meter_record.specs.declared.record.Record.{Record}
use Rattle.serve.specs.Served.{GoesOn}
use Rattle.serve.specs.declared.bench.Bench.{Bench}
use Rattle.serve.specs.declared.bench.Bench.TheVariants.{Meter, Mercury}

-- for a turn in which nothing was read
pub same : (b : Bench) (s : List ℕ) → GoesOn b s b s
unfolding GoesOn
same (Meter r) s = stays _
same (Mercury m) s = (refl, refl)

-- for a turn behind those before it
pub then : (a b c : Bench) (s t u : List ℕ) → GoesOn a s b t → GoesOn b t c u → GoesOn a s c u
unfolding GoesOn
then (Meter r) (Meter q) (Meter p) s t u x y = onward x y
then (Meter r) (Meter q) (Mercury m) s t u x y = absurd y
then (Meter r) (Mercury m) c s t u x y = absurd x
then (Mercury m) (Meter r) c s t u x y = absurd x
then (Mercury m) (Mercury n) (Meter r) s t u x y = absurd y
then (Mercury m) (Mercury n) (Mercury o) s t u x y = (y.0 ∙ x.0, y.1 ∙ x.1)

-- for an SS-301's turn
pub by-answers : (r q : Record) (s t : List ℕ) → Reached (standing r s) (standing q t) → GoesOn (Meter r) s (Meter q) t
unfolding GoesOn
by-answers r q s t x = x
