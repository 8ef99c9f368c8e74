-- What the meter on a line may come to, whichever it is, whatever the line carried. Source: document 00: "A bench meter, a program that answers as
-- the SS-301 does"; document 02, CR 1: "a bench answerer".
use Rattle.std.specs.Prelude.{◌≡◌, List, ℕ}
use Rattle.console_meter.specs.Served.{standing, Reached}
use Rattle.serve.specs.declared.bench.Bench.{Bench}
use Rattle.serve.specs.declared.bench.Bench.TheVariants.{Meter, Mercury}

-- an SS-301's record and store go on by its answers and its seconds alone; a Mercury 206 stays as it is, and the store with it
unfoldable pub GoesOn : Bench → List ℕ → Bench → List ℕ → Type 0
GoesOn (Meter r) s (Meter q) t = Reached (standing r s) (standing q t)
GoesOn (Meter r) s (Mercury m) t = ⊥
GoesOn (Mercury m) s (Meter r) t = ⊥
GoesOn (Mercury m) s (Mercury n) t = (n ≡ m) × (t ≡ s)
