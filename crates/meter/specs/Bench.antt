-- Slices that the bench puts into the store. Source: document 01, "Slices": "the bench puts slices in".
use Rattle.meter_record.specs.declared.record.RecordError.{RecordError}
use Rattle.std.specs.Prelude.{cond, List, ℕ, Err, Ok, Result}
use Rattle.refusal.specs.Outcome.{Outcome, outcome}
use Rattle.slots.specs.Day.{slots_of}
use Rattle.slots.specs.Key.{is_legal}
use Rattle.slots.specs.declared.key.Key.{Key}
use Rattle.meter_store.specs.Store.{put_store, put_next}
use Rattle.meter_record.specs.declared.record.Record.{Record}
use Rattle.meter_record.specs.declared.record.RecordError.TheVariants.{OutOfRange, Unsound}
use Rattle.meter.specs.Reply.{is_sound}
use Rattle.meter_record.specs.With.{with_next}

-- 28, then 27 for an illegal key
unfoldable pub slice_put : Record → List ℕ → Key → List ℕ → Outcome (Result Record RecordError) (List ℕ)
slice_put r s k row =
    cond (is_sound r s)
    (cond (is_legal k (slots_of r.minutes))
    (outcome (Ok (with_next r (put_next s r.next k))) (put_store s r.next k row))
    (outcome (Err OutOfRange) s))
    (outcome (Err Unsound) s)
