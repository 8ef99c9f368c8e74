-- What a bench meter on a line may come to: what some list of frames and seconds makes of it, so that demand 2 says what its record then holds,
-- whatever the line carried. Source: document 00: "A bench meter, a program that answers as the SS-301 does"; document 01: "One call is one second".
use Rattle.std.specs.Prelude.{◌≡◌, List, [], ◌∷◌, ℕ, replicate}
use Rattle.frame.specs.Layout.{longest}
use Rattle.meter_record.specs.Record.{second_of}
use Rattle.meter_record.specs.declared.record.Record.{Record}
use Rattle.meter.specs.Reply as meter
use Rattle.console_meter.specs.SetLines.{record_after}

-- a meter: its record, and its store of slices
pub record Standing : Type 0 where
  pub meter : Record
  pub store : List ℕ

abbrev pub standing : Record → List ℕ → Standing
standing r s = record { meter = r; store = s }

-- a second passes, or a frame is read
pub data Event : Type 0 where
  second : Event
  frame : List ℕ → Event

-- as the meter's answer leaves it
abbrev pub answered_by : meter.Outcome → Standing
answered_by o = standing o.answer.after o.store

-- by the meter's second, and by its answer into an output as long as the longest frame
unfoldable pub happened : Standing → Event → Standing
happened m second = standing (record_after (second_of m.meter) m.meter) m.store
happened m (frame f) = answered_by (meter.answer_of m.meter m.store f (replicate longest 0))

-- one after the other, each on what the one before left
unfoldable pub run : Standing → List Event → Standing
run m [] = m
run m (e ∷ events) = run (happened m e) events

-- some frames and seconds lead from one meter to another
pub record Reached (before after : Standing) : Type 0 where
  pub events : List Event
  pub leads : run before events ≡ after
