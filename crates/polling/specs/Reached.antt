-- What a poll may make of a log: what some list of the logger's calls makes of it, so that demand 3 says what then stands in every cell,
-- whatever the line carried.
use Rattle.std.specs.Prelude.{None, Option, ◌≡◌, List}
use Rattle.day_rows.specs.LogAndRows.{LogAndRows}
use Rattle.logger.specs.Book.{Call, AllBytes}
use Rattle.logger.specs.Run.{State, state, run}
use Rattle.logger.specs.declared.held.OpenAsk.{OpenAsk}

-- some asks, lapses and replies lead from one state to another (demand 3's "any list")
pub record Reached (s t : State) : Type 0 where
  pub calls : List Call
  pub bytes : AllBytes calls
  pub leads : (run s calls).left ≡ t

-- a poll may make one log with its figures of another: no ask is open before it
pub record Polled (b c : LogAndRows) : Type 0 where
  pub held : Option OpenAsk
  pub reached : Reached (state b None) (state c held)
