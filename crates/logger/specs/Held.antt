-- The open ask. Source: document 01, "The reader and the log": "The reader has at most one ask open, with its address (0..255)".
use Rattle.std.specs.Prelude.{◌≡◌, ℕ, Option, Some, None, Result}
use Rattle.log_header.specs.Interval.{interval_of}
use Rattle.log_header.specs.declared.header.Header.{Header}
use Rattle.energy_log.specs.declared.image.Change.{Change}
use Rattle.energy_log.specs.declared.image.Change.TheVariants as change
use Rattle.logger.specs.declared.held.OpenAsk.{OpenAsk}
use Rattle.logger.specs.declared.held.Decided.{Decided}

-- an ask that is open for a slot of a day
abbrev pub opened_for : ℕ → ℕ → ℕ → Option OpenAsk
opened_for address day slot = Some (record { address = address; day = day; slot = slot })

-- refused, and all stays as it was
abbrev pub stays : {E : Type 0} → Result Unit E → Option OpenAsk → Decided E
stays a held = record { answered = record { answer = a; held = held }; change = change.None }

-- none is open after it
abbrev pub closes : {E : Type 0} → Result Unit E → Change → Decided E
closes a done = record { answered = record { answer = a; held = None }; change = done }

-- one value with an ask open, else another
abbrev pub if_none : {A : Type 0} → Option OpenAsk → A → A → A
if_none (Some ask) other none = other
if_none None other none = none

-- one value with none open, else one by its address, day and slot
abbrev pub if_open : {A : Type 0} → Option OpenAsk → A → (ℕ → ℕ → ℕ → A) → A
if_open None other f = other
if_open (Some ask) other f = f ask.address ask.day ask.slot

-- the ask that is open is for cell i of a log with this header
pub record OpenFor (h : Header) (held : Option OpenAsk) (i : ℕ) : Type 0 where
  pub address : ℕ
  pub day : ℕ
  pub slot : ℕ
  pub open_ask : held ≡ opened_for address day slot
  pub interval : interval_of h day slot ≡ Some i
