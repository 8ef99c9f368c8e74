-- Lists of completed asks, as calls: each ask closed before the next. Document 02, CR 13: "that each ask is closed before the next".
use Rattle.std.specs.Prelude.{◌≡◌, ℕ, ◌≤◌, length, Ok, Some}
use mathlib.Core.List.{List, [], ◌∷◌, map, Memᴰ}
use Rattle.byte_numbers.specs.Number.{Bytes}
use Rattle.frame.specs.Layout.{read_size}
use Rattle.log_header.specs.Interval.{interval_of}
use Rattle.log_header.specs.declared.header.Header.{Header}
use Rattle.logger.specs.Book.{Call, ask, lapse, reply, place_of}
use Rattle.logger.specs.Reply.{slice_form}
use Rattle.polling_order.specs.Completed.{Ending, lapsed, Completed, ended_at, ending_of}

-- what closes an ask
pub data Closing : Type 0 where
  lapses : Closing
  answers : List ℕ → Closing

-- an ask with its lent output, replies to it that are not well formed, and what closes it
pub record Round : Type 0 where
  pub address : ℕ
  pub day : ℕ
  pub slot : ℕ
  pub out : List ℕ
  pub malformed : List (List ℕ)
  pub closing : Closing

-- ---- as calls

abbrev pub closing_call : Closing → Call
closing_call lapses = lapse
closing_call (answers y) = reply y

-- some replies, and then other calls
abbrev pub replies_then : List (List ℕ) → List Call → List Call
replies_then [] calls = calls
replies_then (y ∷ ys) calls = reply y ∷ replies_then ys calls

-- one round after the other
abbrev pub calls_of : List Round → List Call
calls_of [] = []
calls_of (r ∷ rs) = ask r.address r.day r.slot r.out ∷ replies_then r.malformed (closing_call r.closing ∷ calls_of rs)

-- ---- what makes a round complete its ask

-- a reply to an ask by this address that leaves it open
pub record Malformed (address : ℕ) (y : List ℕ) : Type 0 where
  pub bytes : Bytes y
  pub faulty : slice_form address y ≡ Ok tt → ⊥

abbrev pub AllMalformed : ℕ → List (List ℕ) → Type 0
AllMalformed address [] = Unit
AllMalformed address (y ∷ ys) = Malformed address y × AllMalformed address ys

-- a lapse closes it, and so does a well-formed reply
abbrev pub Closes : ℕ → Closing → Type 0
Closes address lapses = Unit
Closes address (answers y) = Bytes y × (slice_form address y ≡ Ok tt)

-- the ask opens, since there is room for its frame and its interval is in the log; then it is closed
pub record Completes (h : Header) (r : Round) : Type 0 where
  pub room : read_size ≤ length r.out
  pub interval : interval_of h r.day r.slot ≡ Some (place_of h r.day r.slot)
  pub stays : AllMalformed r.address r.malformed
  pub closed : Closes r.address r.closing

abbrev pub AllComplete : Header → List Round → Type 0
AllComplete h rs = (r : Round) → Memᴰ r rs → Completes h r

-- ---- its completed ask

abbrev pub ending_by : Closing → Ending
ending_by lapses = lapsed
ending_by (answers y) = ending_of y

abbrev pub ask_of : Header → Round → Completed
ask_of h r = ended_at (place_of h r.day r.slot) (ending_by r.closing)

abbrev pub asks_of : Header → List Round → List Completed
asks_of h rs = map (ask_of h) rs
