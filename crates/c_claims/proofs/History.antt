-- Demand 3 at the boundary: a list of C's calls is a list of the proved calls below them, on the log, on its figures and on the ask that the bytes are
-- read as.
use mathlib.Core.Path.{◌≡◌, refl, sym, ap, ap₂, subst, ◌∙◌}
use mathlib.Core.List.{List, [], ◌∷◌}
use Prim.Native.Nat.{ℕ, ◌<◌}
use lib.ListN.{length}
use Rattle.std.specs.Prelude.{Err, None, Ok, Option, Result, Some}
use Rattle.refusal.specs.Outcome.{Outcome}
use Rattle.byte_numbers.specs.Place.{byte_at}
use Rattle.energy_log.specs.Pair.{pair_of}
use Rattle.energy_log.specs.View.{view_of}
use Rattle.day_rows.specs.LogAndRows.{LogAndRows, log_and_rows}
use Rattle.day_rows.specs.Rows.{row_at, Right}
use Rattle.logger.specs.Ask as ask-of
use Rattle.logger.specs.Take as take
use Rattle.reader.specs.declared.form.Fault.TheVariants as fault
use Rattle.logger.specs.Book.{Call, ask, lapse, reply, Answer, plain, run_of, CallBytes, AllBytes}
use Rattle.logger.specs.Run.{State, take_answer, step, run}
use Rattle.logger.specs.Lapse as lapse-of
use Rattle.logger.specs.declared.held.OpenAsk.{OpenAsk}
use Rattle.logger.specs.declared.ask.AskError.{AskError}
use Rattle.logger.specs.declared.no_reply.LapseError.{LapseError}
use Rattle.logger.specs.declared.take.TakeError.{TakeError}
use Rattle.logger.specs.declared.ask.AskError.TheVariants as asked
use Rattle.logger.specs.declared.no_reply.LapseError.TheVariants as lapsed
use Rattle.logger.specs.declared.take.TakeError.TheVariants.{TooShort, NoAskOpen, NotInLog, Malformed, MeterRefused, OtherCounts, Unsound}
use Rattle.c_values.specs.Ask.{ask_of}
use Rattle.claims.specs.Demand3.{OtherCell, Elsewhere, SameCell, begin, booked, log_afresh}
use Rattle.claims.specs.DayFigures.{OtherDay}
use Rattle.claims.proofs.Claims as claims
use Rattle.metlazuel.specs.LogCalls.{ask_for_c, lapse_for_c, take_for_c}
use Rattle.c_claims.specs.Demand3.{Lent, state_of, told, step_for_c, ran_for_c, Begins}
use Rattle.c_claims.proofs.LogLaws as left

-- ---- what C is told is the call's answer

asked-told : (a : Result Unit AskError) (word size : ℕ) → told (ask-of.number_of a) word size ≡ plain (ask-of.number_of a)
unfolding told
asked-told (Ok tt) word size = refl
asked-told (Err asked.TooShort) word size = refl
asked-told (Err asked.Unsound) word size = refl
asked-told (Err asked.AlreadyOpen) word size = refl
asked-told (Err asked.NotInLog) word size = refl

lapsed-told : (a : Result Unit LapseError) (word size : ℕ) → told (lapse-of.number_of a) word size ≡ plain (lapse-of.number_of a)
unfolding told
lapsed-told (Ok tt) word size = refl
lapsed-told (Err lapsed.NotInLog) word size = refl
lapsed-told (Err lapsed.Unsound) word size = refl

taken-told : (a : Result Unit TakeError) (word size : ℕ) → told (take.number_of a) (take.result_or a word) (take.length_or a size) ≡ take_answer a
unfolding told
taken-told (Ok tt) word size = refl
taken-told (Err TooShort) word size = refl
taken-told (Err NoAskOpen) word size = refl
taken-told (Err NotInLog) word size = refl
taken-told (Err (Malformed (fault.Length n))) word size = refl
taken-told (Err (Malformed fault.Crc)) word size = refl
taken-told (Err (Malformed fault.Address)) word size = refl
taken-told (Err (Malformed fault.Function)) word size = refl
taken-told (Err (Malformed fault.Parameter)) word size = refl
taken-told (Err (MeterRefused result)) word size = refl
taken-told (Err OtherCounts) word size = refl
taken-told (Err Unsound) word size = refl

-- ---- one call

-- C's memory is the log, the figures and the ask of a state
pub record Holds (m : Lent) (s : State) : Type 0 where
  pub log : m.log ≡ s.log
  pub figures : m.figures ≡ s.figures
  pub ask : ask_of m.ask ≡ Some s.held

-- an outcome for C is that of the call below
pub record Alike (o : Outcome Answer Lent) (p : Outcome Answer State) : Type 0 where
  pub answer : o.result ≡ p.result
  pub holds : Holds o.left p.left

step-alike : (m : Lent) (held : Option OpenAsk) (c : Call) → ask_of m.ask ≡ Some held → Alike (step_for_c m c) (step (state_of m held) c)
unfolding step_for_c step ask_for_c lapse_for_c take_for_c take.taken
step-alike m held (ask address day slot out) e = record {
  answer = rw e (asked-told (ask-of.asked (view_of m.log) held address day slot out).result.answer m.result m.size);
  holds = record { log = refl; figures = refl; ask = left.ask-left m.ask (view_of m.log) held address day slot out e };
}
step-alike m held lapse e = record {
  answer = rw e (lapsed-told (lapse-of.lapsed m.log held).result.answer m.result m.size);
  holds = record { log = rw e refl; figures = refl; ask = left.lapse-left m.ask m.log held e };
}
step-alike m held (reply y) e = record {
  answer = rw e (taken-told (take.taken (log_and_rows m.log m.figures) held y).result.answer m.result m.size);
  holds = record {
    log = rw e refl;
    figures = ap (λ (a : Option (Option OpenAsk)). (take_for_c a (log_and_rows m.log m.figures) m.ask y m.result m.size).left.2.figures) e;
    ask = left.take_left m.ask (log_and_rows m.log m.figures) held y m.result m.size e;
  };
}

-- ---- a list of calls

run-alike : (m : Lent) (s : State) (calls : List Call) → Holds m s → Holds (ran_for_c m calls).left (run s calls).left × ((ran_for_c m calls).result ≡ (run s calls).result)
unfolding run_of
run-alike m s [] h = (h, refl)
run-alike m s (c ∷ calls) h =
    let a = step-alike m s.held c h.ask in
    let same : state_of m s.held ≡ s = ap₂ (λ (l f : List ℕ). record { log = l; figures = f; held = s.held }) h.log h.figures in
    let next : Alike (step_for_c m c) (step s c) = rw same at a in
    let rest = run-alike (step_for_c m c).left (step s c).left calls next.holds in
    (rest.0, ap₂ (λ (x : Answer) (xs : List Answer). x ∷ xs) next.answer rest.1)

module _ (m : Lent) (b : Begins m) (calls : List Call) (k : AllBytes calls) where
  -- the log and the figures that C lends at the start
  abbrev pub first : LogAndRows
  first = log_and_rows m.log m.figures

  -- their memory holds the state that the calls below leave, and they tell what those answer
  pub whole : Holds (ran_for_c m calls).left (run (begin first) calls).left × ((ran_for_c m calls).result ≡ (run (begin first) calls).result)
  whole = run-alike m (begin first) calls (record { log = refl; figures = refl; ask = b.closed })

  -- the memory after them is what the calls below leave
  pub same-both : let after = (ran_for_c m calls).left in let s = (run (begin first) calls).left in log_and_rows after.log after.figures ≡ log_and_rows s.log s.figures
  same-both = ap₂ log_and_rows whole.0.log whole.0.figures

  -- demand 3's `log`: "After every such list the log is byte for byte the one worked out afresh from that history"
  pub log : (ran_for_c m calls).left.log ≡ log_afresh b.start calls
  log = whole.0.log ∙ (claims.demand-3).log first b.start calls k

  -- demand 3's `answers`: what C is told after each call is what the plain book answers
  pub answers : (ran_for_c m calls).result ≡ (booked b.start calls).result
  answers = whole.1 ∙ (claims.demand-3).answers first b.start calls k

  -- demand 3's `ask-left`: the ask's bytes are read as the ask that the plain book leaves open
  pub ask-left : ask_of (ran_for_c m calls).left.ask ≡ Some (booked b.start calls).left.held
  ask-left = whole.0.ask ∙ ap Some ((claims.demand-3).ask-left first b.start calls k)

  -- demand 3's `figures`: "the figures must be those that a walk over the cells gives" (CR 8)
  pub figures : let after = (ran_for_c m calls).left in Right b.start.header (view_of after.log).cell after.figures
  figures = rw (whole.0.log, whole.0.figures) ((claims.day-figures).kept first b.start calls k)

-- ---- what a call leaves alone

-- demand 3's `others`: a call leaves every cell but the one whose ask was open before it
pub others : (m : Lent) (held : Option OpenAsk) (c : Call) (j : ℕ) → CallBytes c → ask_of m.ask ≡ Some held → OtherCell (state_of m held) j
    → SameCell (step_for_c m c).left.log m.log j
others m held c j b e k = rw (step-alike m held c e).holds.log ((claims.demand-3).others (state_of m held) c j b k)

-- demand 3's `elsewhere`: a call leaves every pair of the log's bits that is none of the open ask's cell (CR 9)
pub elsewhere : (m : Lent) (held : Option OpenAsk) (c : Call) (q j : ℕ) → j < 4 → ask_of m.ask ≡ Some held → Elsewhere (state_of m held) q j
    → pair_of (byte_at (step_for_c m c).left.log q) j ≡ pair_of (byte_at m.log q) j
elsewhere m held c q j l e k =
    ap (λ (s : List ℕ). pair_of (byte_at s q) j) (step-alike m held c e).holds.log ∙ (claims.demand-3).elsewhere (state_of m held) c q j l k

-- demand 3's `other_days`: a call leaves the figures of every day but the open ask's
pub other_days : (m : Lent) (held : Option OpenAsk) (c : Call) (d : ℕ) → ask_of m.ask ≡ Some held → OtherDay (state_of m held) d
    → row_at (step_for_c m c).left.figures d ≡ row_at m.figures d
other_days m held c d e k =
    ap (λ (l : List ℕ). row_at l d) (step-alike m held c e).holds.figures ∙ (claims.day-figures).other_days (state_of m held) c d k

-- demand 3's `unread`: bytes that are read as no ask leave all that is lent
pub unread : (m : Lent) (c : Call) → ask_of m.ask ≡ None → (step_for_c m c).left ≡ m
unfolding step_for_c ask_for_c lapse_for_c take_for_c
unread m (ask address day slot out) e = rw e refl
unread m lapse e = rw e refl
unread m (reply y) e = rw e refl

-- what holds of the memory before a call, and after one over bytes that are read as an ask, holds after every call
by_read : (P : Lent → Type 0) (m : Lent) (c : Call) → P m → ((held : Option OpenAsk) → ask_of m.ask ≡ Some held → P (step_for_c m c).left) → P (step_for_c m c).left
by_read P m c before after = go (ask_of m.ask) refl
  where
    go : (a : Option (Option OpenAsk)) → ask_of m.ask ≡ a → P (step_for_c m c).left
    go (Some held) e = after held e
    go None e = subst P (sym (unread m c e)) before

-- demand 3's `as_long`: a call leaves the log its length
pub as_long : (m : Lent) (c : Call) → length (step_for_c m c).left.log ≡ length m.log
as_long m c =
    by_read (λ (x : Lent). length x.log ≡ length m.log) m c refl (λ held e.
    ap length (step-alike m held c e).holds.log ∙ (claims.demand-3).as_long (state_of m held) c)

-- demand 3's `as_many`: a call leaves as many figures as there were
pub as_many : (m : Lent) (c : Call) → length (step_for_c m c).left.figures ≡ length m.figures
as_many m c =
    by_read (λ (x : Lent). length x.figures ≡ length m.figures) m c refl (λ held e.
    ap length (step-alike m held c e).holds.figures ∙ (claims.day-figures).as_many (state_of m held) c)
