-- The bytes that a call leaves are read as the ask that the proved call below it left. So a history of calls through lent bytes, each call
-- lent the ask as the one before left it, is a history of `put_ask`, `lapse` and `take_reply`, and demand 3 speaks of it.
use Rattle.std.specs.Prelude.{None, Option, Err, Some}
use Rattle.logger.specs.Held.{opened_for}
use mathlib.Core.Path.{◌≡◌, refl, ap, ◌∙◌}
use mathlib.Core.Bool.{cond}
use mathlib.Core.List.{List}
use Prim.Native.Nat.{ℕ}
use lib.Dec.{ltb}
use lib.ListN.{length}
use Rattle.refusal.specs.Outcome.{Outcome, outcome}
use Rattle.byte_numbers.specs.Place.{written}
use Rattle.reader.specs.declared.form.Fault.{Fault}
use Rattle.reader.specs.declared.form.Fault.TheVariants as fault
use Rattle.reader.proofs.FormLaws.{length-told}
use Rattle.logger.specs.Held.{OpenFor}
use Rattle.logger.specs.Reply.{slice_form, row_of}
use Rattle.logger.specs.Ask.{Asked}
use Rattle.logger.specs.Take.{Taken}
use Rattle.test_laws.proofs.Test.{either}
use Rattle.frame.specs.Layout.{read_size}
use Rattle.log_header.proofs.HeaderLaws.{by-sound}
use Rattle.energy_log.specs.View.{View, view_of}
use Rattle.day_rows.specs.LogAndRows.{LogAndRows}
use Rattle.log_header.specs.Interval.{interval_of, comes_twice}
use Rattle.log_header.specs.declared.header.Header.{Header}
use Rattle.log_header.proofs.IntervalLaws.{by-at}
use Rattle.logger.proofs.LapseLaws.{lapsing-ways}
use Rattle.logger.proofs.TakeLaws.{Step, by-none, decided-cases, update-cases, decided-ways}
use Rattle.logger.specs.Lapse.{LapseDecision}
use Rattle.logger.specs.declared.held.OpenAsk.{OpenAsk}
use Rattle.logger.specs.declared.take.TakeError.TheVariants.{Malformed}
use Rattle.claims.specs.Demand1.{closes_ask}
use Rattle.c_values.specs.Ask.{ask_bytes, ask_of}
use Rattle.c_values.proofs.AskLaws.{ask-size, ask-again}
use Rattle.logger.specs.Ask as ask
use Rattle.logger.specs.Lapse as lapse
use Rattle.logger.specs.Take as take
use Rattle.metlazuel.specs.Calls.{result_after, received_after}
use Rattle.metlazuel.specs.LogCalls.{ask_left, ask_for_c, lapse_for_c, take_for_c}

module _ (bs : List ℕ) where
  -- the bytes of an ask that a call leaves as it was, and of one that it closes
  pub kept-bytes : (held : Option OpenAsk) → ask_left held held bs ≡ bs
  unfolding ask_left
  kept-bytes None = refl
  kept-bytes (Some asking) = refl

  kept-left : (held : Option OpenAsk) → ask_of bs ≡ Some held → ask_of (ask_left held held bs) ≡ Some held
  kept-left held e = ap ask_of (kept-bytes held) ∙ e

  closed-left : (held : Option OpenAsk) → ask_of bs ≡ Some held → ask_of (ask_left held None bs) ≡ Some None
  unfolding ask_left
  closed-left None e = e
  closed-left (Some asking) e = ask-again bs None (ask-size bs (Some asking) e)

  -- the bytes after an ask's outcome are its ask
  abbrev Opened : Option OpenAsk → Outcome Asked (List ℕ) → Type 0
  Opened held o = ask_of (ask_left held o.result.held bs) ≡ Some o.result.held

  ask-opened : (v : View) (held : Option OpenAsk) (address day slot : ℕ) (out : List ℕ) → ask_of bs ≡ Some held
      → Opened held (ask.asked v held address day slot out)
  unfolding ask.asked ask_left
  ask-opened v held address day slot out e =
      let kept = kept-left held e in
      either (Opened held) (ltb (length out) read_size) kept (
      by-sound (Opened held) v.lent (λ u. kept) (λ h u.
      by-none (Opened held) held (λ a d t o. kept) (λ o.
      by-at (Opened held) (interval_of h day slot) (λ n. kept) (λ i n.
      rw o (ask-again bs (opened_for address day slot) (ask-size bs held e))))))

  -- the bytes after `metlazuel_ask` are read as the ask that `put_ask` leaves
  pub ask-left : (v : View) (held : Option OpenAsk) (address day slot : ℕ) (out : List ℕ) → ask_of bs ≡ Some held
      → ask_of (ask_for_c (ask_of bs) v bs address day slot out).left.0 ≡ Some (ask.asked v held address day slot out).result.held
  unfolding ask_for_c
  ask-left v held address day slot out e = rw e (ask-opened v held address day slot out e)

  -- the bytes after a lapse are its ask: with none open they stay, a refused one leaves them, and else they are those of none
  abbrev Lapses : Option OpenAsk → LapseDecision → Type 0
  Lapses held d = ask_of (ask_left held d.answered.held bs) ≡ Some d.answered.held

  -- the bytes after `metlazuel_lapse` are read as the ask that `lapse` leaves
  pub lapse-left : (log : List ℕ) (held : Option OpenAsk) → ask_of bs ≡ Some held
      → ask_of (lapse_for_c (ask_of bs) log bs).left.1 ≡ Some (lapse.lapsed log held).result.held
  unfolding lapse_for_c lapse.lapsed
  lapse-left log held e =
      rw e (lapsing-ways (Lapses held) (view_of log) held (record {
        none = λ o. closed-left held e;
        refused = λ a n. kept-left held e;
        counted = λ h i s o. closed-left held e;
      }))

  -- the bytes after a reply's outcome are its ask
  abbrev Left : Option OpenAsk → Outcome Taken LogAndRows → Type 0
  Left held o = ask_of (ask_left held o.result.held bs) ≡ Some o.result.held

  log-left : (b : LogAndRows) (held : Option OpenAsk) (y : List ℕ) → ask_of bs ≡ Some held → Left held (take.taken b held y)
  unfolding take.taken
  log-left b held y e =
      decided-ways (λ (d : Step). Left held (take.done d b.log)) (view_of b.log) b.figures held y (record {
        kept-open = λ a n. kept-left held e;
        closed = λ a n. closed-left held e;
        put = λ h i old c s o g is done. closed-left held e;
      })

  -- the bytes after `metlazuel_take` are read as the ask that `take_reply` leaves
  pub take_left : (b : LogAndRows) (held : Option OpenAsk) (y : List ℕ) (result size : ℕ) → ask_of bs ≡ Some held
      → ask_of (take_for_c (ask_of bs) b bs y result size).left.3 ≡ Some (take.taken b held y).result.held
  unfolding take_for_c
  take_left b held y result size e = rw e (log-left b held y e)

-- ---- what a reply gives C, by its number

-- the result is the reply's, the length is the reply's, and the ask's bytes are those of none where the number closes it
pub record Given (held : Option OpenAsk) (y bs : List ℕ) (result size : ℕ) (t : Taken) : Type 0 where
  pub result-is : take.result_or t.answer result ≡ result_after (take.number_of t.answer) y result
  pub length-is : take.length_or t.answer size ≡ received_after (take.number_of t.answer) y size
  pub ask-is : ask_left held t.held bs ≡ cond (closes_ask (take.number_of t.answer)) (written bs 0 (ask_bytes None)) bs

module _ (held : Option OpenAsk) (y bs : List ℕ) (result size : ℕ) where
  abbrev Gives : Step → Type 0
  Gives d = Given held y bs result size d.result.answered

  fault-given : (address : ℕ) (figs : List ℕ) (f : Fault) → slice_form address y ≡ Err f → Gives (outcome (take.stays (Err (Malformed f)) held) figs)
  unfolding result_after received_after
  fault-given address figs (fault.Length n) e = record { result-is = refl; length-is = length-told address 3 36 14 y n e; ask-is = kept-bytes bs held }
  fault-given address figs fault.Crc e = record { result-is = refl; length-is = refl; ask-is = kept-bytes bs held }
  fault-given address figs fault.Address e = record { result-is = refl; length-is = refl; ask-is = kept-bytes bs held }
  fault-given address figs fault.Function e = record { result-is = refl; length-is = refl; ask-is = kept-bytes bs held }
  fault-given address figs fault.Parameter e = record { result-is = refl; length-is = refl; ask-is = kept-bytes bs held }

  -- an open ask's bytes, closed
  shut : (h : Header) (i : ℕ) → OpenFor h held i → ask_left held None bs ≡ written bs 0 (ask_bytes None)
  unfolding ask_left
  shut h i o = rw o.open_ask refl

  decided-given : (v : View) (figs : List ℕ) → Gives (take.decided v figs held y)
  unfolding result_after received_after
  decided-given v figs =
      let kept = kept-bytes bs held in
      decided-cases Gives v figs held y (λ u. record { result-is = refl; length-is = refl; ask-is = kept }) (λ h u.
      record {
        few = λ n. record { result-is = refl; length-is = refl; ask-is = kept };
        no-ask = λ o. record { result-is = refl; length-is = refl; ask-is = kept };
        outside = λ a d t o n. record { result-is = refl; length-is = refl; ask-is = kept };
        malformed = λ i o f e. fault-given o.address figs f e;
        refused = λ i o r. record { result-is = refl; length-is = refl; ask-is = shut h i o.ask };
        bad-cell = λ i o b. record { result-is = refl; length-is = refl; ask-is = kept };
        counted = λ i o r c g.
            let closed = shut h i o.ask in
            update-cases Gives (comes_twice h o.ask.day o.ask.slot) held o.ask.day i c figs (take.update_of c (row_of y))
            (λ new q done. record { result-is = refl; length-is = refl; ask-is = closed }) (record { result-is = refl; length-is = refl; ask-is = kept })
            (record { result-is = refl; length-is = refl; ask-is = closed }) (record { result-is = refl; length-is = refl; ask-is = closed });
      })

  -- for the claims of `take`, which speak of the number and the reply
  pub taken-given : (b : LogAndRows) → Given held y bs result size (take.taken b held y).result
  unfolding take.taken
  taken-given b = decided-given (view_of b.log) b.figures
