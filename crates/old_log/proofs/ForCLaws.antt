-- C's calls over an old and a new log that are alike: each is the call below it with its answer as a number, so the answers are the same numbers, and the ask's
-- bytes and the words follow from them.
use mathlib.Core.Path.{◌≡◌, refl, sym, ap, ap₂, subst, ◌∙◌}
use mathlib.Core.List.{List, [], ◌∷◌}
use Prim.Native.Nat.{ℕ}
use lib.ListN.{take}
use Rattle.std.specs.Prelude.{None, Ok, Option, Some}
use Rattle.refusal.specs.Outcome.{Outcome}
use Rattle.byte_numbers.specs.Number.{Bytes}
use Rattle.energy_log.specs.Fresh.{fresh_number}
use Rattle.log_header.specs.declared.header.Header.{Header}
use Rattle.day_rows.specs.LogAndRows.{LogAndRows, log_and_rows}
use Rattle.log_file.specs.Read.{read_number}
use Rattle.logger.specs.Lapse as Lapse
use Rattle.logger.specs.Take as Take
use Rattle.logger.specs.Book.{Call, ask, lapse, reply, Answer, run_of, CallBytes, AllBytes}
use Rattle.logger.specs.declared.held.OpenAsk.{OpenAsk}
use Rattle.c_values.specs.Ask.{ask_of}
use Rattle.metlazuel.specs.Calls.{sized}
use Rattle.metlazuel.specs.LogCalls.{image_length, length_after, ask_left, ask_for_c}
use Rattle.c_claims.specs.Demand3.{Lent, told}
use Rattle.c_claims.proofs.Ends.{image-kept, length-kept}
use Rattle.old_log.specs.Layout.{rows, columns}
use Rattle.old_log.specs.Same.{Alike, SameMade, Rooms, FileRooms}
use Rattle.old_log.specs.ForC.{lapse_for_c_in, take_for_c_in, fresh_for_c_in, read_for_c_in, step_for_c_in, run_for_c_in}
use Rattle.old_log.specs.ForC.{SameLapse, SameTake, SameMadeForC, SameLent, SameRunForC}
use Rattle.old_log.proofs.SameLaws as same

-- ---- calls that alter a log

-- the field `lapse` of `SameForC`
pub same-lapse : (s t : List ℕ) → Alike s t → (a : Option (Option OpenAsk)) (bs : List ℕ) → SameLapse (lapse_for_c_in rows a s bs) (lapse_for_c_in columns a t bs)
unfolding lapse_for_c_in
same-lapse s t e (Some held) bs =
    let w = same.same-lapse s t held held e refl in
    record {
      answer = λ i. Lapse.number_of (w.answer i).answer;
      seen = w.seen;
      ask = λ i. ask_left held (w.answer i).held bs;
    }
same-lapse s t e None bs = record { answer = refl; seen = e; ask = refl }

-- its field `take`
pub same-take : (b c : LogAndRows) → Alike b.log c.log → b.figures ≡ c.figures → (a : Option (Option OpenAsk)) (bs y : List ℕ) (result size : ℕ) → Bytes y
    → SameTake (take_for_c_in rows a b bs y result size) (take_for_c_in columns a c bs y result size)
unfolding take_for_c_in
same-take b c e q (Some held) bs y result size bytes =
    let w = same.same-take b c held held y e q refl bytes in
    record {
      answer = λ i. Take.number_of (w.answer i).answer;
      result = λ i. Take.result_or (w.answer i).answer result;
      size = λ i. Take.length_or (w.answer i).answer size;
      seen = w.seen;
      figures = w.figures;
      ask = λ i. ask_left held (w.answer i).held bs;
    }
same-take b c e q None bs y result size bytes = record { answer = refl; result = refl; size = refl; seen = e; figures = q; ask = refl }

-- ---- calls that make a log

-- the word behind `length` is told with 0, and left by a refusal
module _ {A : Type 0} (number : A → ℕ) (done : ℕ → A) (size : A → ℕ → ℕ) (told : (n word : ℕ) → size (done n) word ≡ n)
    (left : (x : A) (word : ℕ) → (number x ≡ 0 → ⊥) → size x word ≡ word) where
  made-for-c : (a b : List ℕ) (word : ℕ) (o n : Outcome A LogAndRows) → SameMade number done a b o n
      → SameMadeForC a b word (sized number size o word) (sized number size n word)
  made-for-c a b word o n w = record {
    answer = w.answer;
    figures = w.figures;
    made = λ e.
        let m = w.made e in
        let p : size o.result word ≡ rows.size m.header = ap (λ (x : A). size x word) m.old_told ∙ told (rows.size m.header) word in
        let q : size n.result word ≡ columns.size m.header = ap (λ (x : A). size x word) m.new_told ∙ told (columns.size m.header) word in
        record {
          header = m.header;
          old_length = p;
          new_length = q;
          sound = subst (λ (k : ℕ). (columns.view (take k n.left.log)).lent ≡ Some m.header) (sym q) m.sound;
          seen = subst (λ (k : ℕ). Alike (take (size o.result word) o.left.log) (take k n.left.log)) (sym q)
              (subst (λ (k : ℕ). Alike (take k o.left.log) (take (columns.size m.header) n.left.log)) (sym p) m.seen);
        };
    refused = λ r.
        let kept = w.refused r in
        record {
          old_length = left o.result word (λ z. r (sym w.answer ∙ z));
          new_length = left n.result word r;
          old_log = kept.0;
          new-log = kept.1;
        };
  }

-- its field `fresh`
pub same-fresh : (h : Header) (a b figs : List ℕ) (word : ℕ) → Rooms h a b → SameMadeForC a b word (fresh_for_c_in rows h a figs word) (fresh_for_c_in columns h b figs word)
unfolding image_length
same-fresh h a b figs word room = made-for-c fresh_number Ok image_length (λ n w. refl) image-kept a b word _ _ (same.same-fresh h a b figs room)

-- its field `read`
pub same_read : (f a b figs : List ℕ) (word : ℕ) → Bytes f → FileRooms f a b → SameMadeForC a b word (read_for_c_in rows f a figs word) (read_for_c_in columns f b figs word)
unfolding length_after
same_read f a b figs word bytes room = made-for-c read_number Ok length_after (λ n w. refl) length-kept a b word _ _ (same.same_read f a b figs bytes room)

-- ---- a list of calls

record SameStep (o n : Outcome Answer Lent) : Type 0 where
  answer : o.result ≡ n.result
  left : SameLent o.left n.left

same_step : (m n : Lent) (c : Call) → SameLent m n → CallBytes c → SameStep (step_for_c_in rows m c) (step_for_c_in columns n c)
unfolding step_for_c_in
same_step m n (ask address day slot out) w k =
    let e = w.seen in
    let p = w.ask in
    record {
      answer = λ i. told (ask_for_c (ask_of (p i)) (e i) (p i) address day slot out).result (w.result i) (w.size i);
      left = record {
        seen = e;
        figures = w.figures;
        ask = λ i. (ask_for_c (ask_of (p i)) (e i) (p i) address day slot out).left.0;
        result = w.result;
        size = w.size;
      };
    }
same_step m n lapse w k =
    let z : SameLapse (lapse_for_c_in rows (ask_of m.ask) m.log m.ask) (lapse_for_c_in columns (ask_of n.ask) n.log n.ask) =
    subst (λ (bs : List ℕ). SameLapse (lapse_for_c_in rows (ask_of m.ask) m.log m.ask) (lapse_for_c_in columns (ask_of bs) n.log bs)) w.ask
    (same-lapse m.log n.log w.seen (ask_of m.ask) m.ask) in
    record {
      answer = λ i. told (z.answer i) (w.result i) (w.size i);
      left = record { seen = z.seen; figures = w.figures; ask = z.ask; result = w.result; size = w.size };
    }
same_step m n (reply y) w k =
    let b = log_and_rows m.log m.figures in
    let c = log_and_rows n.log n.figures in
    let z : SameTake (take_for_c_in rows (ask_of m.ask) b m.ask y m.result m.size) (take_for_c_in columns (ask_of n.ask) c n.ask y n.result n.size) =
    rw (sym w.ask, sym w.result, sym w.size) (same-take b c w.seen w.figures (ask_of m.ask) m.ask y m.result m.size k) in
    record {
      answer = λ i. told (z.answer i) (z.result i) (z.size i);
      left = record { seen = z.seen; figures = z.figures; ask = z.ask; result = z.result; size = z.size };
    }

-- its field `run`, call by call
pub same-run : (m n : Lent) → SameLent m n → (calls : List Call) → AllBytes calls → SameRunForC (run_for_c_in rows m calls) (run_for_c_in columns n calls)
unfolding run_of
same-run m n w [] k = record { answers = refl; left = w }
same-run m n w (c ∷ calls) k =
    let z = same_step m n c w k.0 in
    let rest = same-run (step_for_c_in rows m c).left (step_for_c_in columns n c).left z.left calls k.1 in
    record { answers = ap₂ (λ (x : Answer) (xs : List Answer). x ∷ xs) z.answer rest.answers; left = rest.left }
