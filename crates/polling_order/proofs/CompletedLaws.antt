-- What the plain book keeps after a list of calls: what it held, the rows of the completed asks, and their lapses.
use mathlib.Core.Path.{◌≡◌, refl, sym, ap, ◌∙◌}
use mathlib.Core.Bool.{Bool, true, false, cond}
use mathlib.Core.List.{List, [], ◌∷◌, ◌++◌, append-nil, append_assoc}
use Prim.Native.Nat.{ℕ, ◌+◌}
use native.Mathlib.Omega.{arith}
use lib.Dec.{eqb, ltb}
use lib.ListN.{length}
use Rattle.std.specs.Prelude.{None, Option, Some, Err, Ok, Result}
use Rattle.test_laws.proofs.Test.{either}
use Rattle.refusal.specs.Outcome.{Outcome}
use Rattle.frame.specs.Layout.{read_size}
use Rattle.reader.specs.declared.form.Fault.{Fault}
use Rattle.log_header.specs.Interval.{interval_of}
use Rattle.log_header.proofs.IntervalLaws.{by-at}
use Rattle.log_header.specs.declared.header.Header.{Header}
use Rattle.logger.specs.Book.{Call, ask, lapse, reply, Answer, Book, entry, place_of, kept_with, lapses_with, keep_reply, fault_answer, book_reply, book_ask, book_lapse, book_step, run_of, book_run}
use Rattle.logger.specs.Reply.{slice_form, if_formed, result_of}
use Rattle.wire_values.specs.declared.row.Row.{Row}
use Rattle.logger.proofs.TakeLaws.{by-none}
use Rattle.logger.specs.declared.held.OpenAsk.{OpenAsk}
use Rattle.logger.specs.Held.{opened_for}
use Rattle.polling_order.specs.Completed.{counted, refused, lapsed, Completed, ended_at, ending_of, completed_by, completed, rows_with, rows_at}
use Rattle.polling_order.proofs.OrderLaws.{rows_append, lapses_in, lapses-append}

-- a book after some calls, by the completed asks: each interval has their rows and their lapses more
pub record Adds (before after : Book) (ds : List Completed) : Type 0 where
  pub kept : (i : ℕ) → after.kept i ≡ before.kept i ++ rows_at i ds
  pub lapses : (i : ℕ) → after.lapses i ≡ before.lapses i + lapses_in i ds

abbrev book : Option OpenAsk → (ℕ → List Row) → (ℕ → ℕ) → Book
book held kept lapses = record { held = held; kept = kept; lapses = lapses }

-- nothing is completed
adds_none : (held after : Option OpenAsk) (kept : ℕ → List Row) (lapses : ℕ → ℕ) → Adds (book held kept lapses) (book after kept lapses) []
unfolding rows_at lapses_in
adds_none held after kept lapses = record { kept = λ i. sym (append-nil (kept i)); lapses = λ i. omega arith }

-- an ask for interval p is, by a well-formed reply with these counts or with another result
module _ (held : Option OpenAsk) (kept : ℕ → List Row) (lapses : ℕ → ℕ) (p : ℕ) where
  adds-reply : (ok : Bool) (refusal : Answer) (r : Row) (result : ℕ)
      → Adds (book held kept lapses) (cond ok (keep_reply kept lapses p r) (entry refusal None kept lapses)).left
      (ended_at p (cond ok (counted r) (refused result)) ∷ [])
  unfolding keep_reply kept_with rows_at rows_with lapses_in
  adds-reply true refusal r result = record { kept = λ i. row (eqb i p) i; lapses = λ i. none (eqb i p) i }
    where
      row : (b : Bool) (i : ℕ) → cond b (kept i ++ (r ∷ [])) (kept i) ≡ kept i ++ (cond b (r ∷ []) [] ++ [])
      row true i = refl
      row false i = sym (append-nil (kept i))

      none : (b : Bool) (i : ℕ) → lapses i ≡ lapses i + (cond b 0 0 + 0)
      none true i = omega arith
      none false i = omega arith
  adds-reply false refusal r result = record { kept = λ i. none (eqb i p) i; lapses = λ i. no_lapse (eqb i p) i }
    where
      none : (b : Bool) (i : ℕ) → kept i ≡ kept i ++ (cond b [] [] ++ [])
      none true i = sym (append-nil (kept i))
      none false i = sym (append-nil (kept i))

      no_lapse : (b : Bool) (i : ℕ) → lapses i ≡ lapses i + (cond b 0 0 + 0)
      no_lapse true i = omega arith
      no_lapse false i = omega arith

  -- a reply that is not well formed completes nothing
  formed-adds : (f : Result Unit Fault) (ok : Bool) (refusal : Answer) (r : Row) (result : ℕ)
      → Adds (book held kept lapses)
      (if_formed f (λ fault. entry (fault_answer fault) held kept lapses) (cond ok (keep_reply kept lapses p r) (entry refusal None kept lapses))).left
      (if_formed f (λ fault. []) (ended_at p (cond ok (counted r) (refused result)) ∷ []))
  formed-adds (Ok tt) ok refusal r result = adds-reply ok refusal r result
  formed-adds (Err fault) ok refusal r result = adds_none held held kept lapses

  -- or by a lapse
  adds-lapse : Adds (book held kept lapses) (book None kept (lapses_with lapses p)) (ended_at p lapsed ∷ [])
  unfolding lapses_with rows_at rows_with lapses_in
  adds-lapse = record { kept = λ i. none (eqb i p) i; lapses = λ i. one (eqb i p) i }
    where
      none : (b : Bool) (i : ℕ) → kept i ≡ kept i ++ (cond b [] [] ++ [])
      none true i = sym (append-nil (kept i))
      none false i = sym (append-nil (kept i))

      one : (b : Bool) (i : ℕ) → cond b (lapses i + 1) (lapses i) ≡ lapses i + (cond b 1 0 + 0)
      one true i = omega arith
      one false i = omega arith

-- one call
pub step-adds : (h : Header) (held : Option OpenAsk) (kept : ℕ → List Row) (lapses : ℕ → ℕ) (c : Call)
    → Adds (book held kept lapses) (book_step h (book held kept lapses) c).left (completed_by h held c)
unfolding book_step book_ask book_lapse book_reply completed_by ending_of
step-adds h held kept lapses (ask address day slot out) =
    let P : Outcome Answer Book → Type 0 = λ e. Adds (book held kept lapses) e.left [] in
    either P (ltb (length out) read_size) (adds_none held held kept lapses) (
    by-none P held (λ a d t o. adds_none held held kept lapses) (λ o.
    by-at P (interval_of h day slot) (λ n. adds_none held held kept lapses) (λ i n. adds_none held (opened_for address day slot) kept lapses)))
step-adds h None kept lapses lapse = adds_none None None kept lapses
step-adds h (Some asking) kept lapses lapse = adds-lapse (Some asking) kept lapses (place_of h asking.day asking.slot)
step-adds h None kept lapses (reply y) = adds_none None None kept lapses
step-adds h (Some asking) kept lapses (reply y) =
    formed-adds (Some asking) kept lapses (place_of h asking.day asking.slot) (slice_form asking.address y) (eqb (result_of y) 0) (record { number = 24; result = result_of y; length = 0 }) _ (result_of y)

-- any list of calls
pub run-adds : (h : Header) (b : Book) (calls : List Call) → Adds b (book_run h b calls).left (completed h b calls)
unfolding run_of completed
run-adds h b [] = adds_none b.held b.held b.kept b.lapses
run-adds h b (c ∷ calls) =
    let here = step-adds h b.held b.kept b.lapses c in
    let next = (book_step h b c).left in
    let rest = run-adds h next calls in
    let ds = completed_by h b.held c in
    let es = completed h next calls in
    record {
      kept = λ i. rest.kept i ∙ ap (λ (l : List Row). l ++ rows_at i es) (here.kept i) ∙ append_assoc (b.kept i) (rows_at i ds) (rows_at i es)
          ∙ ap (λ (l : List Row). b.kept i ++ l) (sym (rows_append i ds es));
      lapses = λ i. omega (arith, rest.lapses i, here.lapses i, lapses-append i ds es);
    }
