-- A list of rounds completes just their asks: each ask opens, replies that are not well formed leave it, and its lapse or its reply closes it before the next.
use mathlib.Core.Path.{◌≡◌, refl, ap, ◌∙◌}
use mathlib.Core.List.Memᴰ
use mathlib.Core.List.{List, [], ◌∷◌, ◌++◌}
use Prim.Native.Nat.{ℕ}
use lib.ListN.{length}
use borrow.Author.Tests.{le-ltb}
use Rattle.std.specs.Prelude.{Err, Ok, Result, None, Option}
use Rattle.refusal.specs.Outcome.{Outcome}
use Rattle.frame.specs.Layout.{read_size}
use Rattle.reader.specs.declared.form.Fault.{Fault}
use Rattle.log_header.specs.declared.header.Header.{Header}
use Rattle.logger.specs.Book.{Call, ask, Answer, Book, entry, fault_answer, place_of, keep_reply, book_reply, book_ask, book_lapse, book_step, AllBytes}
use Rattle.logger.specs.Reply.{slice_form, if_formed, result_of}
use Rattle.wire_values.specs.declared.row.Row.{Row}
use Rattle.logger.proofs.TakeLaws.{by-ok}
use Rattle.logger.specs.declared.held.OpenAsk.{OpenAsk}
use Rattle.logger.specs.Held.{opened_for}
use Rattle.polling_order.specs.Completed.{lapsed, Completed, ended_at, ending_of, completed_by, completed}
use Rattle.polling_order.specs.Rounds.{Closing, lapses, answers, Round, closing_call, replies_then, calls_of, AllMalformed, Closes, Completes, AllComplete, ending_by, asks_of}

-- a book by its three parts
abbrev pub book : Option OpenAsk → (ℕ → List Row) → (ℕ → ℕ) → Book
book held kept counts = record { held = held; kept = kept; lapses = counts }

module _ (h : Header) (kept : ℕ → List Row) (counts : ℕ → ℕ) where
  -- the ask opens
  opens : (r : Round) (calls : List Call) → Completes h r
      → completed h (book None kept counts) (ask r.address r.day r.slot r.out ∷ calls)
      ≡ completed h (book (opened_for r.address r.day r.slot) kept counts) calls
  unfolding completed completed_by book_step book_ask
  opens r calls c = rw (le-ltb (length r.out) read_size c.room, c.interval) refl

  -- a reply that is not well formed leaves it
  stays-one : (f : Result Unit Fault) (a d t : ℕ) (y : List ℕ) (o : Outcome Answer Book) (ds : List Completed) (calls : List Call) → (f ≡ Ok tt → ⊥)
      → if_formed f (λ fault. []) ds
      ++ completed h (if_formed f (λ fault. entry (fault_answer fault) (opened_for a d t) kept counts) o).left calls
      ≡ completed h (book (opened_for a d t) kept counts) calls
  stays-one (Ok tt) a d t y o ds calls k = absurd (k refl)
  stays-one (Err fault) a d t y o ds calls k = refl

  stays_all : (a d t : ℕ) (ys : List (List ℕ)) (calls : List Call) → AllMalformed a ys
      → completed h (book (opened_for a d t) kept counts) (replies_then ys calls) ≡ completed h (book (opened_for a d t) kept counts) calls
  unfolding completed completed_by book_step book_reply
  stays_all a d t [] calls k = refl
  stays_all a d t (y ∷ ys) calls k = stays-one (slice_form a y) a d t y _ _ (replies_then ys calls) k.0.faulty ∙ stays_all a d t ys calls k.1

-- what is completed with none open, whatever was kept
abbrev pub Behind : Header → List Call → List Completed → Type 0
Behind h calls ds = (kept : ℕ → List Row) (counts : ℕ → ℕ) → completed h (book None kept counts) calls ≡ ds

-- what closes the ask completes it, and leaves none open
closes : (h : Header) (kept : ℕ → List Row) (counts : ℕ → ℕ) (a d t : ℕ) (x : Closing) (calls : List Call) (ds : List Completed) → Closes a x → Behind h calls ds
    → completed h (book (opened_for a d t) kept counts) (closing_call x ∷ calls) ≡ ended_at (place_of h d t) (ending_by x) ∷ ds
unfolding completed completed_by book_step book_lapse book_reply keep_reply
closes h kept counts a d t lapses calls ds c k = ap (λ (l : List Completed). ended_at (place_of h d t) lapsed ∷ l) (k kept _)
closes h kept counts a d t (answers y) calls ds c k =
    rw c.1
    (ap (λ (l : List Completed). ended_at (place_of h d t) (ending_of y) ∷ l)
    (by-ok (λ (e : Outcome Answer Book). completed h e.left calls ≡ ds) (result_of y) (λ n. k kept counts) (λ n. k _ counts)))

-- the calls of a list complete its asks, whatever the book held before
pub completes-all : (h : Header) (rs : List Round) → AllComplete h rs → Behind h (calls_of rs) (asks_of h rs)
unfolding completed
completes-all h [] c kept counts = refl
completes-all h (r ∷ rs) c kept counts =
    let here = c r (Memᴰ.head refl) in
    let last = closing_call r.closing ∷ calls_of rs in
    opens h kept counts r (replies_then r.malformed last) here
    ∙ stays_all h kept counts r.address r.day r.slot r.malformed last here.stays
    ∙ closes h kept counts r.address r.day r.slot r.closing (calls_of rs) (asks_of h rs) here.closed (completes-all h rs (λ q m. c q (Memᴰ.tail m)))

-- ---- what rounds lend are bytes

replies-bytes : (a : ℕ) (ys : List (List ℕ)) (calls : List Call) → AllMalformed a ys → AllBytes calls → AllBytes (replies_then ys calls)
replies-bytes a [] calls k l = l
replies-bytes a (y ∷ ys) calls k l = (k.0.bytes, replies-bytes a ys calls k.1 l)

closing-bytes : (a : ℕ) (x : Closing) (calls : List Call) → Closes a x → AllBytes calls → AllBytes (closing_call x ∷ calls)
closing-bytes a lapses calls c l = (tt, l)
closing-bytes a (answers y) calls c l = (c.0, l)

-- the calls of a list carry bytes, which the laws of histories ask for
pub calls-bytes : (h : Header) (rs : List Round) → AllComplete h rs → AllBytes (calls_of rs)
calls-bytes h [] c = tt
calls-bytes h (r ∷ rs) c =
    let here = c r (Memᴰ.head refl) in (
      tt,
      replies-bytes r.address r.malformed (closing_call r.closing ∷ calls_of rs) here.stays
          (closing-bytes r.address r.closing (calls_of rs) here.closed (calls-bytes h rs (λ q m. c q (Memᴰ.tail m)))),
    )
