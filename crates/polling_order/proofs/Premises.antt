-- The premises are met: a lapse and a framed reply close an ask, asks of which each interval has one do not contradict each other, a list from its end is the same in
-- another order; and two different replies for one gap leave different cells.
use mathlib.Core.Path.{◌≡◌, refl, sym, ap, ap₂, subst, ◌∙◌}
use mathlib.Core.Bool.{Bool, true, false, cond, false≢true}
use mathlib.Core.List.{List, [], ◌∷◌, ◌++◌, reverse, Memᴰ}
use mathlib.Core.Logic.{⊎_elim}
use Prim.Native.Nat.{ℕ, ◌+◌, ◌*◌, ◌/◌, ◌%◌, ◌<◌}
use native.Mathlib.Omega.{arith}
use lib.Dec.{eqb}
use lib.ListN.{length, get_or}
use borrow.Author.Tests.{eq-eqb, eqb-true}
use Rattle.std.specs.Prelude.{Ok, Some}
use Rattle.byte_numbers.specs.Number.{Bytes, bytes_of}
use Rattle.byte_numbers.specs.Place.{byte_at}
use Rattle.byte_numbers.proofs.NumberLaws.{bytes-bytes_of}
use Rattle.crc16.specs.Crc.{crc_of}
use Rattle.parameters.specs.Code.{read, slice}
use Rattle.frame.specs.Layout.{function_place, slice_reply}
use Rattle.frame.specs.Sealing.{framed, crc_fits}
use Rattle.frame.proofs.SealingLaws.{crc_fits-framed}
use Rattle.log_header.specs.Interval.{interval_of}
use Rattle.energy_log.specs.View.{View, view_of}
use Rattle.byte_numbers.proofs.ByteLaws.{bytes-cons, bytes-append}
use Rattle.log_header.proofs.IntervalLaws.{in-log, interval-below}
use Rattle.energy_log.proofs.ViewLaws.{cell_in_lem}
use Rattle.log_cell.specs.declared.cell.Cell.{Cell}
use Rattle.log_cell.specs.declared.cell.Cell.TheVariants.{Gap, Empty, Measured}
use Rattle.log_header.specs.declared.header.Header.{Header}
use Rattle.day_rows.specs.LogAndRows.{LogAndRows}
use Rattle.reader.specs.Form.{form_of, length_for, function_for, head_of}
use Rattle.logger.specs.Book.{counts_in, is_zero, first_of, by_first, afresh, place_of, came_first, AllBytes}
use Rattle.logger.specs.Reply.{slice_form}
use Rattle.wire_values.specs.declared.row.Row.{Row}
use Rattle.claims.specs.Demand3.{Start, ran}
use Rattle.claims.proofs.History.{start_seen}
use Rattle.polling_order.specs.Completed.{Ending, counted, refused, lapsed, Completed, ending_of, asks_in, rows_with, rows_at, replies_at}
use Rattle.polling_order.specs.Order.{Reordered, OneReplyEach}
use Rattle.polling_order.specs.Premises.{round_of, reply_with, RowFits, OnceEach, NoneMeasured}
use Rattle.polling_order.specs.PollingOrder.{after}
use Rattle.polling_order.specs.Rounds.{lapses, answers, Closing, Round, calls_of, Completes, AllComplete, Closes, ask_of, asks_of}
use Rattle.polling_order.proofs.OrderLaws.{rows_of, turned, in-turned}
use Rattle.polling_order.proofs.RoundLaws.{calls-bytes}
use Rattle.polling_order.proofs.History.{asks-are, seen-cell, kept-are, list_equal}

-- ---- a reply's frame

abbrev body : ℕ → Row → List ℕ
body address r = address ∷ read ∷ slice ∷ 0 ∷ (bytes_of 2 r.e_plus ++ (bytes_of 2 r.e_minus ++ (bytes_of 2 r.r_plus ++ bytes_of 2 r.r_minus)))

body_bytes : (address : ℕ) (r : Row) → address < 256 → Bytes (body address r)
body_bytes address r l =
    let d = bytes_of 2 r.r_minus in
    let c = bytes_of 2 r.r_plus ++ d in
    let b = bytes_of 2 r.e_minus ++ c in
    let a = bytes_of 2 r.e_plus ++ b in
    bytes-cons address (read ∷ slice ∷ 0 ∷ a) l (
    bytes-cons read (slice ∷ 0 ∷ a) (omega arith) (
    bytes-cons slice (0 ∷ a) (omega arith) (
    bytes-cons 0 a (omega arith) (
    bytes-append (bytes_of 2 r.e_plus) b (bytes-bytes_of 2 r.e_plus) (
    bytes-append (bytes_of 2 r.e_minus) c (bytes-bytes_of 2 r.e_minus) (
    bytes-append (bytes_of 2 r.r_plus) d (bytes-bytes_of 2 r.r_plus) (bytes-bytes_of 2 r.r_minus)))))))

reply-bytes : (address : ℕ) (r : Row) → address < 256 → Bytes (reply_with address r)
unfolding reply_with framed
reply-bytes address r l = bytes-append (body address r) (bytes_of 2 (crc_of (body address r))) (body_bytes address r l) (bytes-bytes_of 2 (crc_of (body address r)))

-- the checks of a reply's form, one by one
by-checks : (address : ℕ) (y : List ℕ) → eqb (length y) (length_for (byte_at y function_place) slice_reply) ≡ true → crc_fits y ≡ true
    → head_of address read slice y ≡ Ok tt → slice_form address y ≡ Ok tt
unfolding form_of
by-checks address y size crc head = simp (size, crc, head)

right-size : (address : ℕ) (r : Row) → let y = framed (body address r) in eqb (length y) (length_for (byte_at y function_place) slice_reply) ≡ true
unfolding framed bytes_of length_for
right-size address r = refl

right-head : (address : ℕ) (r : Row) → head_of address read slice (framed (body address r)) ≡ Ok tt
unfolding framed head_of function_for
right-head address r = simp (eq-eqb address address refl)

well-formed : (address : ℕ) (r : Row) → address < 256 → slice_form address (reply_with address r) ≡ Ok tt
unfolding reply_with
well-formed address r l =
    by-checks address (framed (body address r)) (right-size address r) (crc_fits-framed (body address r) (body_bytes address r l)) (right-head address r)

counted-with : (address : ℕ) (r : Row) → RowFits r → ending_of (reply_with address r) ≡ counted r
unfolding ending_of reply_with framed counts_in bytes_of
counted-with address r f = λ t. counted (record {
  e_plus = two r.e_plus f.e_plus t;
  e_minus = two r.e_minus f.e_minus t;
  r_plus = two r.r_plus f.r_plus t;
  r_minus = two r.r_minus f.r_minus t;
})
  where
    two : (n : ℕ) → n < 65536 → n % 256 + 256 * (n / 256 % 256) ≡ n
    two n l = omega (arith, l)

-- ---- rounds that complete their asks

at_place : (h : Header) (day slot i : ℕ) → interval_of h day slot ≡ Some i → interval_of h day slot ≡ Some (place_of h day slot)
unfolding place_of
at_place h day slot i e = e ∙ ap Some (sym (in-log h day slot i e).index)

completes : (h : Header) (address day slot i : ℕ) (x : Closing) → interval_of h day slot ≡ Some i → Closes address x → Completes h (round_of address day slot x)
completes h address day slot i x e c = record { room = omega arith; interval = at_place h day slot i e; stays = tt; closed = c }

-- the claim that the premises can be met: by a lapse
pub lapse_completes : (h : Header) (address day slot i : ℕ) → interval_of h day slot ≡ Some i → Completes h (round_of address day slot lapses)
lapse_completes h address day slot i e = completes h address day slot i lapses e tt

-- by a reply
pub reply_completes : (h : Header) (address day slot i : ℕ) (r : Row) → address < 256 → RowFits r → interval_of h day slot ≡ Some i
    → Completes h (round_of address day slot (answers (reply_with address r))) × (ending_of (reply_with address r) ≡ counted r)
reply_completes h address day slot i r l f e =
    (completes h address day slot i (answers (reply_with address r)) e (reply-bytes address r l, well-formed address r l), counted-with address r f)

-- ---- each interval once

-- a row of a completed ask is for the ask's interval
row-for : (i : ℕ) (d : Completed) (r : Row) → Memᴰ r (rows_of i d) → (i ≡ d.place) × Memᴰ r (rows_with d.ending)
row-for i d r m = go (eqb i d.place) refl m
  where
    go : (b : Bool) → eqb i d.place ≡ b → Memᴰ r (cond b (rows_with d.ending) []) → (i ≡ d.place) × Memᴰ r (rows_with d.ending)
    go true e n = (eqb-true i d.place e, n)
    go false e n = absurd (mathlib.Core.List.Memᴰ.not-nil n)

asked-for : (i : ℕ) (ds : List Completed) (r : Row) → Memᴰ r (rows_at i ds) → (d : Completed) × Memᴰ d ds × (i ≡ d.place)
unfolding rows_at
asked-for i [] r m = absurd (mathlib.Core.List.Memᴰ.not-nil m)
asked-for i (d ∷ ds) r m =
    ⊎_elim (λ (n : Memᴰ r (rows_of i d)). (d, mathlib.Core.List.Memᴰ.head refl, (row-for i d r n).0))
    (λ (n : Memᴰ r (rows_at i ds)). let t = asked-for i ds r n in (t.0, mathlib.Core.List.Memᴰ.tail t.1, t.2))
    (mathlib.Core.List.Memᴰ.append_cases (rows_of i d) m)

-- an ending has one row at most, and so has a cell
one-row : (e : Ending) (q r : Row) → Memᴰ q (rows_with e) → Memᴰ r (rows_with e) → q ≡ r
unfolding rows_with
one-row (counted x) q r m n = mathlib.Core.List.Memᴰ.eq_of_singleton m ∙ sym (mathlib.Core.List.Memᴰ.eq_of_singleton n)
one-row (refused result) q r m n = absurd (mathlib.Core.List.Memᴰ.not-nil m)
one-row lapsed q r m n = absurd (mathlib.Core.List.Memᴰ.not-nil m)

one-came : (c : Cell) (q r : Row) → Memᴰ q (came_first c) → Memᴰ r (came_first c) → q ≡ r
unfolding came_first
one-came Gap q r m n = absurd (mathlib.Core.List.Memᴰ.not-nil m)
one-came Empty q r m n = mathlib.Core.List.Memᴰ.eq_of_singleton m ∙ sym (mathlib.Core.List.Memᴰ.eq_of_singleton n)
one-came (Measured a b c d) q r m n = mathlib.Core.List.Memᴰ.eq_of_singleton m ∙ sym (mathlib.Core.List.Memᴰ.eq_of_singleton n)

once-row : (i : ℕ) (ds : List Completed) (q r : Row) → OnceEach ds → Memᴰ q (rows_at i ds) → Memᴰ r (rows_at i ds) → q ≡ r
unfolding rows_at
once-row i [] q r o m n = absurd (mathlib.Core.List.Memᴰ.not-nil m)
once-row i (d ∷ ds) q r o m n =
    ⊎_elim (λ (a : Memᴰ q (rows_of i d)).
    ⊎_elim (λ (b : Memᴰ r (rows_of i d)). one-row d.ending q r (row-for i d q a).1 (row-for i d r b).1)
    (λ (b : Memᴰ r (rows_at i ds)). absurd (not-both q a r b))
    (mathlib.Core.List.Memᴰ.append_cases (rows_of i d) n))
    (λ (a : Memᴰ q (rows_at i ds)).
    ⊎_elim (λ (b : Memᴰ r (rows_of i d)). absurd (not-both r b q a))
    (λ (b : Memᴰ r (rows_at i ds)). once-row i ds q r o.1 a b)
    (mathlib.Core.List.Memᴰ.append_cases (rows_of i d) n))
    (mathlib.Core.List.Memᴰ.append_cases (rows_of i d) m)
  where
    not-both : (x : Row) → Memᴰ x (rows_of i d) → (y : Row) → Memᴰ y (rows_at i ds) → ⊥
    not-both x a y b = let t = asked-for i ds y b in o.0 t.0 t.1 (sym t.2 ∙ (row-for i d x a).0)

-- by a list that asks for each interval once
pub once_each : (b : LogAndRows) (start : Start b) (asks : List Completed) → OnceEach asks → NoneMeasured start asks → OneReplyEach start asks
once_each b start asks o none i l q r m n z w =
    ⊎_elim (λ (a : Memᴰ q came).
    ⊎_elim (λ (c : Memᴰ r came). one-came (get_or start.cells i Gap) q r a c)
    (λ (c : Memᴰ r (rows_at i asks)). absurd (not-both q z a r c))
    (mathlib.Core.List.Memᴰ.append_cases came n))
    (λ (a : Memᴰ q (rows_at i asks)).
    ⊎_elim (λ (c : Memᴰ r came). absurd (not-both r w c q a))
    (λ (c : Memᴰ r (rows_at i asks)). once-row i asks q r o a c)
    (mathlib.Core.List.Memᴰ.append_cases came n))
    (mathlib.Core.List.Memᴰ.append_cases came m)
  where
    came : List Row
    came = came_first (get_or start.cells i Gap)

    not-both : (x : Row) → is_zero x ≡ false → Memᴰ x came → (y : Row) → Memᴰ y (rows_at i asks) → ⊥
    not-both x nonzero a y c =
        let t = asked-for i asks y c in
        false≢true (sym nonzero ∙ none t.0 x t.1 (subst (λ (j : ℕ). Memᴰ x (came_first (get_or start.cells j Gap))) t.2 a))

-- ---- newest first

-- the claim on `poll .. newest`
pub newest_first : (b : LogAndRows) (start : Start b) (rounds : List Round) → let h = start.header in AllComplete h rounds → OneReplyEach start (asks_of h rounds)
    → AllComplete h (reverse rounds) × Reordered (asks_of h rounds) (asks_of h (reverse rounds))
    × (after b (calls_of rounds) ≡ after b (calls_of (reverse rounds)))
newest_first b start rounds c one =
    let all : AllComplete start.header (reverse rounds) = λ r m. c r (in-turned r rounds m) in
    let order = turned (ask_of start.header) rounds in
    (all, order, list_equal b start rounds (reverse rounds) c all order one)

-- the claim that a list's calls complete what the list says
pub held : (b : LogAndRows) (start : Start b) (rounds : List Round) → AllComplete start.header rounds
    → AllBytes (calls_of rounds) × (asks_in start (calls_of rounds) ≡ asks_of start.header rounds)
held b start rounds c = (calls-bytes start.header rounds c, asks-are b start rounds c)

-- ---- two different replies for one gap

-- the first of two that are not all zeros is measured
first-measured : (q r : Row) → is_zero q ≡ false → afresh (q ∷ r ∷ []) ≡ Measured q.e_plus q.e_minus q.r_plus q.r_minus
unfolding afresh first_of by_first
first-measured q r z = simp z

same_row : (q r : Row) → Some (Measured q.e_plus q.e_minus q.r_plus q.r_minus) ≡ Some (Measured r.e_plus r.e_minus r.r_plus r.r_minus) → q ≡ r
same_row q r e =
    let a : q.e_plus ≡ r.e_plus = cc in
    let b : q.e_minus ≡ r.e_minus = cc in
    let c : q.r_plus ≡ r.r_plus = cc in
    let d : q.r_minus ≡ r.r_minus = cc in
    λ t. record { e_plus = a t; e_minus = b t; r_plus = c t; r_minus = d t }

module _ (b : LogAndRows) (start : Start b) (day slot i : ℕ) (at : interval_of start.header day slot ≡ Some i) (seen : (view_of b.log).cell i ≡ Some Gap) where
  -- what is seen as a gap is one of the start's
  gap : get_or start.cells i Gap ≡ Gap
  gap =
      let there : i < length start.cells = rw start.count (interval-below start.header day slot i at) in
      let same : Some (get_or start.cells i Gap) ≡ Some Gap = sym (cell_in_lem start.cells i there) ∙ sym (ap (λ (v : View). v.cell i) (start_seen start)) ∙ seen in
      cc

  abbrev reading : Row → Round
  reading r = round_of 1 day slot (answers (reply_with 1 r))

  read-once : (r : Row) → RowFits r → Completes start.header (reading r)
  read-once r f = (reply_completes start.header 1 day slot i r (omega arith) f at).0

  read-both : (q r : Row) → RowFits q → RowFits r → AllComplete start.header (reading q ∷ reading r ∷ [])
  read-both q r f g x m =
      ⊎_elim (λ (e : x ≡ reading q). subst (Completes start.header) (sym e) (read-once q f))
      (λ (n : Memᴰ x (reading r ∷ [])). subst (Completes start.header) (sym (mathlib.Core.List.Memᴰ.eq_of_singleton n)) (read-once r g))
      (mathlib.Core.List.Memᴰ.cases_cons m)

  -- the rows that two replies leave for the interval
  rows_are : (q r : Row) → RowFits q → RowFits r → rows_at i (asks_of start.header (reading q ∷ reading r ∷ [])) ≡ q ∷ r ∷ []
  unfolding rows_at rows_with place_of
  rows_are q r f g = rw (counted-with 1 q f, counted-with 1 r g, (in-log start.header day slot i at).index, eq-eqb i i refl) refl

  first_holds : (q r : Row) → RowFits q → RowFits r → is_zero q ≡ false
      → (view_of (ran b (calls_of (reading q ∷ reading r ∷ []))).left.log).cell i ≡ Some (Measured q.e_plus q.e_minus q.r_plus q.r_minus)
  unfolding came_first
  first_holds q r f g z =
      let both = read-both q r f g in
      let rounds = reading q ∷ reading r ∷ [] in
      let bytes = calls-bytes start.header rounds both in
      seen-cell start (calls_of rounds) bytes i (interval-below start.header day slot i at)
      ∙ ap (λ (rows : List Row). Some (afresh rows))
      (kept-are start (calls_of rounds) bytes i
      ∙ ap (λ (ds : List Completed). replies_at start ds i) (asks-are b start rounds both)
      ∙ ap₂ (λ (c : Cell) (rows : List Row). came_first c ++ rows) gap (rows_are q r f g))
      ∙ ap Some (first-measured q r z)

  -- the claim that two different replies do make a difference
  pub differ : (q r : Row) → RowFits q → RowFits r → is_zero q ≡ false → is_zero r ≡ false → (q ≡ r → ⊥)
      → Reordered (asks_of start.header (reading q ∷ reading r ∷ [])) (asks_of start.header (reading r ∷ reading q ∷ []))
      × ((ran b (calls_of (reading q ∷ reading r ∷ []))).left.log ≡ (ran b (calls_of (reading r ∷ reading q ∷ []))).left.log → ⊥)
  differ q r f g z w different = (
    turned (ask_of start.header) (reading q ∷ reading r ∷ []),
    λ same. different (same_row q r (sym (first_holds q r f g z) ∙ ap (λ (s : List ℕ). (view_of s).cell i) same ∙ first_holds r q g f w)),
  )
