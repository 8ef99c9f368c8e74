-- From the meter's register to the cell by C's functions: each is the call below it, with the ask read from its bytes, the record from its own, and the reply as
-- long as the meter told; so the claim of the calls in Rattle is that of C's.
use mathlib.Core.Path.{◌≡◌, refl, sym, ap, ap₂, subst, ◌∙◌}
use mathlib.Core.Bool.{Bool, true, false, cond}
use mathlib.Core.List.{List, [], ◌∷◌, ◌++◌, append-nil}
use mathlib.Core.Logic.{◌⊎◌, inl, inr}
use Prim.Native.Nat.{ℕ, ◌+◌, ◌*◌, ◌≤◌, ◌<◌}
use native.Mathlib.Nat.{zero-add}
use native.Mathlib.Omega.{arith}
use lib.Dec.{eqb}
use lib.ListN.{length, take, drop, drop_of_length-le}
use Rattle.std.specs.Prelude.{Option, Some, None}
use Rattle.refusal.specs.Outcome as call
use Rattle.refusal.specs.Outcome.{Outcome}
use Rattle.byte_numbers.specs.Number.{Bytes}
use Rattle.byte_numbers.specs.Place.{written}
use Rattle.byte_numbers.proofs.PlaceLaws.{written-fits}
use Rattle.calendar.specs.declared.date.Date.{Date}
use Rattle.slots.specs.Day.{slots_of}
use Rattle.parameters.specs.Code.{function_of}
use Rattle.frame.specs.Sealing.{framed}
use Rattle.parameters.specs.declared.code.Function.TheVariants as function
use Rattle.parameters.specs.declared.code.Reading.TheVariants.{Stored}
use Rattle.meter_record.specs.declared.record.Record.{Record}
use Rattle.meter_command.specs.Command.{function_in}
use Rattle.meter.specs.Reply as reply
use Rattle.energy_log.specs.View.{View, view_of}
use Rattle.log_header.specs.Interval.{interval_of}
use Rattle.log_cell.specs.declared.cell.Cell.{Cell}
use Rattle.log_cell.specs.declared.cell.Cell.TheVariants.{Gap, Empty, Measured}
use Rattle.log_header.specs.declared.header.Header.{Header}
use Rattle.day_rows.specs.LogAndRows.{LogAndRows, log_and_rows}
use Rattle.logger.specs.Book.{Call, AllBytes}
use Rattle.logger.specs.Take as take-of
use Rattle.logger.specs.Ask.{Asked}
use Rattle.logger.specs.Take.{Taken}
use Rattle.logger.specs.declared.held.OpenAsk.{OpenAsk}
use Rattle.logger.specs.Held.{opened_for}
use Rattle.c_values.specs.Ask.{ask_of, ask_bytes}
use Rattle.c_values.proofs.AskLaws.{ask-size}
use Rattle.claims.specs.Demand2.{reply_in}
use Rattle.claims.specs.RegisterToCell as rattle
use Rattle.claims.specs.RegisterToCell.{all_zero, are_counts, cell_after, number_after, slice_frame, slice_on, SlotOn, MeterAt, LogWith}
use Rattle.claims.proofs.Claims as claims
use Rattle.claims.proofs.RegisterToCell.{interval-on, answer-bytes}
use Rattle.metlazuel.specs.Calls.{result_after, received_after}
use Rattle.metlazuel.specs.LogCalls.{ask_left, ask_for_c, taken_for_c, take_for_c}
use Rattle.claims.specs.Demand1.{closes_ask}
use Rattle.c_claims.proofs.LogLaws.{taken-given}
use Rattle.metlazuel.specs.MeterCalls.{sent_length, answer_for_c}
use Rattle.metlazuel.specs.CellCalls.{kind_of, counts_of, cell_for_c}
use Rattle.c_claims.specs.Demand3.{Lent, ran_for_c, Begins}
use Rattle.c_claims.specs.RegisterToCell.{kind_shown, counts_shown, MeterBytes, asking, answering, taking, telling, AskedFor, AnsweredBy, TakenBy, CellTold}
use Rattle.c_claims.proofs.History.{same-both}
use Rattle.c_claims.proofs.Reading.{read-leaves}
use Rattle.c_claims.proofs.WidthLaws.{read_fits}

-- an ask's bytes over another's: all four
whole : (bs xs : List ℕ) → length bs ≡ 4 → length xs ≡ 4 → written bs 0 xs ≡ xs
whole bs xs p q =
    let rest : drop (length xs) bs ≡ [] = drop_of_length-le bs {i = length xs} (omega (arith, p, q)) in
    written-fits bs 0 xs (omega (arith, p, q)) ∙ rw (zero-add, rest) (append-nil xs)

-- the numbers of a slice that is taken close the ask, and store neither result nor length
record Closing (n : ℕ) : Type 0 where
  shut : closes_ask n ≡ true
  no_result : eqb n 24 ≡ false
  no_length : eqb n 50 ≡ false

number-closing : (c : Cell) (row : List ℕ) → Closing (number_after c row)
unfolding number_after
number-closing Gap row = record { shut = refl; no_result = refl; no_length = refl }
number-closing Empty row = record { shut = refl; no_result = refl; no_length = refl }
number-closing (Measured e+ e- r+ r-) row = go (all_zero row) (are_counts e+ e- r+ r- row)
  where
    go : (a b : Bool) → Closing (cond a 0 (cond b 0 25))
    go true b = record { shut = refl; no_result = refl; no_length = refl }
    go false true = record { shut = refl; no_result = refl; no_length = refl }
    go false false = record { shut = refl; no_result = refl; no_length = refl }

-- C's kind and counts are those written out
kind-shown : (c : Cell) → kind_of c ≡ kind_shown c
unfolding kind_of
kind-shown Gap = refl
kind-shown Empty = refl
kind-shown (Measured e+ e- r+ r-) = refl

counts-shown : (c : Cell) → counts_of c ≡ counts_shown c
unfolding counts_of
counts-shown Gap = refl
counts-shown Empty = refl
counts-shown (Measured e+ e- r+ r-) = refl

-- what C is told of a good cell
cell-told : (v : View) (h : Header) (day slot i : ℕ) (c : Cell) (kind : ℕ) (counts : List ℕ) (lapses : ℕ) → v.lent ≡ Some h → interval_of h day slot ≡ Some i
    → v.cell i ≡ Some c → cell_for_c v day slot kind counts lapses ≡ call.outcome 0 (kind_of c, counts_of c, v.lapses i)
unfolding cell_for_c
cell-told v h day slot i c kind counts lapses p n g = rw (p, n, g) refl

-- an ask's frame is a read
frame-read : (address : ℕ) (d : Date) (slot : ℕ) (rest : List ℕ) → function_in (take 8 (slice_frame address d slot ++ rest)) ≡ function.Read Stored
unfolding slice_frame framed function_of
frame-read address d slot rest = refl

module _ (bs : List ℕ) (r : Record) (store : List ℕ) (b : LogAndRows) (h : Header) (ask : List ℕ) (address day slot : ℕ) (date : Date) (c : Cell)
    (room out : List ℕ) (word result size : ℕ) (on : SlotOn h day slot date) (m : MeterBytes bs r store h.minutes address)
    (l : LogWith b h (day * slots_of h.minutes + slot) c) (closed : ask_of ask ≡ Some None) (asks : 8 ≤ length room) (hears : 64 ≤ length out) where
  -- the calls in Rattle, and what they come to
  abbrev a : call.Outcome Asked (List ℕ)
  a = rattle.asking b.log address day slot room

  abbrev o : reply.Outcome
  o = rattle.answering r store a out

  abbrev t : call.Outcome Taken LogAndRows
  t = rattle.taking b a o

  abbrev row : List ℕ
  row = slice_on store date slot

  below-asked : rattle.AskedFor a address day slot date room
  below-asked = (claims.register-to-cell).asked b.log h address day slot date room l.lent on asks

  means : MeterAt r store h.minutes address
  means = record { fits = read_fits bs m.bytes r m.reads; store_bytes = m.store_bytes; sound = m.sound; interval = m.interval; by = m.by }

  below : rattle.AnsweredBy o r store address row × rattle.TakenInto t h (day * slots_of h.minutes + slot) c row
  below = (claims.register-to-cell).joined r store b h address day slot date c room out on means l asks hears

  -- the ask
  abbrev asked-c : Outcome ℕ (List ℕ × List ℕ)
  asked-c = asking b.log ask address day slot room

  asked-whole : asked-c ≡ call.outcome 0 (1 ∷ address ∷ day ∷ slot ∷ [], a.left)
  unfolding ask_for_c ask_left ask_bytes
  asked-whole =
      rw (closed, below-asked.number, below-asked.held)
      (ap (λ (x : List ℕ). call.outcome 0 (x, a.left)) (whole ask (1 ∷ address ∷ day ∷ slot ∷ []) (ask-size ask None closed) refl))

  asked : AskedFor asked-c address day slot date room
  asked = rw asked-whole (record { number = refl; ask = refl; wrote = below-asked.wrote })

  -- the meter's answer
  abbrev answered-c : Outcome ℕ (ℕ × List ℕ × List ℕ × List ℕ)
  answered-c = answering bs store asked-c out word

  answered-whole : answered-c ≡ call.outcome 0 (14, bs, store, o.out)
  unfolding answer_for_c sent_length
  answered-whole =
      let z = below.0 in
      let kept = read-leaves o.answer (take 8 a.left) bs Stored (rw below-asked.wrote (frame-read address date slot (drop 8 room))) in
      rw (asked-whole, m.reads, z.number, z.size, kept, z.leaves.slices) refl

  reply-whole : take 14 o.out ≡ reply_in o
  reply-whole = ap (λ (n : ℕ). take n o.out) (sym below.0.size)

  answered : AnsweredBy answered-c bs store address row
  answered = rw answered-whole (record { number = refl; size = refl; kept = refl; slices = refl; reply = reply-whole ∙ below.0.reply })

  -- the reply taken
  abbrev taken-c : Outcome ℕ (ℕ × ℕ × LogAndRows × List ℕ)
  taken-c = taking b asked-c answered-c result size

  abbrev opened : List ℕ
  opened = 1 ∷ address ∷ day ∷ slot ∷ []

  read-open : ask_of opened ≡ Some (opened_for address day slot)
  unfolding ask_of
  read-open = refl

  -- with the ask's bytes read, and the reply as long as was told
  taken-read : taken-c ≡ taken_for_c a.result.held t result size opened
  unfolding take_for_c
  taken-read =
      ap₂ (λ (x : Outcome ℕ (List ℕ × List ℕ)) (y : Outcome ℕ (ℕ × List ℕ × List ℕ × List ℕ)). taking b x y result size) asked-whole answered-whole
      ∙ ap₂ (λ (x : Option (Option OpenAsk)) (y : List ℕ). take_for_c x b opened y result size) read-open reply-whole
      ∙ ap (λ (x : Option OpenAsk). taken_for_c x (take-of.taken b x (reply_in o)) result size opened) (sym below-asked.held)

  taken-whole : taken-c ≡ call.outcome (number_after c row) (result, size, t.left, 0 ∷ 0 ∷ 0 ∷ 0 ∷ [])
  unfolding ask_bytes result_after received_after
  taken-whole =
      let n = number-closing c row in
      let g = taken-given a.result.held (reply_in o) opened result size b in
      taken-read
      ∙ rw (g.result-is, g.length-is, g.ask-is, below.1.number, n.shut, n.no_result, n.no_length)
      (ap (λ (x : List ℕ). call.outcome (number_after c row) (result, size, t.left, x)) (whole opened (0 ∷ 0 ∷ 0 ∷ 0 ∷ []) refl refl))

  taken : TakenBy taken-c c row result size
  taken = rw taken-whole (record { number = refl; result_kept = refl; size_kept = refl; ask = refl })

  -- a reply counts as no lapse
  small : address < 256
  small = by-either m.by
    where
      by-either : (address ≡ r.address) ⊎ (address ≡ 0) → address < 256
      by-either (inl e) = omega (arith, e, means.fits.address)
      by-either (inr e) = omega (arith, e)

  lapses-stay : (i : ℕ) → (view_of t.left.log).lapses i ≡ (view_of b.log).lapses i
  lapses-stay i = (claims.lapses).no_lapse b a.result.held (reply_in o) (subst (λ (y : List ℕ). Bytes y) (sym below.0.reply) (answer-bytes address row small)) i

  -- the cell told
  told : (kind : ℕ) (counts : List ℕ) (lapses : ℕ)
      → CellTold (telling taken-c day slot kind counts lapses) (cell_after c row) ((view_of b.log).lapses (day * slots_of h.minutes + slot))
  told kind counts lapses =
      let w = below.1 in
      let i = day * slots_of h.minutes + slot in
      let seen = cell-told (view_of t.left.log) h day slot i (cell_after c row) kind counts lapses w.lent (interval-on h day slot date on) w.cell in
      rw (ap (λ (x : Outcome ℕ (ℕ × ℕ × LogAndRows × List ℕ)). telling x day slot kind counts lapses) taken-whole ∙ seen)
      (record { number = refl; kind = kind-shown (cell_after c row); counts = counts-shown (cell_after c row); lapsed = lapses-stay i })

  -- `register-to-cell`: ask, answer, take and cell in a row tell C the meter's slice, joined to what the cell held
  pub joined : (kind : ℕ) (counts : List ℕ) (lapses : ℕ)
      → AskedFor asked-c address day slot date room × AnsweredBy answered-c bs store address row × TakenBy taken-c c row result size
      × CellTold (telling taken-c day slot kind counts lapses) (cell_after c row) ((view_of b.log).lapses (day * slots_of h.minutes + slot))
  joined kind counts lapses = (asked, answered, taken, told kind counts lapses)

-- ---- a log that C's calls leave

-- `register-to-cell`: what a round asks of a log is met of every cell, after any calls on memory to begin with
pub met : (m : Lent) (b : Begins m) (calls : List Call) → AllBytes calls → let h = b.start.header in let after = (ran_for_c m calls).left in
    (i : ℕ) → i < h.days * slots_of h.minutes → (c : Cell) × LogWith (log_and_rows after.log after.figures) h i c
met m b calls k i l =
    subst (λ (x : LogAndRows). (c : Cell) × LogWith x b.start.header i c) (sym (same-both m b calls k))
    ((claims.metered).met (log_and_rows m.log m.figures) b.start calls k i l)
