-- Demand 2, what was written is read: the record after a change, a zeroing or a bench call, read and decoded.
use mathlib.Core.Path.{◌≡◌, refl, sym, ap, ap₂, ◌∙◌}
use mathlib.Core.Bool.{Bool, true, false, cond, ◌&&◌, ◌||◌, false≢true}
use mathlib.Core.List.{List, [], ◌∷◌}
use Prim.Native.Nat.{ℕ, ◌-◌, ◌≤◌, ◌<◌}
use native.Mathlib.Omega.{arith}
use lib.Dec.{eqb, leb, ltb, lit≤}
use lib.ListN.{length}
use borrow.Author.Tests.{eq-eqb, le-leb, leb-true, ltb-true, eqb-true}
use Rattle.std.specs.Prelude.{Err, Ok, Result}
use Rattle.test_laws.proofs.Test.{both, either}
use Rattle.byte_numbers.specs.Number.{Bytes}
use Rattle.wire_values.specs.declared.power.Phases.{Phases}
use Rattle.parameters.specs.Table.{parameter_row, first_of, parameter_of, code_of}
use Rattle.parameters.specs.declared.code.Function.TheVariants as function
use Rattle.parameters.specs.declared.code.Parameter.{Parameter}
use Rattle.parameters.specs.declared.code.Parameter.TheVariants as parameter
use Rattle.slots.specs.Day.{slots_of}
use Rattle.slots.specs.Key.{is_legal}
use Rattle.slots.specs.declared.key.Key.{Key}
use Rattle.slots.proofs.DayLaws.{slots-at-most}
use Rattle.request.specs.Subject.{unused, is_phase, subject_of, subject_for, askable}
use Rattle.request.specs.declared.request.Request.{Request}
use Rattle.reader.specs.Reply.{read_figures}
use Rattle.reader.specs.Rows as rows
use Rattle.reader.specs.declared.reply.Decoded.TheVariants as decoded
use Rattle.meter_clock.specs.Season.{on_hour, sunday}
use Rattle.meter_store.specs.Store.{places, store_bytes, count_at, zero_row, slice_of, six_of, later, put_store, cleared}
use Rattle.meter_store.proofs.StoreLaws.{put-then-read, cleared-absent}
use Rattle.meter_record.proofs.RangeLaws as ranges
use Rattle.meter_record.proofs.RangeLaws.{within, powers-within}
use Rattle.meter_record.specs.Power.{are_powers}
use Rattle.meter_record.specs.Ranges.{is_within}
use Rattle.meter_record.specs.Record.{number_of, powers_set, set_powers}
use Rattle.meter_record.specs.Widths.{FitsRecord}
use Rattle.meter_record.specs.declared.record.Record.{Record}
use Rattle.meter_record.specs.declared.record.RecordError.{RecordError}
use Rattle.meter_command.specs.Change.{changed_to, zeroed_to}
use Rattle.meter_command.proofs.KeepLaws.{changed, zeroed}
use Rattle.meter_command.specs.Judgement.{verdict_by}
use Rattle.meter_command.proofs.JudgementLaws.{change-accepted}
use Rattle.meter_command.specs.Command.{function_in, named, parameter_byte, parameter_in, data_in, command_of}
use Rattle.meter.specs.Bench.{slice_put}
use Rattle.meter.specs.Effect.{renewed, after_by, clears_by}
use Rattle.meter.specs.Reply.{is_sound, met, answer_of}
use Rattle.meter.proofs.KeepLaws.{hands_back, answer-sound, put-sound}
use Rattle.claims.specs.Demand1.{answer_number}
use Rattle.claims.specs.Demand2.{answered, reply_in}
use Rattle.claims.specs.Demand2Done.{BytesRequest}
use Rattle.claims.specs.Demand2Again.{read_of, slice_read, read_back, Next}
use Rattle.claims.specs.Figures.{own_power, four_counts, own_figures, own_as}
use Rattle.claims.proofs.Changes.{after-done, store-done, verdict-done}
use Rattle.claims.proofs.Done.{read_done}
use Rattle.claims.proofs.Fits.{cleared-bytes, change-fits, zeroing-fits}
use Rattle.claims.proofs.Range.{hears-request}
use Rattle.claims.proofs.Replies as replies

-- ---- a sound meter's own figures

own-done : (r : Record) (s : List ℕ) (q : Request) (out : List ℕ) → BytesRequest q → 64 ≤ length out
    → is_sound r s ≡ true → q.address ≡ r.address → askable (subject_of q (slots_of r.minutes)) ≡ true → answer_number (answered r s q out) ≡ 0
own-done r s q out k room sound e h =
    let hears = hears-request r q k (ap (λ (x : Bool). eqb q.address 0 || x) (eq-eqb q.address r.address e) ∙ or-true (eqb q.address 0)) in
    read_done r s q out (record { room = room; sound = sound; hears = hears }) h
  where
    or-true : (a : Bool) → (a || true) ≡ true
    or-true true = refl
    or-true false = refl

-- demand 2's `own`: what a sound meter has, the reader decodes from its answer
pub own : (r : Record) (s : List ℕ) (q : Request) (out : List ℕ) → FitsRecord r → Bytes s → BytesRequest q → 64 ≤ length out
    → is_sound r s ≡ true → q.address ≡ r.address → askable (subject_of q (slots_of r.minutes)) ≡ true
    → read_back r s q out ≡ own_as q.reading (parameter_of q.parameter) r s q
own r s q out f b k room sound e h = replies.read r s q out f b k.repeated (own-done r s q out k room sound e h)

-- ---- what the reads ask for

read-bytes : (r : Record) (n detail : ℕ) → FitsRecord r → n < 256 → detail ≤ 3 → BytesRequest (read_of r n detail)
read-bytes r n detail f h d = record {
  repeated = record { address = f.address; parameter = h };
  offset = lit≤ tt;
  tariff = lit≤ tt;
  detail = omega (arith, d);
}

-- a legal key's numbers are bytes
pub record Bounds (k : Key) : Type 0 where
  pub month-from : 1 ≤ k.month
  pub month : k.month < 256
  pub day : k.day < 256
  pub number : k.number < 256

-- a legal key's month, day and number pass as the bytes of a request
pub bounds : (k : Key) (slots : ℕ) → slots ≤ 96 → is_legal k slots ≡ true → Bounds k
unfolding is_legal
bounds k slots most h =
    let a = both (leb 1 k.month && leb k.month 12 && leb 1 k.day && leb k.day 31) (ltb k.number slots) h in
    let b = both (leb 1 k.month && leb k.month 12 && leb 1 k.day) (leb k.day 31) a.0 in
    let c = both (leb 1 k.month && leb k.month 12) (leb 1 k.day) b.0 in
    let d = both (leb 1 k.month) (leb k.month 12) c.0 in
    record {
      month-from = leb-true 1 k.month d.0;
      month = omega (arith, leb-true k.month 12 d.1);
      day = omega (arith, leb-true k.day 31 b.1);
      number = omega (arith, ltb-true k.number slots a.1, most);
    }

-- a read of slices by a legal key has bytes for its fields, so the meter hears it
pub slice-bytes : (r : Record) (n : ℕ) (k : Key) (slots : ℕ) → FitsRecord r → n < 256 → slots ≤ 96 → is_legal k slots ≡ true → BytesRequest (slice_read r n k)
slice-bytes r n k slots f small most h =
    let b = bounds k slots most h in
    record { repeated = record { address = f.address; parameter = small }; offset = b.month; tariff = b.day; detail = b.number }

-- a legal key of a meter's interval can be asked for
pub slice-askable : (r : Record) (k : Key) (slots : ℕ) → is_legal k slots ≡ true → askable (subject_of (slice_read r 36 k) slots) ≡ true
unfolding subject_of subject_for parameter_of first_of is_legal
slice-askable r k slots h = simp h

-- what can be changed and read has no fields
plain-askable : (p : Parameter) (r : Record) (n slots : ℕ) → (parameter_row p).changeable ≡ true → (parameter_row p).readable ≡ true
    → askable (subject_for p (read_of r n 0) slots) ≡ true
unfolding subject_for unused
plain-askable parameter.ActivePower r n slots c e = absurd (false≢true c)
plain-askable parameter.ReactivePower r n slots c e = absurd (false≢true c)
plain-askable parameter.Address r n slots c e = refl
plain-askable parameter.Telemetry r n slots c e = refl
plain-askable parameter.SummerDate r n slots c e = refl
plain-askable parameter.WinterDate r n slots c e = refl
plain-askable parameter.Clock r n slots c e = refl
plain-askable parameter.DisplayMask r n slots c e = refl
plain-askable parameter.Slice r n slots c e = absurd (false≢true c)
plain-askable parameter.Password r n slots c e = absurd (false≢true e)
plain-askable parameter.SixSlices r n slots c e = absurd (false≢true c)
plain-askable parameter.Unknown r n slots c e = absurd (false≢true c)

-- ---- after a command

after-sound : (r : Record) (s f out room : List ℕ) → Next r s (answer_of r s f out) room
    → let o = answer_of r s f out in is_sound o.answer.after o.store ≡ true
after-sound r s f out room n = answer-sound r s f out (replies.passed r s f out n.zero).sound

fits-changed : (r : Record) (s f out room : List ℕ) → function_in f ≡ function.Change → Bytes f → Next r s (answer_of r s f out) room
    → FitsRecord (answer_of r s f out).answer.after
unfolding after_by
fits-changed r s f out room e b n = rw (after-done r s f out function.Change e n.zero) (change-fits r (parameter_in f) f n.fits b)

bytes-changed : (r : Record) (s f out room : List ℕ) → function_in f ≡ function.Change → Next r s (answer_of r s f out) room
    → Bytes (answer_of r s f out).store
unfolding clears_by
bytes-changed r s f out room e n = rw (store-done r s f out function.Change e n.zero) n.bytes

fits-zeroed : (r : Record) (s f out room : List ℕ) → function_in f ≡ function.Zero → Next r s (answer_of r s f out) room
    → FitsRecord (answer_of r s f out).answer.after
unfolding after_by
fits-zeroed r s f out room e n = rw (after-done r s f out function.Zero e n.zero) (zeroing-fits r (parameter_in f) n.fits)

bytes-zeroed : (r : Record) (s f out room : List ℕ) → function_in f ≡ function.Zero → Next r s (answer_of r s f out) room
    → Bytes (answer_of r s f out).store
bytes-zeroed r s f out room e n =
    rw (store-done r s f out function.Zero e n.zero) (either Bytes (clears_by function.Zero (code_of (parameter_in f))) (cleared-bytes s) n.bytes)

zeroed-own : (r : Record) (s f out room : List ℕ) → function_in f ≡ function.Zero → let o = answer_of r s f out in Next r s o room → (q : Request)
    → BytesRequest q → q.address ≡ o.answer.after.address → askable (subject_of q (slots_of o.answer.after.minutes)) ≡ true
    → read_back o.answer.after o.store q room ≡ own_as q.reading (parameter_of q.parameter) o.answer.after o.store q
zeroed-own r s f out room e n q k a h =
    own _ _ q room (fits-zeroed r s f out room e n) (bytes-zeroed r s f out room e n) k n.room (after-sound r s f out room n) a h

-- ---- a change

changed-figures : (p : Parameter) (r : Record) (s f : List ℕ) (q : Request) → (parameter_row p).changeable ≡ true
    → own_figures p (renewed (changed p r f)) s q ≡ read_figures p 0 (data_in f)
unfolding changed_to read_figures
changed-figures parameter.ActivePower r s f q c = absurd (false≢true c)
changed-figures parameter.ReactivePower r s f q c = absurd (false≢true c)
changed-figures parameter.Address r s f q c = refl
changed-figures parameter.Telemetry r s f q c = refl
changed-figures parameter.SummerDate r s f q c = refl
changed-figures parameter.WinterDate r s f q c = refl
changed-figures parameter.Clock r s f q c = refl
changed-figures parameter.DisplayMask r s f q c = refl
changed-figures parameter.Slice r s f q c = absurd (false≢true c)
changed-figures parameter.Password r s f q c = refl
changed-figures parameter.SixSlices r s f q c = absurd (false≢true c)
changed-figures parameter.Unknown r s f q c = absurd (false≢true c)

parameter-small : (f : List ℕ) → Bytes f → parameter_byte f < 256
unfolding parameter_byte
parameter-small f b =
    let small : ℕ → Type 0 = λ n. n < 256 in
    either small (leb (length f) 4) (lit≤ tt) (either small (named (function_in f)) (b 2) (lit≤ tt))

-- demand 2's `change_read`: the bytes that a change wrote are decoded from the next read, by the address that the meter then has
pub change_read : (r : Record) (s f out room : List ℕ) → Bytes f → function_in f ≡ function.Change → (parameter_row (parameter_in f)).readable ≡ true
    → let o = answer_of r s f out in Next r s o room
    → read_back o.answer.after o.store (read_of o.answer.after (parameter_byte f) 0) room ≡ read_figures (parameter_in f) 0 (data_in f)
unfolding subject_of verdict_by after_by
change_read r s f out room b e w n =
    let o = answer_of r s f out in
    let y = o.answer.after in
    let q = read_of y (parameter_byte f) 0 in
    let c = (change-accepted (met r f) r (command_of f) f (verdict-done r s f out function.Change e n.zero)).opens in
    let fits = fits-changed r s f out room e b n in
    own y o.store q room fits (bytes-changed r s f out room e n) (read-bytes y (parameter_byte f) 0 fits (parameter-small f b) (lit≤ tt)) n.room
    (after-sound r s f out room n) refl (plain-askable (parameter_in f) y (parameter_byte f) (slots_of y.minutes) c w)
    ∙ ap (λ (z : Record). own_figures (parameter_in f) z o.store q) (after-done r s f out function.Change e n.zero)
    ∙ changed-figures (parameter_in f) r o.store f q c

-- ---- a zeroing

zeroed-is : (r : Record) (s f out room : List ℕ) (p : Parameter) → function_in f ≡ function.Zero → parameter_in f ≡ p
    → Next r s (answer_of r s f out) room → (answer_of r s f out).answer.after ≡ renewed (zeroed p r)
unfolding after_by
zeroed-is r s f out room p e g n =
    after-done r s f out function.Zero e n.zero ∙ ap (λ (z : Parameter). renewed (zeroed z r)) g

date-askable : (p : Parameter) (r : Record) (n slots : ℕ) → parameter_of n ≡ p → (parameter_row p).changeable ≡ true → (parameter_row p).readable ≡ true
    → askable (subject_of (read_of r n 0) slots) ≡ true
unfolding subject_of
date-askable p r n slots e c w = ap (λ (z : Parameter). askable (subject_for z (read_of r n 0) slots)) e ∙ plain-askable p r n slots c w

-- demand 2's `summer_zeroed`: a zeroing brings back March's last Sunday of the clock's year, and it is read
pub summer_zeroed : (r : Record) (s f out room : List ℕ) → function_in f ≡ function.Zero → parameter_in f ≡ parameter.SummerDate
    → let o = answer_of r s f out in Next r s o room
    → read_back o.answer.after o.store (read_of o.answer.after 27 0) room ≡ Ok (decoded.DateTime (on_hour (sunday r.time.clock.date.year 3) 2))
unfolding parameter_of first_of zeroed_to
summer_zeroed r s f out room e g n =
    let o = answer_of r s f out in
    let y = o.answer.after in
    let q = read_of y 27 0 in
    zeroed-own r s f out room e n q (read-bytes y 27 0 (fits-zeroed r s f out room e n) (lit≤ tt) (lit≤ tt)) refl
    (date-askable parameter.SummerDate y 27 (slots_of y.minutes) refl refl refl)
    ∙ ap (λ (z : Record). own_figures parameter.SummerDate z o.store q) (zeroed-is r s f out room parameter.SummerDate e g n)

-- demand 2's `winter_zeroed`: a zeroing brings back October's last Sunday of the clock's year, and it is read
pub winter_zeroed : (r : Record) (s f out room : List ℕ) → function_in f ≡ function.Zero → parameter_in f ≡ parameter.WinterDate
    → let o = answer_of r s f out in Next r s o room
    → read_back o.answer.after o.store (read_of o.answer.after 28 0) room ≡ Ok (decoded.DateTime (on_hour (sunday r.time.clock.date.year 10) 3))
unfolding parameter_of first_of zeroed_to
winter_zeroed r s f out room e g n =
    let o = answer_of r s f out in
    let y = o.answer.after in
    let q = read_of y 28 0 in
    zeroed-own r s f out room e n q (read-bytes y 28 0 (fits-zeroed r s f out room e n) (lit≤ tt) (lit≤ tt)) refl
    (date-askable parameter.WinterDate y 28 (slots_of y.minutes) refl refl refl)
    ∙ ap (λ (z : Record). own_figures parameter.WinterDate z o.store q) (zeroed-is r s f out room parameter.WinterDate e g n)

-- the figures of a slice read are the four counts of the store's row for that key
pub slice-figures : (r : Record) (s : List ℕ) (k : Key) (row : List ℕ) → slice_of s k ≡ row
    → own_figures (parameter_of 36) r s (slice_read r 36 k) ≡ Ok (decoded.Slice (four_counts row))
unfolding parameter_of first_of
slice-figures r s k row e = ap (λ (w : List ℕ). Ok (decoded.Slice (four_counts w))) e

-- what a zeroing of the slices leaves: the interval, and a store that is clear
minutes-kept : (r : Record) (s f out room : List ℕ) → function_in f ≡ function.Zero → parameter_in f ≡ parameter.Slice
    → let o = answer_of r s f out in Next r s o room → o.answer.after.minutes ≡ r.minutes
unfolding zeroed_to
minutes-kept r s f out room e g n = ap (λ (z : Record). z.minutes) (zeroed-is r s f out room parameter.Slice e g n)

store-clear : (r : Record) (s f out room : List ℕ) → function_in f ≡ function.Zero → parameter_in f ≡ parameter.Slice
    → let o = answer_of r s f out in Next r s o room → o.store ≡ cleared s
unfolding clears_by
store-clear r s f out room e g n =
    store-done r s f out function.Zero e n.zero ∙ ap (λ (z : Parameter). cond (clears_by function.Zero (code_of z)) (cleared s) s) g

-- demand 2's `slices_zeroed`: after a zeroing of the slices any legal key reads zeros
pub slices_zeroed : (r : Record) (s f out room : List ℕ) (k : Key) → function_in f ≡ function.Zero → parameter_in f ≡ parameter.Slice
    → is_legal k (slots_of r.minutes) ≡ true → let o = answer_of r s f out in Next r s o room
    → read_back o.answer.after o.store (slice_read o.answer.after 36 k) room ≡ Ok (decoded.Slice (four_counts zero_row))
slices_zeroed r s f out room k e g h n =
    let o = answer_of r s f out in
    let y = o.answer.after in
    let m = minutes-kept r s f out room e g n in
    let legal : is_legal k (slots_of y.minutes) ≡ true = ap (λ (i : ℕ). is_legal k (slots_of i)) m ∙ h in
    let c = store-clear r s f out room e g n in
    zeroed-own r s f out room e n (slice_read y 36 k)
    (slice-bytes y 36 k (slots_of y.minutes) (fits-zeroed r s f out room e n) (lit≤ tt) (slots-at-most y.minutes) legal)
    refl (slice-askable y k (slots_of y.minutes) legal)
    ∙ slice-figures y o.store k zero_row (ap (λ (z : List ℕ). slice_of z k) c ∙ cleared-absent s k (bounds k (slots_of r.minutes) (slots-at-most r.minutes) h).month-from)

six-askable : (r : Record) (k : Key) (slots : ℕ) → is_legal k (slots - 5) ≡ true → askable (subject_of (slice_read r 40 k) slots) ≡ true
unfolding subject_of subject_for parameter_of first_of is_legal
six-askable r k slots h = simp h

six-absent : (s : List ℕ) (k : Key) → 1 ≤ k.month → six_of (cleared s) k ≡ zero_row ∷ zero_row ∷ zero_row ∷ zero_row ∷ zero_row ∷ zero_row ∷ []
unfolding six_of
six-absent s k h = simp (
  cleared-absent s k h,
  cleared-absent s (later k 1) h,
  cleared-absent s (later k 2) h,
  cleared-absent s (later k 3) h,
  cleared-absent s (later k 4) h,
  cleared-absent s (later k 5) h,
)

is-six : parameter_of 40 ≡ parameter.SixSlices
unfolding parameter_of first_of
is-six = refl

-- demand 2's `six_zeroed`: and so do six of them
pub six_zeroed : (r : Record) (s f out room : List ℕ) (k : Key) → function_in f ≡ function.Zero → parameter_in f ≡ parameter.Slice
    → is_legal k (slots_of r.minutes - 5) ≡ true → let o = answer_of r s f out in Next r s o room
    → rows.six_of (rows.reply_data (reply_in (answered o.answer.after o.store (slice_read o.answer.after 40 k) room)))
    ≡ zero_row ∷ zero_row ∷ zero_row ∷ zero_row ∷ zero_row ∷ zero_row ∷ []
six_zeroed r s f out room k e g h n =
    let o = answer_of r s f out in
    let y = o.answer.after in
    let q = slice_read y 40 k in
    let slots = slots_of y.minutes in
    let m = minutes-kept r s f out room e g n in
    let legal : is_legal k (slots - 5) ≡ true = ap (λ (i : ℕ). is_legal k (slots_of i - 5)) m ∙ h in
    let most : slots - 5 ≤ 96 = omega (arith, slots-at-most y.minutes) in
    let bytes = slice-bytes y 40 k (slots - 5) (fits-zeroed r s f out room e n) (lit≤ tt) most legal in
    replies.six_slices y o.store q room (bytes-zeroed r s f out room e n) is-six
    (own-done y o.store q room bytes n.room (after-sound r s f out room n) refl (six-askable y k slots legal))
    ∙ ap (λ (z : List ℕ). six_of z k) (store-clear r s f out room e g n)
    ∙ six-absent s k (bounds k (slots - 5) most legal).month-from

-- ---- the bench

-- demand 2's `put_done`: a sound meter takes a slice with a legal key
pub put_done : (r : Record) (s : List ℕ) (k : Key) (row : List ℕ) → is_sound r s ≡ true → is_legal k (slots_of r.minutes) ≡ true
    → number_of (slice_put r s k row).result ≡ 0
unfolding slice_put
put_done r s k row sound h = simp (sound, h)

-- the record that a bench call hands over, or another
abbrev pub handed : Result Record RecordError → Record → Record
handed (Ok r) z = r
handed (Err refusal) z = z

-- whether a bench call handed over a record: tells an answer of 0 from the refusals
abbrev pub is_handed : Result Record RecordError → Bool
is_handed (Ok r) = true
is_handed (Err refusal) = false

-- what a put that was done has passed, and what it left: the interval, and the store with the row in it
pub record Put (r y : Record) (s : List ℕ) (k : Key) (row : List ℕ) : Type 0 where
  pub sound : is_sound r s ≡ true
  pub legal : is_legal k (slots_of r.minutes) ≡ true
  pub after : y.minutes ≡ r.minutes
  pub left : (slice_put r s k row).left ≡ put_store s r.next k row

-- a put that handed over a record is such a one
pub put_is : (r y : Record) (s : List ℕ) (k : Key) (row : List ℕ) → (slice_put r s k row).result ≡ Ok y → Put r y s k row
unfolding slice_put
put_is r y s k row h = go (is_sound r s) refl (is_legal k (slots_of r.minutes)) refl
  where
    go : (a : Bool) → is_sound r s ≡ a → (b : Bool) → is_legal k (slots_of r.minutes) ≡ b → Put r y s k row
    go false e b g = absurd (false≢true (ap is_handed (simp e at h)))
    go true e false g = absurd (false≢true (ap is_handed (simp (e, g) at h)))
    go true e true g = record {
      sound = e;
      legal = g;
      after = ap (λ (z : Result Record RecordError). (handed z r).minutes) (sym (simp (e, g) at h));
      left = simp (e, g);
    }

-- demand 2's `put-read`: the counts that the bench put under a key are read by that key
pub put-read : (r y : Record) (s : List ℕ) (k : Key) (row room : List ℕ) → let o = slice_put r s k row in o.result ≡ Ok y
    → FitsRecord y → Bytes o.left → length row ≡ 4 → ((i : ℕ) → count_at row i < 65536) → 64 ≤ length room
    → read_back y o.left (slice_read y 36 k) room ≡ Ok (decoded.Slice (four_counts row))
unfolding is_sound
put-read r y s k row room h f b four below space =
    let o = slice_put r s k row in
    let p = put_is r y s k row h in
    let legal : is_legal k (slots_of y.minutes) ≡ true = ap (λ (i : ℕ). is_legal k (slots_of i)) p.after ∙ p.legal in
    let sound : is_sound y o.left ≡ true = ap (λ (z : Result Record RecordError). hands_back z o.left) (sym h) ∙ put-sound r s k row in
    let a = both (eqb (length s) store_bytes) (is_within r) p.sound in
    let back : slice_of (put_store s r.next k row) k ≡ row =
    put-then-read s r.next k row (eqb-true (length s) store_bytes a.0) (ltb-true r.next places (within r a.1).next) (record { four = four; below = below }) in
    own y o.left (slice_read y 36 k) room f b
    (slice-bytes y 36 k (slots_of y.minutes) f (lit≤ tt) (slots-at-most y.minutes) legal) space sound refl (slice-askable y k (slots_of y.minutes) legal)
    ∙ slice-figures y o.left k row (ap (λ (z : List ℕ). slice_of z k) p.left ∙ back)

-- powers

-- demand 2's `powers_done`: a record within its ranges takes active and reactive powers that are within theirs
pub powers_done : (r : Record) (p : Phases) → is_within r ≡ true → are_powers p ≡ true → (number_of (set_powers r 8 p) ≡ 0) × (number_of (set_powers r 9 p) ≡ 0)
unfolding set_powers powers_set
powers_done r p w h = (simp (w, h), simp (w, h))

powers-handed : (r y : Record) (n : ℕ) (p : Phases) → set_powers r n p ≡ Ok y → set_powers r n p ≡ powers_set r n p
unfolding set_powers
powers-handed r y n p h = go (is_within r) refl (are_powers p) refl
  where
    go : (a : Bool) → is_within r ≡ a → (b : Bool) → are_powers p ≡ b → set_powers r n p ≡ powers_set r n p
    go false e b g = absurd (false≢true (ap is_handed (simp e at h)))
    go true e false g = absurd (false≢true (ap is_handed (simp (e, g) at h)))
    go true e true g = simp (e, g)

powers-sound : (r y : Record) (n : ℕ) (p : Phases) (s : List ℕ) → set_powers r n p ≡ Ok y → length s ≡ store_bytes → is_sound y s ≡ true
unfolding is_sound
powers-sound r y n p s h l = ap₂ ◌&&◌ (eq-eqb (length s) store_bytes l) (ap ranges.hands_back (sym h) ∙ powers-within r n p)

phase-askable : (r : Record) (detail slots : ℕ) → detail ≤ 3
    → (askable (subject_of (read_of r 8 detail) slots) ≡ true) × (askable (subject_of (read_of r 9 detail) slots) ≡ true)
unfolding subject_of subject_for parameter_of first_of is_phase
phase-askable r detail slots h = (simp (le-leb detail 3 h), simp (le-leb detail 3 h))

-- demand 2's `active_read`: active powers that the bench set are read bit for bit, the total with the phases or one phase
pub active_read : (r y : Record) (p : Phases) (s : List ℕ) (detail : ℕ) (room : List ℕ) → set_powers r 8 p ≡ Ok y
    → FitsRecord y → Bytes s → length s ≡ store_bytes → detail ≤ 3 → 64 ≤ length room → read_back y s (read_of y 8 detail) room ≡ own_power p detail
unfolding parameter_of first_of powers_set
active_read r y p s detail room h f b l d space =
    let a : y.active ≡ p = ap (λ (z : Result Record RecordError). (handed z r).active) (sym h ∙ powers-handed r y 8 p h) in
    own y s (read_of y 8 detail) room f b (read-bytes y 8 detail f (lit≤ tt) d) space (powers-sound r y 8 p s h l) refl
    (phase-askable y detail (slots_of y.minutes) d).0
    ∙ ap (λ (z : Phases). own_power z detail) a

-- demand 2's `reactive_read`: and so are reactive ones
pub reactive_read : (r y : Record) (p : Phases) (s : List ℕ) (detail : ℕ) (room : List ℕ) → set_powers r 9 p ≡ Ok y
    → FitsRecord y → Bytes s → length s ≡ store_bytes → detail ≤ 3 → 64 ≤ length room → read_back y s (read_of y 9 detail) room ≡ own_power p detail
unfolding parameter_of first_of powers_set
reactive_read r y p s detail room h f b l d space =
    let a : y.reactive ≡ p = ap (λ (z : Result Record RecordError). (handed z r).reactive) (sym h ∙ powers-handed r y 9 p h) in
    own y s (read_of y 9 detail) room f b (read-bytes y 9 detail f (lit≤ tt) d) space (powers-sound r y 9 p s h l) refl
    (phase-askable y detail (slots_of y.minutes) d).1
    ∙ ap (λ (z : Phases). own_power z detail) a
