-- Demand 2 at the boundary: the meter's calls on a record's bytes are those on the record that the bytes are read as.
use mathlib.Core.Path.{◌≡◌, refl, sym, ap, ap₂, subst, ◌∙◌}
use mathlib.Core.Bool.{Bool, true, false, cond, false≢true}
use mathlib.Core.List.{List, [], ◌∷◌}
use Prim.Native.Nat.{ℕ, ◌^◌, ◌<◌}
use lib.Dec.{eqb, ltb}
use lib.ListN.{length}
use Rattle.std.specs.Prelude.{None, Err, Ok, Option, Result, Some}
use Rattle.test_laws.proofs.Test.{both, either}
use Rattle.refusal.specs.Outcome.{Outcome}
use Rattle.byte_numbers.specs.Number.{Bytes}
use Rattle.calendar.specs.declared.time.DateTime.{DateTime}
use Rattle.wire_values.specs.Telemetry.{FitsTelemetry}
use Rattle.wire_values.specs.declared.telemetry.Telemetry.{Telemetry}
use Rattle.frame.specs.Layout.{longest}
use Rattle.parameters.specs.declared.code.Function.{Function}
use Rattle.parameters.specs.declared.code.Function.TheVariants as function
use Rattle.slots.specs.Day.{slots_of}
use Rattle.slots.specs.Key.{is_legal}
use Rattle.slots.specs.declared.key.Key.{Key}
use Rattle.meter_clock.specs.declared.season.Season.{Season}
use Rattle.meter_record.specs.Power.{are_powers}
use Rattle.meter_record.specs.Ranges.{is_within}
use Rattle.meter_record.specs.Ratios.{are_ratios}
use Rattle.meter_record.specs.Record.{fresh, made, second_of, powers_set, set_powers, set_ratios}
use Rattle.meter_record.specs.Widths.{FitsRecord}
use Rattle.meter_record.specs.declared.record.Record.{Record}
use Rattle.meter_record.specs.declared.record.RecordError.{RecordError}
use Rattle.meter_record.specs.declared.record.RecordError.TheVariants as given
use Rattle.meter_record.proofs.RangeLaws.{hands_back, made-within, second-within, powers-within, ratios-within}
use Rattle.meter_record_bytes.specs.Record.{record_size, record_of}
use Rattle.meter_record_bytes.specs.Time.{season_of}
use Rattle.meter_record_bytes.proofs.RecordLaws.{read-size}
use Rattle.meter_command.specs.Access.{change_allowed}
use Rattle.meter_command.specs.Command.{function_in, parameter_in, command_of}
use Rattle.meter_command.specs.Verdict.{is_done}
use Rattle.meter_command.specs.declared.verdict.Refusal.TheVariants.{Silent, Unsound}
use Rattle.meter_reply_data.specs.Reading.{is_read}
use Rattle.meter.specs.Bench.{slice_put}
use Rattle.meter.specs.Effect.{after_by, after_of}
use Rattle.meter.specs.Reply as reply
use Rattle.meter.specs.Reply.{is_sound, heard, verdict_on, replied, answer_of}
use Rattle.meter.proofs.KeepLaws as keep
use Rattle.claims.specs.Demand2Second.{record_after}
use Rattle.claims.specs.Changes.{Permitted}
use Rattle.claims.proofs.Claims as claims
use Rattle.metlazuel.specs.MeterCalls.{phases_from, ratios_from, made_in, second_in, powers_in, ratios_in, slice_in, bytes_after, make_for_c, bytes_left, answer_for_c}
use Rattle.c_claims.specs.MeterRun.{MeterCall, make, second, powers, ratios, slice, frame, Meter, meter, Told, record_step, bytes_step, meter_run}
use Rattle.c_claims.specs.Demand2.{Holds, EndAlike, CallFits, AllFit}
use Rattle.c_claims.proofs.WidthLaws.{fresh-fits, later-fits, from-fits, powers-fit, ratios-fit, place-fits, after-fits, read_back, read_again, read_fits}

-- bytes that are read as a record whose numbers fit
abbrev Reads : List ℕ → Record → Type 0
Reads bs r = (record_of bs ≡ Some r) × FitsRecord r

-- ---- the bench's calls

-- a record that is handed back has its widths
abbrev FitsAnswer : Result Record RecordError → Type 0
FitsAnswer (Ok x) = FitsRecord x
FitsAnswer (Err refusal) = Unit

bench-reads : (a : Result Record RecordError) (bs : List ℕ) (r : Record) → Reads bs r → FitsAnswer a → hands_back a ≡ true → Reads (bytes_after a bs) (record_after a r)
unfolding bytes_after
bench-reads (Ok x) bs r e f h = (read_again bs r x e.0 f h, f)
bench-reads (Err refusal) bs r e f h = e

module _ (address minutes : ℕ) (t : Telemetry) (c : DateTime) (season : ℕ) where
  made-fits : address < 256 → FitsTelemetry t → FitsAnswer (made_in address minutes t c season)
  unfolding made_in made
  made-fits a f = go (season_of season) refl
    where
      go : (x : Option Season) → season_of season ≡ x → FitsAnswer (made_in address minutes t c season)
      go (Some s) e = rw e (either FitsAnswer (is_within (fresh address minutes t c s)) (fresh-fits address minutes t c s a f) tt)
      go None e = rw e tt

  made-back : hands_back (made_in address minutes t c season) ≡ true
  unfolding made_in
  made-back = go (season_of season) refl
    where
      go : (x : Option Season) → season_of season ≡ x → hands_back (made_in address minutes t c season) ≡ true
      go (Some s) e = rw e (made-within address minutes t c s)
      go None e = rw e refl

second_fits : (r : Record) → FitsRecord r → FitsAnswer (second_of r)
unfolding second_of
second_fits r f = either FitsAnswer (is_within r) (later-fits r f) tt

set-fits : (r : Record) (n a b c : ℕ) → FitsRecord r → FitsAnswer (set_powers r n (phases_from a b c))
unfolding set_powers powers_set
set-fits r n a b c f =
    let p = phases_from a b c in
    let k = from-fits a b c in
    either FitsAnswer (is_within r)
    (either FitsAnswer (are_powers p)
    (either FitsAnswer (eqb n 8) (powers-fit r p r.reactive k f.reactive f) (either FitsAnswer (eqb n 9) (powers-fit r r.active p f.active k f) tt))
    tt)
    tt

ratios-fits : (r : Record) (ki ku : ℕ) → ki < 2 ^ 32 → ku < 2 ^ 32 → FitsRecord r → FitsAnswer (set_ratios r (ratios_from ki ku))
unfolding set_ratios
ratios-fits r ki ku i u f =
    either FitsAnswer (is_within r) (either FitsAnswer (are_ratios (ratios_from ki ku)) (ratios-fit r ki ku i u f) tt) tt

sound-within : (r : Record) (s : List ℕ) → is_sound r s ≡ true → is_within r ≡ true
unfolding is_sound
sound-within r s h = (both (eqb (length s) _) (is_within r) h).1

within-back : (a : Result Record RecordError) (s : List ℕ) → keep.hands_back a s ≡ true → hands_back a ≡ true
within-back (Ok x) s h = sound-within x s h
within-back (Err given.OutOfRange) s h = refl
within-back (Err given.Unsound) s h = refl

abbrev PutFits : Outcome (Result Record RecordError) (List ℕ) → Type 0
PutFits o = keep.hands_back o.result o.left ≡ true → FitsAnswer o.result

put-fits : (r : Record) (s : List ℕ) (k : Key) (row : List ℕ) → FitsRecord r → PutFits (slice_put r s k row)
unfolding slice_put
put-fits r s k row f =
    either PutFits (is_sound r s)
    (either PutFits (is_legal k (slots_of r.minutes)) (λ h. place-fits r _ _ refl (sound-within _ _ h) f) (λ h. tt))
    (λ h. tt)

-- ---- a frame answered

read-leaves : (fn : Function) (r : Record) (f : List ℕ) → is_read fn ≡ true → after_by fn r (command_of f) f ≡ r
unfolding after_by
read-leaves (function.Read reading) r f e = refl
read-leaves function.Unknown r f e = refl
read-leaves function.Change r f e = absurd (false≢true e)
read-leaves function.Zero r f e = absurd (false≢true e)
read-leaves function.Unlock r f e = absurd (false≢true e)
read-leaves function.Lock r f e = absurd (false≢true e)

module _ (bs : List ℕ) (r : Record) (s f out : List ℕ) (e : Reads bs r) (b : Bytes f) where
  -- where a sound answer keeps record and store sound, the bytes that it leaves are read as its record
  abbrev Left : reply.Outcome → Type 0
  Left o = (is_sound r s ≡ true → is_sound o.answer.after o.store ≡ true) → Reads (bytes_left o.answer f bs) o.answer.after

  done-reads : is_sound r s ≡ true → is_done (verdict_on r f) ≡ true → Left (reply.done (verdict_on r f) r s f out)
  unfolding bytes_left
  done-reads h d k = go (is_read (function_in f)) refl
    where
      fits : FitsRecord (after_of r (command_of f) f)
      fits = after-fits r f b e.1

      go : (q : Bool) → is_read (function_in f) ≡ q → Reads (bytes_left (reply.done (verdict_on r f) r s f out).answer f bs) (after_of r (command_of f) f)
      go true q =
          let same : after_of r (command_of f) f ≡ r = unfold after_of in read-leaves (function_in f) r f q in
          (rw (d, q, same) e.0, fits)
      go false q = (rw (d, q) (read_again bs r (after_of r (command_of f) f) e.0 fits (sound-within _ _ (k h))), fits)

  heard-reads : is_sound r s ≡ true → Left (replied (verdict_on r f) r s f out)
  unfolding replied bytes_left
  heard-reads h = go (is_done (verdict_on r f)) refl
    where
      go : (q : Bool) → is_done (verdict_on r f) ≡ q → Left (cond q (reply.done (verdict_on r f) r s f out) (reply.refused (verdict_on r f) r s f out))
      go true q = done-reads h q
      go false q = λ k. rw q e

  answer-left : Left (answer_of r s f out)
  unfolding answer_of bytes_left
  answer-left = either Left (ltb (length out) longest) (λ k. e) (go (is_sound r s) refl)
    where
      go : (q : Bool) → is_sound r s ≡ q → Left (cond q (cond (heard r f) (replied (verdict_on r f) r s f out) (reply.unheard (Err Silent) r s out)) (reply.unheard (Err Unsound) r s out))
      go true q = either Left (heard r f) (heard-reads q) (λ k. e)
      go false q = λ k. e

  answer-reads : Reads (bytes_left (answer_of r s f out).answer f bs) (answer_of r s f out).answer.after
  answer-reads = answer-left (keep.answer-sound r s f out)

-- ---- one call, and a list of them

step-alike : (bs s : List ℕ) (r : Record) (c : MeterCall) → Reads bs r → CallFits c → EndAlike (bytes_step (meter bs s) c) (record_step (meter r s) c)
unfolding bytes_step record_step make_for_c second_in powers_in ratios_in slice_in answer_for_c
step-alike bs s r (make address minutes t c season) e b =
    let a = made_in address minutes t c season in
    let o = bench-reads a bs r e (made-fits address minutes t c season b.0 b.1) (made-back address minutes t c season) in
    let whole : ltb (length bs) record_size ≡ false = rw (read-size bs r e.0) refl in
    record { told = rw whole refl; left = record { bytes = rw whole o.0; widths = o.1; store = refl } }
step-alike bs s r second e b =
    let o = bench-reads (second_of r) bs r e (second_fits r e.1) (second-within r) in
    record { told = rw e.0 refl; left = record { bytes = rw e.0 o.0; widths = o.1; store = refl } }
step-alike bs s r (powers n x y z) e b =
    let o = bench-reads (set_powers r n (phases_from x y z)) bs r e (set-fits r n x y z e.1) (powers-within r n (phases_from x y z)) in
    record { told = rw e.0 refl; left = record { bytes = rw e.0 o.0; widths = o.1; store = refl } }
step-alike bs s r (ratios ki ku) e b =
    let k = ratios_from ki ku in
    let o = bench-reads (set_ratios r k) bs r e (ratios-fits r ki ku b.0 b.1 e.1) (ratios-within r k) in
    record { told = rw e.0 refl; left = record { bytes = rw e.0 o.0; widths = o.1; store = refl } }
step-alike bs s r (slice k row) e b =
    let h = keep.put-sound r s k row in
    let p = slice_put r s k row in
    let o = bench-reads p.result bs r e (put-fits r s k row e.1 h) (within-back p.result p.left h) in
    record { told = rw e.0 refl; left = record { bytes = rw e.0 o.0; widths = o.1; store = rw e.0 refl } }
step-alike bs s r (frame f out word) e b =
    let o = answer-reads bs r s f out e b in
    record { told = rw e.0 refl; left = record { bytes = rw e.0 o.0; widths = o.1; store = rw e.0 refl } }

-- demand 2's `start`: any bytes that are read as a record hold that meter
pub start : (bs s : List ℕ) (r : Record) → Bytes bs → record_of bs ≡ Some r → Holds (meter bs s) (meter r s)
start bs s r b e = record { bytes = e; widths = read_fits bs b r e; store = refl }

-- demand 2's `make_start`: a meter made over 89 bytes is held by them, whatever they held before
pub make_start : (address minutes : ℕ) (t : Telemetry) (c : DateTime) (season : ℕ) (bs s : List ℕ) (r : Record) → address < 256 → FitsTelemetry t
    → length bs ≡ record_size → made_in address minutes t c season ≡ Ok r → let o = make_for_c (made_in address minutes t c season) bs in
    (o.result ≡ 0) × Holds (meter o.left s) (meter r s)
unfolding make_for_c bytes_after
make_start address minutes t c season bs s r a f l e =
    let whole : ltb (length bs) record_size ≡ false = rw l refl in
    let fits = subst FitsAnswer e (made-fits address minutes t c season a f) in
    let back = subst (λ (x : Result Record RecordError). hands_back x ≡ true) e (made-back address minutes t c season) in
    rw (whole, e) (refl, record { bytes = read_back bs r l fits back; widths = fits; store = refl })

-- demand 2's `call`: what one call leaves is what the next one reads, and it tells what the call on the record tells
pub call : (m : Meter (List ℕ)) (x : Meter Record) (c : MeterCall) → Holds m x → CallFits c → EndAlike (bytes_step m c) (record_step x c)
call m x c h b =
    let same : meter m.kept m.store ≡ meter m.kept x.store = ap (meter m.kept) h.store in
    rw same (step-alike m.kept x.store x.kept c (h.bytes, h.widths) b)

-- demand 2's `list`: the same of any list of calls, whatever is answered
pub list : (m : Meter (List ℕ)) (x : Meter Record) (cs : List MeterCall) → Holds m x → AllFit cs
    → EndAlike (meter_run bytes_step m cs) (meter_run record_step x cs)
unfolding meter_run
list m x [] h b = record { told = refl; left = h }
list m x (c ∷ cs) h b =
    let first = call m x c h b.0 in
    let rest = list (bytes_step m c).left (record_step x c).left cs first.left b.1 in
    record { told = ap₂ (λ (t : Told) (ts : List Told). t ∷ ts) first.told rest.told; left = rest.left }

-- demand 2's `change`, "changes the named parameter alone": the bytes after one are read as the record of which demand 2 says it
pub change : (m : Meter (List ℕ)) (x : Meter Record) (f out : List ℕ) (word : ℕ) → Holds m x → Bytes f → function_in f ≡ function.Change
    → (bytes_step m (frame f out word)).result.number ≡ 0 → let o = answer_of x.kept x.store f out in
    (record_of (bytes_step m (frame f out word)).left.kept ≡ Some o.answer.after)
    × Permitted (change_allowed (parameter_in f) x.kept.protection.level) f x.kept x.store o
unfolding record_step
change m x f out word h b e z =
    let a = call m x (frame f out word) h b in
    (a.left.bytes, (claims.demand-2).change x.kept x.store f out e (sym (ap (λ (t : Told). t.number) a.told) ∙ z))
