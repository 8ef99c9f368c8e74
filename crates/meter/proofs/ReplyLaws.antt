-- What follows: how long a reply's data are, and that a reply's parts, written one behind the other and sealed, are its frame.
use Rattle.std.specs.Prelude.{Result}
use Rattle.meter_command.specs.declared.verdict.Refusal.{Refusal}
use mathlib.Core.Path.{◌≡◌, refl, sym, ap, ap₂, ◌∙◌}
use mathlib.Core.Bool.{Bool, true, false, cond}
use mathlib.Core.List.{List, ◌++◌}
use Prim.Native.Nat.{ℕ, ◌+◌, ◌-◌, ◌≤◌}
use native.Mathlib.Omega.{arith}
use lib.Dec.{eqb, ltb, lit≤}
use lib.ListN.{length, take, drop, length-append}
use Rattle.byte_numbers.specs.Number.{bytes_of}
use Rattle.byte_numbers.proofs.Part.{written-rest}
use Rattle.byte_numbers.specs.Place.{written}
use Rattle.byte_numbers.proofs.PlaceLaws.{written-append}
use Rattle.wire_values.specs.Clock.{date_time_bytes}
use Rattle.wire_values.specs.Mask.{mask_bytes}
use Rattle.wire_values.specs.Power.{powers_bytes}
use Rattle.wire_values.proofs.PowerLaws.{length-power_bytes}
use Rattle.wire_values.specs.Telemetry.{telemetry_bytes}
use Rattle.wire_values.specs.declared.power.Phases.{Phases}
use Rattle.frame.specs.Sealing.{framed, sealed}
use Rattle.frame.proofs.SealingLaws.{sealed-written}
use Rattle.parameters.specs.Table.{reply_bytes}
use Rattle.parameters.proofs.TableLaws.{reply-small}
use Rattle.parameters.specs.declared.code.Parameter.{Parameter}
use Rattle.parameters.specs.declared.code.Reading.{Reading}
use Rattle.parameters.specs.declared.code.Reading.TheVariants.{Stored, Displayed}
use Rattle.wire_values.proofs.DisplayedLaws.{length-energies}
use Rattle.request.specs.Subject.{key_of}
use Rattle.request.specs.declared.request.Request.{Request}
use Rattle.meter_store.specs.Store.{slice_of, six_of, row_bytes}
use Rattle.meter_record.specs.declared.record.Record.{Record}
use Rattle.meter_command.specs.Command.{function_in, parameter_in, request_in, command_of}
use Rattle.meter_command.specs.declared.command.Command.{Command}
use Rattle.meter_command.specs.Verdict.{is_done}
use Rattle.meter_reply_data.specs.Reading.{power_data, six_bytes, figures_of, displayed_of, figures_as, is_read, data_of, data_size}
use Rattle.parameters.specs.declared.code.Parameter.TheVariants as parameter
use Rattle.meter.specs.Reply.{outcome, is_sound, heard, verdict_on, head_of, filled, done, refused, replied, answer_of}

-- ---- the length of the data

length-power : (p : Phases) (detail : ℕ) → length (power_data p detail) ≡ cond (eqb detail 0) 16 4
unfolding power_data powers_bytes
length-power p detail = go (eqb detail 0) refl
  where
    go : (b : Bool) → eqb detail 0 ≡ b → length (power_data p detail) ≡ cond (eqb detail 0) 16 4
    go true e = simp (e, length-append, length-power_bytes)
    go false e = simp (e, length-power_bytes)

-- a slice's four counts are eight bytes
pub length-row : (row : List ℕ) → length (row_bytes row) ≡ 8
unfolding row_bytes bytes_of
length-row row = refl

-- what is stored of a parameter has as many bytes as the parameter's row in the table says
pub length-figures : (p : Parameter) (r : Record) (s : List ℕ) (q : Request) → length (figures_of p r s q) ≡ reply_bytes Stored p q.detail
unfolding reply_bytes telemetry_bytes mask_bytes date_time_bytes bytes_of row_bytes six_bytes six_of
length-figures parameter.ActivePower r s q = length-power r.active q.detail
length-figures parameter.ReactivePower r s q = length-power r.reactive q.detail
length-figures parameter.Address r s q = refl
length-figures parameter.Telemetry r s q = refl
length-figures parameter.SummerDate r s q = refl
length-figures parameter.WinterDate r s q = refl
length-figures parameter.Clock r s q = refl
length-figures parameter.DisplayMask r s q = refl
length-figures parameter.Slice r s q = refl
length-figures parameter.SixSlices r s q = refl
length-figures parameter.Password r s q = refl
length-figures parameter.Unknown r s q = refl

-- and what either function reads of it has as many as its reply's data
pub length-as : (reading : Reading) (p : Parameter) (r : Record) (s : List ℕ) (q : Request)
    → length (figures_as reading p r s q) ≡ reply_bytes reading p q.detail
unfolding reply_bytes
length-as Stored p r s q = length-figures p r s q
length-as Displayed p r s q = length-energies (displayed_of r (slice_of s (key_of q)))

-- the data of a reply have the size that is known from its command alone; none but a read has any
pub length-data : (r : Record) (s f : List ℕ) → length (data_of r s (command_of f)) ≡ data_size (command_of f)
unfolding data_of data_size reply_bytes
length-data r s f = go (is_read (function_in f)) refl
  where
    go : (b : Bool) → is_read (function_in f) ≡ b → length (data_of r s (command_of f)) ≡ data_size (command_of f)
    go true e = simp e (length-as (request_in f).reading (parameter_in f) r s (request_in f))
    go false e = simp e

-- six rows are the most
pub data-small : (f : List ℕ) → data_size (command_of f) ≤ 48
unfolding data_size reply_bytes
data-small f = go (is_read (function_in f)) refl
  where
    go : (b : Bool) → is_read (function_in f) ≡ b → data_size (command_of f) ≤ 48
    go true e = simp e (reply-small (request_in f).reading (parameter_in f) (request_in f).detail)
    go false e = simp e (lit≤ tt)

-- ---- a reply's parts, one behind the other

-- a reply's head is four bytes: address, function, parameter and result
pub length-head : (v : Result Unit Refusal) (c : Command) → length (head_of v c) ≡ 4
unfolding head_of
length-head v c = refl

-- the head alone, sealed
pub refused-whole : (v : Result Unit Refusal) (c : Command) (out : List ℕ) → 64 ≤ length out
    → sealed (written out 0 (head_of v c)) 4 ≡ written out 0 (framed (head_of v c))
refused-whole v c out h =
    ap (sealed (written out 0 (head_of v c))) (sym (length-head v c)) ∙ sealed-written out (head_of v c) (rw length-head (omega arith))

-- the head and the data behind it, sealed
pub filled-whole : (v : Result Unit Refusal) (r : Record) (s f out : List ℕ) → 64 ≤ length out
    → filled v r s f (written out 0 (head_of v (command_of f))) ≡ done v r s f out
filled-whole v r s f out h =
    let c = command_of f in
    let bytes = data_of r s c in
    let body = head_of v c ++ bytes in
    let size : length bytes ≡ data_size c = length-data r s f in
    let whole : length body ≡ 4 + data_size c = length-append (head_of v c) bytes ∙ ap₂ ◌+◌ (length-head v c) size in
    let joined : written (written out 0 (head_of v c)) 4 bytes ≡ written out 0 body =
    sym (written-append out 0 (head_of v c) bytes ∙ ap (λ (k : ℕ). written (written out 0 (head_of v c)) (0 + k) bytes) (length-head v c)) in
    let sealing : sealed (written out 0 body) (4 + data_size c) ≡ written out 0 (framed body) =
    ap (sealed (written out 0 body)) (sym whole) ∙ sealed-written out body (rw whole (omega (arith, data-small f))) in
    rw (size, joined, sealing)

-- what the lent data part leaves of the whole, where x is what its borrower left of it
pub part_filled : (s x bs : List ℕ) → x ≡ written (take (length s - 4) (drop 4 s)) 0 bs
    → take 4 s ++ (x ++ drop (length s - 4) (drop 4 s)) ≡ written s 4 bs
part_filled s x bs e =
    ap (λ (l : List ℕ). take 4 s ++ (l ++ drop (length s - 4) (drop 4 s))) e ∙ written-rest 4 s 0 bs

-- which of the two a verdict that the judge gave leads to
pub replied-done : (v w : Result Unit Refusal) (r : Record) (s f out : List ℕ) → v ≡ w → is_done v ≡ true → done v r s f out ≡ replied w r s f out
unfolding replied
replied-done v w r s f out e d =
    let q : is_done w ≡ true = ap is_done (sym e) ∙ d in
    ap (λ (x : Result Unit Refusal). done x r s f out) e ∙ sym (ap (λ (b : Bool). cond b (done w r s f out) (refused w r s f out)) q)

-- for `replied`: a verdict that refuses leads to the head alone, in six bytes, and leaves record and store
pub replied-refused : (v w : Result Unit Refusal) (r : Record) (s f out x : List ℕ) → v ≡ w → is_done v ≡ false → x ≡ written out 0 (framed (head_of v (command_of f)))
    → outcome (record { verdict = v; length = 6; after = r }) s x ≡ replied w r s f out
unfolding replied
replied-refused v w r s f out x e d p =
    let q : is_done w ≡ false = ap is_done (sym e) ∙ d in
    ap (λ (y : List ℕ). outcome (record { verdict = v; length = 6; after = r }) s y) p
    ∙ ap (λ (y : Result Unit Refusal). refused y r s f out) e
    ∙ sym (ap (λ (b : Bool). cond b (done w r s f out) (refused w r s f out)) q)

-- a reply has at most 54 bytes
pub answer-short : (r : Record) (s f out : List ℕ) → (answer_of r s f out).answer.length ≤ 54
unfolding answer_of replied
answer-short r s f out = go (ltb (length out) 64) refl (is_sound r s) refl (heard r f) refl (is_done (verdict_on r f)) refl
  where
    go : (a : Bool) → ltb (length out) 64 ≡ a → (b : Bool) → is_sound r s ≡ b → (c : Bool) → heard r f ≡ c → (d : Bool) → is_done (verdict_on r f) ≡ d
        → (answer_of r s f out).answer.length ≤ 54
    go true e b k c l d m = simp e (lit≤ tt)
    go false e false k c l d m = simp (e, k) (lit≤ tt)
    go false e true k false l d m = simp (e, k, l) (lit≤ tt)
    go false e true k true l false m = simp (e, k, l, m) (lit≤ tt)
    go false e true k true l true m = simp (e, k, l, m) (omega (arith, length-data r s f, data-small f))
