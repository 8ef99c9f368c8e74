-- Document 02, request 3: which parameters are open to function 4, and the ratios in what is read. The figures: proofs/Displayed.antt.
use mathlib.Core.Path.{◌≡◌, refl, sym, ap, ap₂, ◌∙◌}
use mathlib.Core.Bool.{Bool, true, false, ◌&&◌, false≢true}
use mathlib.Core.List.{List}
use Prim.Native.Nat.{ℕ, ◌≤◌}
use borrow.Author.Tests.{eq-eqb}
use lib.Dec.{lit≤}
use lib.ListN.{length}
use Rattle.std.specs.Prelude.{Err, Ok, Result}
use Rattle.byte_numbers.specs.Number.{Bytes}
use Rattle.frame.specs.Layout.{shortest}
use Rattle.parameters.specs.Table.{parameter_row, opens_to, known, first_of, parameter_of}
use Rattle.parameters.specs.declared.code.Function.TheVariants as function
use Rattle.parameters.specs.declared.code.Parameter.{Parameter}
use Rattle.parameters.specs.declared.code.Parameter.TheVariants as parameter
use Rattle.parameters.specs.declared.code.Reading.{Reading}
use Rattle.parameters.specs.declared.code.Reading.TheVariants.{Displayed}
use Rattle.slots.specs.Day.{slots_of}
use Rattle.slots.specs.Key.{is_legal}
use Rattle.slots.proofs.DayLaws.{slots-at-most}
use Rattle.slots.specs.declared.key.Key.{Key}
use Rattle.request.proofs.RequestLaws as request
use Rattle.request.specs.Request.{request_frame}
use Rattle.request.specs.Subject.{subject_for, subject_of, askable}
use Rattle.request.specs.declared.request.Request.{Request}
use Rattle.reader.specs.declared.reply.Decoded.TheVariants as decoded
use Rattle.meter_store.specs.Store.{store_bytes, slice_of}
use Rattle.meter_record.specs.Ranges.{is_within}
use Rattle.meter_record.specs.Ratios.{are_ratios}
use Rattle.meter_record.specs.Record.{number_of, set_ratios, with_ratios}
use Rattle.meter_record.specs.Widths.{FitsRecord}
use Rattle.meter_record.specs.declared.record.Ratios.{Ratios}
use Rattle.meter_record.specs.declared.record.Record.{Record}
use Rattle.meter_record.specs.declared.record.RecordError.{RecordError}
use Rattle.meter_record.proofs.RangeLaws as ranges
use Rattle.meter_command.specs.Judgement.{checked, read_verdict, verdict_by, verdict_of}
use Rattle.meter_command.specs.Command.{function_in, parameter_byte, parameter_in, command_of}
use Rattle.meter_command.specs.declared.access.Met.{Met}
use Rattle.meter_command.specs.declared.verdict.Refusal.TheVariants.{UnknownParameter, NotOpen}
use Rattle.meter.specs.Reply.{is_sound}
use Rattle.claims.specs.Demand1.{answer_number}
use Rattle.claims.specs.Demand2.{answered}
use Rattle.claims.specs.Demand2Again.{read_back}
use Rattle.claims.specs.Demand2Done.{BytesRequest}
use Rattle.claims.specs.Figures.{four_energies}
use Rattle.claims.specs.Function4.{displayed_read}
use Rattle.claims.proofs.Again.{own, slice-bytes, is_handed, handed}
use Rattle.claims.proofs.Replies as replies

-- ---- the parameters that are open to function 4

displayable-slice : (p : Parameter) → (parameter_row p).displayable ≡ true → p ≡ parameter.Slice
displayable-slice parameter.Slice h = refl
displayable-slice parameter.ActivePower h = absurd (false≢true h)
displayable-slice parameter.ReactivePower h = absurd (false≢true h)
displayable-slice parameter.Address h = absurd (false≢true h)
displayable-slice parameter.Telemetry h = absurd (false≢true h)
displayable-slice parameter.SummerDate h = absurd (false≢true h)
displayable-slice parameter.WinterDate h = absurd (false≢true h)
displayable-slice parameter.Clock h = absurd (false≢true h)
displayable-slice parameter.DisplayMask h = absurd (false≢true h)
displayable-slice parameter.Password h = absurd (false≢true h)
displayable-slice parameter.SixSlices h = absurd (false≢true h)
displayable-slice parameter.Unknown h = absurd (false≢true h)

-- request 3's `slices_alone`: what function 4 answers with 0 is parameter 36
pub slices_alone : (r : Record) (s : List ℕ) (q : Request) (out : List ℕ) → q.reading ≡ Displayed → answer_number (answered r s q out) ≡ 0
    → parameter_of q.parameter ≡ parameter.Slice
unfolding subject_of
slices_alone r s q out e h =
    let p = parameter_of q.parameter in
    let a = replies.asked r q (replies.passed r s (request_frame q) out h).verdict in
    displayable-slice p (ap (λ (x : Reading). opens_to x (parameter_row p)) (sym e) ∙ (request.asked p q (slots_of r.minutes) a).open-to)

-- request 3's `not_open`: every other parameter that the meter knows gets 12
pub not_open : (met : Met) (r : Record) (f : List ℕ) → function_in f ≡ function.Read Displayed → known (parameter_row (parameter_in f)) ≡ true
    → (parameter_in f ≡ parameter.Slice → ⊥) → verdict_of met r (command_of f) f ≡ Err NotOpen
unfolding verdict_of verdict_by read_verdict checked
not_open met r f e k n = go (parameter_row (parameter_in f)).displayable refl
  where
    go : (b : Bool) → (parameter_row (parameter_in f)).displayable ≡ b → verdict_of met r (command_of f) f ≡ Err NotOpen
    go true d = absurd (n (displayable-slice (parameter_in f) d))
    go false d = simp (e, k, d)

-- request 3's `unknown`: one that it does not know gets 11
pub unknown : (met : Met) (r : Record) (f : List ℕ) → function_in f ≡ function.Read Displayed → known (parameter_row (parameter_in f)) ≡ false
    → verdict_of met r (command_of f) f ≡ Err UnknownParameter
unfolding verdict_of verdict_by read_verdict checked
unknown met r f e k = simp (e, k)

bare-unknown : (f : List ℕ) → length f ≡ shortest → parameter_in f ≡ parameter.Unknown
unfolding parameter_byte parameter_of first_of
bare-unknown f l = rw l refl

-- request 3's `bare`: a frame of 4 bytes with function 4 gets 11, no longer 10
pub bare : (met : Met) (r : Record) (f : List ℕ) → function_in f ≡ function.Read Displayed → length f ≡ shortest → verdict_of met r (command_of f) f ≡ Err UnknownParameter
bare met r f e l = unknown met r f e (ap (λ (p : Parameter). known (parameter_row p)) (bare-unknown f l))

-- ---- the ratios

-- request 3's `ratios_done`: a record within its ranges takes KI and KU within theirs
pub ratios_done : (r : Record) (k : Ratios) → is_within r ≡ true → are_ratios k ≡ true → number_of (set_ratios r k) ≡ 0
unfolding set_ratios
ratios_done r k w h = simp (w, h)

ratios-handed : (r y : Record) (k : Ratios) → set_ratios r k ≡ Ok y → set_ratios r k ≡ Ok (with_ratios r k)
unfolding set_ratios
ratios-handed r y k h = go (is_within r) refl (are_ratios k) refl
  where
    go : (a : Bool) → is_within r ≡ a → (b : Bool) → are_ratios k ≡ b → set_ratios r k ≡ Ok (with_ratios r k)
    go false e b g = absurd (false≢true (ap is_handed (simp e at h)))
    go true e false g = absurd (false≢true (ap is_handed (simp (e, g) at h)))
    go true e true g = simp (e, g)

ratios-sound : (r y : Record) (k : Ratios) (s : List ℕ) → set_ratios r k ≡ Ok y → length s ≡ store_bytes → is_sound y s ≡ true
unfolding is_sound
ratios-sound r y k s h l = ap₂ ◌&&◌ (eq-eqb (length s) store_bytes l) (ap ranges.hands_back (sym h) ∙ ranges.ratios-within r k)

displayed-askable : (r : Record) (k : Key) (slots : ℕ) → is_legal k slots ≡ true → askable (subject_of (displayed_read r k) slots) ≡ true
unfolding subject_of subject_for parameter_of first_of is_legal
displayed-askable r k slots h = simp h

displayed-bytes : (r : Record) (k : Key) (slots : ℕ) → FitsRecord r → slots ≤ 96 → is_legal k slots ≡ true → BytesRequest (displayed_read r k)
displayed-bytes r k slots f most h =
    let b = slice-bytes r 36 k slots f (lit≤ tt) most h in
    record { repeated = record { address = f.address; parameter = lit≤ tt }; offset = b.offset; tariff = b.tariff; detail = b.detail }

-- request 3's `ratios_read`: the ratios that the bench set are in what the display then shows
pub ratios_read : (r y : Record) (k : Ratios) (s : List ℕ) (key : Key) (room : List ℕ) → set_ratios r k ≡ Ok y → FitsRecord y → Bytes s
    → length s ≡ store_bytes → is_legal key (slots_of y.minutes) ≡ true → 64 ≤ length room
    → read_back y s (displayed_read y key) room ≡ Ok (decoded.Displayed (four_energies r.telemetry.ke k (slice_of s key)))
ratios_read r y k s key room h f b l legal space =
    let done = sym h ∙ ratios-handed r y k h in
    let set : y.ratios ≡ k = ap (λ (z : Result Record RecordError). (handed z r).ratios) done in
    let ke : y.telemetry.ke ≡ r.telemetry.ke = ap (λ (z : Result Record RecordError). (handed z r).telemetry.ke) done in
    let slots = slots_of y.minutes in
    own y s (displayed_read y key) room f b (displayed-bytes y key slots f (slots-at-most y.minutes) legal) space
    (ratios-sound r y k s h l) refl (displayed-askable y key slots legal)
    ∙ ap₂ (λ (n : ℕ) (x : Ratios). Ok (decoded.Displayed (four_energies n x (slice_of s key)))) ke set
