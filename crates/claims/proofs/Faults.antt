-- What a thrown away reply is told: the length of an answer is that of the form, whose laws stand in `reader`.
use mathlib.Core.Path.{◌≡◌, refl, sym, ap, ◌∙◌}
use mathlib.Core.Bool.{Bool, true, false, false≢true}
use mathlib.Core.List.{List}
use Prim.Native.Nat.{ℕ, ◌+◌}
use lib.Dec.{eqb}
use lib.ListN.{length}
use Rattle.std.specs.Prelude.{Err, Float, None, Ok, Option, Result, Some}
use Rattle.test_laws.proofs.Test.{either}
use Rattle.parameters.specs.declared.code.Parameter.{Parameter}
use Rattle.parameters.specs.declared.code.Parameter.TheVariants as parameter
use Rattle.parameters.specs.declared.code.Reading.{Reading}
use Rattle.parameters.specs.declared.code.Reading.TheVariants.{Stored, Displayed}
use Rattle.parameters.specs.Code.{reading_code}
use Rattle.wire_values.specs.Displayed.{energies_of}
use Rattle.wire_values.specs.Power.{power_of, powers_of}
use Rattle.wire_values.specs.declared.displayed.Energies.{Energies}
use Rattle.wire_values.specs.declared.power.Powers.{Powers}
use Rattle.request.specs.Subject.{subject_of, most_slots, askable, data_bytes}
use Rattle.request.specs.declared.request.Request.{Request}
use Rattle.request.specs.declared.subject.Subject.{Subject}
use Rattle.reader.specs.Form.{form_of}
use Rattle.reader.specs.Rows.{reply_data}
use Rattle.reader.specs.Reply.{powers_figure, power_figure, energies_figure, phase_figures, read_figures, read_as, figures_of, decoded_of}
use Rattle.reader.specs.declared.form.Fault.{Fault}
use Rattle.reader.specs.declared.form.Fault.TheVariants as fault
use Rattle.reader.specs.declared.reply.Decoded.{Decoded}
use Rattle.reader.specs.declared.reply.DecodeError.{DecodeError}
use Rattle.reader.specs.declared.reply.DecodeError.TheVariants as decoded_error
use Rattle.reader.proofs.FormLaws.{length-told, by-reply}
use Rattle.log_header.specs.Interval.{comes_twice}
use Rattle.energy_log.specs.View.{view_of}
use Rattle.day_rows.specs.LogAndRows.{LogAndRows}
use Rattle.logger.specs.Reply.{row_of}
use Rattle.logger.specs.Take as Take
use Rattle.logger.specs.declared.held.OpenAsk.{OpenAsk}
use Rattle.logger.specs.declared.take.TakeError.{TakeError}
use Rattle.logger.specs.declared.take.TakeError.TheVariants as answer
use Rattle.logger.proofs.TakeLaws.{Step, decided-cases, update-cases}
use Rattle.claims.specs.Demand1.{in_table}

-- request 2's `gone`: 23 is no number of the table
pub gone : (n : ℕ) → in_table n ≡ true → n ≡ 23 → ⊥
unfolding in_table
gone n t e = false≢true (sym (ap in_table e) ∙ t)

-- the length that a fault tells, or else another
told : ℕ → Fault → ℕ
told other (fault.Length n) = n
told other fault.Crc = other
told other fault.Address = other
told other fault.Function = other
told other fault.Parameter = other

fault-told : (y : List ℕ) (f : Fault) → ((n : ℕ) → f ≡ fault.Length n → n ≡ length y) → told (length y) f ≡ length y
unfolding told
fault-told y (fault.Length n) k = k n refl
fault-told y fault.Crc k = refl
fault-told y fault.Address k = refl
fault-told y fault.Function k = refl
fault-told y fault.Parameter k = refl

form-told : (address function parameter full : ℕ) (y : List ℕ) (f : Fault) → form_of address function parameter full y ≡ Err f → told (length y) f ≡ length y
form-told address function parameter full y f e =
    fault-told y f (λ n same. length-told address function parameter full y n (e ∙ ap Err same))

-- ---- a decoded reply

told_decoded : ℕ → Result Decoded DecodeError → ℕ
told_decoded other (Err (decoded_error.Malformed f)) = told other f
told_decoded other (Err decoded_error.OutOfRange) = other
told_decoded other (Err (decoded_error.MeterRefused result)) = other
told_decoded other (Err decoded_error.NotFinite) = other
told_decoded other (Ok figures) = other

abbrev Silent : ℕ → Result Decoded DecodeError → Type 0
Silent other d = told_decoded other d ≡ other

powers-silent : (other : ℕ) (p : Option Powers) → Silent other (powers_figure p)
unfolding told_decoded
powers-silent other (Some p) = refl
powers-silent other None = refl

power-silent : (other : ℕ) (p : Option Float) → Silent other (power_figure p)
unfolding told_decoded
power-silent other (Some p) = refl
power-silent other None = refl

phase-silent : (other detail : ℕ) (bs : List ℕ) → Silent other (phase_figures detail bs)
unfolding phase_figures
phase-silent other detail bs = either (Silent other) (eqb detail 0) (powers-silent other (powers_of bs)) (power-silent other (power_of bs 0))

figures-silent : (other : ℕ) (p : Parameter) (detail : ℕ) (bs : List ℕ) → Silent other (read_figures p detail bs)
unfolding read_figures told_decoded
figures-silent other parameter.ActivePower detail bs = phase-silent other detail bs
figures-silent other parameter.ReactivePower detail bs = phase-silent other detail bs
figures-silent other parameter.Address detail bs = refl
figures-silent other parameter.Telemetry detail bs = refl
figures-silent other parameter.SummerDate detail bs = refl
figures-silent other parameter.WinterDate detail bs = refl
figures-silent other parameter.Clock detail bs = refl
figures-silent other parameter.DisplayMask detail bs = refl
figures-silent other parameter.Slice detail bs = refl
figures-silent other parameter.SixSlices detail bs = refl
figures-silent other parameter.Password detail bs = refl
figures-silent other parameter.Unknown detail bs = refl

energies-silent : (other : ℕ) (e : Option Energies) → Silent other (energies_figure e)
unfolding told_decoded
energies-silent other (Some e) = refl
energies-silent other None = refl

as-silent : (other : ℕ) (x : Reading) (p : Parameter) (detail : ℕ) (bs : List ℕ) → Silent other (read_as x p detail bs)
unfolding read_as
as-silent other Stored p detail bs = figures-silent other p detail bs
as-silent other Displayed p detail bs = energies-silent other (energies_of bs)

subject-silent : (other : ℕ) (s : Option Subject) (bs : List ℕ) → Silent other (figures_of s bs)
unfolding told_decoded
subject-silent other (Some asked) bs = as-silent other asked.reading asked.parameter asked.detail bs
subject-silent other None bs = refl

module _ (q : Request) (y : List ℕ) where
  decoded-told : told_decoded (length y) (decoded_of q y) ≡ length y
  unfolding decoded_of told_decoded
  decoded-told = go (askable s) refl
    where
      s : Option Subject
      s = subject_of q most_slots

      go : (b : Bool) → askable s ≡ b → told_decoded (length y) (decoded_of q y) ≡ length y
      go false a = rw a refl
      go true a =
          let function = reading_code q.reading in
          let full = 6 + data_bytes s in
          rw a (by-reply (Silent (length y)) q.address function q.parameter full y (λ result. Err (decoded_error.MeterRefused result))
          (form-told q.address function q.parameter full y) (λ e n. refl) (λ e z. subject-silent (length y) s (reply_data y)))

  -- request 2's `decode_length`: the length that a decoded reply's fault tells is the reply's own
  pub decode_length : (n : ℕ) → decoded_of q y ≡ Err (decoded_error.Malformed (fault.Length n)) → n ≡ length y
  unfolding told_decoded told
  decode_length n e = sym (ap (told_decoded (length y)) e) ∙ decoded-told

-- ---- a taken reply

told_taken : ℕ → Result Unit TakeError → ℕ
told_taken other (Err (answer.Malformed f)) = told other f
told_taken other (Ok tt) = other
told_taken other (Err answer.TooShort) = other
told_taken other (Err answer.NoAskOpen) = other
told_taken other (Err answer.NotInLog) = other
told_taken other (Err (answer.MeterRefused result)) = other
told_taken other (Err answer.OtherCounts) = other
told_taken other (Err answer.Unsound) = other

module _ (b : LogAndRows) (held : Option OpenAsk) (y : List ℕ) where
  taken-told : told_taken (length y) (Take.taken b held y).result.answer ≡ length y
  unfolding Take.taken told_taken
  taken-told =
      let P : Step → Type 0 = λ o. told_taken (length y) o.result.answered.answer ≡ length y in
      decided-cases P (view_of b.log) b.figures held y (λ u. refl) (λ h u.
      record {
        few = λ n. refl;
        no-ask = λ o. refl;
        outside = λ a d t o n. refl;
        malformed = λ i o f e. form-told o.address 3 36 14 y f e;
        refused = λ i o r. refl;
        bad-cell = λ i o b. refl;
        counted = λ i o r c g.
            update-cases P (comes_twice h o.ask.day o.ask.slot) held o.ask.day i c b.figures (Take.update_of c (row_of y)) (λ new q d. refl) refl refl refl;
      })

  -- request 2's `take_length`: and so is the one that a taken reply's fault tells
  pub take_length : (n : ℕ) → (Take.taken b held y).result.answer ≡ Err (answer.Malformed (fault.Length n)) → n ≡ length y
  unfolding told_taken told
  take_length n e = sym (ap (told_taken (length y)) e) ∙ taken-told
