-- A reply that is done has the figures that its request foretells.
use Rattle.request.specs.Subject.{subject_with}
use Rattle.std.specs.Prelude.{Err, Float, None, Ok, Option, Result, Some}
use Rattle.reader.specs.declared.reply.DecodeError.{DecodeError}
use Rattle.wire_values.specs.declared.displayed.Energies.{Energies}
use Rattle.wire_values.specs.declared.power.Powers.{Powers}
use Rattle.reader.specs.declared.form.ReplyError.{ReplyError}
use mathlib.Core.Path.{◌≡◌, refl}
use mathlib.Core.Bool.{Bool, true, false, cond}
use mathlib.Core.List.{List}
use Prim.Native.Nat.{ℕ, ◌+◌}
use native.Mathlib.Omega.{arith}
use lib.Dec.{eqb}
use lib.ListN.{length}
use Rattle.wire_values.specs.Displayed.{energies_of}
use Rattle.wire_values.specs.Power.{power_of, powers_of}
use Rattle.parameters.specs.Code.{reading_code}
use Rattle.parameters.specs.Table.{figure_count}
use Rattle.parameters.specs.declared.code.Reading.{Reading}
use Rattle.parameters.specs.declared.code.Reading.TheVariants.{Stored, Displayed}
use Rattle.parameters.specs.declared.code.Parameter.{Parameter}
use Rattle.request.specs.Subject.{subject_of, most_slots, askable, data_bytes}
use Rattle.request.specs.declared.request.Request.{Request}
use Rattle.request.specs.declared.subject.Subject.{Subject}
use Rattle.reader.specs.Form.{reply_of}
use Rattle.reader.proofs.FormLaws.{fault-above}
use Rattle.reader.specs.Rows.{reply_data}
use Rattle.reader.specs.Reply.{powers_figure, power_figure, energies_figure, phase_figures, read_figures, read_as, figures_of, decoded_of, number_of}
use Rattle.reader.specs.declared.form.ReplyError.TheVariants.{Malformed, Refused}
use Rattle.reader.specs.declared.reply.Decoded.{Decoded}
use Rattle.parameters.specs.declared.code.Parameter.TheVariants as parameter
use Rattle.c_values.specs.Row.{figures_for, figure_row, time_row, powers_row, six_row, counts_row, energies_row}

-- done, and then with the figures that are foretold
abbrev pub Foretold : Option Subject → List ℕ → Result Decoded DecodeError → Type 0
Foretold s y d = number_of d ≡ 0 → length (figure_row d y) ≡ figures_for s

powers-foretold : (y : List ℕ) (p : Option Powers) → number_of (powers_figure p) ≡ 0 → length (figure_row (powers_figure p) y) ≡ 4
unfolding figure_row powers_row
powers-foretold y (Some p) e = refl
powers-foretold y None e = absurd (omega arith)

power-foretold : (y : List ℕ) (p : Option Float) → number_of (power_figure p) ≡ 0 → length (figure_row (power_figure p) y) ≡ 1
unfolding figure_row
power-foretold y (Some p) e = refl
power-foretold y None e = absurd (omega arith)

phase-foretold : (detail : ℕ) (y bs : List ℕ) → number_of (phase_figures detail bs) ≡ 0 → length (figure_row (phase_figures detail bs) y) ≡ cond (eqb detail 0) 4 1
unfolding phase_figures
phase-foretold detail y bs = go (eqb detail 0)
  where
    figures : Bool → Result Decoded DecodeError
    figures b = cond b (powers_figure (powers_of bs)) (power_figure (power_of bs 0))

    go : (b : Bool) → number_of (figures b) ≡ 0 → length (figure_row (figures b) y) ≡ cond b 4 1
    go true e = powers-foretold y (powers_of bs) e
    go false e = power-foretold y (power_of bs 0) e

data-foretold : (p : Parameter) (detail : ℕ) (y bs : List ℕ) → Foretold (subject_with Stored p detail) y (read_figures p detail bs)
unfolding figure_count read_figures figure_row time_row six_row counts_row
data-foretold parameter.ActivePower detail y bs e = phase-foretold detail y bs e
data-foretold parameter.ReactivePower detail y bs e = phase-foretold detail y bs e
data-foretold parameter.Address detail y bs e = refl
data-foretold parameter.Telemetry detail y bs e = refl
data-foretold parameter.SummerDate detail y bs e = refl
data-foretold parameter.WinterDate detail y bs e = refl
data-foretold parameter.Clock detail y bs e = refl
data-foretold parameter.DisplayMask detail y bs e = refl
data-foretold parameter.Slice detail y bs e = refl
data-foretold parameter.SixSlices detail y bs e = refl
data-foretold parameter.Password detail y bs e = absurd (omega arith)
data-foretold parameter.Unknown detail y bs e = absurd (omega arith)

energies-foretold : (y : List ℕ) (e : Option Energies) → number_of (energies_figure e) ≡ 0 → length (figure_row (energies_figure e) y) ≡ 4
unfolding figure_row energies_row
energies-foretold y (Some e) h = refl
energies-foretold y None h = absurd (omega arith)

as-foretold : (x : Reading) (p : Parameter) (detail : ℕ) (y bs : List ℕ) → Foretold (subject_with x p detail) y (read_as x p detail bs)
unfolding read_as figure_count
as-foretold Stored p detail y bs e = data-foretold p detail y bs e
as-foretold Displayed p detail y bs e = energies-foretold y (energies_of bs) e

subject-foretold : (s : Option Subject) (y bs : List ℕ) → Foretold s y (figures_of s bs)
subject-foretold (Some asked) y bs e = as-foretold asked.reading asked.parameter asked.detail y bs e
subject-foretold None y bs e = absurd (omega arith)

module _ (q : Request) (y : List ℕ) where
  abbrev asked : Option Subject
  asked = subject_of q most_slots

  abbrev came : Result Unit ReplyError
  came = reply_of q.address (reading_code q.reading) q.parameter (6 + data_bytes asked) y

  reply-foretold : (r : Result Unit ReplyError) → askable asked ≡ true → came ≡ r → Foretold asked y (decoded_of q y)
  unfolding decoded_of
  reply-foretold (Err (Malformed fault)) a e = rw (a, e) (λ n. absurd (omega (arith, fault-above fault)))
  reply-foretold (Err (Refused result)) a e = rw (a, e) (λ n. absurd (omega arith))
  reply-foretold (Ok tt) a e = rw (a, e) (subject-foretold asked y (reply_data y))

  -- so a row as long as was foretold holds all figures
  pub decoded-foretold : Foretold asked y (decoded_of q y)
  unfolding decoded_of
  decoded-foretold = go (askable asked) refl
    where
      go : (b : Bool) → askable asked ≡ b → Foretold asked y (decoded_of q y)
      go true a = reply-foretold came a refl
      go false a = rw a (λ n. absurd (omega arith))
