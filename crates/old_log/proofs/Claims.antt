-- The claims of specs/Same.antt, of specs/ForC.antt and of specs/Lines.antt.
use mathlib.Core.Path.{◌≡◌, refl, ap}
use mathlib.Core.List.{List, [], ◌∷◌}
use Prim.Native.Nat.{ℕ}
use Rattle.std.specs.Prelude.{None, Option, Some}
use Rattle.energy_log.specs.Fresh.{fresh_image}
use Rattle.energy_log.specs.View.{View}
use Rattle.day_rows.specs.LogAndRows.{LogAndRows}
use Rattle.day_rows.specs.Fresh.{fresh_with}
use Rattle.log_file.specs.Read.{read_cells, read_fields, read_file}
use Rattle.log_file.specs.Write.{written_file, write_number}
use Rattle.day_report.specs.Report.{report_of, report_number}
use Rattle.day_report.specs.Day.{day_text}
use Rattle.day_report.specs.Strip.{strip_text}
use Rattle.logger.specs.Ask.{asked}
use Rattle.logger.specs.Lapse.{lapsed}
use Rattle.logger.specs.Take.{taken}
use Rattle.logger.specs.Book.{Call, ask, lapse, reply}
use Rattle.logger.specs.Run.{State, step}
use Rattle.logger.specs.declared.held.OpenAsk.{OpenAsk}
use Rattle.polling.specs.Fate.{heard, ask_settled}
use Rattle.c_values.specs.Ask.{ask_of}
use Rattle.metlazuel.specs.Calls.{numbered, sized}
use Rattle.metlazuel.specs.LogCalls.{file_length, ask_for_c, lapse_for_c, take_for_c}
use Rattle.metlazuel.specs.CellCalls.{cell_for_c, next_gap_for_c}
use Rattle.c_claims.specs.Demand3.{Lent, step_for_c}
use Rattle.console.specs.Form.{short_in, year_of}
use Rattle.console_log.specs.Log as line
use Rattle.console_log.specs.declared.logs.ConsoleLog.{ConsoleLog}
use Rattle.polling.specs.Next.{next_wanted}
use Rattle.old_log.specs.Layout.{columns, lapsed_in, taken_in, heard_in, settled_in, fresh_in, read_cells_in, read_fields_in, read_in, step_in}
use Rattle.old_log.specs.Same.{Today, SameAnswers}
use Rattle.old_log.specs.ForC.{lapse_for_c_in, take_for_c_in, step_for_c_in, TodayForC, SameForC}
use Rattle.old_log.specs.Lines.{fresh_year, fresh_line_in, ask_line_in, lapse_line_in, reply_bytes, reply_line_in, TodayLines, SameLines}
use Rattle.old_log.proofs.SameLaws as same
use Rattle.old_log.proofs.ForCLaws as for-c
use Rattle.old_log.proofs.LineLaws as lines

today-settle : (b : LogAndRows) (held : Option OpenAsk) (y : List ℕ) → settled_in columns b held y ≡ ask_settled b held y
unfolding settled_in ask_settled heard_in heard taken_in taken lapsed_in lapsed
today-settle b held [] = refl
today-settle b held (x ∷ y) = refl

today-step : (s : State) (c : Call) → step_in columns s c ≡ step s c
unfolding step_in step taken_in taken lapsed_in lapsed
today-step s (ask address day slot out) = refl
today-step s lapse = refl
today-step s (reply y) = refl

pub today : Today
unfolding lapsed_in lapsed taken_in taken fresh_in fresh_with fresh_image read_in read_fields_in read_cells_in read_file read_fields read_cells
today = record {
  lapse = λ s held. refl;
  take = λ b held y. refl;
  settle = today-settle;
  fresh = λ h out figs. refl;
  read = λ f out figs. refl;
  step = today-step;
}

pub same-answers : SameAnswers
same-answers = record {
  ask = λ s t e held address day slot out. ap (λ (v : View). asked v held address day slot out) e;
  lapse = λ s t e held. same.same-lapse s t held held e refl;
  take = λ s t e figs held y bytes. same.same-take _ _ held held y e refl refl bytes;
  settle = λ s t e figs held y bytes. same.same-settle s t figs held y e bytes;
  report = λ s t e figs day row. ap (λ (v : View). report_of v.lent figs day row) e;
  text = λ s t e figs day out. ap (λ (v : View). day_text v.lent figs day out) e;
  strip = λ s t e day out. ap (λ (v : View). strip_text v day out) e;
  next = λ s t e w day slot. ap (λ (v : View). next_wanted w v day slot) e;
  write = λ s t e out. ap (λ (v : View). written_file v out) e;
  look = λ s t e {A} f. ap f e;
  fresh = same.same-fresh;
  read = λ f a b figs bytes room. same.same_read f a b figs bytes room;
  run = same.same-run;
}

-- ---- C's calls

today-lapse-c : (a : Option (Option OpenAsk)) (log bs : List ℕ) → lapse_for_c_in columns a log bs ≡ lapse_for_c a log bs
unfolding lapse_for_c_in lapse_for_c lapsed_in lapsed
today-lapse-c (Some held) log bs = refl
today-lapse-c None log bs = refl

today-take-c : (a : Option (Option OpenAsk)) (b : LogAndRows) (bs y : List ℕ) (result size : ℕ) → take_for_c_in columns a b bs y result size ≡ take_for_c a b bs y result size
unfolding take_for_c_in take_for_c taken_in taken
today-take-c (Some held) b bs y result size = refl
today-take-c None b bs y result size = refl

today-step-c : (m : Lent) (c : Call) → step_for_c_in columns m c ≡ step_for_c m c
unfolding step_for_c_in step_for_c
today-step-c m (ask address day slot out) = refl
today-step-c m lapse = rw (today-lapse-c (ask_of m.ask) m.log m.ask) refl
today-step-c m (reply y) = rw (today-take-c (ask_of m.ask) _ m.ask y m.result m.size) refl

pub today-for-c : TodayForC
unfolding fresh_in fresh_with fresh_image read_in read_fields_in read_cells_in read_file read_fields read_cells
today-for-c = record {
  lapse = today-lapse-c;
  take = today-take-c;
  fresh = λ h out figs word. refl;
  read = λ f out figs word. refl;
  step = today-step-c;
}

pub same-for-c : SameForC
same-for-c = record {
  ask = λ s t e bs address day slot out. ap (λ (v : View). ask_for_c (ask_of bs) v bs address day slot out) e;
  lapse = λ s t e bs. for-c.same-lapse s t e (ask_of bs) bs;
  take = λ s t e figs bs y result size bytes. for-c.same-take _ _ e refl (ask_of bs) bs y result size bytes;
  fresh = for-c.same-fresh;
  read = for-c.same_read;
  cell = λ s t e day slot kind counts lapses. ap (λ (v : View). cell_for_c v day slot kind counts lapses) e;
  next-gap = λ s t e day from slot. ap (λ (v : View). next_gap_for_c v day from slot) e;
  report = λ s t e figs day row. ap (λ (v : View). numbered report_number (report_of v.lent figs day row)) e;
  write = λ s t e out word. ap (λ (v : View). sized write_number file_length (written_file v out) word) e;
  run = for-c.same-run;
}

-- ---- the console's lines

today-year : (y : Option ℕ) (text : List ℕ) (b : LogAndRows) (kept : ConsoleLog) → fresh_year columns y text b kept ≡ line.fresh_in y text b kept
unfolding fresh_year line.fresh_in fresh_in fresh_with fresh_image
today-year (Some year) text b kept = refl
today-year None text b kept = refl

today-bytes : (x : Option ℕ) (buffer : List ℕ) (b : LogAndRows) (kept : ConsoleLog) → reply_bytes columns x buffer b kept ≡ line.reply_in x buffer b kept
unfolding reply_bytes line.reply_in line.reply_of taken_in taken
today-bytes (Some n) buffer b kept = refl
today-bytes None buffer b kept = refl

pub today-lines : TodayLines
unfolding fresh_line_in line.fresh_line read_in read_fields_in read_cells_in read_file read_fields read_cells ask_line_in line.ask_line line.asked_for lapse_line_in line.lapse_line line.lapse_of
    lapsed_in lapsed reply_line_in line.reply_line
today-lines = record {
  fresh = λ text b kept. rw (today-year (year_of (short_in text 1)) text b kept) refl;
  load = λ f b kept. refl;
  ask = λ text image kept. refl;
  lapse = λ text image kept. refl;
  reply = λ text b kept. today-bytes _ _ b kept;
}

pub same_lines : SameLines
same_lines = record { fresh = lines.same-fresh; load = lines.same_load; ask = lines.same-ask; lapse = lines.same-lapse; reply = lines.same-reply }
