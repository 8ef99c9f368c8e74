-- `put_slot` meets its contract: a day of the log has a date (`day-on`), so the other arm cannot be, and its slice's frame is put (`ask-made`).
use Rattle.std.specs.Prelude.{None, Result, Some}
use Rattle.request.specs.declared.request.RequestError.{RequestError}
use Rattle.logger.proofs.AskLaws.{ask-made}
use Rattle.refusal.specs.Outcome.{Outcome}
use mathlib.Core.List.{List}
use Rattle.logger.specs.Ask.{date_of_day, slice_request}
use Rattle.request.specs.Request.{requested}
use Rattle.log_header.proofs.IntervalLaws.{day-on}
use Rattle.calendar.specs.declared.date.Date.{Date}
use native.Mathlib.Omega.{arith}
use Prim.Native.Nat.{ℕ}
use mathlib.Core.Path.{◌≡◌, sym, ap, ◌∙◌}
use Rattle.logger.proofs.ask.put_slot.Goals as goal

pub returns-in-Some : goal.returns-in-Some
returns-in-Some c =
    let pre = c.requires in
    let date-of = c.date_of in
    let start = c.args in
    let date = c.in-Some.date in
    let on : Some date ≡ Some (date_of_day start.h start.day) =
    sym c.in-Some.is ∙ date-of.ensures ∙ day-on start.h start.day pre.h_value pre.day_lt_days in
    let same : date ≡ date_of_day start.h start.day = cc on in
    ap (λ (o : Outcome (Result Unit RequestError) (List ℕ)). o.left)
    (c.put_request.ensures
    ∙ ap (λ (d : Date). requested (slice_request start.address d start.slot) start.out.now) same
    ∙ ask-made start.h start.address start.day start.slot start.out.now pre.h_value pre.day_lt_days pre.slot_bound pre.read_size_in_bounds)

pub returns-in_default : goal.returns-in_default
returns-in_default c =
    let args = c.args in
    let pre = c.requires in
    let on : None ≡ Some (date_of_day args.h args.day) =
    sym c.in_default.is ∙ c.date_of.ensures ∙ day-on args.h args.day pre.h_value pre.day_lt_days in
    let no : ◌≡◌ {A = ℕ} 0 1 = cc on in
    absurd (omega (arith, no))
