-- `called` meets its contract: `place_of` gives the first word's place among the five names, and each arm is the branch of `called_by` for it, else a line that sets.
use mathlib.Core.Path.{sym, ap}
use borrow.Author.Tests.{ne_eqb}
use Rattle.text.specs.Ascii.{ascii}
use Rattle.console_meter.specs.Lines.{called_line, called_by, with_out}
use Rattle.console_meter.proofs.meters.called.Goals as goal

pub returns-in-0 : goal.returns-in-0
unfolding ascii called_line called_by
returns-in-0 c =
    let at-word = c.word in
    let at-place-of = c.place_of-verb in
    let at-frame = c.frame in
    rw (sym at-word.ensures, sym at-place-of.ensures, c.in-0.is) at-frame.ensures

pub returns-in-1 : goal.returns-in-1
unfolding ascii called_line called_by
returns-in-1 c =
    let at-word = c.word in
    rw (sym at-word.ensures, sym c.place_of-verb.ensures, c.in-1.is, c.alone.ensures)

pub returns-in-2 : goal.returns-in-2
unfolding ascii called_line called_by
returns-in-2 c =
    let at-word = c.word in
    rw (sym at-word.ensures, sym c.place_of-verb.ensures, c.in-2.is, c.alone-in-2.ensures)

pub returns-in-3 : goal.returns-in-3
unfolding ascii called_line called_by
returns-in-3 c =
    let at-word = c.word in
    let at-place-of = c.place_of-verb in
    let at-inquire = c.inquire in
    rw (sym at-word.ensures, sym at-place-of.ensures, c.in-3.is) at-inquire.ensures

pub returns-in-4 : goal.returns-in-4
unfolding ascii called_line called_by
returns-in-4 c =
    let at-word = c.word in
    let at-place-of = c.place_of-verb in
    let at-inquire2 = c.inquire-in-4 in
    rw (sym at-word.ensures, sym at-place-of.ensures, c.in-4.is) at-inquire2.ensures

pub returns-in_default : goal.returns-in_default
unfolding ascii called_line called_by
returns-in_default c =
    let at-word = c.word in
    let at-place-of = c.place_of-verb in
    simp (
      sym at-word.ensures,
      sym at-place-of.ensures,
      ne_eqb _ _ c.in_default.in_default-own.rest.0.0.0.0.1,
      ne_eqb _ _ c.in_default.in_default-own.rest.0.0.0.1,
      ne_eqb _ _ c.in_default.in_default-own.rest.0.0.1,
      ne_eqb _ _ c.in_default.in_default-own.rest.0.1,
      ne_eqb _ _ c.in_default.in_default-own.rest.1,
    ) (ap (with_out _) c.set.ensures)
