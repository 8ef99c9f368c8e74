-- `are_numbers` meets its contract: in the loop, the test of what is left from word `i + 1` on is the test of all.
use Rattle.std.proofs.Common.{sym, ap, ◌∙◌}
use Rattle.console.specs.Form.{is_up_to}
use Rattle.console.proofs.FormLaws.{numbers_step, numbers_done}
use Rattle.console.proofs.form.are_numbers.Goals as goal

pub returns-then-not-is_up_to : goal.returns-then-not-is_up_to
returns-then-not-is_up_to c =
    let step = rw c.if-not-is_up_to.true at (numbers_step _ _ _ c.loop-i-test.true (c.is_up_to.ensures ∙ ap (is_up_to _) c.number_word.ensures)) in
    cc

pub loop-i-preserved : goal.loop-i-preserved
loop-i-preserved c =
    let step = rw c.if-not-is_up_to.false at (numbers_step _ _ _ c.loop-i-test.true (c.is_up_to.ensures ∙ ap (is_up_to _) c.number_word.ensures)) in
    cc

pub returns : goal.returns
returns c = sym (numbers_done _ _ _ c.loop-i-test.false) ∙ c.loop-i.invariant
