-- Nothing heard is the clause for no bytes; else the reply was taken, and its answer is the fate.
use Rattle.polling.proofs.FateLaws.{heard-nothing, heard-some}
use borrow.Author.Tests.{eqb-true, eqb-false}
use lib.ListN.{length}
use mathlib.Core.Path.{sym, ◌∙◌}
use Rattle.polling.proofs.fate.heard.Goals as goal

pub returns-then-is_empty : goal.returns-then-is_empty
returns-then-is_empty c = sym (heard-nothing _ _ _ (eqb-true (length c.args.reply.now) 0 (sym c.is_empty.ensures ∙ c.if-is_empty.true)))

pub returns : goal.returns
returns c =
    simp c.fate_of.ensures
    (heard-some _ _ _ _ _ (eqb-false (length c.args.reply.now) 0 (sym c.is_empty.ensures ∙ c.if-is_empty.false)) c.take_reply-taken.ensures)
