-- `read_bytes` meets its contract: in the loop, reading on from pair `i` into what is written gives what reading all gives.
use Rattle.std.proofs.Common.{sym, ap, ◌∙◌}
use Rattle.console.specs.Value.{read_from, pair_at}
use Rattle.console.proofs.ValueLaws.{read-on, read-stops, read-ends}
use Rattle.console.proofs.value.read_bytes.Goals as goal

pub returns-in_err-pair : goal.returns-in_err-pair
unfolding pair_at
returns-in_err-pair c =
    rw c.from_residual.ensures (read-stops _ _ _ _ c.loop-i-test.true (sym c.pair.ensures ∙ c.in_err-pair.was) ∙ c.loop-i.invariant)

pub loop-i-preserved : goal.loop-i-preserved
unfolding pair_at
loop-i-preserved c =
    ap (read_from _ _ _ _) c.put_byte.ensures
    ∙ read-on _ _ _ _ _ c.loop-i-test.true (sym c.pair.ensures ∙ c.in_ok-pair.was) ∙ c.loop-i.invariant

pub returns : goal.returns
returns c = read-ends _ _ _ _ c.loop-i-test.false ∙ c.loop-i.invariant
