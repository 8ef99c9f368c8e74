-- What was heard, and then the lapse: the two halves of `ask_settled` (`settled-by`).
use Rattle.polling.proofs.FateLaws.{settled-by}
use Rattle.polling.proofs.fate.settle.Goals as goal

pub returns : goal.returns
returns c =
    let at-heard = c.heard-heard in
    let at-lapse = c.lapse-lapsed in
    settled-by _ _ _ _ _ _ _ _ at-heard.ensures at-lapse.ensures c.fate_lapsed.ensures
