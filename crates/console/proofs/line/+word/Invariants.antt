-- `word` ends: each call is for an earlier word.
use Rattle.console.proofs.line.+word.Given as goal

abbrev pub decreases-word : goal.decreases-word
decreases-word l = l.k
