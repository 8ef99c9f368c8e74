-- `read_bytes` meets its contract: in the loop, reading on from pair `i` into what is written gives what reading all gives.
use Rattle.std.proofs.Common.{◌≡◌, ◌-◌}
use Rattle.console.specs.Value.{bytes_read, read_from}
use Rattle.console.proofs.value.read_bytes.Given as goal

abbrev pub invariant-loop-i : goal.invariant-loop-i
invariant-loop-i l = read_from l.digits l.pairs l.i (l.pairs - l.i) l.out ≡ bytes_read l.digits l.initial.out
