-- `put_holder` meets its contract: pad, digits and newline are put one behind the other; ten digits at most, so no place passes 20.
use Rattle.paths_and_locks.proofs.LockLaws.{is-pad, pad-length, put}
use Rattle.text.proofs.DecimalLaws.{decimal-most-u32}
use lib.ListN.{length}
use native.Mathlib.Omega.{arith}
use mathlib.Core.Path.{ap}
use Rattle.paths_and_locks.proofs.holder.put_holder.Goals as goal

pub overflow_add-from : goal.overflow_add-from
overflow_add-from c =
    let at-args = c.args in
    let at-decimal-length = c.decimal_length-digits in
    let at_tail = c.tail-pad in
    let pad = is-pad at-args.pid _ _ at-decimal-length.ensures at_tail.ensures in
    omega (arith, at-decimal-length.ensures, decimal-most-u32 at-args.pid (omega arith), ap length pad, pad-length at-args.pid)

pub returns : goal.returns
returns c =
    let at-args = c.args in
    let at-decimal-length = c.decimal_length-digits in
    let at_tail = c.tail-pad in
    let at-put-bytes = c.put_bytes in
    let at-put-decimal = c.put_decimal in
    let pad = is-pad at-args.pid _ _ at-decimal-length.ensures at_tail.ensures in
    put _ _ _ _ at-args.pid _ _ at-decimal-length.ensures pad at-put-bytes.ensures at-put-decimal.ensures.0 c.put_byte.ensures
