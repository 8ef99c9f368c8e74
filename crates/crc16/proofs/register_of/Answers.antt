-- `register_of` meets its contract: the fold below Q, with Q xored in where the parity asks for it, is what 64 shifts leave (`settle`).
use Prim.Native.Nat.{◌*◌, ◌/◌, ◌%◌, ◌^◌}
use native.Mathlib.Omega.{arith}
use lib.Count.{ones}
use lib.Bits.{bit_xor, xor_lt}
use borrow.Author.Rules.{rules}
use Rattle.crc16.proofs.Word.{settle}
use Rattle.crc16.proofs.register_of.Goals as goal

pub overflow_cast-result-2 : goal.overflow_cast-result-2
overflow_cast-result-2 c =
    let a = c.args.a in
    let low = c.below_x15-c.result in
    record { fits = xor_lt 16 (low / 2 ^ 48) (ones (bit_xor a low) % 2 * 0xC001) (omega arith) (omega arith) }

pub returns : goal.returns
returns c =
    rw (c.below_x15-c.ensures, c.below_x15.ensures, c.below_x30-b.ensures)
    (settle c.args.a (search rules))
