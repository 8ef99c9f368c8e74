-- `put_frequency` meets its contract: two bytes of digits and behind them the seven bytes are `frequency_bytes`.
use Rattle.mercury.specs.Data.{frequency_bytes}
use Rattle.packed_decimal.proofs.PackedLaws.{length-packed_of}
use Rattle.byte_numbers.proofs.PlaceLaws.{written-append}
use Rattle.mercury.proofs.data.put_frequency.Goals as goal

pub returns : goal.returns
unfolding frequency_bytes
returns c =
    let at-put-number = c.put_number in
    simp (c.put_bytes.ensures, at-put-number.ensures, written-append, length-packed_of)
