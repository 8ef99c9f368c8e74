-- The vectors, computed.
use mathlib.Core.Path.{refl}
use Rattle.crc16.specs.Crc.{crc_of, crc_from, byte_step, eight_bits, times, bit_step}
use Rattle.byte_numbers.specs.Number.{bytes_of, number}
use Rattle.byte_numbers.specs.Place.{number_at}
use Rattle.frame.specs.Sealing.{framed, crc_fits}
use Rattle.packed_decimal.specs.Packed.{is_packed, value_from, decimal_of}
use Rattle.mercury.specs.Command.{command_of}
use Rattle.mercury.specs.Data.{frequency_by, frequency_of}
use Rattle.mercury.specs.Form.{form_of, reply_form}
use Rattle.mercury.specs.Layout.{address_bytes, address_in, head_of}
use Rattle.mercury.specs.Reply.{figures_of, formed, decoded_of}
use Rattle.mercury.specs.Request.{request_frame}
use Rattle.claims.specs.MercuryVectors.{Vectors}

-- CR 1's vectors: the source's three requests and the reply that says 50.50 Hz, each computed
pub computed : Vectors
unfolding request_frame head_of address_bytes address_in framed crc_fits bytes_of number number_at crc_of crc_from byte_step eight_bits times bit_step command_of
    form_of reply_form figures_of formed decoded_of frequency_by frequency_of is_packed value_from decimal_of
computed = record { tariffs = refl; load = refl; frequency = refl; reply = refl }
