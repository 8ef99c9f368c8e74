-- The reader and the bench. Source: document 02, CR 1: "A reader and a bench answerer, each the other's inverse on legal figures."
--
-- The bench answers by `answered` and `reply_of` (mercury_bench/specs/Reply.antt), the reader decodes by `decoded_of` (mercury/specs/Reply.antt):
-- the definitions that the contracts of `answer` and `decode` cite. Proofs: `inverse`, proofs/Claims.antt.
use Rattle.std.specs.Prelude.{◌≡◌, true, cond, List, ℕ, ◌^◌, ◌≤◌, ◌<◌, length, take, drop, Err, Ok, Result}
use Rattle.byte_numbers.specs.Number.{Bytes}
use Rattle.byte_numbers.specs.Place.{byte_at, written}
use Rattle.refusal.specs.Outcome.{outcome}
use Rattle.packed_decimal.specs.Packed.{is_packed}
use Rattle.mercury.specs.Command.{command_of, code_of, is_known}
use Rattle.mercury.specs.Data.{rest_bytes}
use Rattle.mercury.specs.Form.{reply_form}
use Rattle.mercury.specs.Layout.{command_place, data_place}
use Rattle.mercury.specs.Reply.{decoded_of, number_of}
use Rattle.mercury.specs.Request.{request_frame}
use Rattle.mercury.specs.declared.command.Command.{Command}
use Rattle.mercury.specs.declared.command.Command.TheVariants as command
use Rattle.mercury.specs.declared.form.Fault.TheVariants as fault
use Rattle.mercury.specs.declared.reply.Decoded.{Decoded}
use Rattle.mercury.specs.declared.reply.Decoded.TheVariants.{Tariffs, Load, Frequency}
use Rattle.mercury.specs.declared.reply.DecodeError.{DecodeError}
use Rattle.mercury.specs.declared.reply.DecodeError.TheVariants.{Malformed}
use Rattle.mercury_bench.specs.Meter.{is_within}
use Rattle.mercury_bench.specs.Reply as bench
use Rattle.mercury_bench.specs.Reply.{reply_of, command_in}
use Rattle.mercury_bench.specs.declared.meter.Meter.{Meter}

-- what a meter has, as the reader gives it
abbrev pub own_figures : Command → Meter → Result Decoded DecodeError
own_figures command.Tariffs m = Ok (Tariffs m.tariffs)
own_figures command.Load m = Ok (Load m.load)
own_figures command.Frequency m = Ok (Frequency m.frequency)
own_figures command.Unknown m = Err (Malformed fault.Command)

-- a bench's meter that has an address and figures that were read
abbrev pub with_figures : ℕ → Result Decoded DecodeError → Meter → Meter
with_figures address (Ok (Tariffs t)) m = record { address = address; tariffs = t; load = m.load; frequency = m.frequency }
with_figures address (Ok (Load l)) m = record { address = address; tariffs = m.tariffs; load = l; frequency = m.frequency }
with_figures address (Ok (Frequency f)) m = record { address = address; tariffs = m.tariffs; load = m.load; frequency = f }
with_figures address (Err refusal) m = m

-- the numbers are those of a Rattle value: an address of 32 bits, and bytes
pub record FitsMeter (m : Meter) : Type 0 where
  pub address : m.address < 256 ^ 4
  pub rest : Bytes (rest_bytes m.frequency.rest)

-- how many bytes of a reply's data are packed decimal
abbrev pub digit_bytes : Command → ℕ
digit_bytes command.Tariffs = 16
digit_bytes command.Load = 7
digit_bytes command.Frequency = 2
digit_bytes command.Unknown = 0

pub record Inverse : Type 0 where
  -- a request to a meter whose figures are legal is answered, and its reply decodes to them
  pub answered : (m : Meter) (c : Command) (out : List ℕ) → FitsMeter m → is_within m ≡ true → is_known c ≡ true → 64 ≤ length out
      → bench.answered m (request_frame m.address (code_of c)) out ≡ outcome (Ok (length (reply_of c m))) (written out 0 (reply_of c m))
  pub decoded : (m : Meter) (c : Command) → FitsMeter m → is_within m ≡ true → is_known c ≡ true
      → decoded_of m.address (code_of c) (reply_of c m) ≡ own_figures c m
  -- the same of every answer with 0, whatever the request's bytes were
  pub read : (m : Meter) (q out : List ℕ) (n : ℕ) → FitsMeter m → let o = bench.answered m q out in o.result ≡ Ok n
      → decoded_of m.address (byte_at q command_place) (take n o.left) ≡ own_figures (command_in q) m
  -- the figures of every accepted reply, in any meter, give that reply back; and they are legal
  pub back : (address code : ℕ) (y : List ℕ) (m : Meter) → Bytes y → let d = decoded_of address code y in number_of d ≡ 0
      → reply_of (command_of code) (with_figures address d m) ≡ y
  pub legal : (address code : ℕ) (y : List ℕ) (m : Meter) → is_within m ≡ true → let d = decoded_of address code y in number_of d ≡ 0
      → is_within (with_figures address d m) ≡ true
  -- a well-formed reply is taken exactly where every half-byte of its figures is a digit; the seven bytes of 81 hex are not looked at
  pub digits : (address code : ℕ) (y : List ℕ) → reply_form address code y ≡ Ok tt
      → number_of (decoded_of address code y) ≡ cond (is_packed (take (digit_bytes (command_of code)) (drop data_place y))) 0 41
