-- Document 02, request 2, "Why was the reply thrown away?": "23 goes, in demand 3's book too; in its place and this order 50 length, 51 CRC,
-- 52 address, 53 function, or a top bit that belies the result, 54 parameter"; "For a wrong length also return the length received."
--
-- That every call's number is the table's, and that the five leave the log and the open ask, is demand 1's; that the log's answers are the
-- book's, with the five and the length, is demand 3's. Proofs: `reply-faults`, proofs/Claims.antt.
use Rattle.std.specs.Prelude.{◌≡◌, true, List, ℕ, length, Err, Option}
use Rattle.request.specs.declared.request.Request.{Request}
use Rattle.reader.specs.Reply.{decoded_of}
use Rattle.reader.specs.declared.form.Fault.TheVariants.{Length}
use Rattle.reader.specs.declared.reply.DecodeError.TheVariants as decoded_error
use Rattle.day_rows.specs.LogAndRows.{LogAndRows}
use Rattle.logger.specs.Take.{taken}
use Rattle.logger.specs.declared.held.OpenAsk.{OpenAsk}
use Rattle.logger.specs.declared.take.TakeError.TheVariants as answer
use Rattle.claims.specs.Demand1.{in_table}

pub record ReplyFaults : Type 0 where
  -- "23 goes": it is no number of the table, so no call answers it
  pub gone : (n : ℕ) → in_table n ≡ true → n ≡ 23 → ⊥
  -- "also return the length received": the length in a decoded reply's answer, which `inquire` hands on, and in a taken one's is the reply's
  pub decode_length : (q : Request) (y : List ℕ) (n : ℕ) → decoded_of q y ≡ Err (decoded_error.Malformed (Length n)) → n ≡ length y
  pub take_length : (b : LogAndRows) (held : Option OpenAsk) (y : List ℕ) (n : ℕ) → (taken b held y).result.answer ≡ Err (answer.Malformed (Length n)) → n ≡ length y
