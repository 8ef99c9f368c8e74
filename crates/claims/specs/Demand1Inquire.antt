-- Demand 1 of `inquire`, a call put together from a request, the meter's answer and its decoding: what the store and the output hold after
-- it, on every answer. That its number is the table's is `inquire` of `Demand1`. Proofs: `demand-1-inquire`, proofs/Claims.antt.
use Rattle.std.specs.Prelude.{◌≡◌, Bool, cond, ◌||◌, List, ◌++◌, ℕ, eqb}
use Rattle.byte_numbers.specs.Number.{Bytes}
use Rattle.byte_numbers.specs.Place.{written}
use Rattle.frame.specs.Sealing.{framed}
use Rattle.request.specs.Request.{request_frame}
use Rattle.request.specs.declared.request.Request.{Request}
use Rattle.meter_record.specs.Widths.{FitsRecord}
use Rattle.meter_record.specs.declared.record.Record.{Record}
use Rattle.meter_command.specs.Verdict.{is_done}
use Rattle.meter_reply_data.specs.Reading.{data_of}
use Rattle.meter.specs.Reply.{verdict_on, head_of}
use Rattle.meter_round_trip.specs.Inquiry.{number_of, inquired}
use Rattle.claims.specs.Demand2.{FitsRequest}
use Rattle.meter_command.specs.Command.{command_of}

-- the answers without a reply: 1 "lent output too short", 2 for a frame that the meter does not hear, 27 "a request that no record would
-- answer with 0", 28 "meter record outside its ranges"
unfoldable pub no_reply : ℕ → Bool
no_reply n = eqb n 1 || eqb n 2 || eqb n 27 || eqb n 28

-- the meter's reply to a frame that it hears: "A reply repeats the command's address, function and parameter, then a result byte, then the
-- data. If the result isn't 0, the function's top bit is set and no data follow"
abbrev pub reply_to : Record → List ℕ → List ℕ → List ℕ
reply_to r s f = framed (cond (is_done (verdict_on r f)) (head_of (verdict_on r f) (command_of f) ++ data_of r s (command_of f)) (head_of (verdict_on r f) (command_of f)))

pub record Demand1Inquire : Type 0 where
  -- a read changes nothing, whatever the answer
  pub store_kept : (r : Record) (s : List ℕ) (q : Request) (out : List ℕ) → (inquired r s q out).store ≡ s
  -- "writes nothing into a lent buffer but the short refusal frame where the table gives one": the output is as it was, or has the reply at its front
  pub output : (r : Record) (s : List ℕ) (q : Request) (out : List ℕ) → let o = inquired r s q out in
      o.out ≡ cond (no_reply (number_of o.answer)) out (written out 0 (reply_to r s (request_frame q)))
  -- so what a refused inquiry leaves in the output is the short refusal frame, with 24 "meter's result not 0", or nothing
  pub refused_output : (r : Record) (s : List ℕ) (q : Request) (out : List ℕ) → FitsRecord r → Bytes s → FitsRequest q
      → let o = inquired r s q out in let f = request_frame q in (number_of o.answer ≡ 0 → ⊥)
      → o.out ≡ cond (eqb (number_of o.answer) 24) (written out 0 (framed (head_of (verdict_on r f) (command_of f)))) out
