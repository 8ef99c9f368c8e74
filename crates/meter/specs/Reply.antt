-- The answer to a frame. Source: document 01, "Frames": "A reply repeats the command's address, function and parameter, then a result byte,
-- then the data. If the result isn't 0, the function's top bit is set and no data follow: 6 bytes (house)"; "Refusal numbers".
use Rattle.meter_command.specs.declared.verdict.Refusal.{Refusal}
use Rattle.std.specs.Prelude.{Bool, true, false, cond, ◌&&◌, List, [], ◌∷◌, ◌++◌, ℕ, ◌+◌, eqb, leb, ltb, length, Err, Result}
use Rattle.byte_numbers.specs.Place.{byte_at, written}
use Rattle.parameters.specs.Code.{refused as top_bit}
use Rattle.frame.specs.Layout.{address_place, data_place, longest, bare_size}
use Rattle.frame.specs.Sealing.{framed, sealed, is_sealed}
use Rattle.meter_store.specs.Store.{store_bytes}
use Rattle.meter_record.specs.Ranges.{is_within}
use Rattle.meter_record.specs.declared.record.Record.{Record}
use Rattle.meter_command.specs.Command.{command_of}
use Rattle.meter_command.specs.declared.command.Command.{Command}
use Rattle.meter.specs.Effect.{after_of, store_after}
use Rattle.meter_command.specs.Judgement.{verdict_of}
use Rattle.meter_reply_data.specs.Reading.{data_of, data_size}
use Rattle.meter_command.specs.Verdict.{is_done, result_of}
use Rattle.meter.specs.declared.reply.Answered.{Answered}
use Rattle.meter_command.specs.declared.access.Met.{Met}
use Rattle.meter_command.specs.declared.access.Met.TheVariants.{Own, Zero, Neither}
use Rattle.meter_command.specs.declared.verdict.Refusal.TheVariants.{TooShort, Unsound, Silent}

-- an answer, and what the store and the output then hold
pub record Outcome : Type 0 where
  pub answer : Answered
  pub store : List ℕ
  pub out : List ℕ

abbrev pub outcome : Answered → List ℕ → List ℕ → Outcome
outcome a s out = record { answer = a; store = s; out = out }

-- "meter record outside its ranges"; a store of another length counts as one
unfoldable pub is_sound : Record → List ℕ → Bool
is_sound r s = eqb (length s) store_bytes && is_within r

-- document 02, CR 6: "The frame check must now say whether its own address or 0 was met"; no frame with a wrong length or CRC meets either
abbrev pub met_at : ℕ → List ℕ → Met
met_at own f =
    cond (is_sealed f) (cond (eqb (byte_at f address_place) 0) Zero (cond (eqb (byte_at f address_place) own) Own Neither)) Neither

unfoldable pub met : Record → List ℕ → Met
met r f = met_at r.address f

-- "A command with its own address or address 0 is answered"; 2 is for "length, CRC or address wrong"
abbrev pub is_heard : Met → Bool
is_heard Own = true
is_heard Zero = true
is_heard Neither = false

unfoldable pub heard : Record → List ℕ → Bool
heard r f = is_heard (met r f)

-- the verdict on a frame, by the address that it met
abbrev pub verdict_on : Record → List ℕ → Result Unit Refusal
verdict_on r f = verdict_of (met r f) r (command_of f) f

-- "If the result isn't 0, the function's top bit is set"
unfoldable pub function_for : Result Unit Refusal → ℕ → ℕ
function_for v n = cond (is_done v) n (cond (leb top_bit n) n (top_bit + n))

-- "the command's address, function and parameter, then a result byte"
unfoldable pub head_of : Result Unit Refusal → Command → List ℕ
unfolding function_for
head_of v c = c.request.address ∷ function_for v c.function_byte ∷ c.parameter_byte ∷ result_of v ∷ []

-- no reply, and nothing changed
abbrev pub unheard : Result Unit Refusal → Record → List ℕ → List ℕ → Outcome
unheard v r s out = outcome (record { verdict = v; length = 0; after = r }) s out

-- the reply to a command that is done: its data behind the head, "also when the command changed" the address
abbrev pub done : Result Unit Refusal → Record → List ℕ → List ℕ → List ℕ → Outcome
done v r s f out =
    let c = command_of f in
    outcome
    (record { verdict = v; length = bare_size + length (data_of r s c); after = after_of r c f })
    (store_after s c)
    (written out 0 (framed (head_of v c ++ data_of r s c)))

-- a refusal frame, and nothing changed
abbrev pub refused : Result Unit Refusal → Record → List ℕ → List ℕ → List ℕ → Outcome
refused v r s f out = outcome (record { verdict = v; length = bare_size; after = r }) s (written out 0 (framed (head_of v (command_of f))))

-- the same, from an output whose head is written: data behind it, and the CRC behind those
abbrev pub filled : Result Unit Refusal → Record → List ℕ → List ℕ → List ℕ → Outcome
filled v r s f out =
    let c = command_of f in
    outcome
    (record { verdict = v; length = bare_size + data_size c; after = after_of r c f })
    (store_after s c)
    (sealed (written out data_place (data_of r s c)) (data_place + data_size c))

unfoldable pub replied : Result Unit Refusal → Record → List ℕ → List ℕ → List ℕ → Outcome
replied v r s f out = cond (is_done v) (done v r s f out) (refused v r s f out)

-- 1, 28, 2, and then the verdict on the command
unfoldable pub answer_of : Record → List ℕ → List ℕ → List ℕ → Outcome
unfolding replied
answer_of r s f out =
    cond (ltb (length out) longest) (unheard (Err TooShort) r s out)
    (cond (is_sound r s)
    (cond (heard r f) (replied (verdict_on r f) r s f out) (unheard (Err Silent) r s out))
    (unheard (Err Unsound) r s out))
