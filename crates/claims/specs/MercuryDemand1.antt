-- Demand 1 for the Mercury 206's calls. "Every call ends with an answer from document 01's table, for every input. A refused call leaves the log
-- and the meter's record as they stood, and writes nothing into a lent buffer". The table has document 02's 40 and 41 with it; no call is lent a
-- log. One claim a public call that has an answer, over the definition that its contract cites. Proofs: `mercury-demand-1`, proofs/Claims.antt.
use Rattle.std.specs.Prelude.{◌≡◌, true, List, ℕ, Result}
use Rattle.claims.specs.Demand1.{in_table, Ends, EndsBy}
use Rattle.mercury.specs.Reply as reply
use Rattle.mercury.specs.Request as request
use Rattle.mercury.specs.declared.reply.Decoded.{Decoded}
use Rattle.mercury.specs.declared.reply.DecodeError.{DecodeError}
use Rattle.c_mercury.specs.Calls as c
use Rattle.mercury_bench.specs.Reply as bench
use Rattle.mercury_bench.specs.declared.meter.Meter.{Meter}

pub record MercuryDemand1 : Type 0 where
  -- nothing is lent to write in, and figures come with 0 alone
  pub decode : (d : Result Decoded DecodeError) → in_table (reply.number_of d) ≡ true
  pub put_request : (address code : ℕ) (out : List ℕ) → EndsBy request.number_of out (request.requested address code out)
  -- the figures are lent by value: no answer changes them
  pub answer : (m : Meter) (q out : List ℕ) → EndsBy bench.number_of out (bench.answered m q out)

-- the same of the functions for C, with all that they are lent to write in: the output; count and row; length and output
pub record MercuryDemand1C : Type 0 where
  pub request : (address code : ℕ) (out : List ℕ) → let o = c.request_for_c address code out in Ends o.result out o.left
  pub decode : (address code : ℕ) (y row : List ℕ) (count : ℕ) → let o = c.decode_for_c address code y row count in
      Ends {A = ℕ × List ℕ} o.result (count, row) o.left
  pub answer : (m : Meter) (q out : List ℕ) (length : ℕ) → let o = c.answer_for_c m q out length in
      Ends {A = ℕ × List ℕ} o.result (length, out) o.left
