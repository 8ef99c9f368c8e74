-- Demand 1 of the functions that firmware links. "Every call ends with an answer from document 01's table, for every input. A refused call
-- leaves the log and the meter's record as they stood, and writes nothing into a lent buffer but the short refusal frame where the table
-- gives one." And document 02, request 2: "For a wrong length also return the length received."
--
-- One claim a function, by its name, over the definition that its contract cites and with all that it is lent to write in, the words behind
-- `length`, `count`, `result`, `kind`, `lapses` and `slot` too. `metlazuel_crc16` has no answer, and is lent nothing to write in. Proofs: `demand-1`, proofs/Claims.antt.
use Rattle.std.specs.Prelude.{◌≡◌, cond, List, ℕ, Option, Result, Some, None}
use Rattle.byte_numbers.specs.Place.{written}
use Rattle.refusal.specs.Outcome.{Outcome, outcome}
use Rattle.frame.specs.Layout.{bare_size}
use Rattle.frame.specs.Sealing.{framed}
use Rattle.parameters.specs.declared.code.Reading.{Reading}
use Rattle.request.specs.Request as request
use Rattle.request.specs.declared.request.Request.{Request}
use Rattle.meter_record.specs.declared.record.Record.{Record}
use Rattle.meter_record_bytes.specs.Record.{record_of}
use Rattle.meter_command.specs.Verdict.{number_of}
use Rattle.meter.specs.Reply.{head_of, answer_of}
use Rattle.log_header.specs.declared.header.Header.{Header}
use Rattle.energy_log.specs.View.{View}
use Rattle.energy_log.specs.Fresh.{fresh_number}
use Rattle.day_rows.specs.LogAndRows.{LogAndRows, log_and_rows}
use Rattle.day_rows.specs.Fresh.{fresh_with}
use Rattle.day_report.specs.Report.{report_of, report_number}
use Rattle.log_file.specs.Read.{read_file, read_number}
use Rattle.log_file.specs.Write.{written_file, write_number}
use Rattle.c_values.specs.Ask.{ask_of, ask_bytes}
use Rattle.claims.specs.Demand1.{Ends, closes_ask, gives_frame}
use Rattle.metlazuel.specs.Calls.{numbered, sized, result_after, received_after}
use Rattle.metlazuel.specs.LogCalls.{header_from, image_length, file_length, length_after, ask_for_c, lapse_for_c, take_for_c}
use Rattle.metlazuel.specs.CellCalls.{cell_for_c, next_gap_for_c}
use Rattle.metlazuel.specs.WireCalls.{request_from, decode_for_c}
use Rattle.metlazuel.specs.MeterCalls.{telemetry_from, clock_from, phases_from, ratios_from, key, row, made_in, second_in, powers_in, ratios_in, slice_in}
use Rattle.metlazuel.specs.MeterCalls.{bench_for_c, make_for_c, put_for_c, answer_for_c}
use Rattle.meter_command.specs.Command.{command_of}
use Rattle.meter_command.specs.declared.verdict.Refusal.{Refusal}

-- how a function ends: its number is the table's, and a refused one leaves what it is lent as it stood
abbrev pub EndsForC : {L : Type 0} → L → Outcome ℕ L → Type 0
EndsForC before o = Ends o.result before o.left

-- the output after a frame f that was refused: "the short refusal frame where the table gives one", by the verdict that has the number
pub record RefusedOutput (number : ℕ) (f before after : List ℕ) : Type 0 where
  pub verdict : Result Unit Refusal
  pub its_number : number_of verdict ≡ number
  pub output : after ≡ cond (gives_frame number) (written before 0 (framed (head_of verdict (command_of f)))) before

pub record Demand1C : Type 0 where
  -- the log: length, image and figures; the row; length and file
  pub log_fresh : (year month day days minutes ke seasons : ℕ) (log figures : List ℕ) (length : ℕ)
      → EndsForC (length, log_and_rows log figures)
      (sized fresh_number image_length (fresh_with (header_from year month day days minutes ke seasons) log figures) length)
  pub day_report : (lent : Option Header) (figures : List ℕ) (day : ℕ) (row : List ℕ) → EndsForC row (numbered report_number (report_of lent figures day row))
  pub write_file : (v : View) (out : List ℕ) (length : ℕ) → EndsForC (length, out) (sized write_number file_length (written_file v out) length)
  pub read-file : (file out figures : List ℕ) (length : ℕ)
      → EndsForC (length, log_and_rows out figures) (sized read_number length_after (read_file file out figures) length)
  -- single cells: kind, counts and lapses, and the slot
  pub cell : (v : View) (day slot kind : ℕ) (counts : List ℕ) (lapses : ℕ) → EndsForC (kind, counts, lapses) (cell_for_c v day slot kind counts lapses)
  pub next-gap : (v : View) (day from slot : ℕ) → EndsForC slot (next_gap_for_c v day from slot)
  -- asks, lapses and replies: the ask's bytes and the output
  pub ask : (v : View) (bs : List ℕ) (address day slot : ℕ) (out : List ℕ) → EndsForC (bs, out) (ask_for_c (ask_of bs) v bs address day slot out)
  -- the log and the ask's bytes. "A lapse closes it; with nothing open a lapse does nothing and answers 0", over any log ("with none open it still answers 0",
  -- document 02, CR 7)
  pub lapse : (log bs : List ℕ) → EndsForC (log, bs) (lapse_for_c (ask_of bs) log bs)
  pub lapse_none : (log bs : List ℕ) → ask_of bs ≡ Some None → lapse_for_c (ask_of bs) log bs ≡ outcome 0 (log, bs)
  -- result, length, log with its figures, and ask: 24 "meter's result not 0; returned; ask closed, log kept", 25 "ask closed, log kept"; and the last 28,
  -- for a figure that cannot follow, as any 28
  pub take : (b : LogAndRows) (bs reply : List ℕ) (result length : ℕ) → let o = take_for_c (ask_of bs) b bs reply result length in let n = o.result in
      Ends {A = ℕ × ℕ × LogAndRows × List ℕ} n
      (result_after n reply result, received_after n reply length, b, cond (closes_ask n) (written bs 0 (ask_bytes None)) bs) o.left
  -- 50 alone gives the length received, and every other answer, 0 too, leaves the lent one
  pub take_length : (b : LogAndRows) (bs reply : List ℕ) (result length : ℕ) → let o = take_for_c (ask_of bs) b bs reply result length in
      o.left.1 ≡ received_after o.result reply length
  -- requests, and replies decoded: count, result, length and row; with function 3, and with function 4 `metlazuel_request4` and `metlazuel_decode4`
  pub request : (reading : Reading) (address parameter offset tariff detail : ℕ) (out : List ℕ)
      → EndsForC out (numbered request.number_of (request.requested (request_from reading address parameter offset tariff detail) out))
  pub decode : (q : Request) (reply row : List ℕ) (count result length : ℕ) → let o = decode_for_c q reply row count result length in let n = o.result in
      Ends {A = ℕ × ℕ × ℕ × List ℕ} n (count, result_after n reply result, received_after n reply length, row) o.left
  pub decode_length : (q : Request) (reply row : List ℕ) (count result length : ℕ) → let o = decode_for_c q reply row count result length in
      o.left.2 ≡ received_after o.result reply length
  -- the bench meter: the record's bytes, and with a slice the store
  pub meter_make : (address minutes k ke reserve year month day hour minute second season : ℕ) (bs : List ℕ)
      → EndsForC bs (make_for_c (made_in address minutes (telemetry_from k ke reserve) (clock_from year month day hour minute second) season) bs)
  pub meter_second : (bs : List ℕ) → EndsForC bs (bench_for_c (second_in (record_of bs)) bs)
  pub meter_powers : (bs : List ℕ) (parameter a b c : ℕ) → EndsForC bs (bench_for_c (powers_in (record_of bs) parameter (phases_from a b c)) bs)
  pub meter_ratios : (bs : List ℕ) (ki ku : ℕ) → EndsForC bs (bench_for_c (ratios_in (record_of bs) (ratios_from ki ku)) bs)
  pub meter_slice : (bs s : List ℕ) (month day number e+ e- r+ r- : ℕ)
      → EndsForC (bs, s) (put_for_c (slice_in (record_of bs) s (key month day number) (row e+ e- r+ r-)) bs)
  -- a frame: length, record and store, where a refusal frame is six bytes long; then the output; and the length of a reply of 0
  pub meter_answer : (length : ℕ) (bs s f out : List ℕ) → let o = answer_for_c (record_of bs) length bs s f out in
      Ends {A = ℕ × List ℕ × List ℕ} o.result (cond (gives_frame o.result) bare_size length, bs, s) (o.left.0, o.left.1, o.left.2)
  pub meter_output : (length : ℕ) (bs s f out : List ℕ) → let o = answer_for_c (record_of bs) length bs s f out in
      (o.result ≡ 0 → ⊥) → RefusedOutput o.result f out o.left.3
  pub meter_length : (r : Record) (length : ℕ) (bs s f out : List ℕ) → record_of bs ≡ Some r → let o = answer_for_c (record_of bs) length bs s f out in
      o.result ≡ 0 → o.left.0 ≡ (answer_of r s f out).answer.length
