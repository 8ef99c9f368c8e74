-- Demand 1 at the boundary: what the proved calls below leave, and the lent words and bytes that C adds to it.
use mathlib.Core.Path.{◌≡◌, refl, ap, ◌∙◌}
use mathlib.Core.Bool.{Bool, true, false, cond}
use mathlib.Core.List.{List, []}
use Prim.Native.Nat.{ℕ, ◌+◌}
use native.Mathlib.Omega.{arith}
use borrow.Author.Tests.{ne_eqb}
use lib.Dec.{ltb}
use lib.ListN.{length}
use Rattle.std.specs.Prelude.{Err, None, Ok, Option, Result, Some}
use Rattle.test_laws.proofs.Test.{either}
use Rattle.byte_numbers.specs.Place.{written}
use Rattle.refusal.specs.Outcome.{Outcome, outcome}
use Rattle.frame.specs.Layout.{bare_size, read_size, longest}
use Rattle.parameters.specs.declared.code.Reading.{Reading}
use Rattle.request.specs.Request as request-of
use Rattle.request.specs.Subject.{subject_of, most_slots}
use Rattle.request.specs.declared.request.Request.{Request}
use Rattle.reader.specs.Reply as reader
use Rattle.reader.specs.declared.reply.Decoded.{Decoded}
use Rattle.reader.specs.declared.reply.DecodeError.{DecodeError}
use Rattle.meter_record.specs.Record as answer_record
use Rattle.meter_record.specs.declared.record.Record.{Record}
use Rattle.meter_record.specs.declared.record.RecordError.{RecordError}
use Rattle.meter_record_bytes.specs.Record.{record_of, record_size}
use Rattle.meter_command.specs.Verdict.{number_of, is_done}
use Rattle.meter_command.specs.declared.verdict.Refusal.{Refusal}
use Rattle.meter_command.specs.declared.verdict.Refusal.TheVariants as verdict
use Rattle.meter.specs.Reply as reply
use Rattle.meter.specs.Reply.{is_sound, heard, verdict_on, replied, answer_of}
use Rattle.slots.specs.declared.key.Key.{Key}
use Rattle.energy_log.specs.View.{View}
use Rattle.log_header.specs.Interval.{interval_of}
use Rattle.log_header.proofs.HeaderLaws.{by-sound}
use Rattle.log_header.proofs.IntervalLaws.{by-at}
use Rattle.log_header.specs.declared.header.Header.{Header}
use Rattle.log_cell.proofs.CellLaws.{by-good}
use Rattle.energy_log.specs.Fresh.{fresh_number}
use Rattle.day_rows.specs.LogAndRows.{LogAndRows, log_and_rows}
use Rattle.day_rows.specs.Fresh.{fresh_with}
use Rattle.day_report.specs.Report.{report_of, report_number}
use Rattle.log_file.specs.Read.{if_read, read_file, read_number}
use Rattle.log_file.specs.Write.{written_file, write_number}
use Rattle.log_file.specs.declared.read.ReadError.{ReadError}
use Rattle.log_file.specs.declared.write.WriteError.{WriteError}
use Rattle.energy_log.specs.Image.{applied}
use Rattle.energy_log.specs.declared.fresh.FreshError.{FreshError}
use Rattle.logger.specs.Lapse as lapse-of
use Rattle.logger.specs.Run.{State, step}
use Rattle.logger.specs.declared.held.OpenAsk.{OpenAsk}
use Rattle.c_values.specs.Ask.{ask_of, ask_bytes}
use Rattle.c_values.specs.Row.{figures_for, figure_row}
use Rattle.claims.specs.Demand1.{in_table, Ends, EndsBy, closes_ask, gives_frame}
use Rattle.claims.proofs.Calls.{done, stays}
use Rattle.claims.proofs.Claims as claims
use Rattle.metlazuel.specs.Calls.{numbered, sized, unread_number, result_after, received_after}
use Rattle.metlazuel.specs.LogCalls.{header_from, image_length, file_length, length_after, ask_left, ask_for_c, lapse_for_c, take_for_c}
use Rattle.c_claims.proofs.LogLaws.{kept-bytes, taken-given}
use Rattle.metlazuel.specs.CellCalls.{cell_for_c, next_gap_for_c}
use Rattle.metlazuel.specs.WireCalls.{request_from, count_after, decoded_for_c, decode_for_c}
use Rattle.metlazuel.specs.MeterCalls.{telemetry_from, clock_from, phases_from, ratios_from, key, row, made_in, second_in, powers_in, ratios_in, slice_in}
use Rattle.metlazuel.specs.MeterCalls.{bytes_after, bench_for_c, make_for_c, put_for_c, bytes_left, sent_length, answer_for_c}
use Rattle.c_claims.specs.Demand1.{EndsForC, RefusedOutput}

-- 1 or 28 for bytes that are no ask or no record, and nothing done
unread : {A : Type 0} (room least : ℕ) (x : A) → Ends (unread_number room least) x x
unfolding unread_number in_table
unread room least x = either (λ (n : ℕ). Ends n x x) (ltb room least) (stays 1 x refl) (stays 28 x refl)

-- ---- the log: a length that a refusal leaves, beside what the call below leaves

sized-ends : {A L : Type 0} (number : A → ℕ) (size : A → ℕ → ℕ) → ((a : A) (n : ℕ) → (number a ≡ 0 → ⊥) → size a n ≡ n)
    → (o : Outcome A L) (out : L) (n : ℕ) → EndsBy number out o → EndsForC (n, out) (sized number size o n)
sized-ends number size left o out n e =
    record { in-table = e.in-table; unchanged = λ r. rw (left o.result n r, e.unchanged r) }

-- a refused log leaves the word behind `length`
pub image-kept : (a : Result ℕ FreshError) (n : ℕ) → (fresh_number a ≡ 0 → ⊥) → image_length a n ≡ n
unfolding image_length
image-kept (Ok k) n r = absurd (r refl)
image-kept (Err refusal) n r = refl

file-kept : (a : Result ℕ WriteError) (n : ℕ) → (write_number a ≡ 0 → ⊥) → file_length a n ≡ n
unfolding file_length
file-kept (Ok k) n r = absurd (r refl)
file-kept (Err refusal) n r = refl

-- a file that is refused gives nothing
pub read-refused : {A : Type 0} (a : Result ℕ ReadError) (other : A) (f : ℕ → A) → (read_number a ≡ 0 → ⊥) → if_read a other f ≡ other
read-refused (Ok k) other f r = absurd (r refl)
read-refused (Err refusal) other f r = refl

-- and so does a refused file
pub length-kept : (a : Result ℕ ReadError) (n : ℕ) → (read_number a ≡ 0 → ⊥) → length_after a n ≡ n
unfolding length_after
length-kept (Ok k) n r = absurd (r refl)
length-kept (Err refusal) n r = refl

-- demand 1 of `metlazuel_log_fresh`: a refused one leaves the length, the log and the figures
pub log_fresh : (year month day days minutes ke seasons : ℕ) (log figs : List ℕ) (n : ℕ)
    → EndsForC (n, log_and_rows log figs) (sized fresh_number image_length (fresh_with (header_from year month day days minutes ke seasons) log figs) n)
log_fresh year month day days minutes ke seasons log figs n =
    let h = header_from year month day days minutes ke seasons in
    sized-ends fresh_number image_length image-kept (fresh_with h log figs) (log_and_rows log figs) n ((claims.demand-1).fresh_log h log figs)

-- demand 1 of `metlazuel_day_report`: a refused one leaves the row
pub day_report : (lent : Option Header) (figs : List ℕ) (day : ℕ) (row : List ℕ) → EndsForC row (numbered report_number (report_of lent figs day row))
day_report lent figs day row = (claims.demand-1).day_report lent figs day row

-- demand 1 of `metlazuel_write_file`: a refused one leaves the length and the lent output
pub write_file : (v : View) (out : List ℕ) (n : ℕ) → EndsForC (n, out) (sized write_number file_length (written_file v out) n)
write_file v out n = sized-ends write_number file_length file-kept (written_file v out) out n ((claims.demand-1).write_file v out)

-- demand 1 of `metlazuel_read_file`: a refused one leaves the length, the lent log and the figures
pub read-file : (f out figs : List ℕ) (n : ℕ) → EndsForC (n, log_and_rows out figs) (sized read_number length_after (read_file f out figs) n)
read-file f out figs n =
    sized-ends read_number length_after length-kept (read_file f out figs) (log_and_rows out figs) n ((claims.demand-1).read-file f out figs)

-- ---- single cells

-- demand 1 of `metlazuel_cell`: a refused one leaves kind, counts and lapses
pub cell : (v : View) (day slot kind : ℕ) (counts : List ℕ) (lapses : ℕ) → EndsForC (kind, counts, lapses) (cell_for_c v day slot kind counts lapses)
unfolding cell_for_c in_table
cell v day slot kind counts lapses =
    let before : ℕ × List ℕ × ℕ = (kind, counts, lapses) in
    by-sound (EndsForC before) v.lent (λ u. stays 28 before refl) (λ h u.
    by-at (EndsForC before) (interval_of h day slot) (λ n. stays 22 before refl) (λ i n.
    by-good (EndsForC before) (v.cell i) (λ b. stays 28 before refl) (λ c g. done before _)))

-- demand 1 of `metlazuel_next_gap`: a refused one leaves the slot
pub next-gap : (v : View) (day from slot : ℕ) → EndsForC slot (next_gap_for_c v day from slot)
unfolding next_gap_for_c in_table
next-gap v day from slot =
    by-sound (EndsForC slot) v.lent (λ u. stays 28 slot refl) (λ h u.
    either (EndsForC slot) (ltb day h.days) (done slot _) (stays 22 slot refl))

-- ---- asks, lapses and replies

ask-read : (a : Option (Option OpenAsk)) (v : View) (bs : List ℕ) (address day slot : ℕ) (out : List ℕ) → EndsForC (bs, out) (ask_for_c a v bs address day slot out)
unfolding ask_for_c
ask-read (Some held) v bs address day slot out =
    let e = (claims.demand-1).put_ask v held address day slot out in
    record {
      in-table = e.in-table;
      unchanged = λ n.
          ap (λ (p : Option OpenAsk × List ℕ). (ask_left held p.0 bs, p.1)) (e.unchanged n) ∙ ap (λ (x : List ℕ). (x, out)) (kept-bytes bs held);
    }
ask-read None v bs address day slot out = unread (length out) read_size (bs, out)

-- demand 1 of `metlazuel_ask`: a refused one leaves the ask's bytes and the output
pub ask : (v : View) (bs : List ℕ) (address day slot : ℕ) (out : List ℕ) → EndsForC (bs, out) (ask_for_c (ask_of bs) v bs address day slot out)
ask v bs address day slot out = ask-read (ask_of bs) v bs address day slot out

lapse-read : (a : Option (Option OpenAsk)) (log bs : List ℕ) → EndsForC (log, bs) (lapse_for_c a log bs)
unfolding lapse_for_c step in_table
lapse-read (Some held) log bs =
    let e = (claims.demand-1).lapse (record { log = log; figures = []; held = held }) in
    record {
      in-table = e.in-table;
      unchanged = λ n.
          ap (λ (s : State). (s.log, ask_left held s.held bs)) (e.unchanged n) ∙ ap (λ (x : List ℕ). (log, x)) (kept-bytes bs held);
    }
lapse-read None log bs = stays 28 (log, bs) refl

-- demand 1 of `metlazuel_lapse`: a refused one leaves the log and the ask's bytes
pub lapse : (log bs : List ℕ) → EndsForC (log, bs) (lapse_for_c (ask_of bs) log bs)
lapse log bs = lapse-read (ask_of bs) log bs

-- demand 1 of `metlazuel_lapse`, "with nothing open a lapse does nothing and answers 0", over any log
pub lapse_none : (log bs : List ℕ) → ask_of bs ≡ Some None → lapse_for_c (ask_of bs) log bs ≡ outcome 0 (log, bs)
unfolding lapse_for_c ask_left lapse-of.lapsed lapse-of.lapsing applied
lapse_none log bs e = rw e

take-read : (a : Option (Option OpenAsk)) (b : LogAndRows) (bs reply : List ℕ) (result size : ℕ) → let o = take_for_c a b bs reply result size in let n = o.result in
    Ends {A = ℕ × ℕ × LogAndRows × List ℕ} n
    (result_after n reply result, received_after n reply size, b, cond (closes_ask n) (written bs 0 (ask_bytes None)) bs) o.left
unfolding take_for_c result_after received_after in_table
take-read (Some held) b bs reply result size =
    let e = (claims.demand-1).take_reply b held reply in
    let g = taken-given held reply bs result size b in
    record { in-table = e.in-table; unchanged = λ n. rw (e.unchanged n, g.result-is, g.length-is, g.ask-is) refl }
take-read None b bs reply result size = record { in-table = refl; unchanged = λ n. refl }

-- demand 1 of `metlazuel_take`: a refused one keeps log and figures, 24 and 25 close the ask, 24 gives the result and 50 the length
pub take : (b : LogAndRows) (bs reply : List ℕ) (result size : ℕ) → let o = take_for_c (ask_of bs) b bs reply result size in let n = o.result in
    Ends {A = ℕ × ℕ × LogAndRows × List ℕ} n
    (result_after n reply result, received_after n reply size, b, cond (closes_ask n) (written bs 0 (ask_bytes None)) bs) o.left
take b bs reply result size = take-read (ask_of bs) b bs reply result size

read_length : (a : Option (Option OpenAsk)) (b : LogAndRows) (bs reply : List ℕ) (result size : ℕ) → let o = take_for_c a b bs reply result size in
    o.left.1 ≡ received_after o.result reply size
unfolding take_for_c received_after
read_length (Some held) b bs reply result size = (taken-given held reply bs result size b).length-is
read_length None b bs reply result size = refl

-- demand 1 of `metlazuel_take`: 50 alone gives the length received, and every other answer leaves the lent one
pub take_length : (b : LogAndRows) (bs reply : List ℕ) (result size : ℕ) → let o = take_for_c (ask_of bs) b bs reply result size in
    o.left.1 ≡ received_after o.result reply size
take_length b bs reply result size = read_length (ask_of bs) b bs reply result size

-- ---- requests, and replies decoded

-- demand 1 of `metlazuel_request` and `metlazuel_request4`: a refused one leaves the output
pub request : (reading : Reading) (address parameter offset tariff detail : ℕ) (out : List ℕ)
    → EndsForC out (numbered request-of.number_of (request-of.requested (request_from reading address parameter offset tariff detail) out))
request reading address parameter offset tariff detail out =
    (claims.demand-1).put_request (request_from reading address parameter offset tariff detail) out

row_kept : (d : Result Decoded DecodeError) (reply row : List ℕ) → (reader.number_of d ≡ 0 → ⊥) → written row 0 (figure_row d reply) ≡ row
unfolding figure_row written
row_kept (Err refusal) reply row n = refl
row_kept (Ok figures) reply row n = absurd (n refl)

module _ (q : Request) (reply row : List ℕ) (count result size : ℕ) where
  abbrev Told : Outcome ℕ (ℕ × ℕ × ℕ × List ℕ) → Type 0
  Told o = Ends {A = ℕ × ℕ × ℕ × List ℕ} o.result (count, result_after o.result reply result, received_after o.result reply size, row) o.left

  decoded-ends : (d : Result Decoded DecodeError) → Told (decoded_for_c d reply row count result size)
  unfolding count_after
  decoded-ends d = record { in-table = (claims.demand-1).decode d; unchanged = λ n. rw (ne_eqb _ _ n, row_kept d reply row n) }

  -- demand 1 of `metlazuel_decode` and `metlazuel_decode4`: a refused one leaves count and row, and gives result or length by its number
  pub decode : Told (decode_for_c q reply row count result size)
  unfolding decode_for_c result_after received_after in_table
  decode =
      either Told (ltb (length row) (figures_for (subject_of q most_slots))) (record { in-table = refl; unchanged = λ n. refl })
      (decoded-ends (reader.decoded_of q reply))

  -- demand 1 of `metlazuel_decode` and `metlazuel_decode4`: 50 alone gives the length received
  pub decode_length : let o = decode_for_c q reply row count result size in o.left.2 ≡ received_after o.result reply size
  unfolding decode_for_c received_after
  decode_length =
      either (λ (o : Outcome ℕ (ℕ × ℕ × ℕ × List ℕ)). o.left.2 ≡ received_after o.result reply size)
      (ltb (length row) (figures_for (subject_of q most_slots))) refl refl

-- ---- the bench meter

bytes-kept : (a : Result Record RecordError) (bs : List ℕ) → (answer_record.number_of a ≡ 0 → ⊥) → bytes_after a bs ≡ bs
unfolding bytes_after
bytes-kept (Ok r) bs n = absurd (n refl)
bytes-kept (Err refusal) bs n = refl

bench : (a : Result Record RecordError) (bs : List ℕ) → EndsForC bs (bench_for_c a bs)
bench a bs = record { in-table = (claims.demand-1).record_given a; unchanged = bytes-kept a bs }

-- demand 1 of `metlazuel_meter_make`: a refused one leaves the record's bytes
pub meter_make : (address minutes k ke reserve year month day hour minute second season : ℕ) (bs : List ℕ)
    → EndsForC bs (make_for_c (made_in address minutes (telemetry_from k ke reserve) (clock_from year month day hour minute second) season) bs)
unfolding make_for_c in_table
meter_make address minutes k ke reserve year month day hour minute second season bs =
    let a = made_in address minutes (telemetry_from k ke reserve) (clock_from year month day hour minute second) season in
    either (EndsForC bs) (ltb (length bs) record_size) (stays 1 bs refl) (bench a bs)

-- demand 1 of `metlazuel_meter_second`: a refused one leaves the record's bytes
pub meter_second : (bs : List ℕ) → EndsForC bs (bench_for_c (second_in (record_of bs)) bs)
meter_second bs = bench (second_in (record_of bs)) bs

-- demand 1 of `metlazuel_meter_powers`: a refused one leaves the record's bytes
pub meter_powers : (bs : List ℕ) (parameter a b c : ℕ) → EndsForC bs (bench_for_c (powers_in (record_of bs) parameter (phases_from a b c)) bs)
meter_powers bs parameter a b c = bench (powers_in (record_of bs) parameter (phases_from a b c)) bs

-- demand 1 of `metlazuel_meter_ratios`: a refused one leaves the record's bytes
pub meter_ratios : (bs : List ℕ) (ki ku : ℕ) → EndsForC bs (bench_for_c (ratios_in (record_of bs) (ratios_from ki ku)) bs)
meter_ratios bs ki ku = bench (ratios_in (record_of bs) (ratios_from ki ku)) bs

slice-ends : (read : Option Record) (bs s : List ℕ) (k : Key) (counts : List ℕ) → EndsForC (bs, s) (put_for_c (slice_in read s k counts) bs)
unfolding slice_in bytes_after in_table
slice-ends (Some r) bs s k counts =
    let e = (claims.demand-1).put_slice r s k counts in
    record { in-table = e.in-table; unchanged = λ n. rw (bytes-kept _ bs n, e.unchanged n) }
slice-ends None bs s k counts = stays 28 (bs, s) refl

-- demand 1 of `metlazuel_meter_slice`: a refused one leaves the record's bytes and the store
pub meter_slice : (bs s : List ℕ) (month day number e+ e- r+ r- : ℕ)
    → EndsForC (bs, s) (put_for_c (slice_in (record_of bs) s (key month day number) (row e+ e- r+ r-)) bs)
meter_slice bs s month day number e+ e- r+ r- = slice-ends (record_of bs) bs s (key month day number) (row e+ e- r+ r-)

-- ---- a frame answered

sent : (b : Bool) (n : ℕ) → sent_length (cond b bare_size 0) n ≡ cond b bare_size n
unfolding sent_length
sent true n = refl
sent false n = refl

not_done : (v : Result Unit Refusal) → (number_of v ≡ 0 → ⊥) → is_done v ≡ false
not_done (Ok tt) n = absurd (n refl)
not_done (Err verdict.TooShort) n = refl
not_done (Err verdict.Unsound) n = refl
not_done (Err verdict.Silent) n = refl
not_done (Err verdict.UnknownFunction) n = refl
not_done (Err verdict.UnknownParameter) n = refl
not_done (Err verdict.NotOpen) n = refl
not_done (Err verdict.WrongLength) n = refl
not_done (Err verdict.ByAddressZero) n = refl
not_done (Err verdict.NoAccess) n = refl
not_done (Err verdict.WrongArgument) n = refl

module _ (n : ℕ) (bs s f out : List ℕ) where
  abbrev Answers : Outcome ℕ (ℕ × List ℕ × List ℕ × List ℕ) → Type 0
  Answers o = Ends {A = ℕ × List ℕ × List ℕ} o.result (cond (gives_frame o.result) bare_size n, bs, s) (o.left.0, o.left.1, o.left.2)

  unread-answers : (b : Bool) → Answers (outcome (cond b 1 28) (n, bs, s, out))
  unfolding in_table
  unread-answers true = record { in-table = refl; unchanged = λ r. refl }
  unread-answers false = record { in-table = refl; unchanged = λ r. refl }

  read-answers : (read : Option Record) → Answers (answer_for_c read n bs s f out)
  unfolding answer_for_c bytes_left unread_number
  read-answers (Some r) =
      let e = (claims.demand-1).answer r s f out in
      record {
        in-table = e.in-table;
        unchanged = λ k.
            rw ((claims.demand-1).answer_length r s f out k, sent _ n, not_done _ k, ap (λ (p : Record × List ℕ). p.1) (e.unchanged k));
      }
  read-answers None = unread-answers (ltb (length out) longest)

  -- demand 1 of `metlazuel_meter_answer`: a refused frame leaves record and store, and the length unless a refusal frame is sent
  pub meter_answer : Answers (answer_for_c (record_of bs) n bs s f out)
  meter_answer = read-answers (record_of bs)

  unread-output : (b : Bool) → RefusedOutput (cond b 1 28) f out out
  unread-output true = record { verdict = Err verdict.TooShort; its_number = refl; output = refl }
  unread-output false = record { verdict = Err verdict.Unsound; its_number = refl; output = refl }

  read-output : (read : Option Record) → let o = answer_for_c read n bs s f out in (o.result ≡ 0 → ⊥) → RefusedOutput o.result f out o.left.3
  unfolding answer_for_c unread_number
  read-output (Some r) k =
      record { verdict = (answer_of r s f out).answer.verdict; its_number = refl; output = (claims.demand-1).answer_output r s f out k }
  read-output None k = unread-output (ltb (length out) longest)

  -- demand 1 of `metlazuel_meter_answer`: a refused frame leaves "the short refusal frame where the table gives one" in the output
  pub meter_output : let o = answer_for_c (record_of bs) n bs s f out in (o.result ≡ 0 → ⊥) → RefusedOutput o.result f out o.left.3
  meter_output = read-output (record_of bs)

-- a reply has a length: the six bytes around its data, and the data's
long-sent : (n k : ℕ) → sent_length (bare_size + k) n ≡ bare_size + k
unfolding sent_length
long-sent n k = rw (ne_eqb (bare_size + k) 0 (λ z. omega arith))

module _ (r : Record) (n : ℕ) (s f out : List ℕ) where
  abbrev Stored : reply.Outcome → Type 0
  Stored o = number_of o.answer.verdict ≡ 0 → sent_length o.answer.length n ≡ o.answer.length

  stored : Stored (answer_of r s f out)
  unfolding answer_of replied
  stored =
      either Stored (ltb (length out) longest) (λ e. absurd (omega arith))
      (either Stored (is_sound r s)
      (either Stored (heard r f)
      (either Stored (is_done (verdict_on r f)) (λ e. long-sent n _) (λ e. long-sent n 0))
      (λ e. absurd (omega arith)))
      (λ e. absurd (omega arith)))

-- demand 1 of `metlazuel_meter_answer`: with 0 the length of the reply is told
pub meter_length : (r : Record) (n : ℕ) (bs s f out : List ℕ) → record_of bs ≡ Some r
    → let o = answer_for_c (record_of bs) n bs s f out in o.result ≡ 0 → o.left.0 ≡ (answer_of r s f out).answer.length
unfolding answer_for_c
meter_length r n bs s f out e = rw e (stored r n s f out)
