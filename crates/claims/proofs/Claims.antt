-- The theorems: every claim of specs/ with its proof, which has the claim's name.
use Rattle.claims.specs.Demand1.{Demand1}
use Rattle.claims.specs.Demand1Inquire.{Demand1Inquire}
use Rattle.claims.specs.Demand2.{Demand2}
use Rattle.claims.specs.Demand2Again.{Demand2Again}
use Rattle.claims.specs.Demand2ByZero.{Demand2ByZero}
use Rattle.claims.specs.Demand2Done.{Demand2Done}
use Rattle.claims.specs.Demand2Password.{Demand2Password}
use Rattle.claims.specs.Demand2Put.{Demand2Put}
use Rattle.claims.specs.Demand2Second.{Demand2Second}
use Rattle.claims.specs.Demand3.{Demand3}
use Rattle.claims.specs.Faults.{ReplyFaults}
use Rattle.claims.specs.Function4.{Function4}
use Rattle.claims.specs.Seasons.{Seasons}
use Rattle.claims.specs.Lapses.{Lapses}
use Rattle.claims.specs.DayFigures.{DayFigures}
use Rattle.claims.specs.RegisterToCell.{RegisterToCell}
use Rattle.claims.specs.Metered.{Metered}
use Rattle.claims.specs.Columns.{Columns}
use Rattle.claims.specs.Examples.{Marked}
use Rattle.claims.specs.Wire.{Wire}
use Rattle.day_rows.proofs.PutLaws as put-laws
use Rattle.logger.proofs.FigureLaws as figures-of
use Rattle.logger.proofs.SeasonLaws as seasons-of
use Rattle.polling.proofs.NextLaws.{next-exists}
use Rattle.claims.proofs.Again as again
use Rattle.claims.proofs.Alike as alike
use Rattle.claims.proofs.Answer as answer
use Rattle.claims.proofs.ByZero as by_zero
use Rattle.claims.proofs.Calls as calls
use Rattle.claims.proofs.Changes as changes
use Rattle.claims.proofs.Columns as columns-in
use Rattle.claims.proofs.Displayed as displayed
use Rattle.claims.proofs.Done as done
use Rattle.claims.proofs.Examples as examples
use Rattle.claims.proofs.Faults as faults
use Rattle.claims.proofs.Function4 as four
use Rattle.claims.proofs.History as history
use Rattle.claims.proofs.Inquiry as inquiry
use Rattle.claims.proofs.Left as left
use Rattle.claims.proofs.Metered as metered-in
use Rattle.claims.proofs.Password as password
use Rattle.claims.proofs.Put as put
use Rattle.claims.proofs.Quiet as quiet
use Rattle.claims.proofs.Range as range
use Rattle.claims.proofs.RegisterToCell as register
use Rattle.claims.proofs.Replies as replies
use Rattle.claims.proofs.Seasons as seasons-in
use Rattle.claims.proofs.Second as second
use Rattle.claims.proofs.Lapses as lapses-in
use Rattle.claims.proofs.DayFigures as figures-in
use Rattle.claims.proofs.WireCommands as wire-commands
use Rattle.claims.proofs.WireReads as wire-reads
use Rattle.claims.proofs.WireRefusals as wire-refusals
use Rattle.claims.specs.MercuryInverse.{Inverse}
use Rattle.claims.specs.MercuryDemand1.{MercuryDemand1, MercuryDemand1C}
use Rattle.claims.specs.MercuryWire.{MercuryWire}
use Rattle.claims.specs.MercuryVectors.{Vectors}
use Rattle.claims.proofs.MercuryBack as mercury-back
use Rattle.claims.proofs.MercuryCalls as mercury-calls
use Rattle.claims.proofs.MercuryDigits as mercury-digits
use Rattle.claims.proofs.MercuryForC as mercury-for-c
use Rattle.claims.proofs.MercuryInverse as mercury-there
use Rattle.claims.proofs.MercuryWire as mercury-bytes
use Rattle.claims.proofs.MercuryVectors as mercury-example

pub demand-1 : Demand1
demand-1 = record {
  decode = calls.decode;
  record_given = calls.record_given;
  inquire = inquiry.inquire;
  answer = answer.answer;
  put_slice = calls.put_slice;
  take_reply = calls.take_reply;
  ask_after = calls.ask_after;
  lapse = calls.lapse;
  lapse_none = calls.lapse_none;
  put_ask = calls.put_ask;
  put_request = calls.put_request;
  fresh_log = calls.fresh_log;
  fresh-image = calls.fresh-image;
  day_report = calls.day_report;
  put-text = calls.put-text;
  put_day = calls.put_day;
  put_strip = calls.put_strip;
  read-file = calls.read-file;
  write_file = calls.write_file;
  put_next_line = calls.put_next_line;
  put_next_strip = calls.put_next_strip;
  answer_output = answer.answer_output;
  answer_length = answer.answer_length;
  frame_short = answer.frame_short;
  past_frame = answer.past_frame;
}

pub demand-1-inquire : Demand1Inquire
demand-1-inquire = record { store_kept = left.store_kept; output = left.output; refused_output = left.refused_output }

pub demand-2 : Demand2
demand-2 = record {
  read = replies.read;
  six_slices = replies.six_slices;
  refused = replies.refused;
  inquired = inquiry.inquired;
  inquired_six = inquiry.inquired_six;
  change = changes.change;
  zeroing = changes.zeroing;
  change_without_access = changes.change_without_access;
  zeroing_without_access = changes.zeroing_without_access;
  right_password = changes.right_password;
  wrong_password = changes.wrong_password;
  lock = changes.lock;
  read_changes_nothing = changes.read_changes_nothing;
}

pub demand-2-done : Demand2Done
demand-2-done = record {
  read_done = done.read_done;
  inquired_done = inquiry.inquired_done;
  change_done = done.change_done;
  zeroing_done = done.zeroing_done;
  unlock_done = done.unlock_done;
  lock_done = done.lock_done;
  out_of_range = range.out_of_range;
  in_range = range.in_range;
  out_of_range_made = range.out_of_range_made;
  in_range_made = range.in_range_made;
}

pub demand-2-by-zero : Demand2ByZero
demand-2-by-zero = record {
  came_by_own = by_zero.came_by_own;
  by_zero_refused = by_zero.by_zero_refused;
  sixteen = by_zero.sixteen;
  result = by_zero.result;
  others_alike = alike.others_alike;
}

pub demand-2-again : Demand2Again
demand-2-again = record {
  own = again.own;
  change_read = again.change_read;
  summer_zeroed = again.summer_zeroed;
  winter_zeroed = again.winter_zeroed;
  slices_zeroed = again.slices_zeroed;
  six_zeroed = again.six_zeroed;
  put_done = again.put_done;
  put-read = again.put-read;
  powers_done = again.powers_done;
  active_read = again.active_read;
  reactive_read = again.reactive_read;
}

pub demand-2-password : Demand2Password
demand-2-password = record { taken = password.taken; opens = password.opens; no_other = password.no_other; other_stays = password.other_stays }

pub demand-2-put : Demand2Put
demand-2-put = record { others_stay = put.others_stay; lasts = λ m p ps room sound legal absent four below. put.lasts m p sound legal absent four below ps room }

pub demand-2-second : Demand2Second
demand-2-second = record {
  done = second.done;
  alone = second.alone;
  goes_on = λ r x u h. second.goes_on r x h u;
  not_twice = λ r x d h. second.not_twice r x h d;
  into-winter = λ r x u h. second.into-winter r x h u;
  into_winter_by_hand = λ r x u h. second.into_winter_by_hand r x h u;
  into-summer = λ r x u h. second.into-summer r x h u;
  into_summer_by_hand = λ r x u h. second.into_summer_by_hand r x h u;
  stands = second.stands;
  next = second.next;
  quiet = quiet.quiet;
  kept_239 = quiet.kept_239;
  ended_240 = quiet.ended_240;
  returns = quiet.returns;
  until_then = quiet.until_then;
}

pub demand-3 : Demand3
demand-3 = record {
  fresh = history.fresh;
  file = history.file;
  fresh_had = history.fresh_had;
  file_had = history.file_had;
  log = history.log;
  answers = history.answers;
  ask-left = history.ask-left;
  others = history.others;
  elsewhere = history.elsewhere;
  as_long = history.as_long;
  polled = history.polled;
}

pub seasons : Seasons
seasons = record {
  stay_gaps = seasons-in.stay_gaps;
  ask_refused = seasons-of.ask_refused;
  reply_refused = seasons-of.reply_refused;
  lapse_refused = seasons-of.lapse_refused;
  never_polled = next-exists;
  adds_up = seasons-in.adds_up;
  none_doubled = seasons-in.none_doubled;
  first_version = seasons-in.first_version;
  other_byte = seasons-in.other_byte;
  first_byte = seasons-in.first_byte;
  misplaced_read = seasons-in.misplaced_read;
  misplaced_written = seasons-in.misplaced_written;
}

pub lapses : Lapses
lapses = record {
  counted = lapses-in.counted;
  below = lapses-in.below;
  stays = lapses-in.stays;
  no_lapse = lapses-in.no_lapse;
  early = lapses-in.early;
  other_length = lapses-in.other_length;
}

pub day-figures : DayFigures
day-figures = record {
  kept = figures-in.kept;
  never_28 = figures-in.never_28;
  reported = figures-in.reported;
  line = figures-in.line;
  page-line = figures-in.page-line;
  next-line = figures-in.next-line;
  next-strip = figures-in.next-strip;
  other_days = figures-of.row_stays;
  as_many = figures-of.as_many;
  same_cell = λ d twice c figs small room. put-laws.same_cell figs small d twice c room;
  polled = figures-in.polled;
}

pub reply-faults : ReplyFaults
reply-faults = record { gone = faults.gone; decode_length = faults.decode_length; take_length = faults.take_length }

pub function-4 : Function4
function-4 = record {
  nearest = displayed.nearest;
  zero = displayed.zero;
  slices_alone = four.slices_alone;
  not_open = four.not_open;
  unknown = four.unknown;
  bare = four.bare;
  ratios_done = four.ratios_done;
  ratios_read = four.ratios_read;
}

pub register-to-cell : RegisterToCell
register-to-cell = record { dated = register.dated; asked = register.asked; skipped = register.skipped; joined = register.joined }

pub metered : Metered
metered = record { met = metered-in.met; again = metered-in.again; measured = metered-in.measured; by_meters = metered-in.by_meters; kept = metered-in.kept }

pub columns : Columns
columns = record {
  head = columns-in.head;
  image = columns-in.image-of;
  file_written = λ b start cs out count are room. columns-in.file_written b start cs count are out room;
  file_read = λ b start cs out figs count are l m. columns-in.file_read b start cs count are out figs l m;
  reported = columns-in.reported;
}

pub wire : Wire
wire = record {
  request = wire-refusals.request;
  request_displayed = wire-refusals.request_displayed;
  reads = wire-reads.reads;
  changes = wire-commands.changes;
  protects = wire-commands.protects;
  refusals = wire-refusals.refusals;
}

pub marked : Marked
marked = record { together = examples.together }

pub mercury-demand-1 : MercuryDemand1
mercury-demand-1 = record { decode = mercury-calls.decode; put_request = mercury-calls.put_request; answer = mercury-calls.answer }

pub mercury-demand-1-c : MercuryDemand1C
mercury-demand-1-c = record { request = mercury-for-c.request; decode = mercury-for-c.decode; answer = mercury-for-c.answer }

pub mercury-inverse : Inverse
mercury-inverse = record {
  answered = mercury-there.answered;
  decoded = mercury-there.decoded;
  read = mercury-there.read;
  back = mercury-back.back;
  legal = mercury-back.legal;
  digits = mercury-digits.digits;
}

pub mercury-wire : MercuryWire
mercury-wire = mercury-bytes.page

pub mercury-vectors : Vectors
mercury-vectors = mercury-example.computed
