-- The theorems: every claim of specs/ with its proof, which has the claim's name.
use Rattle.c_claims.specs.Demand1.{Demand1C}
use Rattle.c_claims.specs.Demand2.{Demand2C}
use Rattle.c_claims.specs.Demand3.{Demand3C}
use Rattle.c_claims.specs.Beginnings.{Beginnings}
use Rattle.c_claims.specs.Reading.{ReadForC}
use Rattle.c_claims.specs.RegisterToCell.{RegisterToCellC}
use Rattle.c_claims.specs.PollingOrder.{PollingOrderC}
use Rattle.c_claims.proofs.Ends as ends
use Rattle.c_claims.proofs.History as history
use Rattle.c_claims.proofs.Kept as kept
use Rattle.c_claims.proofs.Beginnings as begin
use Rattle.c_claims.proofs.Reading as reads
use Rattle.c_claims.proofs.RegisterToCell as round
use Rattle.c_claims.proofs.PollingOrder as order

pub demand-1 : Demand1C
demand-1 = record {
  log_fresh = ends.log_fresh;
  day_report = ends.day_report;
  write_file = ends.write_file;
  read-file = ends.read-file;
  cell = ends.cell;
  next-gap = ends.next-gap;
  ask = ends.ask;
  lapse = ends.lapse;
  lapse_none = ends.lapse_none;
  take = ends.take;
  take_length = ends.take_length;
  request = ends.request;
  decode = ends.decode;
  decode_length = ends.decode_length;
  meter_make = ends.meter_make;
  meter_second = ends.meter_second;
  meter_powers = ends.meter_powers;
  meter_ratios = ends.meter_ratios;
  meter_slice = ends.meter_slice;
  meter_answer = ends.meter_answer;
  meter_output = ends.meter_output;
  meter_length = ends.meter_length;
}

pub demand-2 : Demand2C
demand-2 = record { start = kept.start; make_start = kept.make_start; call = kept.call; list = kept.list; change = kept.change }

pub demand-3 : Demand3C
demand-3 = record {
  log = history.log;
  answers = history.answers;
  ask-left = history.ask-left;
  figures = history.figures;
  others = history.others;
  elsewhere = history.elsewhere;
  other_days = history.other_days;
  as_long = history.as_long;
  as_many = history.as_many;
  unread = history.unread;
}

pub beginnings : Beginnings
beginnings = record { none_open = begin.none_open; fresh = begin.fresh; fresh_had = begin.fresh_had; file = begin.file; file_had = begin.file_had }

pub reading : ReadForC
reading = record { read = reads.read; inquired = reads.inquired }

pub register-to-cell : RegisterToCellC
register-to-cell = record { met = round.met; joined = round.joined }

pub polling-order : PollingOrderC
polling-order = record { list_equal = order.list_equal; list_elsewhere = order.list_elsewhere; equal = order.equal; elsewhere = order.elsewhere }
