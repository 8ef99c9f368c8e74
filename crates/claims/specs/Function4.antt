-- Document 02, request 3, "Function 4". That what the meter answers to function 4 the reader decodes to the record's own figures, that a meter
-- does answer and that a reading changes nothing are demand 2's (`read`, `inquired`, `read_done`, `read_changes_nothing`, over `own_as`); here stand
-- the figures themselves, which parameters are open to it, and the ratios. Proofs: `function-4`, proofs/Claims.antt.
use Rattle.std.specs.Prelude.{◌≡◌, true, false, List, ℕ, ◌*◌, ◌≤◌, ◌<◌, length, Err, Ok}
use Rattle.byte_numbers.specs.Number.{Bytes}
use Rattle.frame.specs.Layout.{shortest}
use Rattle.parameters.specs.Table.{known, parameter_of}
use Rattle.parameters.specs.declared.code.Function.TheVariants as function
use Rattle.parameters.specs.declared.code.Parameter.TheVariants as parameter
use Rattle.parameters.specs.declared.code.Reading.TheVariants.{Displayed}
use Rattle.kilowatt_hours.specs.Nearest.{Nearest}
use Rattle.slots.specs.Day.{slots_of}
use Rattle.slots.specs.Key.{is_legal}
use Rattle.slots.specs.declared.key.Key.{Key}
use Rattle.request.specs.declared.request.Request.{Request}
use Rattle.reader.specs.declared.reply.Decoded.TheVariants as decoded
use Rattle.meter_store.specs.Store.{store_bytes, slice_of}
use Rattle.meter_record.specs.Ranges.{is_within}
use Rattle.meter_record.specs.Ratios.{are_ratios}
use Rattle.meter_record.specs.Record.{number_of, set_ratios}
use Rattle.meter_record.specs.Widths.{FitsRecord}
use Rattle.meter_record.specs.declared.record.Ratios.{Ratios}
use Rattle.meter_record.specs.declared.record.Record.{Record}
use Rattle.meter_command.specs.Judgement.{verdict_of}
use Rattle.meter_command.specs.Command.{command_of}
use Rattle.meter_command.specs.declared.access.Met.{Met}
use Rattle.meter_command.specs.declared.verdict.Refusal.TheVariants.{UnknownParameter, NotOpen}
use Rattle.claims.specs.Demand1.{answer_number}
use Rattle.claims.specs.Demand2.{answered}
use Rattle.claims.specs.Demand2Again.{read_back}
use Rattle.claims.specs.Figures.{own_energy, four_energies}

-- a slice of a meter, by its own address, as the display shows it
abbrev pub displayed_read : Record → Key → Request
displayed_read r k = record { reading = Displayed; address = r.address; parameter = 36; offset = k.month; tariff = k.day; detail = k.number }

pub record Function4 : Type 0 where
  -- "the exact figure is N x Ke x KI x KU / 1,000,000. The float must be the one nearest to that fraction, ties to even, zero as plus zero": for the
  -- counts of 16 bits and a record within its ranges, whose numbers fit their widths
  pub nearest : (r : Record) (n : ℕ) → is_within r ≡ true → FitsRecord r → n < 65536
      → Nearest (n * r.telemetry.ke * r.ratios.ki * r.ratios.ku) (own_energy r.telemetry.ke r.ratios n).0
  pub zero : (ke : ℕ) (k : Ratios) → (own_energy ke k 0).0 ≡ 0
  -- "For parameter 36, function 4 answers": for no other; "Parameters 8 and 9 and all others the meter knows answer 12 to function 4 for now"
  pub slices_alone : (r : Record) (s : List ℕ) (q : Request) (out : List ℕ) → q.reading ≡ Displayed → answer_number (answered r s q out) ≡ 0
      → parameter_of q.parameter ≡ parameter.Slice
  pub not_open : (met : Met) (r : Record) (f : List ℕ) → let c = command_of f in c.function ≡ function.Read Displayed → known c.row ≡ true
      → (c.parameter ≡ parameter.Slice → ⊥) → verdict_of met r c f ≡ Err NotOpen
  -- what the meter does not know is 11, and "10 no longer covers function 4, whose 4-byte frame gets 11"
  pub unknown : (met : Met) (r : Record) (f : List ℕ) → let c = command_of f in c.function ≡ function.Read Displayed → known c.row ≡ false
      → verdict_of met r c f ≡ Err UnknownParameter
  pub bare : (met : Met) (r : Record) (f : List ℕ) → let c = command_of f in c.function ≡ function.Read Displayed → c.length ≡ shortest → verdict_of met r c f ≡ Err UnknownParameter
  -- "The record gets the ratios KI and KU": the bench sets both, and they are in what is read after it
  pub ratios_done : (r : Record) (k : Ratios) → is_within r ≡ true → are_ratios k ≡ true → number_of (set_ratios r k) ≡ 0
  pub ratios_read : (r x : Record) (k : Ratios) (s : List ℕ) (key : Key) (room : List ℕ) → set_ratios r k ≡ Ok x → FitsRecord x → Bytes s
      → length s ≡ store_bytes → is_legal key (slots_of x.minutes) ≡ true → 64 ≤ length room
      → read_back x s (displayed_read x key) room ≡ Ok (decoded.Displayed (four_energies r.telemetry.ke k (slice_of s key)))
