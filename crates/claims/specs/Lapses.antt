-- Document 02, CR 7, "Never asked, or asked and not answered?". That a history fixes a cell's lapses, "added to what the file held and cut at 255", is demand 3's
-- `log`; that a refused lapse leaves all that it was lent, demand 1's; here stands what a reader of the request looks for beside them. Proofs: `lapses`,
-- proofs/Claims.antt.
use Rattle.std.specs.Prelude.{◌≡◌, cond, List, ℕ, ◌+◌, ◌*◌, ◌<◌, ltb, length, take, Err, Ok, Some, None, Option}
use Rattle.refusal.specs.Outcome.{outcome}
use Rattle.byte_numbers.specs.Number.{Bytes}
use Rattle.log_header.specs.Header.{cells_of, version_at, sound_of}
use Rattle.energy_log.specs.View.{view_of}
use Rattle.log_cell.specs.declared.cell.Cell.{Cell}
use Rattle.log_header.specs.declared.header.Header.{Header}
use Rattle.day_rows.specs.LogAndRows.{LogAndRows, log_and_rows}
use Rattle.log_file.specs.File.{file_header}
use Rattle.log_file.specs.Read.{read_file}
use Rattle.log_file.specs.declared.read.ReadError.TheVariants as read
use Rattle.logger.specs.Held.{OpenFor}
use Rattle.logger.specs.Lapse.{lapsed, one_more}
use Rattle.logger.specs.Take.{taken}
use Rattle.logger.specs.declared.held.OpenAsk.{OpenAsk}
use Rattle.claims.specs.Seasons.{Begun}

pub record Lapses : Type 0 where
  -- "A lapse with an open ask now changes that byte": by one, "staying at 255"; the cell stays, the ask closes, the answer is 0
  pub counted : (s : List ℕ) (h : Header) (held : Option OpenAsk) (i : ℕ) (c : Cell) → sound_of s ≡ Some h → OpenFor h held i → (view_of s).cell i ≡ Some c
      → let o = lapsed s held in let v = view_of o.left in
      (o.result ≡ record { answer = Ok tt; held = None }) × (v.lapses i ≡ one_more ((view_of s).lapses i)) × (v.cell i ≡ Some c)
  pub below : (n : ℕ) → n < 255 → one_more n ≡ n + 1
  pub stays : one_more 255 ≡ 255
  -- a reply is no lapse, whatever it is: well formed or not, refused by the meter, with other counts
  pub no_lapse : (b : LogAndRows) (held : Option OpenAsk) (y : List ℕ) → Bytes y → (i : ℕ) → (view_of (taken b held y).left.log).lapses i ≡ (view_of b.log).lapses i
  -- "Versions 1 and 2 are read with zero lapses"; that a start's file of such a version, where it has none, is read is demand 3's `file_had`
  pub early : (f out figs : List ℕ) (n : ℕ) → Bytes f → version_at f < 3 → let o = read_file f out figs in o.result ≡ Ok n
      → (i : ℕ) → (view_of (take n o.left.log)).lapses i ≡ 0
  -- "33 goes by the version's cell size": 9 bytes in versions 1 and 2, 10 in version 3, behind the header's 14 and before the CRC's 2
  pub other_length : (f out figs : List ℕ) (h : Header) → Begun f → file_header f ≡ Some h → (length f ≡ 14 + cond (ltb (version_at f) 3) 9 10 * cells_of h + 2 → ⊥)
      → read_file f out figs ≡ outcome (Err read.WrongLength) (log_and_rows out figs)
