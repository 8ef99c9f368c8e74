-- Document 02, CR 7: what a lapse and a reply do to a cell's count of lapses, and the files of the versions before.
use mathlib.Core.Path.{◌≡◌, refl, ap, ◌∙◌}
use mathlib.Core.Bool.{Bool, true, false, cond}
use mathlib.Core.List.{List}
use Prim.Native.Nat.{ℕ, ◌+◌, ◌*◌, ◌<◌}
use lib.Dec.{leb, ltb}
use lib.ListN.{length, take}
use borrow.Author.Tests.{eq-eqb, lt-ltb, lt-leb, le-leb, ltb-true, ltb-false}
use Rattle.std.specs.Prelude.{Err, Ok, Result, Some, None, Option}
use Rattle.refusal.specs.Outcome.{outcome}
use Rattle.byte_numbers.specs.Number.{Bytes}
use Rattle.log_header.specs.Header.{cells_of, version_at, sound_of}
use Rattle.energy_log.specs.View.{View, view_of}
use Rattle.energy_log.proofs.ViewLaws.{changed, view-image}
use Rattle.log_cell.specs.declared.cell.Cell.{Cell}
use Rattle.log_header.specs.declared.header.Header.{Header}
use Rattle.day_rows.specs.LogAndRows.{LogAndRows, log_and_rows}
use Rattle.log_file.specs.File.{file_header, file_length_as}
use Rattle.log_file.specs.Row.{has_lapses, row_size_of, row_start}
use Rattle.log_file.specs.Read.{read_file}
use Rattle.log_file.proofs.FileLaws as file
use Rattle.log_file.specs.declared.read.ReadError.{ReadError}
use Rattle.log_file.specs.declared.read.ReadError.TheVariants as read
use Rattle.logger.specs.Held.{OpenFor}
use Rattle.logger.specs.Lapse.{lapse_closes, lapsing, lapsed, one_more}
use Rattle.logger.proofs.LapseLaws.{lapsed-seen}
use Rattle.logger.specs.Take as Take
use Rattle.logger.proofs.TakeLaws.{Step, decided-ways, taken-seen}
use Rattle.logger.specs.Lapse.{LapseDecision}
use Rattle.energy_log.specs.declared.image.Change.TheVariants as change
use Rattle.logger.specs.declared.held.OpenAsk.{OpenAsk}
use Rattle.claims.specs.Seasons.{Begun}
use Rattle.claims.proofs.Seasons.{wrong_length}

-- what a lapse comes to where its ask is for a good cell of the log
lapsing-counted : (v : View) (h : Header) (held : Option OpenAsk) (i : ℕ) (c : Cell) → v.lent ≡ Some h → OpenFor h held i → v.cell i ≡ Some c
    → lapsing v held ≡ lapse_closes (change.Lapses i (one_more (v.lapses i)))
unfolding lapsing
lapsing-counted v h held i c p o g = rw (o.open_ask, p, o.interval, g) refl

-- CR 7's `counted`: a lapse of an open ask counts one more for its cell, leaves the cell and closes the ask
pub counted : (s : List ℕ) (h : Header) (held : Option OpenAsk) (i : ℕ) (c : Cell) → sound_of s ≡ Some h → OpenFor h held i → (view_of s).cell i ≡ Some c
    → let o = lapsed s held in let v = view_of o.left in
    (o.result ≡ record { answer = Ok tt; held = None }) × (v.lapses i ≡ one_more ((view_of s).lapses i)) × (v.cell i ≡ Some c)
unfolding lapsed changed
counted s h held i c p o g =
    let v = view_of s in
    let d = lapsing-counted v h held i c p o g in
    let after : view_of (lapsed s held).left ≡ changed (change.Lapses i (one_more (v.lapses i))) v =
    lapsed-seen s held ∙ ap (λ (x : LapseDecision). changed x.change v) d in (
      ap (λ (x : LapseDecision). x.answered) d,
      ap (λ (w : View). w.lapses i) after ∙ ap (λ (b : Bool). cond b (one_more (v.lapses i)) (v.lapses i)) (eq-eqb i i refl),
      ap (λ (w : View). w.cell i) after ∙ g,
    )

-- CR 7's `below`: one more is one more up to 255
pub below : (n : ℕ) → n < 255 → one_more n ≡ n + 1
unfolding one_more
below n l = simp (lt-ltb n 255 l)

-- CR 7's `stays`: and 255 stays
pub stays : one_more 255 ≡ 255
unfolding one_more
stays = refl

-- CR 7's `no_lapse`: a reply, whatever it is, counts as no lapse for any cell
pub no_lapse : (b : LogAndRows) (held : Option OpenAsk) (y : List ℕ) → Bytes y → (i : ℕ) → (view_of (Take.taken b held y).left.log).lapses i ≡ (view_of b.log).lapses i
unfolding changed
no_lapse b held y bytes i =
    let v = view_of b.log in
    ap (λ (w : View). w.lapses i) (taken-seen b.log b.figures held y bytes)
    ∙ decided-ways (λ (o : Step). (changed o.result.change v).lapses i ≡ v.lapses i) v b.figures held y (record {
      kept-open = λ a n. refl;
      closed = λ a n. refl;
      put = λ h j old c e o g is done. refl;
    })

-- ---- files of versions 1 and 2

-- CR 7's `early`: files of versions 1 and 2 are read with zero lapses
pub early : (f out figs : List ℕ) (n : ℕ) → Bytes f → version_at f < 3 → let o = read_file f out figs in o.result ≡ Ok n
    → (i : ℕ) → (view_of (take n o.left.log)).lapses i ≡ 0
early f out figs n bytes e p i =
    let b = (read_file f out figs).left in
    let a = file.accepted f bytes out figs b.log b.figures n (ap (λ (r : Result ℕ ReadError). outcome r b) p) in
    let w = a.whole in
    ap (λ (s : List ℕ). (view_of s).lapses i) (file.image-front f out figs b.log b.figures n a)
    ∙ ap (λ (v : View). v.lapses i) (view-image a.header a.cells a.lapses w.right w.count w.each)
    ∙ none (ltb i (length a.cells)) (a.lapses i) (file.early-read f out figs b.log b.figures n a e i)
  where
    none : (b : Bool) (n : ℕ) → n ≡ 0 → cond b n 0 ≡ 0
    none true n p = p
    none false n p = refl

-- ---- a length by the version

size-by : (v : ℕ) (h : Header) → file_length_as v h ≡ 14 + cond (ltb v 3) 9 10 * cells_of h + 2
unfolding file_length_as row_start row_size_of has_lapses
size-by v h = go (ltb v 3) refl
  where
    go : (b : Bool) → ltb v 3 ≡ b → 14 + cond (leb 3 v) 10 9 * cells_of h + 2 ≡ 14 + cond b 9 10 * cells_of h + 2
    go true e = simp (lt-leb 3 v (ltb-true v 3 e))
    go false e = simp (le-leb 3 v (ltb-false v 3 e))

-- CR 7's `other_length`: a file that is not as long as its version's cells make it gets 33
pub other_length : (f out figs : List ℕ) (h : Header) → Begun f → file_header f ≡ Some h → (length f ≡ 14 + cond (ltb (version_at f) 3) 9 10 * cells_of h + 2 → ⊥)
    → read_file f out figs ≡ outcome (Err read.WrongLength) (log_and_rows out figs)
other_length f out figs h b e n = wrong_length f out figs h b e (λ q. n (q ∙ size-by (version_at f) h))
