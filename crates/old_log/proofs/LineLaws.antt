-- The console's lines over an old and a new log that are alike: each is the call below it on the log at the image's front, and what stands behind is not the log's.
use mathlib.Core.Path.{◌≡◌, refl, sym, ap, ◌∙◌}
use mathlib.Core.Bool.{Bool, true, false, cond}
use mathlib.Core.List.{List, [], ◌∷◌, ◌++◌}
use Prim.Native.Nat.{ℕ, zero, suc, ◌+◌, ◌*◌, ◌/◌, ◌%◌, ◌≤◌, ◌<◌}
use native.Mathlib.Omega.{arith}
use lib.Dec.{eqb, leb, ltb}
use lib.ListN.{length, take, drop, get_or, replicate, length-append, length-take}
use lib.Seq.{take_at, length-take-le}
use borrow.Author.Tests.{le-ltb, le-leb, ltb-true, eqb-true, eqb-false}
use Rattle.std.specs.Prelude.{Err, None, Ok, Option, Result, Some}
use Rattle.refusal.specs.Outcome.{Outcome, outcome}
use Rattle.byte_numbers.specs.Number.{Bytes}
use Rattle.byte_numbers.specs.Place.{written}
use Rattle.test_laws.proofs.Test.{either}
use Rattle.frame.specs.Layout.{read_size}
use Rattle.energy_log.specs.Fresh.{fresh_number}
use Rattle.energy_log.specs.View.{View}
use Rattle.log_header.proofs.HeaderLaws.{sound-log}
use Rattle.energy_log.proofs.ImageLaws.{bytes-written}
use Rattle.energy_log.proofs.ViewLaws as new
use Rattle.energy_log.specs.declared.fresh.FreshError.{FreshError}
use Rattle.day_rows.specs.LogAndRows.{LogAndRows, log_and_rows}
use Rattle.log_file.specs.Read.{read_number}
use Rattle.log_file.specs.declared.read.ReadError.{ReadError}
use Rattle.logger.specs.Ask.{asked}
use Rattle.logger.specs.Lapse.{lapsing}
use Rattle.logger.specs.Take.{decided}
use Rattle.logger.specs.declared.held.OpenAsk.{OpenAsk}
use Rattle.text.specs.Hex.{hex_value}
use Rattle.c_claims.proofs.Ends.{read-refused}
use Rattle.console.specs.Line.{part_of, spaces_in, word_at}
use Rattle.console.specs.Value.{pair_at, pair_of, low_of, on_pair, read_from, bytes_read}
use Rattle.console.specs.Form.{is_form, byte_in, short_in, year_of}
use Rattle.console_log.specs.Words.{reply_read}
use Rattle.console_log.specs.Log.{with_ask, kept_after, kept_loaded}
use Rattle.console_log.specs.declared.logs.ConsoleLog.{ConsoleLog}
use Rattle.old_log.specs.Layout.{rows, columns, lapsed_in, taken_in}
use Rattle.old_log.specs.Same.{Alike, Made, SameMade, FileRooms}
use Rattle.old_log.specs.Lines.{fresh_year, fresh_line_in, loaded_in, ask_line_in, lapse_line_in, reply_bytes, reply_line_in, SameKept, SameLine, LineRooms}
use Rattle.old_log.proofs.OldRowLaws as laws
use Rattle.old_log.proofs.SameLaws as same

-- a log of k bytes laid over an image's front stands there, and the image has room for it
front : (s a : List ℕ) (k : ℕ) → length s ≡ k → take k (s ++ drop k a) ≡ s
front s a k e = take_at s (drop k a) k e

room : (s a : List ℕ) (k : ℕ) → length s ≡ k → k ≤ length (s ++ drop k a)
room s a k e = rw (length-append s (drop k a)) (omega (arith, e))

-- ---- lines that alter a log

-- what two calls left of the logs, laid over the images
laid : (a b s t : List ℕ) (k j : ConsoleLog) (g h : Option OpenAsk) → length s ≡ k.length → length t ≡ j.length → Alike s t → g ≡ h
    → SameKept (s ++ drop k.length a) (with_ask k g) (t ++ drop j.length b) (with_ask j h)
laid a b s t k j g h p q e same = record {
  old_room = room s a k.length p;
  new_room = room t b j.length q;
  seen = ap rows.view (front s a k.length p) ∙ e ∙ sym (ap columns.view (front t b j.length q));
  held = same;
}

module _ (line a b : List ℕ) (k j : ConsoleLog) (w : SameKept a k b j) where
  abbrev s : List ℕ
  s = take k.length a

  abbrev t : List ℕ
  t = take j.length b

  old-size : length s ≡ k.length
  old-size = length-take-le k.length a w.old_room

  new-size : length t ≡ j.length
  new-size = length-take-le j.length b w.new_room

  -- the field `ask` of `SameLines`
  pub same-ask : SameKept a (ask_line_in rows line a k) b (ask_line_in columns line b j)
  unfolding ask_line_in part_of
  same-ask = go (is_form line (255 ∷ 255 ∷ 255 ∷ [])) refl
    where
      go : (c : Bool) → is_form line (255 ∷ 255 ∷ 255 ∷ []) ≡ c → SameKept a (ask_line_in rows line a k) b (ask_line_in columns line b j)
      go false e = rw e w
      go true e =
          rw (e, le-leb _ _ w.old_room, le-leb _ _ w.new_room) (record {
            old_room = w.old_room;
            new_room = w.new_room;
            seen = w.seen;
            held = λ i. (asked (w.seen i) (w.held i) (byte_in line 1) (byte_in line 2) (byte_in line 3) (replicate read_size 0)).result.held;
          })

  -- its field `lapse`
  pub same-lapse : let o = lapse_line_in rows line a k in let n = lapse_line_in columns line b j in SameKept o.left o.result n.left n.result
  unfolding lapse_line_in lapsed_in
  same-lapse = go (eqb (spaces_in line) 0) refl
    where
      go : (c : Bool) → eqb (spaces_in line) 0 ≡ c → let o = lapse_line_in rows line a k in let n = lapse_line_in columns line b j in
          SameKept o.left o.result n.left n.result
      go false e = rw e w
      go true e =
          let z = same.same-lapse s t k.held j.held w.seen w.held in
          rw (e, le-ltb _ _ w.old_room, le-ltb _ _ w.new_room)
          (laid a b (lapsed_in rows s k.held).left (lapsed_in columns t j.held).left k j _ _
          (laws.length-applied (lapsing (rows.view s) k.held).change s ∙ old-size)
          (new.length-applied (lapsing (columns.view t) j.held).change t ∙ new-size) z.seen (λ i. (z.answer i).held))

  same_bytes : (figs y : List ℕ) → Bytes y → (n : ℕ) (buffer : List ℕ) → part_of n buffer ≡ y
      → SameLine (reply_bytes rows (Some n) buffer (log_and_rows a figs) k) (reply_bytes columns (Some n) buffer (log_and_rows b figs) j)
  unfolding reply_bytes taken_in
  same_bytes figs y bytes n buffer e =
      let z = same.same-take (log_and_rows s figs) (log_and_rows t figs) k.held j.held y w.seen refl w.held bytes in
      rw (e, le-ltb _ _ w.old_room, le-ltb _ _ w.new_room) (record {
        kept = laid a b (taken_in rows (log_and_rows s figs) k.held y).left.log (taken_in columns (log_and_rows t figs) j.held y).left.log k j _ _
            (laws.length-applied (decided (rows.view s) figs k.held y).result.change s ∙ old-size)
            (new.length-applied (decided (columns.view t) figs j.held y).result.change t ∙ new-size) z.seen (λ i. (z.answer i).held);
        figures = z.figures;
      })

-- ---- the bytes of a reply's digits are bytes

bytes-part : (n : ℕ) (s : List ℕ) → Bytes s → Bytes (take n s)
bytes-part zero s k j = omega arith
bytes-part (suc n) [] k j = omega arith
bytes-part (suc n) (b ∷ s) k zero = k 0
bytes-part (suc n) (b ∷ s) k (suc j) = bytes-part n s (λ i. k (suc i)) j

zeros : (n : ℕ) → Bytes (replicate n 0)
zeros zero j = omega arith
zeros (suc n) zero = omega arith
zeros (suc n) (suc j) = zeros n j

abbrev Small : Option ℕ → Type 0
Small (Some b) = b < 256
Small None = Unit

low_small : (h : ℕ) (low : Option ℕ) → Small (low_of h low)
unfolding low_of
low_small h (Some l) = go (ltb h 16) (ltb l 16) refl refl
  where
    go : (p q : Bool) → ltb h 16 ≡ p → ltb l 16 ≡ q → Small (cond p (cond q (Some (h * 16 + l)) None) None)
    go true true e f = omega (arith, ltb-true h 16 e, ltb-true l 16 f)
    go true false e f = tt
    go false q e f = tt
low_small h None = tt

pair_small : (high low : Option ℕ) → Small (pair_of high low)
unfolding pair_of
pair_small (Some h) low = low_small h low
pair_small None low = tt

one_byte : (b : ℕ) → b < 256 → Bytes (b ∷ [])
one_byte b l zero = l
one_byte b l (suc j) = omega arith

abbrev OfBytes : Outcome (Option ℕ) (List ℕ) → Type 0
OfBytes o = Bytes o.left

on-bytes : (x : Option ℕ) (go : ℕ → Outcome (Option ℕ) (List ℕ)) (stop : Outcome (Option ℕ) (List ℕ)) → Small x
    → ((b : ℕ) → b < 256 → OfBytes (go b)) → OfBytes stop → OfBytes (on_pair x go stop)
unfolding on_pair
on-bytes (Some b) go stop l on off = on b l
on-bytes None go stop l on off = off

read-bytes : (text : List ℕ) (pairs i n : ℕ) (out : List ℕ) → Bytes out → OfBytes (read_from text pairs i n out)
unfolding read_from pair_at
read-bytes text pairs i zero out k = k
read-bytes text pairs i (suc n) out k =
    on-bytes (pair_at text i) _ _ (pair_small (hex_value (get_or text (2 * i) 0)) (hex_value (get_or text (2 * i + 1) 0)))
    (λ b l. read-bytes text pairs (i + 1) n (written out i (b ∷ [])) (bytes-written out i (b ∷ []) k (one_byte b l))) k

reply-bytes : (line : List ℕ) (before : ℕ) (out : List ℕ) → Bytes out → Bytes (reply_read line before out).left
unfolding reply_read bytes_read
reply-bytes line before out k =
    let text = word_at before line in
    let n = length text / 2 in
    either OfBytes (eqb (spaces_in line) before)
    (either OfBytes (eqb (length text % 2) 0) (either OfBytes (eqb n 0) k (read-bytes text n 0 n out k)) k)
    (either OfBytes (eqb before (spaces_in line + 1)) k k)

part_bytes : (n : ℕ) (s : List ℕ) → Bytes s → Bytes (part_of n s)
unfolding part_of
part_bytes n s k = either (λ (x : List ℕ). Bytes x) (leb n (length s)) (bytes-part n s k) (λ j. omega arith)

-- what a line has of a reply
abbrev typed : List ℕ → Outcome (Option ℕ) (List ℕ)
typed line = reply_read line 1 (replicate 2048 0)

-- its field `reply`
pub same-reply : (line a b figs : List ℕ) (k j : ConsoleLog) → SameKept a k b j
    → SameLine (reply_line_in rows line (log_and_rows a figs) k) (reply_line_in columns line (log_and_rows b figs) j)
unfolding reply_line_in reply_bytes
same-reply line a b figs k j w = go (typed line).result
  where
    go : (x : Option ℕ)
        → SameLine (reply_bytes rows x (typed line).left (log_and_rows a figs) k) (reply_bytes columns x (typed line).left (log_and_rows b figs) j)
    go (Some n) =
        let buffer = (typed line).left in
        let bytes = part_bytes n buffer (reply-bytes line 1 (replicate 2048 0) (zeros 2048)) in
        same_bytes line a b k j w figs (part_of n buffer) bytes n buffer refl
    go None = record { kept = w; figures = refl }

-- ---- lines that make a log

-- a log that is there has room in its image
within : (n : ℕ) (s : List ℕ) → length (take n s) ≡ n → n ≤ length s
within n s e = let l = length-take n s in omega (arith, e, l)

module _ {A : Type 0} (number : A → ℕ) (done : ℕ → A) (keep : A → ConsoleLog → ConsoleLog)
    (told : (n : ℕ) (k : ConsoleLog) → keep (done n) k ≡ record { length = n; held = None })
    (left : (x : A) (k : ConsoleLog) → (number x ≡ 0 → ⊥) → keep x k ≡ k) where
  made_kept : (k j : ConsoleLog) (o n : Outcome A LogAndRows) → Made done o n → SameKept o.left.log (keep o.result k) n.left.log (keep n.result j)
  made_kept k j o n m =
      let h = m.header in
      let old-sound : (rows.view (take (rows.size h) o.left.log)).lent ≡ Some h = ap (λ (v : View). v.lent) m.seen ∙ m.sound in
      rw (m.old_told, m.new_told, told (rows.size h) k, told (columns.size h) j) (record {
        old_room = within (rows.size h) o.left.log (laws.sound-size (take (rows.size h) o.left.log) h old-sound);
        new_room = within (columns.size h) n.left.log (sound-log (take (columns.size h) n.left.log) h m.sound).size;
        seen = m.seen;
        held = refl;
      })

  -- a log that a line makes is held or not, alike: for `same-fresh` and `same_load`
  pub new-kept : (a b : List ℕ) (k j : ConsoleLog) (o n : Outcome A LogAndRows) → SameKept a k b j → SameMade number done a b o n
      → SameLine (outcome (keep o.result k) o.left) (outcome (keep n.result j) n.left)
  new-kept a b k j o n w m = go (eqb (number n.result) 0) refl
    where
      go : (c : Bool) → eqb (number n.result) 0 ≡ c → SameLine (outcome (keep o.result k) o.left) (outcome (keep n.result j) n.left)
      go true e = record { kept = made_kept k j o n (m.made (eqb-true _ _ e)); figures = m.figures }
      go false e =
          let r : number n.result ≡ 0 → ⊥ = eqb-false _ _ e in
          let x = m.refused r in
          record {
            kept = rw (left o.result k (λ z. r (sym m.answer ∙ z)), left n.result j r, x.0, x.1) w;
            figures = m.figures;
          }

fresh-left : (x : Result ℕ FreshError) (k : ConsoleLog) → (fresh_number x ≡ 0 → ⊥) → kept_after x k ≡ k
unfolding kept_after
fresh-left (Ok n) k r = absurd (r refl)
fresh-left (Err refusal) k r = refl

read_left : (x : Result ℕ ReadError) (k : ConsoleLog) → (read_number x ≡ 0 → ⊥) → kept_loaded x k ≡ k
unfolding kept_loaded
read_left x k r = read-refused x k _ r

-- its field `fresh`
pub same-fresh : (line a b figs : List ℕ) (k j : ConsoleLog) → SameKept a k b j → LineRooms line a b
    → SameLine (fresh_line_in rows line (log_and_rows a figs) k) (fresh_line_in columns line (log_and_rows b figs) j)
unfolding fresh_line_in fresh_year kept_after
same-fresh line a b figs k j w room = go (is_form line (65535 ∷ 255 ∷ 255 ∷ 255 ∷ 255 ∷ 65535 ∷ 255 ∷ [])) (year_of (short_in line 1)) refl
  where
    go : (c : Bool) (y : Option ℕ) → year_of (short_in line 1) ≡ y
        → SameLine (cond c (fresh_year rows y line (log_and_rows a figs) k) (outcome k (log_and_rows a figs))) (cond c (fresh_year columns y line (log_and_rows b figs) j) (outcome j (log_and_rows b figs)))
    go true (Some year) e =
        new-kept fresh_number Ok kept_after (λ n x. refl) fresh-left a b k j _ _ w (same.same-fresh _ a b figs (room year e))
    go true None e = record { kept = w; figures = refl }
    go false y e = record { kept = w; figures = refl }

-- its field `load`
pub same_load : (f a b figs : List ℕ) (k j : ConsoleLog) → SameKept a k b j → Bytes f → FileRooms f a b
    → SameLine (loaded_in rows f (log_and_rows a figs) k) (loaded_in columns f (log_and_rows b figs) j)
unfolding kept_loaded
same_load f a b figs k j w bytes room =
    new-kept read_number Ok kept_loaded (λ n x. refl) read_left a b k j _ _ w (same.same_read f a b figs bytes room)
