-- What a lapse can come to, and what is then known: the one walk over its checks.
use Rattle.std.specs.Prelude.{Err, Ok, Option, Result, Some, None}
use Rattle.logger.specs.declared.no_reply.LapseError.{LapseError}
use mathlib.Core.Path.{◌≡◌, refl, sym, subst}
use mathlib.Core.Bool.{Bool, true, false, cond}
use mathlib.Core.List.{List}
use Prim.Native.Nat.{ℕ, ◌+◌, ◌<◌}
use native.Mathlib.Omega.{arith}
use lib.Dec.{ltb}
use borrow.Author.Tests.{ltb-true}
use Rattle.log_header.proofs.HeaderLaws.{by-sound}
use Rattle.log_cell.proofs.CellLaws.{by-good}
use Rattle.energy_log.specs.View.{View, view_of}
use Rattle.energy_log.proofs.ViewLaws.{changed, Within, Holds, view-applied}
use Rattle.log_header.specs.Interval.{interval_of}
use Rattle.log_header.proofs.IntervalLaws.{interval-below, by-at}
use Rattle.log_header.specs.declared.header.Header.{Header}
use Rattle.energy_log.specs.declared.image.Change.TheVariants as change
use Rattle.logger.specs.Held.{OpenFor}
use Rattle.logger.specs.Lapse.{lapses_most, one_more, stays, lapse_closes, lapsing, lapsed}
use Rattle.logger.proofs.TakeLaws.{by-open}
use Rattle.logger.specs.declared.no_reply.LapseError.TheVariants.{NotInLog, Unsound}
use Rattle.logger.specs.Lapse.{LapseDecision}
use Rattle.logger.specs.declared.held.OpenAsk.{OpenAsk}

-- whether an answer to a lapse is a refusal, which leaves the ask open
abbrev pub is_refused : Result Unit LapseError → Bool
is_refused (Ok tt) = false
is_refused (Err NotInLog) = true
is_refused (Err Unsound) = true

-- none was open, and nothing happens; or refused, and all stays; or the cell whose ask was open has one lapse more
pub record Ways (P : LapseDecision → Type 0) (v : View) (held : Option OpenAsk) : Type 0 where
  pub none : held ≡ None → P (lapse_closes change.None)
  pub refused : (a : Result Unit LapseError) → is_refused a ≡ true → P (stays a held)
  pub counted : (h : Header) (i : ℕ) → v.lent ≡ Some h → OpenFor h held i → P (lapse_closes (change.Lapses i (one_more (v.lapses i))))

-- what holds of all three ways holds of a lapse
pub lapsing-ways : (P : LapseDecision → Type 0) (v : View) (held : Option OpenAsk) → Ways P v held → P (lapsing v held)
unfolding lapsing
lapsing-ways P v held w =
    by-open P held w.none (λ a d t o.
    by-sound P v.lent (λ e. w.refused (Err Unsound) refl) (λ h e.
    by-at P (interval_of h d t) (λ n. w.refused (Err NotInLog) refl) (λ i n.
    by-good P (v.cell i) (λ b. w.refused (Err Unsound) refl) (λ c g.
    w.counted h i e (record { address = a; day = d; slot = t; open_ask = o; interval = n })))))

-- one lapse more still fits a byte, as the count stops at 255
pub one-more-fits : (n : ℕ) → one_more n < 256
unfolding one_more
one-more-fits n = go (ltb n lapses_most) refl
  where
    go : (b : Bool) → ltb n lapses_most ≡ b → cond b (n + 1) lapses_most < 256
    go true p = omega (arith, ltb-true n lapses_most p)
    go false p = omega arith

-- what it does to a log, a log can hold
pub lapsing-holds : (v : View) (held : Option OpenAsk) → Holds v (lapsing v held).change
lapsing-holds v held =
    lapsing-ways (λ (d : LapseDecision). Holds v d.change) v held (record {
      none = λ e. tt;
      refused = λ a n. tt;
      counted = λ h i e o.
          (subst (λ (a : Option Header). Within a i) (sym e) (interval-below h o.day o.slot i o.interval), one-more-fits (v.lapses i));
    })

-- what is seen of the log after it
pub lapsed-seen : (s : List ℕ) (held : Option OpenAsk) → view_of (lapsed s held).left ≡ changed (lapsing (view_of s) held).change (view_of s)
unfolding lapsed
lapsed-seen s held = view-applied s (lapsing (view_of s) held).change (lapsing-holds (view_of s) held)
