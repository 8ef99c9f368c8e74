-- The same in another order, and replies that do not contradict each other. Document 02, CR 13: "in another order"; "no interval has two different
-- nonzero replies among them".
use Rattle.std.specs.Prelude.{◌≡◌, false, ℕ, ◌<◌}
use mathlib.Core.List.{List, [], ◌∷◌, ◌++◌, Memᴰ}
use Rattle.log_header.specs.Header.{cells_of}
use Rattle.day_rows.specs.LogAndRows.{LogAndRows}
use Rattle.logger.specs.Book.{is_zero}
use Rattle.wire_values.specs.declared.row.Row.{Row}
use Rattle.claims.specs.Demand3.{Start}
use Rattle.polling_order.specs.Completed.{Completed, replies_at}

-- "in another order": the two lists hold the same, each as often. The first of the one stands somewhere in the other, and without it they are so again
abbrev pub Reordered : {A : Type 0} → List A → List A → Type 0
Reordered [] others = others ≡ []
Reordered {A} (x ∷ xs) others = (before : List A) × (behind : List A) × (others ≡ before ++ (x ∷ behind)) × Reordered xs (before ++ behind)

-- no two of some replies are nonzero and different
abbrev pub OneReply : List Row → Type 0
OneReply rows = (q r : Row) → Memᴰ q rows → Memᴰ r rows → is_zero q ≡ false → is_zero r ≡ false → q ≡ r

-- "no interval has two different nonzero replies among them"
abbrev pub OneReplyEach : {b : LogAndRows} → Start b → List Completed → Type 0
OneReplyEach start ds = (i : ℕ) → i < cells_of start.header → OneReply (replies_at start ds i)
