-- A log and its figures, lent together. Source: document 02, CR 8: "Keep each day's eight report figures beside the log".
use Rattle.std.specs.Prelude.{ℕ, Bool, List, leb, length}
use Rattle.log_header.specs.declared.header.Header.{Header}
use Rattle.day_rows.specs.Rows.{figures_of}

pub record LogAndRows : Type 0 where
  pub log : List ℕ
  pub figures : List ℕ

abbrev pub log_and_rows : List ℕ → List ℕ → LogAndRows
log_and_rows s figs = record { log = s; figures = figs }

-- else 1: "right after a lent log's header and length, if fewer are lent"
abbrev pub enough : Header → List ℕ → Bool
enough h figs = leb (figures_of h) (length figs)
