-- Dates as text. Source: document 01, "Marked examples": `2024-05-17`.
use Rattle.std.specs.Prelude.{List, ◌∷◌, ◌++◌, ℕ, ◌+◌}
use Rattle.calendar.specs.declared.date.Date.{Date}
use Rattle.text.specs.Decimal.{padded}

-- the sign between the parts of a date
abbrev pub hyphen : ℕ
hyphen = 45

-- the year in four digits, the month and the day in two each
unfoldable pub date_text : Date → List ℕ
date_text d = padded 4 (2000 + d.year) ++ (hyphen ∷ (padded 2 d.month ++ (hyphen ∷ padded 2 d.day)))
