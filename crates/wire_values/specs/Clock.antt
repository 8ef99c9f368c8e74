-- Parameters 27, 28 and 32. Source: document 01, "Clock": "second, minute, hour, day, month, year - 2000, one byte each, in binary".
use Rattle.std.specs.Prelude.{List, [], ◌∷◌, ℕ}
use Rattle.byte_numbers.specs.Place.{byte_at}
use Rattle.calendar.specs.declared.time.DateTime.{DateTime}

-- the date and time that stand at the front of a data part
unfoldable pub date_time_of : List ℕ → DateTime
date_time_of bs = record {
  date = record { year = byte_at bs 5; month = byte_at bs 4; day = byte_at bs 3 };
  hour = byte_at bs 2;
  minute = byte_at bs 1;
  second = byte_at bs 0;
}

-- its six bytes
unfoldable pub date_time_bytes : DateTime → List ℕ
date_time_bytes t = t.second ∷ t.minute ∷ t.hour ∷ t.date.day ∷ t.date.month ∷ t.date.year ∷ []
