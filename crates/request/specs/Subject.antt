-- What a read request asks for. Source: document 01, "Frames": "Read: function 3, then parameter, offset, tariff, detail: 8 bytes in
-- all. Unused fields are 0", and the bullets of the parameters.
use Rattle.std.specs.Prelude.{None, Option, Some, Bool, true, false, cond, ◌&&◌, ℕ, ◌-◌, eqb, leb}
use Rattle.slots.specs.Key.{is_legal}
use Rattle.slots.specs.declared.key.Key.{Key}
use Rattle.parameters.specs.Table.{parameter_row, opens_to, parameter_of, reply_bytes}
use Rattle.parameters.specs.declared.code.Reading.{Reading}
use Rattle.parameters.specs.declared.code.Parameter.{Parameter}
use Rattle.parameters.specs.declared.table.Fields.{Fields}
use Rattle.parameters.specs.declared.table.Fields.TheVariants.{Unused, Phase, Slot, SixSlots}
use Rattle.request.specs.declared.request.Request.{Request}
use Rattle.request.specs.declared.subject.Subject.{Subject}

-- ---- the three fields

unfoldable pub unused : Request → Bool
unused q = eqb q.offset 0 && eqb q.tariff 0 && eqb q.detail 0

-- "detail 0 answers the total and A, B, C, details 1 to 3 one phase"
unfoldable pub is_phase : Request → Bool
is_phase q = eqb q.offset 0 && eqb q.tariff 0 && leb q.detail 3

-- "month 1..12, day 1..31, number .. in place of offset, tariff, detail"
abbrev pub key_of : Request → Key
key_of q = record { month = q.offset; day = q.tariff; number = q.detail }

-- whether they are such as the parameter has, where a day has so many slots; six slices are "the named slice and the five after it (house);
-- number at most 42 or 90"
abbrev pub fields_fit : Fields → Request → ℕ → Bool
fields_fit Unused q slots = unused q
fields_fit Phase q slots = is_phase q
fields_fit Slot q slots = is_legal (key_of q) slots
fields_fit SixSlots q slots = is_legal (key_of q) (slots - 5)

-- ---- what is asked for

-- the figures of a parameter, as stored or as displayed, by the detail
abbrev pub subject_with : Reading → Parameter → ℕ → Option Subject
subject_with reading parameter detail = Some (record { reading = reading; parameter = parameter; detail = detail })

-- by the parameter that is read: figures as they are stored, with function 3, or as they are displayed, with 4 (document 02, request 3)
unfoldable pub subject_for : Parameter → Request → ℕ → Option Subject
subject_for p q slots =
    cond (opens_to q.reading (parameter_row p) && fields_fit (parameter_row p).fields q slots) (subject_with q.reading p q.detail) None

-- what a request asks of a meter whose day has so many slots; nothing, where it would not answer with 0
unfoldable pub subject_of : Request → ℕ → Option Subject
unfolding subject_for
subject_of q slots = subject_for (parameter_of q.parameter) q slots

-- "number 0..47 (30 minutes) or 0..95 (15 minutes)": a day of 15-minute slices has every number that one of 30-minute ones has, so
-- "a request that no record would answer with 0" is one that asks for nothing by its slots
abbrev pub most_slots : ℕ
most_slots = 96

-- whether it asks for something
abbrev pub askable : Option Subject → Bool
askable (Some asked) = true
askable None = false

-- how many data bytes its answer has
abbrev pub data_bytes : Option Subject → ℕ
data_bytes (Some asked) = reply_bytes asked.reading asked.parameter asked.detail
data_bytes None = 0
