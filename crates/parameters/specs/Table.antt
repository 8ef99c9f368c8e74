-- The table of parameters: source document 002, Appendix A (page 21), a row a parameter, as far as document 01 has a bullet for it.
--
-- Code, what a read's fields may be, what can be changed and zeroed are Appendix A's own columns. Beside them stand the bytes of the data in a
-- reply and in a change and how many figures they are (002, sections 4.3 to 4.14, and document 01's bullets), and the access that a change needs.
use Rattle.std.specs.Prelude.{Bool, true, false, cond, not, List, [], ◌∷◌, ℕ, eqb}
use Rattle.parameters.specs.declared.code.Parameter.{Parameter}
use Rattle.parameters.specs.declared.code.Reading.{Reading}
use Rattle.parameters.specs.declared.code.Reading.TheVariants.{Stored, Displayed}
use Rattle.parameters.specs.declared.table.Access.{Access}
use Rattle.parameters.specs.declared.table.Access.TheVariants.{Auxiliary, Main}
use Rattle.parameters.specs.declared.table.Changes.{Changes}
use Rattle.parameters.specs.declared.table.Fields.{Fields}
use Rattle.parameters.specs.declared.table.Fields.TheVariants.{Unused, Phase, Slot, SixSlots}
use Rattle.parameters.specs.declared.table.Reads.{Reads}
use Rattle.parameters.specs.declared.table.Row.{Row}
use Rattle.parameters.specs.declared.code.Parameter.TheVariants as parameter

-- ---- the columns

-- a parameter that can be read: what offset, tariff and detail are, how many bytes the reply's data have, and how many figures
abbrev pub read : Fields → ℕ → ℕ → Reads
read fields bytes figures = record { may = true; displayed = false; fields = fields; bytes = bytes; figures = figures }

-- one that function 4 reads too. Document 02, request 3: "For parameter 36, function 4 answers four 32-bit floats"; "Parameters 8 and 9 and all
-- others the meter knows answer 12 to function 4 for now"
abbrev pub read_both : Fields → ℕ → ℕ → Reads
read_both fields bytes figures = record { may = true; displayed = true; fields = fields; bytes = bytes; figures = figures }

-- "Unused fields are 0"
abbrev pub plain : ℕ → ℕ → Reads
plain bytes figures = read Unused bytes figures

abbrev pub unread : Reads
unread = record { may = false; displayed = false; fields = Unused; bytes = 0; figures = 0 }

-- one that can be changed: how many bytes the change's data have, and the details that it may have, from and to. "Main opens all changes;
-- auxiliary opens only network address, port settings and display mask."
abbrev pub by : Access → ℕ → ℕ → ℕ → Changes
by access bytes from to = record { may = true; access = access; bytes = bytes; from = from; to = to }

abbrev pub by_main : ℕ → ℕ → ℕ → Changes
by_main bytes from to = by Main bytes from to

abbrev pub by_auxiliary : ℕ → ℕ → ℕ → Changes
by_auxiliary bytes from to = by Auxiliary bytes from to

abbrev pub fixed : Changes
fixed = record { may = false; access = Main; bytes = 0; from = 0; to = 0 }

-- the last column: whether it can be zeroed
abbrev pub line : ℕ → Reads → Changes → Bool → Row
line code r c zeroable = record {
  code = code;
  readable = r.may;
  displayable = r.displayed;
  fields = r.fields;
  reply_bytes = r.bytes;
  figures = r.figures;
  changeable = c.may;
  access = c.access;
  change_bytes = c.bytes;
  detail_from = c.from;
  detail_to = c.to;
  zeroable = zeroable;
}

-- ---- the table

-- A row: code; fields of a read, bytes and figures of its reply; access, bytes and details of a change; whether it can be zeroed.
-- The detail of a change: 2 sets the clock (section 4.9, page 15), 0 and 1 name a password (section 4.14, page 19); "Password, parameter 37,
-- is written and never read." A parameter that has no bullet is unknown; the code 0 stands for it.
abbrev pub parameter_row : Parameter → Row
parameter_row parameter.ActivePower = line 8 (read Phase 16 4) fixed false
parameter_row parameter.ReactivePower = line 9 (read Phase 16 4) fixed false
parameter_row parameter.Address = line 21 (plain 1 1) (by_auxiliary 1 0 0) false
parameter_row parameter.Telemetry = line 24 (plain 8 3) (by_main 8 0 0) false
parameter_row parameter.SummerDate = line 27 (plain 6 6) (by_main 6 0 0) true
parameter_row parameter.WinterDate = line 28 (plain 6 6) (by_main 6 0 0) true
parameter_row parameter.Clock = line 32 (plain 6 6) (by_main 6 2 2) false
parameter_row parameter.DisplayMask = line 35 (plain 6 3) (by_auxiliary 6 0 0) false
parameter_row parameter.Slice = line 36 (read_both Slot 8 4) fixed true
parameter_row parameter.Password = line 37 unread (by_main 8 0 1) false
parameter_row parameter.SixSlices = line 40 (read SixSlots 48 24) fixed false
parameter_row parameter.Unknown = line 0 unread fixed false

-- ---- what is read from it

abbrev pub code_of : Parameter → ℕ
code_of p = (parameter_row p).code

-- whether a read opens it: function 3 what can be read, function 4 what it reads too
abbrev pub opens_to : Reading → Row → Bool
opens_to Stored w = w.readable
opens_to Displayed w = w.displayable

-- "every parameter with no bullet of its own": 11
abbrev pub known : Row → Bool
known w = not (eqb w.code 0)

-- the first of some parameters that has the code
unfoldable pub first_of : List Parameter → ℕ → Parameter
first_of [] n = parameter.Unknown
first_of (p ∷ ps) n = cond (eqb n (code_of p)) p (first_of ps n)

-- those that are known
abbrev pub parameters : List Parameter
parameters =
    parameter.ActivePower ∷ parameter.ReactivePower ∷ parameter.Address ∷ parameter.Telemetry ∷ parameter.SummerDate ∷ parameter.WinterDate
    ∷ parameter.Clock ∷ parameter.DisplayMask ∷ parameter.Slice ∷ parameter.Password ∷ parameter.SixSlices ∷ []

-- the parameter that a byte names
unfoldable pub parameter_of : ℕ → Parameter
unfolding first_of
parameter_of n = first_of parameters n

-- "detail 0 answers the total and A, B, C, details 1 to 3 one phase": one phase is 4 of the 16 bytes, one of the 4 figures
abbrev pub by_phase : Fields → ℕ → ℕ → ℕ → ℕ
by_phase Phase detail whole phase = cond (eqb detail 0) whole phase
by_phase Unused detail whole phase = whole
by_phase Slot detail whole phase = whole
by_phase SixSlots detail whole phase = whole

-- how many bytes the data of a reply have, and how many figures they are; what is displayed is "four 32-bit floats" (document 02, request 3)
abbrev pub bytes_in : Reading → Row → ℕ → ℕ
bytes_in Stored w detail = by_phase w.fields detail w.reply_bytes 4
bytes_in Displayed w detail = 16

unfoldable pub reply_bytes : Reading → Parameter → ℕ → ℕ
reply_bytes reading p detail = bytes_in reading (parameter_row p) detail

unfoldable pub figure_count : Reading → Parameter → ℕ → ℕ
figure_count Stored p detail = by_phase (parameter_row p).fields detail (parameter_row p).figures 1
figure_count Displayed p detail = 4
