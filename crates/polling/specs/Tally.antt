-- What became of the asks, counted. Source: document 02, request 2: "The installers see 23 and can't tell cable from setting. Split it."
use Rattle.std.specs.Prelude.{ℕ, ◌+◌, cond, leb, ltb}
use Rattle.reader.specs.declared.form.Fault.{Fault}
use Rattle.reader.specs.declared.form.Fault.TheVariants as fault
use Rattle.polling.specs.declared.fate.Fate.{Fate}
use Rattle.polling.specs.declared.fate.Fate.TheVariants.{Taken, Silent, Malformed, Refused, Stopped}
use Rattle.polling.specs.declared.standing.Standing.{Standing}
use Rattle.polling.specs.declared.standing.Standing.TheVariants.{Due, NotOver, TooOld}
use Rattle.polling.specs.declared.tally.Faults.{Faults}
use Rattle.polling.specs.declared.tally.Tally.{Tally}
use Rattle.polling.specs.declared.tally.Passed.{Passed}

-- one more, and the largest number of 32 bits stays
unfoldable pub one_more : ℕ → ℕ
one_more n = cond (ltb n 4294967295) (n + 1) n

-- a sum, or the largest number of 32 bits
unfoldable pub sum_of : ℕ → ℕ → ℕ
sum_of a b = cond (leb (a + b) 4294967295) (a + b) 4294967295

-- one reply more that was not well formed, by its fault
unfoldable pub faulted_in : Faults → Fault → Faults
unfolding one_more
faulted_in f (fault.Length n) = record { length = one_more f.length; crc = f.crc; address = f.address; function = f.function; parameter = f.parameter }
faulted_in f fault.Crc = record { length = f.length; crc = one_more f.crc; address = f.address; function = f.function; parameter = f.parameter }
faulted_in f fault.Address = record { length = f.length; crc = f.crc; address = one_more f.address; function = f.function; parameter = f.parameter }
faulted_in f fault.Function = record { length = f.length; crc = f.crc; address = f.address; function = one_more f.function; parameter = f.parameter }
faulted_in f fault.Parameter = record { length = f.length; crc = f.crc; address = f.address; function = f.function; parameter = one_more f.parameter }

-- one ask more; one that stopped the poll is not counted
unfoldable pub counted_in : Tally → Fate → Tally
unfolding one_more faulted_in
counted_in t Taken = record { taken = one_more t.taken; silent = t.silent; faults = t.faults; refused = t.refused }
counted_in t Silent = record { taken = t.taken; silent = one_more t.silent; faults = t.faults; refused = t.refused }
counted_in t (Malformed fault) = record { taken = t.taken; silent = t.silent; faults = faulted_in t.faults fault; refused = t.refused }
counted_in t Refused = record { taken = t.taken; silent = t.silent; faults = t.faults; refused = one_more t.refused }
counted_in t (Stopped n) = t

-- one interval more that was not asked for
unfoldable pub passed_over : Passed → Standing → Passed
unfolding one_more
passed_over p Due = p
passed_over p NotOver = record { not_over = one_more p.not_over; too_old = p.too_old }
passed_over p TooOld = record { not_over = p.not_over; too_old = one_more p.too_old }

-- two parts of a poll in one
unfoldable pub faults_together : Faults → Faults → Faults
faults_together a b = record {
  length = sum_of a.length b.length;
  crc = sum_of a.crc b.crc;
  address = sum_of a.address b.address;
  function = sum_of a.function b.function;
  parameter = sum_of a.parameter b.parameter;
}

unfoldable pub together : Tally → Tally → Tally
together a b = record {
  taken = sum_of a.taken b.taken;
  silent = sum_of a.silent b.silent;
  faults = faults_together a.faults b.faults;
  refused = sum_of a.refused b.refused;
}

unfoldable pub passed_together : Passed → Passed → Passed
passed_together a b = record { not_over = sum_of a.not_over b.not_over; too_old = sum_of a.too_old b.too_old }
