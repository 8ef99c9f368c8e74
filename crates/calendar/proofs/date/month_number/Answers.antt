-- `month_number` meets its contract: the sum is the definition's own, and a date's month is at least 1, so taking 1 off is safe.
use Rattle.calendar.proofs.DateLaws.{ranges}
use Rattle.calendar.proofs.date.month_number.Goals as goal

pub overflow_sub-result : goal.overflow_sub-result
overflow_sub-result c = (ranges c.args.d c.requires).month-from
