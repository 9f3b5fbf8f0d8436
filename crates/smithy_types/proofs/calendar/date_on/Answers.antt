use Rattle.std.proofs.Common.{pos, ap, unsigned_abs, arith}
use Rattle.jiff_core.proofs.CalendarLemmas.{days_in_month_bounds}
use Rattle.smithy_types.specs.Calendar.{date_of}
use Rattle.smithy_types.proofs.DateLaws.{date_of-is_real, date_of-only, date_of-year}
use Rattle.smithy_types.proofs.calendar.date_on.Goals as goal

pub overflow_cast-result : goal.overflow_cast-result
overflow_cast-result c =
    let high = (date_of-is_real c.args.day c.requires).year_high in
    rw (date_of-year c.from_days_since_min-date.result c.args.day c.requires c.from_days_since_min-date.ensures) (tt, omega arith)

pub returns-clause-year : goal.returns-clause-year
returns-clause-year c = ap unsigned_abs (date_of-year c.from_days_since_min-date.result c.args.day c.requires c.from_days_since_min-date.ensures)

pub returns-clause-month : goal.returns-clause-month
returns-clause-month c = (date_of-only c.from_days_since_min-date.result c.args.day c.requires c.from_days_since_min-date.ensures).1

pub returns-clause-day : goal.returns-clause-day
returns-clause-day c = (date_of-only c.from_days_since_min-date.result c.args.day c.requires c.from_days_since_min-date.ensures).2

pub returns-clause-year_bound : goal.returns-clause-year_bound
returns-clause-year_bound c =
    let same = ap unsigned_abs (date_of-year c.from_days_since_min-date.result c.args.day c.requires c.from_days_since_min-date.ensures) in
    let high = (date_of-is_real c.args.day c.requires).year_high in
    omega arith

pub returns-clause-day_bound : goal.returns-clause-day_bound
returns-clause-day_bound c =
    let same = (date_of-only c.from_days_since_min-date.result c.args.day c.requires c.from_days_since_min-date.ensures).2 in
    let real = date_of-is_real c.args.day c.requires in
    let high = real.in_year.day_high in
    let month = (days_in_month_bounds (pos (date_of c.args.day).year) (date_of c.args.day).month).0 in
    omega arith
