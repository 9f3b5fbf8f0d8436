use Rattle.std.specs.Prelude.{⊤}
use Rattle.std.specs.Fmt.{digits}
use Rattle.smithy_types.specs.Calendar.{date_of}
use Rattle.smithy_types.specs.TimestampReading.{has_picture, has_short_date_form, is_weekday_name, month_number, day_number, full_date_of, short_date_of, clock_of, is_zone}
use Rattle.jiff_core.specs.Calendar.{days_of_years, days_of_months, day_count, days_from_civil}

-- what a proof unfolds to compute this crate's definitions on a literal
unfoldable pub types_on_literals : ⊤
unfolding digits date_of has_picture has_short_date_form is_weekday_name month_number day_number full_date_of short_date_of clock_of is_zone days_of_years days_of_months day_count days_from_civil
types_on_literals = tt
