-- The texts of a point in time, which is a number of seconds since 1 January 1970.
use Rattle.std.specs.Prelude.{ℕ, ◌-◌, ◌/◌, ◌%◌, Bool, ◌&&◌, codes, List, [], ◌∷◌, ◌++◌, slice_get, unwrap_or, option_map, Option, Some, None, if◌then◌else◌, ℤ, pos, neg_ℤ, ◌+ℤ◌, int_le, unsigned_abs}
use Rattle.std.specs.Fmt.{signed_decimal}
use Rattle.smithy_types.specs.declared.date_time.Format.{Format}
use Rattle.smithy_types.specs.declared.date_time.Format.TheVariants.{EpochSeconds, HttpDate}
use Rattle.smithy_types.specs.Texts.{padded_decimal}
use Rattle.smithy_types.specs.Calendar.{date_of}

-- the year is 1 to 9999
abbrev pub is_in_calendar : ℤ → Bool
is_in_calendar seconds = int_le (neg_ℤ (pos 62135596800)) seconds && int_le seconds (pos 253402300799)

-- the seconds since 1 January of year 1, for years 1 to 9999
abbrev pub since_year_one : ℤ → Option ℕ
since_year_one seconds = if is_in_calendar seconds then Some (unsigned_abs (seconds +ℤ pos 62135596800)) else None

-- `HH:MM:SS`
abbrev pub clock_text : ℕ → List ℕ
clock_text seconds =
    padded_decimal 2 (seconds / 3600) ++ codes ":" ++ padded_decimal 2 (seconds / 60 % 60) ++ codes ":" ++ padded_decimal 2 (seconds % 60)

-- the English names of the days of the week in three letters (RFC 7231, section 7.1.1.1, `day-name`)
abbrev pub weekday_names : List (List ℕ)
weekday_names = codes "Mon" ∷ codes "Tue" ∷ codes "Wed" ∷ codes "Thu" ∷ codes "Fri" ∷ codes "Sat" ∷ codes "Sun" ∷ []

-- 0 is the day of 1 January of year 1, a Monday
abbrev pub weekday_name : ℕ → List ℕ
weekday_name day = unwrap_or (slice_get weekday_names (day % 7)) []

-- the English names of the months in three letters (RFC 7231, section 7.1.1.1, `month`)
abbrev pub month_names : List (List ℕ)
month_names = codes "Jan" ∷ codes "Feb" ∷ codes "Mar" ∷ codes "Apr" ∷ codes "May" ∷ codes "Jun" ∷ codes "Jul" ∷ codes "Aug" ∷ codes "Sep" ∷ codes "Oct" ∷ codes "Nov" ∷ codes "Dec" ∷ []

-- 1 is January
abbrev pub month_name : ℕ → List ℕ
month_name month = unwrap_or (slice_get month_names (month - 1)) []

-- `YYYY-MM-DD` (RFC 3339, section 5.6, `full-date`)
abbrev pub full_date_text : ℕ → ℕ → ℕ → List ℕ
full_date_text year month day = padded_decimal 4 year ++ codes "-" ++ padded_decimal 2 month ++ codes "-" ++ padded_decimal 2 day

-- `09 Jan 2018` (RFC 7231, section 7.1.1.1, `date1`)
abbrev pub short_date_text : ℕ → ℕ → ℕ → List ℕ
short_date_text year month day = padded_decimal 2 day ++ codes " " ++ month_name month ++ codes " " ++ padded_decimal 4 year

-- `YYYY-MM-DDTHH:MM:SSZ` (RFC 3339, section 5.6, `date-time`)
abbrev pub date_time_text : ℕ → List ℕ
date_time_text seconds =
    let date = date_of (seconds / 86400) in
    full_date_text date.year date.month date.day ++ codes "T" ++ clock_text (seconds % 86400) ++ codes "Z"

-- `Tue, 09 Jan 2018 18:47:00 GMT` (RFC 7231, section 7.1.1.1, `IMF-fixdate`)
abbrev pub http_date_text : ℕ → List ℕ
http_date_text seconds =
    let day = seconds / 86400 in
    let date = date_of day in
    weekday_name day ++ codes ", " ++ short_date_text date.year date.month date.day ++ codes " " ++ clock_text (seconds % 86400) ++ codes " GMT"

abbrev pub calendar_text : Format → ℕ → List ℕ
calendar_text HttpDate seconds = http_date_text seconds
calendar_text _ seconds = date_time_text seconds

-- the text in a format, or none where its calendar has no such year
abbrev pub timestamp_text : Format → ℤ → Option (List ℕ)
timestamp_text EpochSeconds seconds = Some (signed_decimal seconds)
timestamp_text format seconds = option_map (calendar_text format) (since_year_one seconds)
