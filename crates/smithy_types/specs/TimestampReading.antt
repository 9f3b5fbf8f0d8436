-- The texts that are read as a point in time, and the seconds since 1970 that they tell.
use Rattle.std.specs.Prelude.{ℕ, suc, ◌+◌, ◌-◌, ◌*◌, ◌^◌, nat_le, nat_lt, Bool, true, not, ◌&&◌, ◌==◌, codes, List, [], ◌∷◌, length, take, drop, position, Option, Some, None, option_map, option_and_then, if◌then◌else◌, ℤ, pos, neg_ℤ, ◌+ℤ◌, ◌*ℤ◌, int_le, int_lt, IfSome, ◌≡◌, FitsSigned}
use Rattle.std.specs.Int.{w64, is_in_range}
use Rattle.std.specs.List.{list_all}
use Rattle.std.specs.Cmp.Lexicographic.{pointwise}
use Rattle.std.specs.Str.Parse.{digits_value, signed_digits_value, starts_with_minus}
use Rattle.jiff_core.specs.Calendar.{days_in_month, days_from_civil}
use Rattle.smithy_types.specs.declared.date_time.Format.{Format}
use Rattle.smithy_types.specs.declared.date_time.Format.TheVariants.{EpochSeconds, DateTime, HttpDate}
use Rattle.smithy_types.specs.Texts.{same_text, is_one_of, ascii}
use Rattle.smithy_types.specs.BigNumbers.{is_digit, are_digits}
use Rattle.smithy_types.specs.Timestamps.{weekday_names, month_names, timestamp_text}

-- the text has a digit where the picture has a 0, and elsewhere the picture's byte
abbrev pub fits_picture : ℕ → ℕ → Bool
fits_picture p b = if p == 48 then is_digit b else p == b

unfoldable pub has_picture : List ℕ → List ℕ → Bool
has_picture picture text = pointwise fits_picture picture text

-- the number that so many digits from a place on write
abbrev pub number_at : ℕ → ℕ → List ℕ → ℕ
number_at place width text = digits_value 10 (take width (drop place text))

unfoldable pub is_weekday_name : List ℕ → Bool
is_weekday_name name = is_one_of name weekday_names

-- the month of a name, from 1 for January
unfoldable pub month_number : List ℕ → Option ℕ
month_number name = option_map suc (position (same_text name) month_names)

-- the year is 1 to 9999, and has this month, and the month this day
abbrev pub is_date : ℕ → ℕ → ℕ → Bool
is_date year month day = nat_le 1 year && is_in_range 1 12 month && is_in_range 1 (days_in_month (pos year) month) day

-- the number of a day, 0 for 1 January 1970, where there is such a date
unfoldable pub day_number : ℕ → ℕ → ℕ → Option ℤ
day_number year month day = if is_date year month day then Some (days_from_civil (pos year) month day) else None

-- the day of `YYYY-MM-DDT` (RFC 3339, section 5.6, `full-date`, and the `T` of `date-time`)
unfoldable pub full_date_of : List ℕ → Option ℤ
full_date_of text =
    if has_picture (codes "0000-00-00T") text then day_number (number_at 0 4 text) (number_at 5 2 text) (number_at 8 2 text) else None

-- a day's name, and digits and blanks as in `Tue, 09 Jan 2018 `
unfoldable pub has_short_date_form : List ℕ → Bool
has_short_date_form text =
    is_weekday_name (take 3 text) && (has_picture (codes ", 00 ") (take 5 (drop 3 text)) && has_picture (codes " 0000 ") (drop 11 text))

-- the day of `Tue, 09 Jan 2018 ` with any day's name (RFC 7231, section 7.1.1.1, `IMF-fixdate`)
unfoldable pub short_date_of : List ℕ → Option ℤ
short_date_of text =
    if has_short_date_form text
    then option_and_then (λ month. day_number (number_at 12 4 text) month (number_at 5 2 text)) (month_number (take 3 (drop 8 text)))
    else None

-- the second of the day of `HH:MM:SS`, without leap seconds (RFC 3339, section 5.6, `partial-time`)
unfoldable pub clock_of : List ℕ → Option ℕ
clock_of text =
    let hour = number_at 0 2 text in
    let minute = number_at 3 2 text in
    let second = number_at 6 2 text in
    if has_picture (codes "00:00:00") text && nat_lt hour 24 && nat_lt minute 60 && nat_lt second 60
    then Some (hour * 3600 + minute * 60 + second)
    else None

-- nothing, or a point and one or more zeros
abbrev pub is_zero_fraction : List ℕ → Bool
is_zero_fraction [] = true
is_zero_fraction (point ∷ zeros) = (point == ascii ".") && not (length zeros == 0) && list_all (λ b. b == 48) zeros

-- a fraction of zeros and the zone
unfoldable pub is_zone : List ℕ → List ℕ → Bool
is_zone zone text =
    let fraction = length text - length zone in
    is_zero_fraction (take fraction text) && same_text (drop fraction text) zone

-- a day in so many bytes, a clock, a fraction of zeros and the zone
abbrev pub calendar_time_of : ℕ → (List ℕ → Option ℤ) → List ℕ → List ℕ → Option ℤ
calendar_time_of width day_of zone text =
    if is_zone zone (drop 8 (drop width text))
    then option_and_then (λ day. option_map (λ clock. day *ℤ pos 86400 +ℤ pos clock) (clock_of (take 8 (drop width text)))) (day_of (take width text))
    else None

-- an optional `-` and digits, within 64 bits
abbrev pub epoch_seconds_of : List ℕ → Option ℤ
epoch_seconds_of text =
    let seconds = signed_digits_value 10 text in
    if are_digits (if starts_with_minus text then drop 1 text else text) && int_le (neg_ℤ (pos (2 ^ 63))) seconds && int_lt seconds (pos (2 ^ 63))
    then Some seconds
    else None

-- the point in time that a text tells, if it is one of the format
abbrev pub timestamp_of : Format → List ℕ → Option ℤ
timestamp_of EpochSeconds text = epoch_seconds_of text
timestamp_of DateTime text = calendar_time_of 11 full_date_of (codes "Z") text
timestamp_of HttpDate text = calendar_time_of 17 short_date_of (codes " GMT") text

-- the text that is written for a point in time is read as it
abbrev pub IsTimestampReadBack : Type 0
IsTimestampReadBack = (format : Format) (seconds : ℤ) → FitsSigned w64 seconds → IfSome (timestamp_text format seconds) (λ text. timestamp_of format text ≡ Some seconds)
