-- The texts of times in bodies (Smithy, timestampFormat trait).
use Rattle.std.specs.Prelude.{ℕ, ◌-◌, ◌==◌, nat_le, Bool, true, false, codes, List, ◌++◌, length, slice_index, take, drop, ℤ, ◌+ℤ◌, ◌-ℤ◌, Option, Some, None, option_and_then, if◌then◌else◌}
use Rattle.std.specs.List.{before_first, after_first}
use Rattle.std.specs.Str.{str_to_ascii_uppercase}
use Rattle.smithy_types.specs.BigNumbers.{are_digits}
use Rattle.smithy_types.specs.Texts.{ascii}
use Rattle.smithy_types.specs.declared.date_time.Format.{Format}
use Rattle.smithy_types.specs.declared.date_time.Format.TheVariants.{DateTime, EpochSeconds, HttpDate}
use Rattle.smithy_types.specs.TimestampReading.{timestamp_of}
use Rattle.smithy_types.specs.Timestamps.{is_in_calendar}
use Rattle.smithy_wire.specs.Words.{option_map_or, option_or, same_text}

-- what stands before so many bytes at the end of a text, and these
abbrev pub before_end : ℕ → List ℕ → List ℕ
before_end n text = take (length text - n) text

abbrev pub at_end : ℕ → List ℕ → List ℕ
at_end n text = drop (length text - n) text

-- what stands before a blank at the end of a text, where there is one
abbrev pub before_blank : List ℕ → Option (List ℕ)
before_blank text = if same_text (at_end 1 text) (codes " ") then Some (before_end 1 text) else None

-- and what stands before a zone
abbrev pub before_zone : List ℕ → List ℕ → Option (List ℕ)
before_zone zone text = if same_text (at_end (length zone) text) zone then Some (before_end (length zone) text) else None

-- without a point and digits at its end
abbrev pub without_fraction : List ℕ → List ℕ
without_fraction text =
    if are_digits (after_first (λ b. b == ascii ".") text) then before_first (λ b. b == ascii ".") text else text

abbrev pub clipped : Bool → List ℕ → List ℕ
clipped floors text = if floors then without_fraction text else text

-- the seconds of a date and a clock in a zone; a fraction is dropped, or has to be of zeros
abbrev pub at_zone : Bool → Format → List ℕ → List ℕ → Option ℤ
at_zone floors format zone text = timestamp_of format (clipped floors text ++ zone)

-- six bytes from the end stands a sign: the one of a time that is behind
abbrev pub is_behind : ℕ → Option Bool
is_behind b = if b == ascii "+" then Some false else if b == ascii "-" then Some true else None

abbrev pub offset_sign : List ℕ → Option Bool
offset_sign text = if nat_le 6 (length text) then is_behind (slice_index text (length text - 6)) else None

-- the seconds of an offset, as of the clock that it is
abbrev pub clock_seconds : List ℕ → Option ℤ
clock_seconds clock = timestamp_of DateTime (codes "1970-01-01T" ++ (clock ++ codes ":00Z"))

-- the point in time in the zone `Z`, in the years 1 to 9999
abbrev pub in_calendar : ℤ → Option ℤ
in_calendar z = if is_in_calendar z then Some z else None

abbrev pub without_offset : Bool → ℤ → ℤ → Option ℤ
without_offset behind offset z = in_calendar (if behind then z +ℤ offset else z -ℤ offset)

-- a date-time before an offset `+HH:MM` or `-HH:MM`, to 23:59 (RFC 3339, section 5.6, `time-numoffset`)
abbrev pub before_offset : Bool → Bool → List ℕ → List ℕ → Option ℤ
before_offset floors behind front clock =
    option_and_then (λ offset. option_and_then (without_offset behind offset) (at_zone floors DateTime (codes "Z") front)) (clock_seconds clock)

abbrev pub at_offset : Bool → List ℕ → Option ℤ
at_offset floors text = option_and_then (λ behind. before_offset floors behind (before_end 6 text) (at_end 5 text)) (offset_sign text)

-- a date-time in capitals
abbrev pub in_zone : Bool → List ℕ → Option ℤ
in_zone floors text = option_map_or (at_zone floors DateTime (codes "Z")) (before_zone (codes "Z") text) (at_offset floors text)

-- The point in time that a text spells in a format: a date-time of RFC 3339 without leap seconds, letters in either case, or a date of
-- RFC 7231, section 7.1.1.1, with an optional fraction before the zone. A fraction other than zeros is dropped with `floors`.
abbrev pub spelled : Bool → Format → List ℕ → Option ℤ
spelled floors DateTime text = option_or (timestamp_of DateTime text) (in_zone floors (str_to_ascii_uppercase text))
spelled floors EpochSeconds text = timestamp_of EpochSeconds text
spelled floors HttpDate text =
    option_or (timestamp_of HttpDate text) (option_and_then (at_zone floors HttpDate (codes " GMT")) (before_zone (codes " GMT") text))
