-- What is written for a point in time is read as it.
use Rattle.std.proofs.Common.{◌≡◌, refl, sym, ap, ◌∙◌, ◌⊎◌, inl, inr, ℕ, zero, suc, ◌+◌, ◌-◌, ◌*◌, ◌/◌, ◌%◌, ◌<◌, ◌≤◌, ◌^◌, Bool, true, false, cond, ◌&&◌, List, [], ◌∷◌, ◌++◌, length, take, drop, codes, nat_eq, nat_lt, slice_get, unwrap_or, option_map, Option, Some, None, IfSome, ℤ, pos, negsuc, ◌+ℤ◌, ◌*ℤ◌, ◌≤ℤ◌, neg_ℤ, int_le, FitsSigned, w64, unsigned_abs, append_assoc, decimal, arith}
use Rattle.std.proofs.Math.Seq.{take-append_seam, drop-append_seam}
use Rattle.std.specs.List.{starts_with}
use Rattle.std.specs.Result.{result_ok}
use Rattle.std.specs.Char.{digit_value}
use Rattle.std.specs.Cmp.Derive.{both_true}
use Rattle.std.specs.Fmt.{signed_decimal}
use Rattle.std.specs.Int.Signed.{mag}
use Rattle.std.specs.Str.Parse.{AllDigits}
use Rattle.std.proofs.lemmas.Bool.{and_parts, ne_eqb, lt-ltb, le-leb}
use Rattle.std.proofs.lemmas.Fmt.{decimal_is_IsNumeral, parse-signed_decimal}
use Rattle.std.proofs.lemmas.Str.Parse.{digit_from_value}
use Rattle.jiff_core.specs.Calendar.{days_in_month, days_from_civil}
use Rattle.jiff_core.proofs.CalendarLemmas.{days_from_civil-day_count, days_in_month_bounds}
use Rattle.jiff_core.proofs.SignedLemmas.{signed_arith}
use borrow.Author.Differences.{up, down}
use Rattle.smithy_types.specs.declared.date_time.Format.{Format}
use Rattle.smithy_types.specs.declared.date_time.Format.TheVariants.{EpochSeconds, DateTime, HttpDate}
use Rattle.smithy_types.specs.Calendar.{date_of}
use Rattle.smithy_types.specs.Texts.{padded_decimal}
use Rattle.smithy_types.specs.BigNumbers.{is_digit}
use Rattle.smithy_types.specs.Timestamps.{weekday_names, weekday_name, month_names, full_date_text, short_date_text, clock_text, date_time_text, http_date_text, calendar_text, is_in_calendar}
use Rattle.smithy_types.specs.TimestampReading.{has_picture, is_weekday_name, month_number, day_number, full_date_of, has_short_date_form, short_date_of, clock_of, is_zone, calendar_time_of, epoch_seconds_of, timestamp_of, IsTimestampReadBack}
use Rattle.smithy_types.proofs.CalendarLaws.{day_count-date_of}
use Rattle.smithy_types.proofs.DateLaws.{IsReal, date_of-is_real, first_count}
use Rattle.smithy_types.proofs.DigitLaws.{digit_byte, digit_byte-value, padded_two, padded_four}
use Rattle.smithy_types.proofs.EpochReading.{read_seconds, parsed}
use Rattle.smithy_types.proofs.Readings.{within}

-- seconds

digits_no_plus : (ds : List ℕ) → AllDigits 10 ds → starts_with nat_eq ds (codes "+") ≡ false
digits_no_plus [] h = refl
digits_no_plus (d ∷ ds) h =
    let r = digit_from_value d h.0 in
    rw (ne_eqb 43 d (λ e. omega (arith, r))) refl

decimal_no_plus : (z : ℤ) → FitsSigned w64 z → starts_with nat_eq (signed_decimal z) (codes "+") ≡ false
decimal_no_plus (pos n) fits = digits_no_plus (decimal n) (decimal_is_IsNumeral n (omega (arith, signed_arith))).0.1
decimal_no_plus (negsuc n) fits = refl

small : (z : ℤ) → FitsSigned w64 z → mag z < 2 ^ 63
small (pos n) fits = omega (arith, signed_arith)
small (negsuc n) fits = omega (arith, signed_arith)

seconds_read : (z : ℤ) → FitsSigned w64 z → epoch_seconds_of (signed_decimal z) ≡ Some z
seconds_read z fits =
    let text = signed_decimal z in
    let plus = decimal_no_plus z fits in
    let given = parsed text plus in
    sym (read_seconds text given.0 given.1 plus) ∙ ap result_ok (parse-signed_decimal w64 z text given.0 fits (small z fits) refl given.1)

-- numbers

two_value : (n : ℕ) → n < 100 → (0 + digit_value (48 + n / 10)) * 10 + digit_value (48 + n % 10) ≡ n
two_value n few = omega (arith, digit_byte-value (n / 10) (omega arith), digit_byte-value (n % 10) (omega arith))

four_value : (n : ℕ) → n < 10000
    → (((0 + digit_value (48 + n / 10 / 10 / 10)) * 10 + digit_value (48 + n / 10 / 10 % 10)) * 10 + digit_value (48 + n / 10 % 10)) * 10 + digit_value (48 + n % 10) ≡ n
four_value n few =
    omega (arith, digit_byte-value (n / 10 / 10 / 10) (omega arith), digit_byte-value (n / 10 / 10 % 10) (omega arith), digit_byte-value (n / 10 % 10) (omega arith), digit_byte-value (n % 10) (omega arith))

two_pictured : (n : ℕ) (rest : Bool) → n < 100 → rest ≡ true → (is_digit (48 + n / 10) && (is_digit (48 + n % 10) && rest)) ≡ true
two_pictured n rest few e = both_true (digit_byte (n / 10) (omega arith)) (both_true (digit_byte (n % 10) (omega arith)) e)

four_pictured : (n : ℕ) (rest : Bool) → n < 10000 → rest ≡ true
    → (is_digit (48 + n / 10 / 10 / 10) && (is_digit (48 + n / 10 / 10 % 10) && (is_digit (48 + n / 10 % 10) && (is_digit (48 + n % 10) && rest)))) ≡ true
four_pictured n rest few e =
    both_true (digit_byte (n / 10 / 10 / 10) (omega arith))
    (both_true (digit_byte (n / 10 / 10 % 10) (omega arith)) (both_true (digit_byte (n / 10 % 10) (omega arith)) (both_true (digit_byte (n % 10) (omega arith)) e)))

-- parts of a calendar's text

told : (p a b c : Bool) (v w : ℕ) → p ≡ true → a ≡ true → b ≡ true → c ≡ true → v ≡ w → cond (p && a && b && c) (Some v) None ≡ Some w
told p a b c v w ep ea eb ec e = ap (λ t. cond t (Some v) None) (both_true (both_true (both_true ep ea) eb) ec) ∙ ap Some e

clock_read : (seconds : ℕ) → seconds < 86400 → clock_of (clock_text seconds) ≡ Some seconds
unfolding clock_of has_picture
clock_read seconds few =
    let h = seconds / 3600 in
    let m = seconds / 60 % 60 in
    let s = seconds % 60 in
    rw (padded_two h (omega arith), padded_two m (omega arith), padded_two s (omega arith), two_value h (omega arith), two_value m (omega arith), two_value s (omega arith))
    (told _ (nat_lt h 24) (nat_lt m 60) (nat_lt s 60) (h * 3600 + m * 60 + s) seconds
    (two_pictured h _ (omega arith) (two_pictured m _ (omega arith) (two_pictured s true (omega arith) refl)))
    (lt-ltb h 24 (omega arith)) (lt-ltb m 60 (omega arith)) (lt-ltb s 60 (omega arith)) (omega arith))

full_date_read : (year month day : ℕ) → year < 10000 → month < 100 → day < 100 → full_date_of (full_date_text year month day ++ codes "T") ≡ day_number year month day
unfolding full_date_of has_picture
full_date_read year month day y m d =
    rw (padded_four year y, padded_two month m, padded_two day d, four_value year y, two_value month m, two_value day d)
    (ap (λ b. cond b (day_number year month day) None) (four_pictured year _ y (two_pictured month _ m (two_pictured day true d refl))))

-- a name of three letters that a reader knows
record IsRead (P : List ℕ → Type 0) (name : List ℕ) : Type 0 where
  first : ℕ
  second : ℕ
  third : ℕ
  named : name ≡ first ∷ second ∷ third ∷ []
  read : P (first ∷ second ∷ third ∷ [])

weekday_at : (k : ℕ) → k < 7 → IsRead (λ name. is_weekday_name name ≡ true) (unwrap_or (slice_get weekday_names k) [])
unfolding is_weekday_name
weekday_at zero low = record { first = 77; second = 111; third = 110; named = refl; read = refl }
weekday_at (suc zero) low = record { first = 84; second = 117; third = 101; named = refl; read = refl }
weekday_at (suc (suc zero)) low = record { first = 87; second = 101; third = 100; named = refl; read = refl }
weekday_at (suc (suc (suc zero))) low = record { first = 84; second = 104; third = 117; named = refl; read = refl }
weekday_at (suc (suc (suc (suc zero)))) low = record { first = 70; second = 114; third = 105; named = refl; read = refl }
weekday_at (suc (suc (suc (suc (suc zero))))) low = record { first = 83; second = 97; third = 116; named = refl; read = refl }
weekday_at (suc (suc (suc (suc (suc (suc zero)))))) low = record { first = 83; second = 117; third = 110; named = refl; read = refl }
weekday_at (suc (suc (suc (suc (suc (suc (suc k))))))) low = absurd (omega arith)

month_at : (k : ℕ) → k < 12 → IsRead (λ name. month_number name ≡ Some (suc k)) (unwrap_or (slice_get month_names k) [])
unfolding month_number
month_at zero low = record { first = 74; second = 97; third = 110; named = refl; read = refl }
month_at (suc zero) low = record { first = 70; second = 101; third = 98; named = refl; read = refl }
month_at (suc (suc zero)) low = record { first = 77; second = 97; third = 114; named = refl; read = refl }
month_at (suc (suc (suc zero))) low = record { first = 65; second = 112; third = 114; named = refl; read = refl }
month_at (suc (suc (suc (suc zero)))) low = record { first = 77; second = 97; third = 121; named = refl; read = refl }
month_at (suc (suc (suc (suc (suc zero))))) low = record { first = 74; second = 117; third = 110; named = refl; read = refl }
month_at (suc (suc (suc (suc (suc (suc zero)))))) low = record { first = 74; second = 117; third = 108; named = refl; read = refl }
month_at (suc (suc (suc (suc (suc (suc (suc zero))))))) low = record { first = 65; second = 117; third = 103; named = refl; read = refl }
month_at (suc (suc (suc (suc (suc (suc (suc (suc zero)))))))) low = record { first = 83; second = 101; third = 112; named = refl; read = refl }
month_at (suc (suc (suc (suc (suc (suc (suc (suc (suc zero))))))))) low = record { first = 79; second = 99; third = 116; named = refl; read = refl }
month_at (suc (suc (suc (suc (suc (suc (suc (suc (suc (suc zero)))))))))) low = record { first = 78; second = 111; third = 118; named = refl; read = refl }
month_at (suc (suc (suc (suc (suc (suc (suc (suc (suc (suc (suc zero))))))))))) low = record { first = 68; second = 101; third = 99; named = refl; read = refl }
month_at (suc (suc (suc (suc (suc (suc (suc (suc (suc (suc (suc (suc k)))))))))))) low = absurd (omega arith)

short_date_read : (w1 w2 w3 n1 n2 n3 year month day : ℕ) → is_weekday_name (w1 ∷ w2 ∷ w3 ∷ []) ≡ true → month_number (n1 ∷ n2 ∷ n3 ∷ []) ≡ Some month → year < 10000 → day < 100
    → short_date_of ((w1 ∷ w2 ∷ w3 ∷ []) ++ codes ", " ++ (padded_decimal 2 day ++ codes " " ++ (n1 ∷ n2 ∷ n3 ∷ []) ++ codes " " ++ padded_decimal 4 year) ++ codes " ") ≡ day_number year month day
unfolding short_date_of has_short_date_form has_picture
short_date_read w1 w2 w3 n1 n2 n3 year month day weekday named y d =
    rw (padded_four year y, padded_two day d, four_value year y, two_value day d, weekday, named)
    (ap (λ b. cond b (day_number year month day) None) (both_true (two_pictured day true d refl) (four_pictured year true y refl)))

-- a text made of a day, a clock and the zone
time_read : (width : ℕ) (day_of : List ℕ → Option ℤ) (zone front clock tail : List ℕ) (day : ℤ) (seconds : ℕ)
    → length front ≡ width → length clock ≡ 8 → is_zone zone tail ≡ true → day_of front ≡ Some day → clock_of clock ≡ Some seconds
    → calendar_time_of width day_of zone (front ++ clock ++ tail) ≡ Some (day *ℤ pos 86400 +ℤ pos seconds)
time_read width day_of zone front clock tail day seconds wide eight zoned d c =
    let text = front ++ clock ++ tail in
    let grouped : text ≡ front ++ (clock ++ tail) = append_assoc front clock tail in
    let start : take width text ≡ front = ap (take width) grouped ∙ ap (λ k. take k (front ++ (clock ++ tail))) (sym wide) ∙ take-append_seam front (clock ++ tail) in
    let rest : drop width text ≡ clock ++ tail = ap (drop width) grouped ∙ ap (λ k. drop k (front ++ (clock ++ tail))) (sym wide) ∙ drop-append_seam front (clock ++ tail) in
    let middle : take 8 (drop width text) ≡ clock = ap (take 8) rest ∙ ap (λ k. take k (clock ++ tail)) (sym eight) ∙ take-append_seam clock tail in
    let end : drop 8 (drop width text) ≡ tail = ap (drop 8) rest ∙ ap (λ k. drop k (clock ++ tail)) (sym eight) ∙ drop-append_seam clock tail in
    let zone_there : is_zone zone (drop 8 (drop width text)) ≡ true = ap (is_zone zone) end ∙ zoned in
    let day_there : day_of (take width text) ≡ Some day = ap day_of start ∙ d in
    let clock_there : clock_of (take 8 (drop width text)) ≡ Some seconds = ap clock_of middle ∙ c in
    rw (zone_there, day_there, clock_there) refl

clock_length : (seconds : ℕ) → seconds < 86400 → length (clock_text seconds) ≡ 8
clock_length seconds few = rw (padded_two (seconds / 3600) (omega arith), padded_two (seconds / 60 % 60) (omega arith), padded_two (seconds % 60) (omega arith)) refl

moment : (z t : ℤ) (since : ℕ) → up z + 4371953 ≡ down z + (3652791 + since / 86400) → t +ℤ pos 62135596800 ≡ pos since → z *ℤ pos 86400 +ℤ pos (since % 86400) ≡ t
moment z t since days seconds = omega (arith, signed_arith)

-- a point in time of the years 1 to 9999, with its seconds since 1 January of year 1
module _ (t : ℤ) (since : ℕ) (few : since < 315537897600) (same : t +ℤ pos 62135596800 ≡ pos since) where
  real : IsReal (date_of (since / 86400))
  real = date_of-is_real (since / 86400) (omega arith)

  short_month : days_in_month (pos (date_of (since / 86400)).year) (date_of (since / 86400)).month ≤ 31
  short_month = (days_in_month_bounds (pos (date_of (since / 86400)).year) (date_of (since / 86400)).month).0

  number : day_number (date_of (since / 86400)).year (date_of (since / 86400)).month (date_of (since / 86400)).day
      ≡ Some (days_from_civil (pos (date_of (since / 86400)).year) (date_of (since / 86400)).month (date_of (since / 86400)).day)
  unfolding day_number
  number =
      let d = date_of (since / 86400) in
      let r = real in
      ap (λ b. cond b (Some (days_from_civil (pos d.year) d.month d.day)) None)
      (both_true (both_true (le-leb 1 d.year r.year_low) (within 1 12 d.month r.in_year.month_low r.in_year.month_high)) (within 1 (days_in_month (pos d.year) d.month) d.day r.in_year.day_low r.in_year.day_high))

  reached : days_from_civil (pos (date_of (since / 86400)).year) (date_of (since / 86400)).month (date_of (since / 86400)).day *ℤ pos 86400 +ℤ pos (since % 86400) ≡ t
  reached =
      let d = date_of (since / 86400) in
      moment (days_from_civil (pos d.year) d.month d.day) t since (omega (arith, days_from_civil-day_count (pos d.year) d.month d.day, day_count-date_of (since / 86400), first_count)) same

  date_time_read : timestamp_of DateTime (date_time_text since) ≡ Some t
  unfolding is_zone
  date_time_read =
      let d = date_of (since / 86400) in
      let r = real in
      let short = short_month in
      time_read 11 full_date_of (codes "Z") (full_date_text d.year d.month d.day ++ codes "T") (clock_text (since % 86400)) (codes "Z") (days_from_civil (pos d.year) d.month d.day) (since % 86400)
      (rw (padded_four d.year (omega arith), padded_two d.month (omega arith), padded_two d.day (omega arith)) refl)
      (clock_length (since % 86400) (omega arith))
      refl
      (full_date_read d.year d.month d.day (omega arith) (omega arith) (omega arith) ∙ number)
      (clock_read (since % 86400) (omega arith))
      ∙ ap Some reached

  http_date_read : timestamp_of HttpDate (http_date_text since) ≡ Some t
  unfolding is_zone
  http_date_read =
      let d = date_of (since / 86400) in
      let r = real in
      let short = short_month in
      let w = weekday_at (since / 86400 % 7) (omega arith) in
      let m = month_at (d.month - 1) (omega arith) in
      let back : suc (d.month - 1) ≡ d.month = omega arith in
      time_read 17 short_date_of (codes " GMT") (weekday_name (since / 86400) ++ codes ", " ++ short_date_text d.year d.month d.day ++ codes " ") (clock_text (since % 86400)) (codes " GMT") (days_from_civil (pos d.year) d.month d.day) (since % 86400)
      (rw (w.named, m.named, padded_four d.year (omega arith), padded_two d.day (omega arith)) refl)
      (clock_length (since % 86400) (omega arith))
      refl
      (rw (w.named, m.named) (short_date_read w.first w.second w.third m.first m.second m.third d.year d.month d.day w.read (m.read ∙ ap Some back) (omega arith) (omega arith)) ∙ number)
      (clock_read (since % 86400) (omega arith))
      ∙ ap Some reached

  calendar_read : (format : Format) → (format ≡ DateTime) ⊎ (format ≡ HttpDate) → timestamp_of format (calendar_text format since) ≡ Some t
  calendar_read EpochSeconds (inl h) = absurd (cc h)
  calendar_read EpochSeconds (inr h) = absurd (cc h)
  calendar_read DateTime h = date_time_read
  calendar_read HttpDate h = http_date_read

natural : (z : ℤ) → pos 0 ≤ℤ z → z ≡ pos (unsigned_abs z)
natural (pos n) h = refl
natural (negsuc n) h = absurd (omega (arith, signed_arith))

calendar_back : (format : Format) (t : ℤ) (b : Bool) → is_in_calendar t ≡ b → (format ≡ DateTime) ⊎ (format ≡ HttpDate)
    → IfSome (option_map (calendar_text format) (cond b (Some (unsigned_abs (t +ℤ pos 62135596800))) None)) (λ text. timestamp_of format text ≡ Some t)
calendar_back format t false inside h = tt
calendar_back format t true inside h =
    let parts = and_parts (int_le (neg_ℤ (pos 62135596800)) t) (int_le t (pos 253402300799)) inside in
    let low : int_le (neg_ℤ (pos 62135596800)) t ≡ true = parts.0 in
    let high : int_le t (pos 253402300799) ≡ true = parts.1 in
    let since = unsigned_abs (t +ℤ pos 62135596800) in
    let same : t +ℤ pos 62135596800 ≡ pos since = natural (t +ℤ pos 62135596800) (omega (arith, signed_arith)) in
    calendar_read t since (omega (arith, signed_arith)) same format h

pub timestamps_read_back : IsTimestampReadBack
timestamps_read_back EpochSeconds t fits = seconds_read t fits
timestamps_read_back DateTime t fits = calendar_back DateTime t (is_in_calendar t) refl (inl refl)
timestamps_read_back HttpDate t fits = calendar_back HttpDate t (is_in_calendar t) refl (inr refl)
