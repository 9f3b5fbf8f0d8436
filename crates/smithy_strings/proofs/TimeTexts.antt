-- The texts of times are ASCII, and no white space stands at their ends: an HTTP date has one comma, the others have none.
use Rattle.std.proofs.Common.{◌≡◌, ◌≢◌, refl, sym, ◌∙◌, ap, subst, ℕ, zero, suc, ◌+◌, ◌-◌, ◌/◌, ◌%◌, ◌^◌, ◌<◌, ◌≤◌, nat_lt, arith, Bool, true, false, not, cond, ◌==◌, ◌&&◌, List, [], ◌∷◌, ◌++◌, length, replicate, codes, Some, None, option_map, unwrap_or, slice_get, ℤ, pos, negsuc, ne_eqb, ◌≤ℤ◌, ◌<ℤ◌}
use Rattle.std.specs.Prelude.{int_le, neg_ℤ, unsigned_abs, ◌+ℤ◌}
use Rattle.std.specs.Fmt.{decimal, signed_decimal}
use Rattle.std.specs.Char.{is_whitespace}
use Rattle.std.specs.List.{list_all}
use Rattle.std.specs.Str.Parse.{AllDigits}
use Rattle.std.proofs.lemmas.Bool.{agree_below_at, and_parts, and_from, lt-ltb}
use Rattle.std.proofs.lemmas.Fmt.{decimal_is_IsNumeral}
use Rattle.std.proofs.lemmas.List.{append_assoc}
use Rattle.std.proofs.lemmas.List.Folds.{list_all-append}
use Rattle.std.proofs.lemmas.Str.Parse.{digit_from_value}
use Rattle.jiff_core.proofs.CalendarLemmas.{days_in_month_bounds}
use Rattle.jiff_core.proofs.SignedLemmas.{signed_arith}
use Rattle.smithy_types.specs.Texts.{padded_decimal}
use Rattle.smithy_types.specs.Calendar.{date_of}
use Rattle.smithy_types.specs.declared.date_time.Format.{Format}
use Rattle.smithy_types.specs.declared.date_time.Format.TheVariants.{EpochSeconds, DateTime, HttpDate}
use Rattle.smithy_types.specs.TimestampReading.{timestamp_of, is_zone}
use Rattle.smithy_types.specs.Timestamps.{is_in_calendar, since_year_one, clock_text, weekday_name, weekday_names, month_name, full_date_text, short_date_text, date_time_text, http_date_text, calendar_text, timestamp_text}
use Rattle.smithy_serde.specs.Ranges.{is_signed_within}
use Rattle.smithy_types.proofs.DateLaws.{date_of-is_real}
use Rattle.smithy_types.proofs.DigitLaws.{padded_four}
use Rattle.smithy_http.specs.Quoting.{begins_with_white_space, ends_with_white_space}
use Rattle.smithy_strings.proofs.AsciiTexts.{are_low}
use Rattle.smithy_strings.proofs.UnwireLaws.{time_back}
use Rattle.smithy_strings.proofs.Widths.{long_magnitude}

-- Plain texts.

-- a byte that is ASCII and no comma
abbrev pub is_plain_byte : ℕ → Bool
is_plain_byte b = nat_lt b 128 && not (b == 44)

abbrev pub are_plain : List ℕ → Bool
are_plain text = list_all is_plain_byte text

-- a text without a comma that is not empty
pub record IsPlain (t : List ℕ) : Type 0 where
  pub plain : are_plain t ≡ true
  pub some : t ≢ []

-- a text with exactly one comma
pub record OneComma (t : List ℕ) : Type 0 where
  pub front : List ℕ
  pub back : List ℕ
  pub plain_front : are_plain front ≡ true
  pub plain_back : are_plain back ≡ true
  pub is : t ≡ front ++ 44 ∷ back

joined_plain : (a b : List ℕ) → are_plain a ≡ true → are_plain b ≡ true → are_plain (a ++ b) ≡ true
joined_plain a b p q = list_all-append is_plain_byte a b ∙ and_from (are_plain a) (are_plain b) p q

-- two texts and a mark between them
marked : (a mark b : List ℕ) → are_plain a ≡ true → are_plain mark ≡ true → are_plain b ≡ true → are_plain (a ++ mark ++ b) ≡ true
marked a mark b p q r = joined_plain (a ++ mark) b (joined_plain a mark p q) r

digits_plain : (ds : List ℕ) → AllDigits 10 ds → are_plain ds ≡ true
digits_plain [] all = refl
digits_plain (d ∷ ds) all =
    let r = digit_from_value d all.0 in
    and_from (is_plain_byte d) (are_plain ds) (and_from (nat_lt d 128) (not (d == 44)) (lt-ltb d 128 (omega (arith, r.1))) (ap not (ne_eqb d 44 (λ h. omega (arith, h, r.0))))) (digits_plain ds all.1)

decimal_plain : (n : ℕ) → n < 2 ^ 64 → are_plain (decimal n) ≡ true
decimal_plain n small = digits_plain (decimal n) (decimal_is_IsNumeral n small).0.1

zeros_plain : (k : ℕ) → are_plain (replicate k 48) ≡ true
zeros_plain zero = refl
zeros_plain (suc k) = zeros_plain k

padded_plain : (width n : ℕ) → n < 2 ^ 64 → are_plain (padded_decimal width n) ≡ true
padded_plain width n small = joined_plain (replicate (width - length (decimal n)) 48) (decimal n) (zeros_plain (width - length (decimal n))) (decimal_plain n small)

clock_plain : (s : ℕ) → s < 86400 → are_plain (clock_text s) ≡ true
clock_plain s small =
    marked (padded_decimal 2 (s / 3600) ++ codes ":" ++ padded_decimal 2 (s / 60 % 60)) (codes ":") (padded_decimal 2 (s % 60))
    (marked (padded_decimal 2 (s / 3600)) (codes ":") (padded_decimal 2 (s / 60 % 60)) (padded_plain 2 (s / 3600) (omega arith)) refl (padded_plain 2 (s / 60 % 60) (omega arith))) refl
    (padded_plain 2 (s % 60) (omega arith))

weekday_plain : (day : ℕ) → are_plain (weekday_name day) ≡ true
weekday_plain day = agree_below_at (λ k. are_plain (unwrap_or (slice_get weekday_names k) [])) (λ k. true) 7 (day % 7) refl (omega arith)

month_plain : (m : ℕ) → 1 ≤ m → m ≤ 12 → are_plain (month_name m) ≡ true
month_plain m low high =
    let same : m - 1 + 1 ≡ m = omega arith in
    subst (λ k. are_plain (month_name k) ≡ true) same (agree_below_at (λ k. are_plain (month_name (k + 1))) (λ k. true) 12 (m - 1) refl (omega arith))

-- Times of the calendar, by their seconds since 1 January of year 1.

record IsPlainDate (days : ℕ) : Type 0 where
  year : are_plain (padded_decimal 4 (date_of days).year) ≡ true
  month : are_plain (padded_decimal 2 (date_of days).month) ≡ true
  name : are_plain (month_name (date_of days).month) ≡ true
  day : are_plain (padded_decimal 2 (date_of days).day) ≡ true

plain_date : (days : ℕ) → days ≤ 3652058 → IsPlainDate days
plain_date days few =
    let d = date_of days in
    let r = date_of-is_real days few in
    let short = (days_in_month_bounds (pos d.year) d.month).0 in
    record {
      year = padded_plain 4 d.year (omega (arith, r.year_high));
      month = padded_plain 2 d.month (omega (arith, r.in_year.month_high));
      name = month_plain d.month r.in_year.month_low r.in_year.month_high;
      day = padded_plain 2 d.day (omega (arith, r.in_year.day_high, short));
    }

date_time_plain : (s : ℕ) → s < 315537897600 → are_plain (date_time_text s) ≡ true
date_time_plain s few =
    let date = date_of (s / 86400) in
    let d = plain_date (s / 86400) (omega arith) in
    joined_plain (full_date_text date.year date.month date.day ++ codes "T" ++ clock_text (s % 86400)) (codes "Z")
    (marked (full_date_text date.year date.month date.day) (codes "T") (clock_text (s % 86400))
    (marked (padded_decimal 4 date.year ++ codes "-" ++ padded_decimal 2 date.month) (codes "-") (padded_decimal 2 date.day) (marked (padded_decimal 4 date.year) (codes "-") (padded_decimal 2 date.month) d.year refl d.month) refl d.day) refl
    (clock_plain (s % 86400) (omega arith))) refl

-- an HTTP date behind its comma
abbrev behind_comma : ℕ → List ℕ
behind_comma s = let date = date_of (s / 86400) in codes " " ++ short_date_text date.year date.month date.day ++ codes " " ++ clock_text (s % 86400) ++ codes " GMT"

http_date_one_comma : (s : ℕ) → s < 315537897600 → OneComma (http_date_text s)
http_date_one_comma s few =
    let date = date_of (s / 86400) in
    let d = plain_date (s / 86400) (omega arith) in
    let short = marked (padded_decimal 2 date.day ++ codes " " ++ month_name date.month) (codes " ") (padded_decimal 4 date.year) (marked (padded_decimal 2 date.day) (codes " ") (month_name date.month) d.day refl d.name) refl d.year in
    record {
      front = weekday_name (s / 86400);
      back = behind_comma s;
      plain_front = weekday_plain (s / 86400);
      plain_back =
          joined_plain (codes " " ++ short_date_text date.year date.month date.day ++ codes " " ++ clock_text (s % 86400)) (codes " GMT")
          (marked (codes " " ++ short_date_text date.year date.month date.day) (codes " ") (clock_text (s % 86400)) (joined_plain (codes " ") (short_date_text date.year date.month date.day) refl short) refl (clock_plain (s % 86400) (omega arith))) refl;
      is = regrouped s;
    }
  where
    regrouped : (s : ℕ) → http_date_text s ≡ weekday_name (s / 86400) ++ 44 ∷ behind_comma s
    regrouped s = simp append_assoc

-- The form of a text by its format.

abbrev pub TimeForm : Format → List ℕ → Type 0
TimeForm HttpDate t = OneComma t
TimeForm _ t = IsPlain t

-- a text of the calendar is one of a number of seconds
calendar_time : (f : Format) (z : ℤ) (t : List ℕ) → option_map (calendar_text f) (since_year_one z) ≡ Some t → (s : ℕ) × (s < 315537897600) × (calendar_text f s ≡ t)
calendar_time f z t e = go (is_in_calendar z) refl e
  where
    small : (y : ℤ) → pos 0 ≤ℤ y → y <ℤ pos 315537897600 → unsigned_abs y < 315537897600
    small (pos n) low high = omega (arith, signed_arith)
    small (negsuc n) low high = absurd (omega (arith, signed_arith))

    few : is_in_calendar z ≡ true → unsigned_abs (z +ℤ pos 62135596800) < 315537897600
    few inside =
        let parts = and_parts (int_le (neg_ℤ (pos 62135596800)) z) (int_le z (pos 253402300799)) inside in
        let low : int_le (neg_ℤ (pos 62135596800)) z ≡ true = parts.0 in
        let high : int_le z (pos 253402300799) ≡ true = parts.1 in
        small (z +ℤ pos 62135596800) (omega (arith, signed_arith)) (omega (arith, signed_arith))

    go : (b : Bool) → is_in_calendar z ≡ b → option_map (calendar_text f) (cond b (Some (unsigned_abs (z +ℤ pos 62135596800))) None) ≡ Some t → (s : ℕ) × (s < 315537897600) × (calendar_text f s ≡ t)
    go true inside h = let same : calendar_text f (unsigned_abs (z +ℤ pos 62135596800)) ≡ t = cc h in (unsigned_abs (z +ℤ pos 62135596800), few inside, same)
    go false inside h = absurd (cc h)

epoch_plain : (z : ℤ) → is_signed_within (2 ^ 63) z ≡ true → are_plain (signed_decimal z) ≡ true
epoch_plain (pos n) range = let small = long_magnitude (pos n) range in decimal_plain n (omega (arith, small))
epoch_plain (negsuc n) range = let small = long_magnitude (negsuc n) range in decimal_plain (suc n) (omega (arith, small))

-- no empty text is read as a time
some_text : (f : Format) → timestamp_of f [] ≡ None
unfolding is_zone
some_text EpochSeconds = refl
some_text DateTime = refl
some_text HttpDate = refl

pub time_form : (f : Format) (z : ℤ) (t : List ℕ) → is_signed_within (2 ^ 63) z ≡ true → timestamp_text f z ≡ Some t → TimeForm f t
time_form f z t range e = by f e (λ none. let q : None ≡ Some z = sym (some_text f) ∙ ap (timestamp_of f) (sym none) ∙ time_back f z t range e in absurd (cc q))
  where
    by : (f : Format) → timestamp_text f z ≡ Some t → t ≢ [] → TimeForm f t
    by EpochSeconds e some = let same : signed_decimal z ≡ t = cc e in record { plain = ap are_plain (sym same) ∙ epoch_plain z range; some = some }
    by DateTime e some = let x = calendar_time DateTime z t e in record { plain = ap are_plain (sym x.2) ∙ date_time_plain x.0 x.1; some = some }
    by HttpDate e some = let x = calendar_time HttpDate z t e in subst OneComma x.2 (http_date_one_comma x.0 x.1)

low_from_plain : (text : List ℕ) → are_plain text ≡ true → are_low text ≡ true
low_from_plain [] e = refl
low_from_plain (b ∷ text) e =
    let parts = and_parts (is_plain_byte b) (are_plain text) e in
    and_from (nat_lt b 128) (are_low text) (and_parts (nat_lt b 128) (not (b == 44)) parts.0).0 (low_from_plain text parts.1)

pub form_low : (f : Format) (t : List ℕ) → TimeForm f t → are_low t ≡ true
form_low EpochSeconds t is = low_from_plain t is.plain
form_low DateTime t is = low_from_plain t is.plain
form_low HttpDate t is =
    ap are_low is.is ∙ list_all-append (λ b. nat_lt b 128) is.front (44 ∷ is.back) ∙ and_from (are_low is.front) (are_low is.back) (low_from_plain is.front is.plain_front) (low_from_plain is.back is.plain_back)

-- and none is empty
pub form_some : (f : Format) (t : List ℕ) → TimeForm f t → t ≢ []
form_some EpochSeconds t is = is.some
form_some DateTime t is = is.some
form_some HttpDate t is = λ e. never is.front is.back (sym is.is ∙ e)
  where
    never : (front back : List ℕ) → front ++ 44 ∷ back ≢ []
    never [] back e = cc e
    never (x ∷ front) back e = cc e

-- The ends of a text.

digit_seen : (b : ℕ) → 48 ≤ b → b ≤ 57 → is_whitespace b ≡ false
digit_seen b low high =
    let same : b - 48 + 48 ≡ b = omega arith in
    subst (λ k. is_whitespace k ≡ false) same (agree_below_at (λ k. is_whitespace (k + 48)) (λ k. false) 10 (b - 48) refl (omega arith))

begins_digit : (ds : List ℕ) → AllDigits 10 ds → begins_with_white_space ds ≡ false
begins_digit [] all = refl
begins_digit (d ∷ ds) all = let r = digit_from_value d all.0 in digit_seen d r.0 r.1

ends_digit : (ds : List ℕ) → AllDigits 10 ds → ends_with_white_space ds ≡ false
ends_digit [] all = refl
ends_digit (d ∷ []) all = let r = digit_from_value d all.0 in digit_seen d r.0 r.1
ends_digit (d ∷ e ∷ ds) all = ends_digit (e ∷ ds) all.1

ends_minus : (ds : List ℕ) → AllDigits 10 ds → ends_with_white_space (45 ∷ ds) ≡ false
ends_minus [] all = refl
ends_minus (d ∷ ds) all = ends_digit (d ∷ ds) all

-- an end is that of the text before which a front stands
ends_behind : (front : List ℕ) (b : ℕ) (back : List ℕ) → ends_with_white_space (front ++ b ∷ back) ≡ ends_with_white_space (b ∷ back)
ends_behind [] b back = refl
ends_behind (x ∷ []) b back = refl
ends_behind (x ∷ y ∷ front) b back = ends_behind (y ∷ front) b back

-- no white space stands at either end
abbrev pub HasNoOuterBlank : List ℕ → Type 0
HasNoOuterBlank t = (begins_with_white_space t ≡ false) × (ends_with_white_space t ≡ false)

epoch_ends : (z : ℤ) → is_signed_within (2 ^ 63) z ≡ true → HasNoOuterBlank (signed_decimal z)
epoch_ends (pos n) range =
    let small = long_magnitude (pos n) range in let all = (decimal_is_IsNumeral n (omega (arith, small))).0.1 in (begins_digit (decimal n) all, ends_digit (decimal n) all)
epoch_ends (negsuc n) range =
    let small = long_magnitude (negsuc n) range in let all = (decimal_is_IsNumeral (suc n) (omega (arith, small))).0.1 in (refl, ends_minus (decimal (suc n)) all)

date_time_ends : (s : ℕ) → s < 315537897600 → HasNoOuterBlank (date_time_text s)
date_time_ends s few =
    let date = date_of (s / 86400) in
    let r = date_of-is_real (s / 86400) (omega arith) in
    let high = r.year_high in (
      ap (λ year. begins_with_white_space (year ++ codes "-" ++ padded_decimal 2 date.month ++ codes "-" ++ padded_decimal 2 date.day ++ codes "T" ++ clock_text (s % 86400) ++ codes "Z")) (padded_four date.year (omega arith))
          ∙ digit_seen (48 + date.year / 10 / 10 / 10) (omega arith) (omega arith),
      ends_behind (full_date_text date.year date.month date.day ++ codes "T" ++ clock_text (s % 86400)) 90 [],
    )

http_date_ends : (s : ℕ) → HasNoOuterBlank (http_date_text s)
http_date_ends s =
    let date = date_of (s / 86400) in
    let short = short_date_text date.year date.month date.day in (
      agree_below_at (λ k. begins_with_white_space (unwrap_or (slice_get weekday_names k) [] ++ codes ", " ++ short ++ codes " " ++ clock_text (s % 86400) ++ codes " GMT")) (λ k. false) 7 (s / 86400 % 7) refl (omega arith),
      ends_behind (weekday_name (s / 86400) ++ codes ", " ++ short ++ codes " " ++ clock_text (s % 86400)) 32 (71 ∷ 77 ∷ 84 ∷ []),
    )

pub time_ends : (f : Format) (z : ℤ) (t : List ℕ) → is_signed_within (2 ^ 63) z ≡ true → timestamp_text f z ≡ Some t → HasNoOuterBlank t
time_ends EpochSeconds z t range e = let same : signed_decimal z ≡ t = cc e in subst HasNoOuterBlank same (epoch_ends z range)
time_ends DateTime z t range e = let x = calendar_time DateTime z t e in subst HasNoOuterBlank x.2 (date_time_ends x.0 x.1)
time_ends HttpDate z t range e = let x = calendar_time HttpDate z t e in subst HasNoOuterBlank x.2 (http_date_ends x.0)
