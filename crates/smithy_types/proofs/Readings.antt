-- Pictures, names and dates as the readers see them.
use Rattle.std.proofs.Common.{◌≡◌, refl, sym, ap, ◌∙◌, ℕ, zero, suc, ◌+◌, ◌*◌, ◌<◌, ◌≤◌, Bool, true, false, not, cond, ◌||◌, List, [], ◌∷◌, length, take, drop, get_or, Option, Some, None, slice_get, unwrap_or, codes, ℤ, pos, arith}
use Rattle.std.specs.List.{list_any, position_or_len}
use Rattle.std.specs.Str.Parse.{digits_value}
use Rattle.std.specs.Cmp.Derive.{both_true}
use Rattle.std.proofs.lemmas.Bool.{and_parts, le-leb}
use Rattle.std.proofs.lemmas.List.{at_drop_more, length-take, length-drop, get_or-take, get_or-drop}
use Rattle.std.specs.Cmp.Lexicographic.{as_long}
use Rattle.std.proofs.lemmas.Option.{unwrap_or-slice_get}
use Rattle.jiff_core.specs.declared.civil.date.Date.{Date as CivilDate}
use Rattle.jiff_core.specs.Calendar.{days_in_month, days_from_civil}
use Rattle.jiff_core.specs.Date.{epoch_day}
use Rattle.std.specs.Int.{is_in_range}
use Rattle.smithy_types.specs.BigNumbers.{is_digit}
use Rattle.smithy_types.specs.TimestampReading.{fits_picture, has_picture, is_date, day_number, is_zone, clock_of, calendar_time_of}

-- the names behind a place, one step on
pub place_more : (p : List ℕ → Bool) (names : List (List ℕ)) (i : ℕ) → i < length names → p (unwrap_or (slice_get names i) []) ≡ false
    → position_or_len p (drop i names) ≡ 1 + position_or_len p (drop (i + 1) names)
place_more p names i h miss =
    let none : p (get_or names i []) ≡ false = ap p (sym (unwrap_or-slice_get names i [])) ∙ miss in
    at_drop_more (position_or_len p) names i [] h ∙ ap (λ b. cond (not b) (1 + position_or_len p (drop (i + 1) names)) 0) none

pub any_more : (p : List ℕ → Bool) (names : List (List ℕ)) (i : ℕ) → i < length names → p (unwrap_or (slice_get names i) []) ≡ false
    → list_any p (drop i names) ≡ list_any p (drop (i + 1) names)
any_more p names i h miss =
    let none : p (get_or names i []) ≡ false = ap p (sym (unwrap_or-slice_get names i [])) ∙ miss in
    at_drop_more (list_any p) names i [] h ∙ ap (λ b. b || list_any p (drop (i + 1) names)) none

-- four digits are two and two
pub four_digits_value : (xs : List ℕ) → 4 ≤ length xs → digits_value 10 (take 2 xs) * 100 + digits_value 10 (take 2 (drop 2 xs)) ≡ digits_value 10 (take 4 xs)
four_digits_value [] h = absurd (omega arith)
four_digits_value (a ∷ []) h = absurd (omega arith)
four_digits_value (a ∷ b ∷ []) h = absurd (omega arith)
four_digits_value (a ∷ b ∷ c ∷ []) h = absurd (omega arith)
four_digits_value (a ∷ b ∷ c ∷ d ∷ xs) h = omega arith

-- what a picture says of one byte
pub picture_at : (picture text : List ℕ) (i : ℕ) → has_picture picture text ≡ true → i < length picture → fits_picture (get_or picture i 0) (get_or text i 0) ≡ true
unfolding has_picture
picture_at [] text i h low = absurd (omega arith)
picture_at (p ∷ picture) [] i h low = absurd (cc h)
picture_at (p ∷ picture) (b ∷ text) zero h low = (and_parts (fits_picture p b) (has_picture picture text) h).0
picture_at (p ∷ picture) (b ∷ text) (suc i) h low =
    picture_at picture text i (and_parts (fits_picture p b) (has_picture picture text) h).1 (omega arith)

pub within : (low high b : ℕ) → low ≤ b → b ≤ high → is_in_range low high b ≡ true
within low high b above below = both_true (le-leb low b above) (le-leb b high below)

-- a date that the library has is a date, and its day has a number
pub day_number-epoch_day : (r : CivilDate) (year month day : ℕ) → r.year ≡ pos year → r.month ≡ month → r.day ≡ day → 1 ≤ year → day_number year month day ≡ Some (epoch_day r)
unfolding day_number
day_number-epoch_day r year month day y m d low =
    let long : days_in_month r.year r.month ≡ days_in_month (pos year) month = ap (λ z. days_in_month z r.month) y ∙ ap (days_in_month (pos year)) m in
    let is_one : is_date year month day ≡ true =
    both_true
    (both_true (le-leb 1 year low) (within 1 12 month (omega (arith, r.month_in)) (omega (arith, r.month_in))))
    (within 1 (days_in_month (pos year) month) day (omega (arith, r.day_in)) (omega (arith, r.day_in))) in
    ap (λ b. cond b (Some (days_from_civil (pos year) month day)) None) is_one
    ∙ ap Some (sym (ap (λ z. days_from_civil z r.month r.day) y ∙ ap (λ k. days_from_civil (pos year) k r.day) m ∙ ap (days_from_civil (pos year) month) d))

-- what a picture has a digit for
pub digit_of_picture : (picture text : List ℕ) (i : ℕ) → has_picture picture text ≡ true → i < length picture → get_or picture i 0 ≡ 48 → is_digit (get_or text i 0) ≡ true
digit_of_picture picture text i h low zero_there = let fits = picture_at picture text i h low in ap (λ p. fits_picture p (get_or text i 0)) (sym zero_there) ∙ fits

pub digit_behind : (picture text : List ℕ) (from i : ℕ) → has_picture picture (drop from text) ≡ true → i < length picture → get_or picture i 0 ≡ 48 → is_digit (get_or text (from + i) 0) ≡ true
digit_behind picture text from i h low zero_there =
    ap is_digit (sym (get_or-drop from text i 0)) ∙ digit_of_picture picture (drop from text) i h low zero_there

pub digit_inside : (picture text : List ℕ) (from count i : ℕ) → has_picture picture (take count (drop from text)) ≡ true → i < length picture → i < count → get_or picture i 0 ≡ 48 → is_digit (get_or text (from + i) 0) ≡ true
digit_inside picture text from count i h low inside zero_there =
    ap is_digit (sym (get_or-take count (drop from text) i 0 inside ∙ get_or-drop from text i 0)) ∙ digit_of_picture picture (take count (drop from text)) i h low zero_there

pub length_of_picture : (picture text : List ℕ) → has_picture picture text ≡ true → length picture ≡ length text
unfolding has_picture
length_of_picture picture text h = as_long fits_picture picture text h

-- a text that is too short for a time
module _ (width : ℕ) (day_of : List ℕ → Option ℤ) (zone text : List ℕ) where
  no_zone : is_zone zone (drop 8 (drop width text)) ≡ false → calendar_time_of width day_of zone text ≡ None
  no_zone e = rw e refl

  cases_of_zone : (b : Bool) → (b ≡ true → calendar_time_of width day_of zone text ≡ None) → is_zone zone (drop 8 (drop width text)) ≡ b → calendar_time_of width day_of zone text ≡ None
  cases_of_zone true f e = f refl
  cases_of_zone false f e = no_zone e

  time_without_day : day_of (take width text) ≡ None → calendar_time_of width day_of zone text ≡ None
  time_without_day e = cases_of_zone (is_zone zone (drop 8 (drop width text))) (λ z. rw (z, e) refl) refl

  no_clock : (o : Option ℤ) → day_of (take width text) ≡ o → clock_of (take 8 (drop width text)) ≡ None → calendar_time_of width day_of zone text ≡ None
  no_clock None d e = time_without_day d
  no_clock (Some day) d e = cases_of_zone (is_zone zone (drop 8 (drop width text))) (λ z. rw (z, d, e) refl) refl

  time_without_clock : clock_of (take 8 (drop width text)) ≡ None → calendar_time_of width day_of zone text ≡ None
  time_without_clock e = no_clock (day_of (take width text)) refl e

  short_clock : (b : Bool) → length text < width + 8 → has_picture (codes "00:00:00") (take 8 (drop width text)) ≡ b → clock_of (take 8 (drop width text)) ≡ None
  unfolding clock_of
  short_clock true short h = absurd (let same = length_of_picture (codes "00:00:00") (take 8 (drop width text)) h in omega (arith, same, length-take {A = ℕ}, length-drop {A = ℕ}))
  short_clock false short h = rw h refl

  pub time_of_short : length text < width + 8 → calendar_time_of width day_of zone text ≡ None
  time_of_short short = time_without_clock (short_clock (has_picture (codes "00:00:00") (take 8 (drop width text))) short refl)
