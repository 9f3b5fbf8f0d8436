-- The text of a time is spelled as it, ends in no blank, and is ASCII.
use Rattle.std.proofs.Common.{leb-true, lt-ltb, le-leb}
use Rattle.std.specs.Prelude.{unsigned_abs, int_le, neg_ℤ, codes, ◌+ℤ◌, ◌/◌, ◌%◌}
use Rattle.smithy_wire.proofs.Common.{◌≡◌, refl, sym, ap, ◌∙◌, ℕ, ◌-◌, ◌+◌, ◌^◌, ◌≤◌, arith, Bool, true, false, cond, if◌then◌else◌, List, [], ◌∷◌, ◌++◌, length, take, drop, Option, Some, None, option_map, option_and_then, ℤ, pos, negsuc, and_parts, and_from, length-append}
use Rattle.std.proofs.Math.Seq.{drop-append_seam, drop-append-add, take-append_seam}
use Rattle.std.specs.Option.{option_or}
use Rattle.std.specs.Str.{str_to_ascii_uppercase}
use Rattle.smithy_types.specs.Texts.{same_text}
use Rattle.smithy_types.specs.declared.date_time.Format.{Format}
use Rattle.smithy_types.specs.declared.date_time.Format.TheVariants.{EpochSeconds, DateTime, HttpDate}
use Rattle.smithy_types.specs.Timestamps.{is_in_calendar, since_year_one, timestamp_text, calendar_text, date_time_text, http_date_text, full_date_text, short_date_text, clock_text, weekday_name}
use Rattle.smithy_types.specs.Calendar.{date_of}
use Rattle.smithy_serde.specs.Ranges.{is_signed_within}
use Rattle.smithy_strings.proofs.UnwireLaws.{time_back}
use Rattle.smithy_wire.specs.WireTimes.{spelled, at_end, at_zone, before_end, before_blank, before_zone, in_zone}

-- ---- the end of a text

pub at_end-one : (xs : List ℕ) (b : ℕ) → at_end 1 (xs ++ b ∷ []) ≡ b ∷ []
at_end-one xs b =
    let longer : length (xs ++ b ∷ []) - 1 ≡ length xs = omega (arith, length-append xs (b ∷ [])) in
    ap (λ n. drop n (xs ++ b ∷ [])) longer ∙ drop-append_seam xs (b ∷ [])

pub before_end-one : (xs : List ℕ) (b : ℕ) → before_end 1 (xs ++ b ∷ []) ≡ xs
before_end-one xs b =
    let longer : length (xs ++ b ∷ []) - 1 ≡ length xs = omega (arith, length-append xs (b ∷ [])) in
    ap (λ n. take n (xs ++ b ∷ [])) longer ∙ take-append_seam xs (b ∷ [])

-- ---- times

pub in_range : (z : ℤ) → is_in_calendar z ≡ true → is_signed_within (2 ^ 63) z ≡ true
in_range (pos n) e =
    let parts = and_parts (int_le (neg_ℤ (pos 62135596800)) (pos n)) (int_le (pos n) (pos 253402300799)) e in
    let high : n ≤ 253402300799 = leb-true n 253402300799 parts.1 in
    lt-ltb n (2 ^ 63) (omega arith)
in_range (negsuc n) e =
    let parts = and_parts (int_le (neg_ℤ (pos 62135596800)) (negsuc n)) (int_le (negsuc n) (pos 253402300799)) e in
    let low : n ≤ 62135596799 = leb-true n 62135596799 parts.0 in
    and_from (int_le (neg_ℤ (pos (2 ^ 63))) (negsuc n)) true (le-leb n 9223372036854775807 (omega arith)) refl

-- a text there is only within the calendar
pub within_calendar : (format : Format) (z : ℤ) (t : List ℕ) → option_map (calendar_text format) (since_year_one z) ≡ Some t → is_in_calendar z ≡ true
within_calendar format z t is = go (is_in_calendar z) is
  where
    go : (b : Bool) → option_map (calendar_text format) (cond b (Some (unsigned_abs (z +ℤ pos 62135596800))) None) ≡ Some t → b ≡ true
    go true is = refl
    go false is = absurd (cc is)

pub spelled_date_time : (floors : Bool) (z : ℤ) (t : List ℕ) → timestamp_text DateTime z ≡ Some t → spelled floors DateTime t ≡ Some z
spelled_date_time floors z t is = ap (λ o. option_or o (in_zone floors (str_to_ascii_uppercase t))) (time_back DateTime z t (in_range z (within_calendar DateTime z t is)) is)

pub spelled_http_date : (floors : Bool) (z : ℤ) (t : List ℕ) → timestamp_text HttpDate z ≡ Some t → spelled floors HttpDate t ≡ Some z
spelled_http_date floors z t is =
    ap (λ o. option_or o (option_and_then (at_zone floors HttpDate (codes " GMT")) (before_zone (codes " GMT") t)))
    (time_back HttpDate z t (in_range z (within_calendar HttpDate z t is)) is)

-- the end of a text of a time
date_time_end : (n : ℕ) → at_end 1 (date_time_text n) ≡ 90 ∷ []
date_time_end n =
    let date = date_of (n / 86400) in
    at_end-one (full_date_text date.year date.month date.day ++ codes "T" ++ clock_text (n % 86400)) 90

last_of_three : (xs : List ℕ) → at_end 1 (xs ++ codes " GMT") ≡ 84 ∷ []
last_of_three xs =
    let longer : length (xs ++ codes " GMT") - 1 ≡ length xs + 3 = omega (arith, length-append xs (codes " GMT")) in
    ap (λ n. drop n (xs ++ codes " GMT")) longer ∙ drop-append-add xs (codes " GMT") 3

http_date_end : (n : ℕ) → at_end 1 (http_date_text n) ≡ 84 ∷ []
http_date_end n =
    let date = date_of (n / 86400) in
    last_of_three (weekday_name (n / 86400) ++ codes ", " ++ short_date_text date.year date.month date.day ++ codes " " ++ clock_text (n % 86400))

pub no_blank : (format : Format) (z : ℤ) (t : List ℕ) → option_map (calendar_text format) (since_year_one z) ≡ Some t → same_text (at_end 1 t) (codes " ") ≡ false
no_blank format z t is = go (since_year_one z) is
  where
    by : (format : Format) (n : ℕ) → same_text (at_end 1 (calendar_text format n)) (codes " ") ≡ false
    by EpochSeconds n = ap (λ e. same_text e (codes " ")) (date_time_end n)
    by DateTime n = ap (λ e. same_text e (codes " ")) (date_time_end n)
    by HttpDate n = ap (λ e. same_text e (codes " ")) (http_date_end n)

    go : (o : Option ℕ) → option_map (calendar_text format) o ≡ Some t → same_text (at_end 1 t) (codes " ") ≡ false
    go None is = absurd (cc is)
    go (Some n) is = let same : calendar_text format n ≡ t = cc is in ap (λ u. same_text (at_end 1 u) (codes " ")) (sym same) ∙ by format n

pub no_front : (format : Format) (z : ℤ) (t : List ℕ) → option_map (calendar_text format) (since_year_one z) ≡ Some t → before_blank t ≡ None
no_front format z t is = ap (λ b. if b then Some (before_end 1 t) else None) (no_blank format z t is)

pub front_back : (s : List ℕ) → before_blank (s ++ codes " ") ≡ Some s
front_back s = ap (λ e. if same_text e (codes " ") then Some (before_end 1 (s ++ codes " ")) else None) (at_end-one s 32) ∙ ap (λ f. Some f) (before_end-one s 32)
