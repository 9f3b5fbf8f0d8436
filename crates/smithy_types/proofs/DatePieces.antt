-- The pieces of a date's text: their bytes one by one, and that these are ASCII.
use Rattle.std.proofs.Common.{◌≡◌, refl, sym, ℕ, zero, suc, ◌-◌, ◌/◌, ◌%◌, ◌<◌, ◌^◌, List, [], ◌∷◌, ◌++◌, ◌≤◌, pos, length, get_or, codes, decimal, replicate, IsAscii, arith}
use Rattle.std.specs.List.{AllByRecursion}
use Rattle.std.specs.Prelude.{slice_get, unwrap_or}
use Rattle.std.proofs.ByRecursion.{IsAscii-from_all}
use Rattle.std.proofs.lemmas.Fmt.{IsAscii-decimal}
use Rattle.std.proofs.lemmas.Slice.Eq.{text_from_reads}
use Rattle.std.proofs.lemmas.Str.{IsAscii-append}
use Rattle.std.proofs.lemmas.Str.Ascii.{IsAscii-nil, IsAscii-cons}
use Rattle.smithy_types.specs.Calendar.{date_of}
use Rattle.smithy_types.specs.Texts.{padded_decimal}
use Rattle.smithy_types.specs.Timestamps.{clock_text, full_date_text, short_date_text, date_time_text, http_date_text, weekday_names, weekday_name, month_names, month_name}
use Rattle.smithy_types.proofs.DateLaws.{date_of-is_real}
use Rattle.jiff_core.proofs.CalendarLemmas.{days_in_month_bounds}

pub two_items : (xs : List ℕ) → length xs ≡ 2 → xs ≡ get_or xs 0 0 ∷ get_or xs 1 0 ∷ []
two_items xs h = text_from_reads xs _ h (refl, (refl, tt))

pub three_items : (xs : List ℕ) → length xs ≡ 3 → xs ≡ get_or xs 0 0 ∷ get_or xs 1 0 ∷ get_or xs 2 0 ∷ []
three_items xs h = text_from_reads xs _ h (refl, (refl, (refl, tt)))

pub four_items : (xs : List ℕ) → length xs ≡ 4 → xs ≡ get_or xs 0 0 ∷ get_or xs 1 0 ∷ get_or xs 2 0 ∷ get_or xs 3 0 ∷ []
four_items xs h = text_from_reads xs _ h (refl, (refl, (refl, (refl, tt))))

pub date_time-joined : {y m d h n s : List ℕ} {y0 y1 y2 y3 m0 m1 d0 d1 h0 h1 n0 n1 s0 s1 : ℕ}
    → y ≡ y0 ∷ y1 ∷ y2 ∷ y3 ∷ [] → m ≡ m0 ∷ m1 ∷ [] → d ≡ d0 ∷ d1 ∷ [] → h ≡ h0 ∷ h1 ∷ [] → n ≡ n0 ∷ n1 ∷ [] → s ≡ s0 ∷ s1 ∷ []
    → y0 ∷ y1 ∷ y2 ∷ y3 ∷ 45 ∷ m0 ∷ m1 ∷ 45 ∷ d0 ∷ d1 ∷ 84 ∷ h0 ∷ h1 ∷ 58 ∷ n0 ∷ n1 ∷ 58 ∷ s0 ∷ s1 ∷ 90 ∷ []
    ≡ (y ++ codes "-" ++ m ++ codes "-" ++ d) ++ codes "T" ++ (h ++ codes ":" ++ n ++ codes ":" ++ s) ++ codes "Z"
date_time-joined y m d h n s = sym (λ i. (y i ++ codes "-" ++ m i ++ codes "-" ++ d i) ++ codes "T" ++ (h i ++ codes ":" ++ n i ++ codes ":" ++ s i) ++ codes "Z")

pub http_date-joined : {w d m y h n s : List ℕ} {w0 w1 w2 d0 d1 m0 m1 m2 y0 y1 y2 y3 h0 h1 n0 n1 s0 s1 : ℕ}
    → w ≡ w0 ∷ w1 ∷ w2 ∷ [] → d ≡ d0 ∷ d1 ∷ [] → m ≡ m0 ∷ m1 ∷ m2 ∷ [] → y ≡ y0 ∷ y1 ∷ y2 ∷ y3 ∷ [] → h ≡ h0 ∷ h1 ∷ [] → n ≡ n0 ∷ n1 ∷ [] → s ≡ s0 ∷ s1 ∷ []
    → w0 ∷ w1 ∷ w2 ∷ 44 ∷ 32 ∷ d0 ∷ d1 ∷ 32 ∷ m0 ∷ m1 ∷ m2 ∷ 32 ∷ y0 ∷ y1 ∷ y2 ∷ y3 ∷ 32 ∷ h0 ∷ h1 ∷ 58 ∷ n0 ∷ n1 ∷ 58 ∷ s0 ∷ s1 ∷ 32 ∷ 71 ∷ 77 ∷ 84 ∷ []
    ≡ w ++ codes ", " ++ (d ++ codes " " ++ m ++ codes " " ++ y) ++ codes " " ++ (h ++ codes ":" ++ n ++ codes ":" ++ s) ++ codes " GMT"
http_date-joined w d m y h n s = sym (λ i. w i ++ codes ", " ++ (d i ++ codes " " ++ m i ++ codes " " ++ y i) ++ codes " " ++ (h i ++ codes ":" ++ n i ++ codes ":" ++ s i) ++ codes " GMT")

-- a name of a list, and no bytes behind its end
one_of : (names : List (List ℕ)) → AllByRecursion IsAscii names → (k : ℕ) → IsAscii (unwrap_or (slice_get names k) [])
one_of [] all k = IsAscii-nil
one_of (x ∷ xs) all zero = all.0
one_of (x ∷ xs) all (suc k) = one_of xs all.1 k

name : (a b c : ℕ) → a < 128 → b < 128 → c < 128 → IsAscii (a ∷ b ∷ c ∷ [])
name a b c ha hb hc = IsAscii-from_all (a ∷ b ∷ c ∷ []) (ha, (hb, (hc, tt)))

weekdays : AllByRecursion IsAscii weekday_names
weekdays = (name 77 111 110 (omega arith) (omega arith) (omega arith), (name 84 117 101 (omega arith) (omega arith) (omega arith), (name 87 101 100 (omega arith) (omega arith) (omega arith), (name 84 104 117 (omega arith) (omega arith) (omega arith), (name 70 114 105 (omega arith) (omega arith) (omega arith), (name 83 97 116 (omega arith) (omega arith) (omega arith), (name 83 117 110 (omega arith) (omega arith) (omega arith), tt)))))))

months : AllByRecursion IsAscii month_names
months = (name 74 97 110 (omega arith) (omega arith) (omega arith), (name 70 101 98 (omega arith) (omega arith) (omega arith), (name 77 97 114 (omega arith) (omega arith) (omega arith), (name 65 112 114 (omega arith) (omega arith) (omega arith), (name 77 97 121 (omega arith) (omega arith) (omega arith), (name 74 117 110 (omega arith) (omega arith) (omega arith), (name 74 117 108 (omega arith) (omega arith) (omega arith), (name 65 117 103 (omega arith) (omega arith) (omega arith), (name 83 101 112 (omega arith) (omega arith) (omega arith), (name 79 99 116 (omega arith) (omega arith) (omega arith), (name 78 111 118 (omega arith) (omega arith) (omega arith), (name 68 101 99 (omega arith) (omega arith) (omega arith), tt))))))))))))

zeros : (k : ℕ) → IsAscii (replicate k 48)
zeros zero = IsAscii-nil
zeros (suc k) = IsAscii-cons 48 (replicate k 48) (omega arith) (zeros k)

digits : (width n : ℕ) → n < 2 ^ 64 → IsAscii (padded_decimal width n)
digits width n few = IsAscii-append (replicate (width - length (decimal n)) 48) (decimal n) (zeros (width - length (decimal n))) (IsAscii-decimal n few)

-- a piece, a byte and more
with_byte : (a : List ℕ) (b : ℕ) (c : List ℕ) → b < 128 → IsAscii a → IsAscii c → IsAscii (a ++ (b ∷ []) ++ c)
with_byte a b c low ha hc = IsAscii-append (a ++ b ∷ []) c (IsAscii-append a (b ∷ []) ha (IsAscii-cons b [] low IsAscii-nil)) hc

clock : (n : ℕ) → n < 86400 → IsAscii (clock_text n)
clock n few =
    with_byte (padded_decimal 2 (n / 3600) ++ codes ":" ++ padded_decimal 2 (n / 60 % 60)) 58 (padded_decimal 2 (n % 60)) (omega arith)
    (with_byte (padded_decimal 2 (n / 3600)) 58 (padded_decimal 2 (n / 60 % 60)) (omega arith) (digits 2 (n / 3600) (omega arith)) (digits 2 (n / 60 % 60) (omega arith)))
    (digits 2 (n % 60) (omega arith))

fits_64 : (days : ℕ) → days ≤ 3652058 → ((date_of days).year < 2 ^ 64) × ((date_of days).day < 2 ^ 64)
fits_64 days few =
    let real = date_of-is_real days few in
    let high = real.year_high in
    let day = real.in_year.day_high in
    let month = (days_in_month_bounds (pos (date_of days).year) (date_of days).month).0 in
    (omega arith, omega arith)

pub date_time-ascii : (n : ℕ) → n < 315537897600 → IsAscii (date_time_text n)
date_time-ascii n few =
    let d = date_of (n / 86400) in
    let real = date_of-is_real (n / 86400) (omega arith) in
    let month = real.in_year.month_high in
    let fits = fits_64 (n / 86400) (omega arith) in
    let year_month = with_byte (padded_decimal 4 d.year) 45 (padded_decimal 2 d.month) (omega arith) (digits 4 d.year fits.0) (digits 2 d.month (omega arith)) in
    let whole = with_byte (padded_decimal 4 d.year ++ codes "-" ++ padded_decimal 2 d.month) 45 (padded_decimal 2 d.day) (omega arith) year_month (digits 2 d.day fits.1) in
    IsAscii-append (full_date_text d.year d.month d.day ++ codes "T" ++ clock_text (n % 86400)) (codes "Z")
    (with_byte (full_date_text d.year d.month d.day) 84 (clock_text (n % 86400)) (omega arith) whole (clock (n % 86400) (omega arith)))
    (IsAscii-cons 90 [] (omega arith) IsAscii-nil)

pub http_date-ascii : (n : ℕ) → n < 315537897600 → IsAscii (http_date_text n)
http_date-ascii n few =
    let day = n / 86400 in
    let d = date_of day in
    let fits = fits_64 day (omega arith) in
    let day_month = with_byte (padded_decimal 2 d.day) 32 (month_name d.month) (omega arith) (digits 2 d.day fits.1) (one_of month_names months (d.month - 1)) in
    let short = with_byte (padded_decimal 2 d.day ++ codes " " ++ month_name d.month) 32 (padded_decimal 4 d.year) (omega arith) day_month (digits 4 d.year fits.0) in
    let comma = IsAscii-cons 44 (32 ∷ []) (omega arith) (IsAscii-cons 32 [] (omega arith) IsAscii-nil) in
    let front = IsAscii-append (weekday_name day) (codes ", ") (one_of weekday_names weekdays (day % 7)) comma in
    let dated = IsAscii-append (weekday_name day ++ codes ", ") (short_date_text d.year d.month d.day) front short in
    let clocked = with_byte (weekday_name day ++ codes ", " ++ short_date_text d.year d.month d.day) 32 (clock_text (n % 86400)) (omega arith) dated (clock (n % 86400) (omega arith)) in
    IsAscii-append (weekday_name day ++ codes ", " ++ short_date_text d.year d.month d.day ++ codes " " ++ clock_text (n % 86400)) (codes " GMT") clocked
    (IsAscii-from_all (codes " GMT") (omega arith, (omega arith, (omega arith, (omega arith, tt)))))
