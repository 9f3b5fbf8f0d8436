-- The date of a day has that day's number.
use Rattle.std.proofs.Common.{◌≡◌, refl, ap, ◌∙◌, ℕ, zero, suc, ◌+◌, ◌-◌, nat_lt, Bool, true, false, cond, pos, ◌-ℤ◌, arith, ltb-false, add-one, negsuc}
use Rattle.std.proofs.lemmas.Bool.{le-ltb}
use Rattle.jiff_core.specs.Calendar.{days_in_year, days_in_month, days_of_years, days_of_months, day_of_year, day_count}
use Rattle.smithy_types.specs.Calendar.{Date, date_in_year, date_from, date_of}

-- a date in this year
pub date_in_year-year : (n year month days : ℕ) → (date_in_year n year month days).year ≡ year
date_in_year-year zero year month days = refl
date_in_year-year (suc n) year month days = go (nat_lt days (days_in_month (pos year) month)) (date_in_year-year n year (month + 1) (days - days_in_month (pos year) month))
  where
    next : Date
    next = date_in_year n year (month + 1) (days - days_in_month (pos year) month)

    go : (b : Bool) → next.year ≡ year → (cond b (record { year = year; month = month; day = days + 1 }) next).year ≡ year
    go true e = refl
    go false e = e

-- how many days of the year stand before a date
abbrev days_before : ℕ → Date → ℕ
days_before year d = day_of_year (pos year) d.month d.day - 1

-- one month more
pub months-suc : (year k : ℕ) → days_of_months (pos year) (suc k) ≡ days_of_months (pos year) k + days_in_month (pos year) (suc k)
unfolding days_of_months
months-suc year k = refl

-- the date that is reached in its month
in_month : (year k days : ℕ) → days_before year (record { year = year; month = suc k; day = days + 1 }) ≡ days_of_months (pos year) k + days
in_month year k days =
    let same : suc k - 1 ≡ k = omega arith in
    ap (λ m. days_of_months (pos year) m + (days + 1) - 1) same ∙ omega arith

date_in_year-days : (n year k days : ℕ) → days_before year (date_in_year n year (suc k) days) ≡ days_of_months (pos year) k + days
date_in_year-days zero year k days = in_month year k days
date_in_year-days (suc n) year k days =
    go (nat_lt days (days_in_month (pos year) (suc k))) refl
    (ap (λ m. days_before year (date_in_year n year m (days - days_in_month (pos year) (suc k)))) (add-one (suc k))
    ∙ date_in_year-days n year (suc k) (days - days_in_month (pos year) (suc k)))
  where
    next : Date
    next = date_in_year n year (suc k + 1) (days - days_in_month (pos year) (suc k))

    go : (b : Bool) → nat_lt days (days_in_month (pos year) (suc k)) ≡ b
        → days_before year next ≡ days_of_months (pos year) (suc k) + (days - days_in_month (pos year) (suc k))
        → days_before year (cond b (record { year = year; month = suc k; day = days + 1 }) next) ≡ days_of_months (pos year) k + days
    go true e rest = in_month year k days
    go false e rest =
        let enough = ltb-false days (days_in_month (pos year) (suc k)) e in
        let more = months-suc year k in
        rest ∙ omega arith

-- one year more
pub years-suc : (n : ℕ) → days_of_years (suc n) ≡ days_of_years n + days_in_year (pos n -ℤ pos 10000)
unfolding days_of_years
years-suc n = refl

shift : (y : ℕ) → pos (y + 10000) -ℤ pos 10000 ≡ pos y
shift y =
    ap (λ t. cond t (negsuc (10000 - suc (y + 10000))) (pos (y + 10000 - 10000))) (le-ltb (y + 10000) 10000 (omega arith))
    ∙ ap pos (let back : y + 10000 - 10000 ≡ y = omega arith in back)

-- how many days stand between 1 January of the year -10000 and a date
abbrev count : Date → ℕ
count d = days_of_years (d.year + 10000) + days_before d.year d

no_months : (year days : ℕ) → days_of_months (pos year) 0 + days ≡ days
unfolding days_of_months
no_months year days = omega arith

in_year : (year days : ℕ) → count (date_in_year 11 year 1 days) ≡ days_of_years (year + 10000) + days
in_year year days =
    let d = date_in_year 11 year 1 days in
    ap (λ y. days_of_years (y + 10000) + days_before y d) (date_in_year-year 11 year 1 days)
    ∙ ap (λ n. days_of_years (year + 10000) + n) (date_in_year-days 11 year 0 days ∙ no_months year days)

-- the days before the next year
pub next_year : (year : ℕ) → days_of_years (year + 1 + 10000) ≡ days_of_years (year + 10000) + days_in_year (pos year)
next_year year =
    let same : year + 1 + 10000 ≡ suc (year + 10000) = omega arith in
    ap days_of_years same ∙ years-suc (year + 10000) ∙ ap (λ y. days_of_years (year + 10000) + days_in_year y) (shift year)

date_from-count : (n year days : ℕ) → count (date_from n year days) ≡ days_of_years (year + 10000) + days
date_from-count zero year days = in_year year days
date_from-count (suc n) year days = go (nat_lt days (days_in_year (pos year))) refl (date_from-count n (year + 1) (days - days_in_year (pos year)))
  where
    next : Date
    next = date_from n (year + 1) (days - days_in_year (pos year))

    go : (b : Bool) → nat_lt days (days_in_year (pos year)) ≡ b
        → count next ≡ days_of_years (year + 1 + 10000) + (days - days_in_year (pos year))
        → count (cond b (date_in_year 11 year 1 days) next) ≡ days_of_years (year + 10000) + days
    go true e rest = in_year year days
    go false e rest =
        let enough = ltb-false days (days_in_year (pos year)) e in
        let more = next_year year in
        rest ∙ omega arith

-- the days before year 1
pub first_day : days_of_years (1 + 10000) ≡ day_count (pos 1) 1 1
unfolding days_of_years days_of_months day_count
first_day = refl

-- as jiff counts: the day's number from 1 January of year 1 on
pub day_count-date_of : (days : ℕ) → day_count (pos (date_of days).year) (date_of days).month (date_of days).day ≡ day_count (pos 1) 1 1 + days
unfolding date_of day_count
day_count-date_of days = date_from-count 9998 1 days ∙ ap (λ n. n + days) first_day
