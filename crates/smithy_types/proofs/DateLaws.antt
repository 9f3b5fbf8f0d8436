-- The date of a day is a date that the calendar has, and no other has its number.
use Rattle.std.proofs.Common.{◌≡◌, refl, sym, ap, ◌∙◌, subst, ℕ, zero, suc, ◌+◌, ◌-◌, ◌<◌, ◌≤◌, nat_lt, Bool, true, false, cond, pos, ◌+ℤ◌, to_z, of_z, w16, arith, ltb-true, ltb-false, add-one}
use Rattle.jiff_core.specs.declared.civil.date.Date.{Date as CivilDate}
use Rattle.jiff_core.specs.Calendar.{days_in_year, days_in_month, days_of_years, days_of_months, day_count}
use Rattle.jiff_core.specs.Date.{epoch_day}
use Rattle.jiff_core.proofs.CalendarLemmas.{days_of_months_all, days_from_civil-day_count, day_count-end}
use Rattle.jiff_core.proofs.DateLemmas.{epoch_day_injective}
use Rattle.jiff_core.proofs.SignedLemmas.{signed_arith, back_small}
use Rattle.smithy_types.specs.Calendar.{Date, date_in_year, date_from, date_of}
use Rattle.smithy_types.proofs.CalendarLaws.{months-suc, next_year, date_in_year-year, first_day, day_count-date_of}

-- the year has this month, and the month this day
pub record IsInYear (year : ℕ) (d : Date) : Type 0 where
  pub month_low : 1 ≤ d.month
  pub month_high : d.month ≤ 12
  pub day_low : 1 ≤ d.day
  pub day_high : d.day ≤ days_in_month (pos year) d.month

reached : (year k days : ℕ) → suc k ≤ 12 → days < days_in_month (pos year) (suc k) → IsInYear year (record { year = year; month = suc k; day = days + 1 })
reached year k days low few = record { month_low = omega arith; month_high = low; day_low = omega arith; day_high = omega arith }

date_in_year-is_in : (n year k days : ℕ) → n + suc k ≡ 12 → days + days_of_months (pos year) k < days_of_months (pos year) 12 → IsInYear year (date_in_year n year (suc k) days)
date_in_year-is_in zero year k days e few =
    let last : days_of_months (pos year) (suc k) ≡ days_of_months (pos year) 12 = ap (days_of_months (pos year)) (omega arith) in
    let more = months-suc year k in
    reached year k days (omega arith) (omega arith)
date_in_year-is_in (suc n) year k days e few =
    go (nat_lt days (days_in_month (pos year) (suc k))) refl λ rest.
    let next : date_in_year n year (suc (suc k)) (days - days_in_month (pos year) (suc k)) ≡ date_in_year n year (suc k + 1) (days - days_in_month (pos year) (suc k)) = ap (λ m. date_in_year n year m (days - days_in_month (pos year) (suc k))) (sym (add-one (suc k))) in
    rw next at (date_in_year-is_in n year (suc k) (days - days_in_month (pos year) (suc k)) (omega arith) rest)
  where
    next : Date
    next = date_in_year n year (suc k + 1) (days - days_in_month (pos year) (suc k))

    go : (b : Bool) → nat_lt days (days_in_month (pos year) (suc k)) ≡ b
        → (days - days_in_month (pos year) (suc k) + days_of_months (pos year) (suc k) < days_of_months (pos year) 12 → IsInYear year next)
        → IsInYear year (cond b (record { year = year; month = suc k; day = days + 1 }) next)
    go true same rest = let low = ltb-true days (days_in_month (pos year) (suc k)) same in reached year k days (omega arith) (omega arith)
    go false same rest =
        let enough = ltb-false days (days_in_month (pos year) (suc k)) same in
        let more = months-suc year k in
        rest (omega arith)

-- the year is 1 to 9999, and has the month and the day
pub record IsReal (d : Date) : Type 0 where
  pub year_low : 1 ≤ d.year
  pub year_high : d.year ≤ 9999
  pub in_year : IsInYear d.year d

no_months : (year : ℕ) → days_of_months (pos year) 0 ≡ 0
unfolding days_of_months
no_months year = refl

real_date : (year : ℕ) (d : Date) → d.year ≡ year → 1 ≤ year → year ≤ 9999 → IsInYear year d → IsReal d
real_date year d same low high inside = record {
  year_low = omega arith;
  year_high = omega arith;
  in_year = let P : ℕ → Type 0 = λ y. IsInYear y d in subst P (sym same) inside;
}

in_its_year : (year days : ℕ) → 1 ≤ year → year ≤ 9999 → days < days_in_year (pos year) → IsReal (date_in_year 11 year 1 days)
in_its_year year days low high few =
    real_date year (date_in_year 11 year 1 days) (date_in_year-year 11 year 1 days) low high
    (date_in_year-is_in 11 year 0 days (omega arith) (omega (arith, no_months year, days_of_months_all (pos year))))

date_from-is_real : (n year days : ℕ) → n + year ≡ 9999 → 1 ≤ year → days + days_of_years (year + 10000) < days_of_years 20000 → IsReal (date_from n year days)
date_from-is_real zero year days e low few =
    let last : days_of_years (year + 1 + 10000) ≡ days_of_years 20000 = ap days_of_years (omega arith) in
    let more = next_year year in
    in_its_year year days low (omega arith) (omega arith)
date_from-is_real (suc n) year days e low few =
    go (nat_lt days (days_in_year (pos year))) refl λ rest. date_from-is_real n (year + 1) (days - days_in_year (pos year)) (omega arith) (omega arith) rest
  where
    next : Date
    next = date_from n (year + 1) (days - days_in_year (pos year))

    go : (b : Bool) → nat_lt days (days_in_year (pos year)) ≡ b
        → (days - days_in_year (pos year) + days_of_years (year + 1 + 10000) < days_of_years 20000 → IsReal next)
        → IsReal (cond b (date_in_year 11 year 1 days) next)
    go true same rest = in_its_year year days low (omega arith) (ltb-true days (days_in_year (pos year)) same)
    go false same rest =
        let enough = ltb-false days (days_in_year (pos year)) same in
        let more = next_year year in
        rest (omega arith)

end_of_years : days_of_years 20000 ≡ day_count (pos 10000) 1 1
unfolding days_of_years days_of_months day_count
end_of_years = refl

pub first_count : day_count (pos 1) 1 1 ≡ 3652791
unfolding days_of_years days_of_months day_count
first_count = refl

pub date_of-is_real : (days : ℕ) → days ≤ 3652058 → IsReal (date_of days)
unfolding date_of
date_of-is_real days few =
    date_from-is_real 9998 1 days refl (omega arith) (omega (arith, first_day, first_count, end_of_years, day_count-end))

-- a date as the library has it
pub civil : (d : Date) → IsReal d → CivilDate
civil d real = record {
  year = pos d.year;
  month = d.month;
  day = d.day;
  year_in = omega (arith, signed_arith, real.year_low, real.year_high);
  month_in = (real.in_year.month_low, real.in_year.month_high);
  day_in = (real.in_year.day_low, real.in_year.day_high);
}

-- the library's date with a day's number is that day's date
pub date_of-only : (r : CivilDate) (day : ℕ) → day ≤ 3652058 → epoch_day r +ℤ pos 4371587 ≡ pos (3652425 + day)
    → (r.year ≡ pos (date_of day).year) × (r.month ≡ (date_of day).month) × (r.day ≡ (date_of day).day)
unfolding civil
date_of-only r day few e =
    let d = date_of day in
    let number = days_from_civil-day_count (pos d.year) d.month d.day in
    let count = day_count-date_of day in
    epoch_day_injective r (civil d (date_of-is_real day few)) (omega (arith, signed_arith, first_count))

-- its year as the code casts it
pub date_of-year : (r : CivilDate) (day : ℕ) → day ≤ 3652058 → epoch_day r +ℤ pos 4371587 ≡ pos (3652425 + day) → to_z w16 (of_z w16 r.year) ≡ pos (date_of day).year
date_of-year r day few e =
    let high = (date_of-is_real day few).year_high in
    ap (λ y. to_z w16 (of_z w16 y)) (date_of-only r day few e).0 ∙ back_small w16 (pos (date_of day).year) (omega arith)
