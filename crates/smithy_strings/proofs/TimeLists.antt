-- A header list of times is read as these times.
use Rattle.std.proofs.Common.{◌≡◌, ◌≢◌, refl, sym, ◌∙◌, ap, subst, ℕ, ◌^◌, nat_lt, Bool, true, false, not, cond, ◌==◌, List, [], ◌∷◌, ◌++◌, map, codes, Option, Some, None, option_map, option_and_then, Ok, Err, if◌then◌else◌, ℤ}
use Rattle.std.specs.List.{AllByRecursion, onto_first}
use Rattle.std.specs.Option.{ok_or}
use Rattle.std.specs.Str.{is_utf8, trim, trim_start, trim_end, encode_utf8_all, skip_leading_whitespace}
use Rattle.std.proofs.lemmas.Bool.{and_parts, and_from, not-true}
use Rattle.std.proofs.lemmas.List.{append_assoc, append-nil}
use Rattle.std.proofs.lemmas.List.Folds.{list_all-append}
use Rattle.std.proofs.lemmas.Str.{chars-IsAscii, IsUtf8-from_ascii}
use Rattle.smithy_types.specs.Results.{each, then_try, then_give}
use Rattle.smithy_types.specs.Texts.{joined}
use Rattle.smithy_types.specs.Timestamps.{timestamp_text}
use Rattle.smithy_types.specs.TimestampReading.{timestamp_of}
use Rattle.smithy_types.specs.declared.date_time.Format.{Format}
use Rattle.smithy_types.specs.declared.date_time.Format.TheVariants.{EpochSeconds, DateTime, HttpDate}
use Rattle.smithy_ids.specs.declared.shape_type.ShapeType.TheVariants as kind
use Rattle.smithy_http.specs.DateLists.{cut_at_commas, has_comma, date_pieces, date_in, dates_in, value_dates, dates_of}
use Rattle.smithy_http.specs.HeaderValues.{gathered}
use Rattle.smithy_http.specs.Quoting.{begins_with_white_space, ends_with_white_space}
use Rattle.smithy_http.specs.ListTexts.{is_comma}
use Rattle.smithy_http.specs.declared.error.HttpError.TheVariants as error
use Rattle.smithy_http.specs.declared.error.ListFault.TheVariants as fault
use Rattle.smithy_http.proofs.DateLemmas.{onto_all, cut_whole, dates_in-piece}
use Rattle.smithy_serde.specs.Ranges.{is_signed_within}
use Rattle.smithy_strings.specs.Lists.{listed, element_item, IsTimeInRange, TimesAreRead}
use Rattle.smithy_strings.proofs.AsciiTexts.{are_low, IsAscii-from_test, utf8_from_low}
use Rattle.smithy_strings.proofs.ListLaws.{trim_same}
use Rattle.smithy_strings.proofs.TimeTexts.{is_plain_byte, are_plain, IsPlain, OneComma, TimeForm, time_form, form_low, form_some, time_ends}
use Rattle.smithy_strings.proofs.UnwireLaws.{time_back}

-- The pieces between commas.

onto_more : (b : ℕ) (t : List ℕ) (ps : List (List ℕ)) → onto_first b (onto_all t ps) ≡ onto_all (b ∷ t) ps
onto_more b t [] = refl
onto_more b t (p ∷ ps) = refl

-- a text without a comma is not cut
cut_plain : (own stays : Bool) (t rest : List ℕ) → are_plain t ≡ true → cut_at_commas own stays (t ++ rest) ≡ onto_all t (cut_at_commas own stays rest)
cut_plain own stays [] rest e = sym (cut_whole own stays rest)
cut_plain own stays (b ∷ t) rest e =
    let parts = and_parts (is_plain_byte b) (are_plain t) e in
    let other : is_comma b ≡ false = not-true (b == 44) (and_parts (nat_lt b 128) (not (b == 44)) parts.0).1 in
    ap (λ x. cond x (cond stays (onto_first b (cut_at_commas own false (t ++ rest))) ([] ∷ cut_at_commas own own (t ++ rest))) (onto_first b (cut_at_commas own stays (t ++ rest)))) other
    ∙ ap (onto_first b) (cut_plain own stays t rest parts.1)
    ∙ onto_more b t (cut_at_commas own stays rest)

-- a text is cut off at the comma behind it, and stays whole where there is none
record IsCutOff (own : Bool) (t : List ℕ) : Type 0 where
  more : (rest : List ℕ) → cut_at_commas own own (t ++ 44 ∷ rest) ≡ t ∷ cut_at_commas own own rest
  alone : cut_at_commas own own t ≡ t ∷ []

plain_cut_off : (t : List ℕ) → IsPlain t → IsCutOff false t
plain_cut_off t is = record {
  more = λ rest. cut_plain false false t (44 ∷ rest) is.plain ∙ ap (λ x. x ∷ cut_at_commas false false rest) (append-nil t);
  alone = ap (cut_at_commas false false) (sym (append-nil t)) ∙ cut_plain false false t [] is.plain ∙ ap (λ x. x ∷ []) (append-nil t);
}

one_comma_cut_off : (t : List ℕ) → OneComma t → IsCutOff true t
one_comma_cut_off t is = record {
  more = λ rest.
      ap (cut_at_commas true true) (ap (λ x. x ++ 44 ∷ rest) is.is ∙ append_assoc is.front (44 ∷ is.back) (44 ∷ rest)) ∙ both (44 ∷ rest)
      ∙ ap (λ x. (is.front ++ 44 ∷ x) ∷ cut_at_commas true true rest) (append-nil is.back) ∙ ap (λ x. x ∷ cut_at_commas true true rest) (sym is.is);
  alone =
      ap (cut_at_commas true true) (is.is ∙ ap (λ x. is.front ++ 44 ∷ x) (sym (append-nil is.back))) ∙ both []
      ∙ ap (λ x. (is.front ++ 44 ∷ x) ∷ []) (append-nil is.back) ∙ ap (λ x. x ∷ []) (sym is.is);
}
  where
    both : (rest : List ℕ) → cut_at_commas true true (is.front ++ 44 ∷ (is.back ++ rest)) ≡ onto_all is.front (onto_first 44 (onto_all is.back (cut_at_commas true false rest)))
    both rest = cut_plain true true is.front (44 ∷ (is.back ++ rest)) is.plain_front ∙ ap (λ ps. onto_all is.front (onto_first 44 ps)) (cut_plain true false is.back rest is.plain_back)

cut_off : (f : Format) (t : List ℕ) → TimeForm f t → IsCutOff (has_comma f) t
cut_off HttpDate t is = one_comma_cut_off t is
cut_off EpochSeconds t is = plain_cut_off t is
cut_off DateTime t is = plain_cut_off t is

-- the pieces of a list: each but the first has a blank before it
cut_joined : (own : Bool) (t : List ℕ) (ts : List (List ℕ)) → AllByRecursion (IsCutOff own) (t ∷ ts) → cut_at_commas own own (joined (codes ", ") (t ∷ ts)) ≡ t ∷ map (λ x. 32 ∷ x) ts
cut_joined own t [] all = all.0.alone
cut_joined own t (u ∷ ts) all =
    ap (cut_at_commas own own) (append_assoc t (codes ", ") (joined (codes ", ") (u ∷ ts)))
    ∙ all.0.more (32 ∷ joined (codes ", ") (u ∷ ts))
    ∙ ap (λ ps. t ∷ onto_first 32 ps) (cut_joined own u ts all.1)

-- One piece.

-- a blank before a text that is ASCII is trimmed
trim_blank : (t : List ℕ) → are_low t ≡ true → trim (32 ∷ t) ≡ trim t
unfolding trim_start
trim_blank t low =
    let ascii = IsAscii-from_test t low in
    let more = IsAscii-from_test (32 ∷ t) low in
    ap (λ cs. trim_end (encode_utf8_all (skip_leading_whitespace cs))) (chars-IsAscii (32 ∷ t) more) ∙ ap (λ cs. trim_end (encode_utf8_all (skip_leading_whitespace cs))) (sym (chars-IsAscii t ascii))

-- a time in range, its text and its place behind a comma
record IsReadAlone (f : Format) (z : ℤ) (t : List ℕ) : Type 0 where
  form : TimeForm f t
  plainly : date_in f t ≡ Ok z
  behind : date_in f (32 ∷ t) ≡ Ok z

read_alone : (f : Format) (z : ℤ) (t : List ℕ) → is_signed_within (2 ^ 63) z ≡ true → timestamp_text f z ≡ Some t → IsReadAlone f z t
read_alone f z t range e =
    let form = time_form f z t range e in
    let low = form_low f t form in
    let ascii = IsAscii-from_test t low in
    let ends = time_ends f z t range e in
    let same = chars-IsAscii t ascii in
    let trimmed = trim_same t (IsUtf8-from_ascii t ascii) (ap begins_with_white_space same ∙ ends.0) (ap ends_with_white_space same ∙ ends.1) in
    let read : ok_or (timestamp_of f t) (error.List fault.Item) ≡ Ok z = ap (λ o. ok_or o (error.List fault.Item)) (time_back f z t range e) in
    record {
      form = form;
      plainly = ap (λ x. ok_or (timestamp_of f x) (error.List fault.Item)) trimmed ∙ read;
      behind = ap (λ x. ok_or (timestamp_of f x) (error.List fault.Item)) (trim_blank t low ∙ trimmed) ∙ read;
    }

-- All of them.

record IsFirstOf (f : Format) (z : ℤ) (zs : List ℤ) (ts : List (List ℕ)) : Type 0 where
  text : List ℕ
  rest : List (List ℕ)
  first : timestamp_text f z ≡ Some text
  later : each (timestamp_text f) zs ≡ Some rest
  is : text ∷ rest ≡ ts

first_of : (f : Format) (z : ℤ) (zs : List ℤ) (ts : List (List ℕ)) → each (timestamp_text f) (z ∷ zs) ≡ Some ts → IsFirstOf f z zs ts
first_of f z zs ts e = go (timestamp_text f z) (each (timestamp_text f) zs) refl refl e
  where
    go : (o : Option (List ℕ)) (p : Option (List (List ℕ))) → timestamp_text f z ≡ o → each (timestamp_text f) zs ≡ p → option_and_then (λ y. option_map (λ ys. y ∷ ys) p) o ≡ Some ts → IsFirstOf f z zs ts
    go None p first later h = absurd (cc h)
    go (Some y) None first later h = absurd (cc h)
    go (Some y) (Some ys) first later h = let same : y ∷ ys ≡ ts = cc h in record { text = y; rest = ys; first = first; later = later; is = same }

-- what stands behind the first comma
record AreRead (f : Format) (zs : List ℤ) (ts : List (List ℕ)) : Type 0 where
  forms : AllByRecursion (TimeForm f) ts
  behind : dates_in f (map (λ t. 32 ∷ t) ts) ≡ Ok zs

are_read : (f : Format) (zs : List ℤ) (ts : List (List ℕ)) → AllByRecursion IsTimeInRange zs → each (timestamp_text f) zs ≡ Some ts → AreRead f zs ts
are_read f [] ts range e = let none : [] ≡ ts = cc e in subst (AreRead f []) none (record { forms = tt; behind = refl })
are_read f (z ∷ zs) ts range e =
    let x = first_of f z zs ts e in
    let one = read_alone f z x.text range.0 x.first in
    let more = are_read f zs x.rest range.1 x.later in
    subst (AreRead f (z ∷ zs)) x.is (record {
      forms = (one.form, more.forms);
      behind = dates_in-piece f (32 ∷ x.text) (map (λ t. 32 ∷ t) x.rest) z one.behind ∙ ap (λ r. then_give r (λ dates. z ∷ dates)) more.behind;
    })

all_cut_off : (f : Format) (ts : List (List ℕ)) → AllByRecursion (TimeForm f) ts → AllByRecursion (IsCutOff (has_comma f)) ts
all_cut_off f [] all = tt
all_cut_off f (t ∷ ts) all = (cut_off f t all.0, all_cut_off f ts all.1)

front_empty : (a b : List ℕ) → a ++ b ≡ [] → a ≡ []
front_empty [] b e = refl
front_empty (x ∷ a) b e = absurd (cc e)

some_joined : (t : List ℕ) (ts : List (List ℕ)) → t ≢ [] → joined (codes ", ") (t ∷ ts) ≢ []
some_joined t [] some e = some e
some_joined t (u ∷ ts) some e = some (front_empty t (codes ", ") (front_empty (t ++ codes ", ") _ e))

some_pieces : (f : Format) (text : List ℕ) → text ≢ [] → date_pieces f text ≡ cut_at_commas (has_comma f) (has_comma f) text
some_pieces f [] some = absurd (some refl)
some_pieces f (b ∷ text) some = refl

pieces_read : (f : Format) (zs : List ℤ) (ts : List (List ℕ)) → AllByRecursion IsTimeInRange zs → each (timestamp_text f) zs ≡ Some ts → dates_in f (date_pieces f (joined (codes ", ") ts)) ≡ Ok zs
pieces_read f [] ts range e = let none : [] ≡ ts = cc e in ap (λ us. dates_in f (date_pieces f (joined (codes ", ") us))) (sym none)
pieces_read f (z ∷ zs) ts range e =
    let x = first_of f z zs ts e in
    let one = read_alone f z x.text range.0 x.first in
    let more = are_read f zs x.rest range.1 x.later in
    ap (λ us. dates_in f (date_pieces f (joined (codes ", ") us))) (sym x.is)
    ∙ ap (dates_in f) (some_pieces f (joined (codes ", ") (x.text ∷ x.rest)) (some_joined x.text x.rest (form_some f x.text one.form)) ∙ cut_joined (has_comma f) x.text x.rest (all_cut_off f (x.text ∷ x.rest) (one.form, more.forms)))
    ∙ dates_in-piece f x.text (map (λ t. 32 ∷ t) x.rest) z one.plainly
    ∙ ap (λ r. then_give r (λ dates. z ∷ dates)) more.behind

joined_low : (f : Format) (ts : List (List ℕ)) → AllByRecursion (TimeForm f) ts → are_low (joined (codes ", ") ts) ≡ true
joined_low f [] all = refl
joined_low f (t ∷ []) all = form_low f t all.0
joined_low f (t ∷ u ∷ ts) all =
    let rest = joined (codes ", ") (u ∷ ts) in
    list_all-append (λ b. nat_lt b 128) (t ++ codes ", ") rest
    ∙ and_from (are_low (t ++ codes ", ")) (are_low rest) (list_all-append (λ b. nat_lt b 128) t (codes ", ") ∙ and_from (are_low t) true (form_low f t all.0) refl) (joined_low f (u ∷ ts) all.1)

as_they_are : (ts : List (List ℕ)) → map (element_item kind.Timestamp) ts ≡ ts
as_they_are [] = refl
as_they_are (t ∷ ts) = ap (λ us. t ∷ us) (as_they_are ts)

pub times_are_read : TimesAreRead
unfolding listed dates_of
times_are_read f zs ts range e =
    let value : List ℕ = joined (codes ", ") ts in
    let utf8 : is_utf8 value ≡ true = utf8_from_low value (joined_low f ts (are_read f zs ts range e).forms) in
    let read : value_dates f value ≡ Ok zs = ap (λ b. then_try (if b then Ok value else Err error.NotUtf8) (λ text. dates_in f (date_pieces f text))) utf8 ∙ pieces_read f zs ts range e in
    ap (λ us. gathered (value_dates f) (joined (codes ", ") us ∷ [])) (as_they_are ts)
    ∙ ap (λ r. then_try r (λ items. then_give (Ok []) (λ others. items ++ others))) read
    ∙ ap Ok (append-nil zs)
