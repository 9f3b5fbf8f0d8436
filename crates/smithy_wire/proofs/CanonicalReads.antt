-- What is read of a body is canonical: a number that is given as negative is negative.
use Rattle.smithy_wire.proofs.Common.{◌≡◌, refl, subst, ℕ, suc, ◌==◌, ◌&&◌, pos, negsuc, ℤ, Bool, true, false, if◌then◌else◌, List, [], ◌∷◌, length, Option, Some, None, option_map, option_and_then, ok_or, Result, Ok, Err}
use Rattle.std.specs.List.{AllByRecursion}
use Rattle.std.specs.Option.{option_map_or, option_or}
use Rattle.std.specs.Prelude.{IfSome, IfOk}
use Rattle.std.proofs.lemmas.Bool.{and_from}
use Rattle.fast_float.specs.Text.{whole_of, with_sign}
use Rattle.json.specs.Json as json
use Rattle.json.specs.Json.{Json}
use Rattle.serde_json.specs.Data as parsed
use Rattle.serde_json.specs.Data.{Num}
use Rattle.serde_json.specs.Read as core
use Rattle.smithy_ids.specs.Kinds.{same_kind}
use Rattle.smithy_ids.specs.declared.shape_type.ShapeType.TheVariants as kind
use Rattle.smithy_json.specs.FromData.{number_of_data}
use Rattle.smithy_json.proofs.OptionLemmas.{mapped}
use Rattle.smithy_document.proofs.ShapedCanonical.{number_canonical, put_canonical}
use Rattle.smithy_serde.specs.Held as held
use Rattle.smithy_serde.specs.Held.{Held}
use Rattle.smithy_serde.specs.Ranges.{is_number_in_range}
use Rattle.smithy_types.specs.Documents as doc
use Rattle.smithy_types.specs.Documents.{Document, Number, Members, is_canonical, is_canonical_number, are_canonical_items, are_canonical_members, number_of, put, put_all, members_of}
use Rattle.smithy_types.specs.Results.{then_give, then_try}
use Rattle.smithy_types.specs.declared.date_time.Format.{Format}
use Rattle.smithy_types.specs.declared.date_time.Format.TheVariants.{DateTime, HttpDate}
use Rattle.smithy_wire.specs.ExactNumbers.{plain_number, exact_number, if_in_range, is_below_zero, is_integer, is_whole, parts_of, whole_number, floor_in, integer_number, size_below, whole_decimal, decimal_number}
use Rattle.smithy_wire.specs.Forms.{Form, free, fields, items, entries, date_time, http_date, big_integer, big_decimal, whole, document, other, element_form, part_form, name_in}
use Rattle.smithy_wire.specs.Unwire.{item_step, part_step, within, integer_read, number_read, time_read, string_read, unread, unwire, unwire_items, unwire_pairs}
use Rattle.smithy_wire.specs.WireText.{held_in, held_of, json_in, wire_held}
use Rattle.smithy_wire.specs.WireTimes.{before_blank, spelled}
use Rattle.smithy_wire.specs.declared.unread.Unread.{Unread}
use Rattle.smithy_wire.specs.declared.wire_style.WireStyle.{WireStyle}

abbrev IsCanonical : Document → Type 0
IsCanonical d = is_canonical d ≡ true

abbrev IsCanonicalNumber : Number → Type 0
IsCanonicalNumber n = is_canonical_number n ≡ true

abbrev AreItemsCanonical : doc.Items → Type 0
AreItemsCanonical ds = are_canonical_items ds ≡ true

abbrev ArePairsCanonical : List (List ℕ × Document) → Type 0
ArePairsCanonical ps = AllByRecursion (λ p. IsCanonical p.1) ps

-- ---- numbers

data_canonical : (n : Num) → IfSome (number_of_data n) IsCanonicalNumber
data_canonical (parsed.unsigned n) = refl
data_canonical (parsed.negative (pos n)) = refl
data_canonical (parsed.negative (negsuc n)) = refl
data_canonical (parsed.float x) = tt

plain_canonical : (text : List ℕ) → IfSome (plain_number text) IsCanonicalNumber
plain_canonical text = go (core.number_of text)
  where
    go : (o : Option Num) → IfSome (option_and_then number_of_data o) IsCanonicalNumber
    go None = tt
    go (Some n) = data_canonical n

ranged_canonical : (z : ℤ) → IfSome (if_in_range z) IsCanonicalNumber
ranged_canonical z = go (is_number_in_range (number_of z))
  where
    go : (b : Bool) → IfSome (if b then Some (number_of z) else None) IsCanonicalNumber
    go true = number_canonical z
    go false = tt

if_some : {A : Type 0} (P : A → Type 0) (b : Bool) (o : Option A) → IfSome o P → IfSome (if b then o else None) P
if_some P true o h = h
if_some P false o h = tt

exact_canonical : (text : List ℕ) → IfSome (exact_number text) IsCanonicalNumber
exact_canonical text = if_some IsCanonicalNumber (is_whole (parts_of text)) _ (ranged_canonical (with_sign (is_below_zero text) (whole_of (parts_of text))))

either : {A : Type 0} (P : A → Type 0) (o p : Option A) → IfSome o P → IfSome p P → IfSome (option_or o p) P
either P None p h j = j
either P (Some x) p h j = h

whole_canonical : (text : List ℕ) → IfSome (whole_number text) IsCanonicalNumber
whole_canonical text = either IsCanonicalNumber (plain_number text) (exact_number text) (plain_canonical text) (exact_canonical text)

integer_canonical : (floors : Bool) (text : List ℕ) → IfSome (integer_number floors text) IsCanonicalNumber
integer_canonical false text = whole_canonical text
integer_canonical true text =
    either IsCanonicalNumber (whole_number text) (floor_in (is_below_zero text) (parts_of text)) (whole_canonical text)
    (ranged_canonical (with_sign (is_below_zero text) (if is_below_zero text then size_below (parts_of text) else whole_of (parts_of text))))

decimal_canonical : (text : List ℕ) → IfSome (decimal_number text) IsCanonicalNumber
decimal_canonical text = if_some IsCanonicalNumber (is_integer text) (plain_number text) (plain_canonical text)

-- ---- scalars

number_document : (o : Option Number) → IfSome o IsCanonicalNumber → IfSome (option_map doc.number o) IsCanonical
number_document o h = mapped IsCanonicalNumber IsCanonical doc.number (λ n j. j) o h

number_or : (o : Option Number) (d : Document) → IfSome o IsCanonicalNumber → IsCanonical d → IsCanonical (option_map_or doc.number o d)
number_or None d h j = j
number_or (Some n) d h j = h

some_string : (o : Option (List ℕ)) → IfSome (option_map doc.string o) IsCanonical
some_string None = tt
some_string (Some t) = refl

either_text : (b : Bool) (s : List ℕ) (o : Option Document) → IfSome o IsCanonical → IfSome (if b then Some (doc.string s) else o) IsCanonical
either_text true s o h = refl
either_text false s o h = h

integer_document : (floors : Bool) (s : List ℕ) → IfSome (integer_read floors s) IsCanonical
integer_document floors s = number_document (integer_number floors s) (integer_canonical floors s)

number_canonically : (floors : Bool) (f : Form) (s : List ℕ) → IfSome (number_read floors f s) IsCanonical
number_canonically floors free s = number_or (plain_number s) doc.null (plain_canonical s) refl
number_canonically floors date_time s = integer_document floors s
number_canonically floors http_date s = integer_document floors s
number_canonically floors (whole k) s = integer_document (floors && same_kind k kind.Timestamp) s
number_canonically floors big_integer s = either_text (is_integer s) s (option_map doc.string (whole_decimal s)) (some_string (whole_decimal s))
number_canonically floors big_decimal s = refl
number_canonically floors (fields side n) s = number_document (plain_number s) (plain_canonical s)
number_canonically floors (items element) s = number_document (plain_number s) (plain_canonical s)
number_canonically floors (entries value) s = number_document (plain_number s) (plain_canonical s)
number_canonically floors document s = number_document (plain_number s) (plain_canonical s)
number_canonically floors (other k) s = number_document (plain_number s) (plain_canonical s)

time_canonical : (floors : Bool) (format : Format) (s : List ℕ) → IfSome (time_read floors format s) IsCanonical
time_canonical floors format s = go (before_blank s)
  where
    seconds : (o : Option ℤ) → IfSome (option_map (λ z. doc.number (number_of z)) o) IsCanonical
    seconds None = tt
    seconds (Some z) = number_canonical z

    go : (o : Option (List ℕ)) → IfSome (option_map_or (λ front. Some (doc.string front)) o (option_map (λ z. doc.number (number_of z)) (spelled floors format s))) IsCanonical
    go None = seconds (spelled floors format s)
    go (Some front) = refl

string_canonical : (floors : Bool) (f : Form) (s : List ℕ) → IfSome (string_read floors f s) IsCanonical
string_canonical floors date_time s = time_canonical floors DateTime s
string_canonical floors http_date s = time_canonical floors HttpDate s
string_canonical floors big_integer s = number_or (decimal_number s) (doc.string s) (decimal_canonical s) refl
string_canonical floors big_decimal s = number_or (decimal_number s) (doc.string s) (decimal_canonical s) refl
string_canonical floors free s = refl
string_canonical floors (fields side n) s = refl
string_canonical floors (items element) s = refl
string_canonical floors (entries value) s = refl
string_canonical floors (whole k) s = refl
string_canonical floors document s = refl
string_canonical floors (other k) s = refl

-- ---- values

told_or : {A E : Type 0} (P : A → Type 0) (o : Option A) (e : E) → IfSome o P → IfOk (ok_or o e) P
told_or P None e h = tt
told_or P (Some x) e h = h

gives : {A B E : Type 0} (P : A → Type 0) (Q : B → Type 0) (f : A → B) → ((x : A) → P x → Q (f x)) → (r : Result A E) → IfOk r P → IfOk (then_give r f) Q
gives P Q f step (Ok x) h = step x h
gives P Q f step (Err e) h = tt

tries : {A B E : Type 0} (P : A → Type 0) (Q : B → Type 0) (f : A → Result B E) → ((x : A) → P x → IfOk (f x) Q) → (r : Result A E) → IfOk r P → IfOk (then_try r f) Q
tries P Q f step (Ok x) h = step x h
tries P Q f step (Err e) h = tt

behind : {A : Type 0} (P : A → Type 0) (step : List ℕ) (r : Result A Unread) → IfOk r P → IfOk (within step r) P
behind P step (Ok x) h = h
behind P step (Err u) h = tt

put_all_canonical : (ps : List (List ℕ × Document)) (ms : Members) → ArePairsCanonical ps → are_canonical_members ms ≡ true → are_canonical_members (put_all ps ms) ≡ true
put_all_canonical [] ms h j = j
put_all_canonical (p ∷ ps) ms h j = put_all_canonical ps (put p.0 p.1 ms) h.1 (put_canonical p.0 p.1 ms h.0 j)

mutual
  value_canonical : (style : WireStyle) (f : Form) (j : Json) → IfOk (unwire style f j) IsCanonical
  value_canonical style f json.null = refl
  value_canonical style f (json.boolean b) = refl
  value_canonical style f (json.number s) = told_or IsCanonical (number_read style.floors_times f s) (unread s f) (number_canonically style.floors_times f s)
  value_canonical style f (json.string s) = told_or IsCanonical (string_read style.floors_times f s) (unread s f) (string_canonical style.floors_times f s)
  value_canonical style f (json.array js) = gives AreItemsCanonical IsCanonical doc.array (λ ds h. h) (unwire_items style (element_form f) 0 js) (items_canonical style (element_form f) 0 js)
  value_canonical style f (json.object ms) =
      gives ArePairsCanonical IsCanonical (λ ps. doc.object (members_of ps)) (λ ps h. put_all_canonical ps doc.no_members h refl) (unwire_pairs style f ms) (pairs_canonical style f ms)

  items_canonical : (style : WireStyle) (f : Form) (i : ℕ) (js : json.Items) → IfOk (unwire_items style f i js) AreItemsCanonical
  items_canonical style f i json.no_items = refl
  items_canonical style f i (json.item j js) =
      tries IsCanonical AreItemsCanonical _ (λ d h. gives AreItemsCanonical AreItemsCanonical (doc.item d) (λ ds k. and_from (is_canonical d) (are_canonical_items ds) h k) (unwire_items style f (suc i) js) (items_canonical style f (suc i) js))
      (within (item_step i) (unwire style f j)) (behind IsCanonical (item_step i) (unwire style f j) (value_canonical style f j))

  pairs_canonical : (style : WireStyle) (f : Form) (ms : json.Members) → IfOk (unwire_pairs style f ms) ArePairsCanonical
  pairs_canonical style f json.no_members = tt
  pairs_canonical style f (json.member w j ms) =
      let k = name_in style.json_names f w in
      tries IsCanonical ArePairsCanonical _ (λ d h. gives ArePairsCanonical ArePairsCanonical (λ ps. (k, d) ∷ ps) (λ ps l. (h, l)) (unwire_pairs style f ms) (pairs_canonical style f ms))
      (within (part_step f k) (unwire style (part_form f k) j)) (behind IsCanonical (part_step f k) (unwire style (part_form f k) j) (value_canonical style (part_form f k) j))

-- ---- bodies

abbrev HasCanonical : Held → Type 0
HasCanonical (held.document d) = IsCanonical d
HasCanonical _ = Unit {0}

result_canonical : (r : Result Document Unread) → IfOk r IsCanonical → HasCanonical (held_of r)
result_canonical (Ok d) h = h
result_canonical (Err u) h = tt

json_canonical : (style : WireStyle) (f : Form) (o : Option Json) → HasCanonical (held_in style f o)
json_canonical style f (Some j) = result_canonical (unwire style f j) (value_canonical style f j)
json_canonical style f None = tt

body_canonical : (style : WireStyle) (f : Form) (bytes : List ℕ) → IfSome (wire_held style f bytes) HasCanonical
unfolding wire_held
body_canonical style f bytes = go (length bytes == 0)
  where
    go : (b : Bool) → HasCanonical (if b then held.document (doc.object doc.no_members) else held_in style f (json_in bytes))
    go true = refl
    go false = json_canonical style f (json_in bytes)

-- the document that a body is
pub held_canonical : (style : WireStyle) (f : Form) (bytes : List ℕ) (d : Document) → wire_held style f bytes ≡ Some (held.document d) → is_canonical d ≡ true
held_canonical style f bytes d is = subst (λ o. IfSome o HasCanonical) is (body_canonical style f bytes)
