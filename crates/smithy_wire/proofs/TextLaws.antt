-- The text of a document is not empty, and is read back.
use Rattle.std.proofs.Common.{eqb-true}
use Rattle.std.proofs.lemmas.Str.{IsUtf8-append, IsUtf8-from_is_utf8}
use Rattle.std.specs.Prelude.{codes}
use Rattle.std.specs.List.{list_all}
use Rattle.std.specs.Option.{option_map_or}
use Rattle.std.specs.Str.{IsUtf8, is_utf8}
use Rattle.smithy_wire.proofs.Common.{◌≡◌, ◌≢◌, refl, sym, ap, ap₂, ◌∙◌, subst, ℕ, suc, ◌≤◌, ◌==◌, max, arith, Bool, true, false, if◌then◌else◌, List, [], ◌∷◌, ◌++◌, length, Option, Some, None, IsTrue, ℤ, ◌||◌, and_parts}
use Rattle.json.specs.Json as json
use Rattle.json.specs.Json.{Json}
use Rattle.json.specs.Tree.{depth, items_depth, members_depth, json_tokens}
use Rattle.json.specs.Print.{print}
use Rattle.smithy_ids.specs.declared.traits.TimestampFormat.TheVariants as time
use Rattle.smithy_schema.specs.Nodes.{Schema, name_of}
use Rattle.smithy_serde.specs.DocumentReads.{integer_of_number, number_text}
use Rattle.smithy_serde.specs.Held as held
use Rattle.smithy_serde.specs.Lawful.{IsLawfulText, is_sound, max_nesting}
use Rattle.smithy_serde.specs.Values as value
use Rattle.smithy_strings.proofs.WireTexts.{wire_utf8}
use Rattle.smithy_strings.specs.declared.wire.Place.TheVariants.{Header}
use Rattle.smithy_types.specs.Documents as doc
use Rattle.smithy_types.specs.Documents.{Document, Number, nesting, items_nesting, members_nesting}
use Rattle.smithy_types.specs.Texts.{is_one_of, same_text}
use Rattle.smithy_types.specs.Timestamps.{timestamp_text}
use Rattle.smithy_types.specs.declared.date_time.Format.TheVariants.{DateTime, HttpDate}
use Rattle.smithy_document.proofs.SoundDocuments.{IsSoundNumber, IsSound, AreItemsSound, AreMembersSound, sound_means}
use Rattle.json.proofs.Printed.Utf8.{IsUtf8-are_ascii}
use Rattle.smithy_wire.specs.declared.side.Side.{Side}
use Rattle.smithy_wire.specs.declared.wire_style.WireStyle.{WireStyle}
use Rattle.smithy_wire.specs.WireNames.{json_name, fields_of, field_named, field_in_json, field_names, swapped}
use Rattle.smithy_wire.specs.ExactNumbers.{is_number, is_integer}
use Rattle.smithy_wire.specs.Forms.{Form, free, fields, items, entries, date_time, http_date, big_integer, big_decimal, whole, document, other, element_form, part_form, name_in}
use Rattle.smithy_wire.specs.Standing.{StructureStands, Stand}
use Rattle.smithy_wire.proofs.EachLemmas.{each_element, each_part}
use Rattle.smithy_wire.proofs.StandLemmas.{closed_stands, structure_stand}
use Rattle.smithy_wire.specs.Wire.{wire, wire_items, wire_members, wire_number, wire_string}
use Rattle.smithy_wire.specs.WireText.{wire_text, json_in, held_of, held_in, wire_held}
use Rattle.smithy_wire.proofs.NameLaws.{NamesStand, a_field, same_from, named_field, json_field, own_name, own_json_name, one_of_members}
use Rattle.smithy_wire.proofs.NumberLaws.{decimal_is_number, decimal_utf8, is_number-means}
use Rattle.smithy_wire.proofs.TimeLaws.{in_range, within_calendar}
use Rattle.smithy_wire.proofs.WireLaws.{unwire-wire}
use Rattle.smithy_wire.proofs.WrittenJson.{IsWritable, AreItemsWritable, AreMembersWritable, printed_some, read_printed}

-- a scalar of JSON that can be written
pub record IsScalar (j : Json) : Type 0 where
  pub writable : IsWritable j
  pub depth : depth j ≡ 0

number_scalar : (n : Number) → IsSoundNumber n → IsScalar (json.number (number_text n))
number_scalar n h = record { writable = (decimal_is_number n h, decimal_utf8 n h); depth = refl }

decimal_scalar : (n : Number) → IsSoundNumber n → IsScalar (json.string (number_text n))
decimal_scalar n h = record { writable = decimal_utf8 n h; depth = refl }

text_scalar : (s : List ℕ) → IsUtf8 s → IsScalar (json.string s)
text_scalar s h = record { writable = h; depth = refl }

-- ---- times

date_time_utf8 : (z : ℤ) (t : List ℕ) → timestamp_text DateTime z ≡ Some t → IsUtf8 t
date_time_utf8 z t is = IsUtf8-from_is_utf8 t (wire_utf8 (Some time.DateTime) false Header (value.scalar (value.timestamp z)) t (in_range z (within_calendar DateTime z t is)) is)

http_date_utf8 : (z : ℤ) (t : List ℕ) → timestamp_text HttpDate z ≡ Some t → IsUtf8 t
http_date_utf8 z t is = IsUtf8-from_is_utf8 t (wire_utf8 (Some time.HttpDate) false Header (value.scalar (value.timestamp z)) t (in_range z (within_calendar HttpDate z t is)) is)

-- ---- scalars

number_written : (f : Form) (n : Number) → IsSoundNumber n → IsScalar (wire_number f n)
number_written free n h = number_scalar n h
number_written (fields side s) n h = number_scalar n h
number_written (items element) n h = number_scalar n h
number_written (entries value) n h = number_scalar n h
number_written date_time n h = go (timestamp_text DateTime (integer_of_number n)) refl
  where
    go : (o : Option (List ℕ)) → timestamp_text DateTime (integer_of_number n) ≡ o → IsScalar (option_map_or json.string o (json.number (number_text n)))
    go None is = number_scalar n h
    go (Some t) is = text_scalar t (date_time_utf8 (integer_of_number n) t is)
number_written http_date n h = go (timestamp_text HttpDate (integer_of_number n)) refl
  where
    go : (o : Option (List ℕ)) → timestamp_text HttpDate (integer_of_number n) ≡ o → IsScalar (option_map_or json.string o (json.number (number_text n)))
    go None is = number_scalar n h
    go (Some t) is = text_scalar t (http_date_utf8 (integer_of_number n) t is)
number_written big_integer n h = decimal_scalar n h
number_written big_decimal n h = decimal_scalar n h
number_written (whole k) n h = number_scalar n h
number_written document n h = number_scalar n h
number_written (other k) n h = number_scalar n h

blank_scalar : (s : List ℕ) → IsUtf8 s → IsScalar (json.string (s ++ codes " "))
blank_scalar s h = text_scalar (s ++ codes " ") (IsUtf8-append s (codes " ") h (IsUtf8-are_ascii (codes " ") refl))

number_text_scalar : (s : List ℕ) (b : Bool) → IsUtf8 s → (b ≡ true → is_number s ≡ true) → IsScalar (if b then json.number s else json.string s)
number_text_scalar s true h is = record { writable = (is_number-means s (is refl), h); depth = refl }
number_text_scalar s false h is = text_scalar s h

string_written : (f : Form) (s : List ℕ) → IsUtf8 s → IsScalar (wire_string f s)
string_written free s h = text_scalar s h
string_written (fields side n) s h = text_scalar s h
string_written (items element) s h = text_scalar s h
string_written (entries value) s h = text_scalar s h
string_written date_time s h = blank_scalar s h
string_written http_date s h = blank_scalar s h
string_written big_integer s h = number_text_scalar s (is_integer s) h (λ is. (and_parts (is_number s) _ is).0)
string_written big_decimal s h = number_text_scalar s (is_number s) h (λ is. is)
string_written (whole k) s h = text_scalar s h
string_written document s h = text_scalar s h
string_written (other k) s h = text_scalar s h

-- ---- names

utf8_among : (x : List ℕ) (xs : List (List ℕ)) → list_all is_utf8 xs ≡ true → is_one_of x xs ≡ true → IsUtf8 x
utf8_among x [] h is = absurd (cc is)
utf8_among x (y ∷ ys) h is =
    let parts = and_parts (is_utf8 y) (list_all is_utf8 ys) h in
    go (same_text x y) refl is (utf8_among x ys parts.1)
  where
    go : (b : Bool) → same_text x y ≡ b → (b || is_one_of x ys) ≡ true → (is_one_of x ys ≡ true → IsUtf8 x) → IsUtf8 x
    go true at is rest = let parts = and_parts (is_utf8 y) (list_all is_utf8 ys) h in subst IsUtf8 (sym (same_from x y at)) (IsUtf8-from_is_utf8 y parts.0)
    go false at is rest = rest is

swapped_utf8 : (side : Option Side) (s : Schema) (x : List ℕ) → NamesStand side s → IsUtf8 x → IsUtf8 (swapped side s x)
swapped_utf8 side s x stand h = go (field_named side s x) refl (field_in_json side s x) refl
  where
    go : (o : Option Schema) → field_named side s x ≡ o → (p : Option Schema) → field_in_json side s x ≡ p → IsUtf8 (option_map_or json_name o (option_map_or name_of p x))
    go (Some m) is p at = let field = named_field side s x m is in utf8_among (json_name m) (field_names side s) stand.utf8 (one_of_members (json_name m) (fields_of side s) m (a_field side s m field.1) (own_json_name m))
    go None is (Some m) at = let field = json_field side s x m at in utf8_among (name_of m) (field_names side s) stand.utf8 (one_of_members (name_of m) (fields_of side s) m (a_field side s m field.1) (own_name m))
    go None is None at = h

name_utf8 : (names : Bool) (f : Form) (k : List ℕ) → Stand names f → IsUtf8 k → IsUtf8 (name_in names f k)
name_utf8 false f k stand h = h
name_utf8 true free k stand h = h
name_utf8 true (fields side s) k stand h = swapped_utf8 side s k (structure_stand side s (stand refl)) h
name_utf8 true (items element) k stand h = h
name_utf8 true (entries value) k stand h = h
name_utf8 true date_time k stand h = h
name_utf8 true http_date k stand h = h
name_utf8 true big_integer k stand h = h
name_utf8 true big_decimal k stand h = h
name_utf8 true (whole n) k stand h = h
name_utf8 true document k stand h = h
name_utf8 true (other n) k stand h = h

-- ---- documents

mutual
  written : (names : Bool) (f : Form) (d : Document) → Stand names f → IsSound d → IsWritable (wire names f d)
  written names f doc.null stand h = tt
  written names f (doc.boolean b) stand h = tt
  written names f (doc.number n) stand h = (number_written f n h).writable
  written names f (doc.string s) stand h = (string_written f s h).writable
  written names f (doc.array ds) stand h = items_written names (element_form f) ds (λ is. each_element StructureStands closed_stands f (stand is)) h
  written names f (doc.object ms) stand h = members_written names f ms stand h

  items_written : (names : Bool) (f : Form) (ds : doc.Items) → Stand names f → AreItemsSound ds → AreItemsWritable (wire_items names f ds)
  items_written names f doc.no_items stand h = tt
  items_written names f (doc.item d ds) stand h = (written names f d stand h.0, items_written names f ds stand h.1)

  members_written : (names : Bool) (f : Form) (ms : doc.Members) → Stand names f → AreMembersSound ms → AreMembersWritable (wire_members names f ms)
  members_written names f doc.no_members stand h = tt
  members_written names f (doc.member k d ms) stand h =
      (name_utf8 names f k stand h.0, written names (part_form f k) d (λ is. each_part StructureStands closed_stands f k (stand is)) h.1, members_written names f ms stand h.3)

mutual
  depth_is : (names : Bool) (f : Form) (d : Document) → IsSound d → depth (wire names f d) ≡ nesting d
  depth_is names f doc.null h = refl
  depth_is names f (doc.boolean b) h = refl
  depth_is names f (doc.number n) h = (number_written f n h).depth
  depth_is names f (doc.string s) h = (string_written f s h).depth
  depth_is names f (doc.array ds) h = ap suc (items_depth_is names (element_form f) ds h)
  depth_is names f (doc.object ms) h = ap suc (members_depth_is names f ms h)

  items_depth_is : (names : Bool) (f : Form) (ds : doc.Items) → AreItemsSound ds → items_depth (wire_items names f ds) ≡ items_nesting ds
  items_depth_is names f doc.no_items h = refl
  items_depth_is names f (doc.item d ds) h = ap₂ max (depth_is names f d h.0) (items_depth_is names f ds h.1)

  members_depth_is : (names : Bool) (f : Form) (ms : doc.Members) → AreMembersSound ms → members_depth (wire_members names f ms) ≡ members_nesting ms
  members_depth_is names f doc.no_members h = refl
  members_depth_is names f (doc.member k d ms) h = ap₂ max (depth_is names (part_form f k) d h.1) (members_depth_is names f ms h.3)

-- ---- the law

not_zero : (text : List ℕ) → text ≢ [] → (length text == 0) ≡ false
not_zero [] some = absurd (some refl)
not_zero (b ∷ text) some = go (length (b ∷ text) == 0) refl
  where
    go : (c : Bool) → (length (b ∷ text) == 0) ≡ c → c ≡ false
    go false e = refl
    go true e = absurd (let none : length (b ∷ text) ≡ 0 = eqb-true (length (b ∷ text)) 0 e in omega (arith, none))

pub wire_is_lawful : (style : WireStyle) (f : Form) → Stand style.json_names f → IsLawfulText (wire_text style.json_names f) (wire_held style f)
unfolding wire_text wire_held
wire_is_lawful style f stand = record {
  is_not_empty = λ d sound. printed_some (wire style.json_names f d) (written style.json_names f d stand (sound_means d sound));
  reads_back = λ d sound low. read_back d sound low;
}
  where
    read_back : (d : Document) → IsTrue (is_sound d) → nesting d ≤ max_nesting → wire_held style f (wire_text style.json_names f d) ≡ Some (held.document d)
    read_back d sound low =
        let h = sound_means d sound in
        let writable = written style.json_names f d stand h in
        let shallow : depth (wire style.json_names f d) ≤ 127 = omega (arith, depth_is style.json_names f d h, low) in
        ap (λ b. Some (if b then held.document (doc.object doc.no_members) else held_in style f (json_in (print (json_tokens (wire style.json_names f d)))))) (not_zero (print (json_tokens (wire style.json_names f d))) (printed_some (wire style.json_names f d) writable))
        ∙ ap (λ o. Some (held_in style f o)) (read_printed (wire style.json_names f d) writable shallow)
        ∙ ap (λ r. Some (held_of r)) (unwire-wire style f d stand h)
