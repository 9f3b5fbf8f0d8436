-- The JSON of a value that follows its node is what is said of it.
use Rattle.smithy_wire.proofs.Common.{◌≡◌, refl, sym, ap, ap₂, subst, ◌∙◌, ℕ, Bool, true, false, ◌&&◌, if◌then◌else◌, List, [], ◌∷◌, Option, Some, None, option_and_then, Ok, ℤ, pos, negsuc, and_parts}
use Rattle.std.specs.Prelude.{is_some, unwrap_or}
use Rattle.std.specs.Fmt.{signed_decimal}
use Rattle.std.specs.Option.{option_map_or}
use Rattle.std.specs.Result.{result_ok}
use Rattle.json.specs.Json as json
use Rattle.json.specs.Json.{Json}
use Rattle.smithy_ids.specs.declared.shape_type.ShapeType.{ShapeType}
use Rattle.smithy_ids.specs.declared.shape_type.ShapeType.TheVariants as kind
use Rattle.smithy_ids.specs.declared.traits.TimestampFormat.{TimestampFormat}
use Rattle.smithy_ids.specs.declared.traits.TimestampFormat.TheVariants as time
use Rattle.smithy_types.specs.Documents as doc
use Rattle.smithy_types.specs.Documents.{Document, Number, items_of, list_of_members, members_of, number_of}
use Rattle.smithy_types.specs.Results.{then_give, then_try}
use Rattle.smithy_types.specs.Timestamps.{calendar_text, is_in_calendar, timestamp_text}
use Rattle.smithy_types.specs.declared.date_time.Format.TheVariants.{DateTime, HttpDate}
use Rattle.smithy_schema.specs.Nodes.{Schema, element_of, name_of, shape, value_of}
use Rattle.smithy_serde.specs.DocumentOf.{document_of, elements_of, entries_behind, entries_of, field_name as name_told_by, fields_of, key_text, scalar_document}
use Rattle.smithy_serde.specs.DocumentReads.{integer_of_number, number_text}
use Rattle.smithy_serde.specs.Fits.{kind_takes, width_kind}
use Rattle.smithy_serde.specs.Values as value
use Rattle.smithy_serde.specs.Values.{Scalar, Value, Width, scalar, list, structure, Writes, no_writes, write}
use Rattle.smithy_document.proofs.NamedPairs.{give_gave, members_ordered, name_told, try_gave}
use Rattle.smithy_document.proofs.OrderedPairs.{Aligned, Beside, Pairs, all_aligned, all_put}
use Rattle.smithy_wire.specs.ExactNumbers.{is_integer, is_number}
use Rattle.smithy_wire.specs.Follows.{elements_follow, entries_follow, field_of, fields_follow, follows, has_json, has_one_if_union, has_text, is_of_kind, values_follow}
use Rattle.smithy_wire.specs.Forms.{Form, document, either_format, element_form, entries, fields, form_by, form_of, form_or_free, free, name_in, part_form, time_form}
use Rattle.smithy_wire.specs.Laws.{FieldsAreSaid, ValuesAreSaid}
use Rattle.smithy_wire.specs.Misfits.{told_name}
use Rattle.smithy_wire.specs.Said.{Parts, document_json, elements_said, entries_json, entries_said, entry_name, field_name, fields_said, items_json, members_json, object_json, said, scalar_json, time_json, values_said}
use Rattle.smithy_wire.specs.Wire.{wire, wire_items, wire_members, wire_number, wire_string}
use Rattle.smithy_wire.specs.WireNames.{field_in_json, field_named, json_name}
use Rattle.smithy_wire.specs.declared.side.Side.{Side}
use Rattle.smithy_wire.proofs.FollowLemmas.{calendar_is, element_is, fields_are, map_is}

-- ---- where nothing is asked

-- inside a document, and where no node stands
abbrev plain : Bool → Form
plain true = document
plain false = free

plain_number : (b : Bool) (n : Number) → wire_number (plain b) n ≡ json.number (number_text n)
plain_number true n = refl
plain_number false n = refl

plain_string : (b : Bool) (s : List ℕ) → wire_string (plain b) s ≡ json.string s
plain_string true s = refl
plain_string false s = refl

plain_element : (b : Bool) → element_form (plain b) ≡ plain b
plain_element true = refl
plain_element false = refl

plain_part : (b : Bool) (k : List ℕ) → part_form (plain b) k ≡ plain b
plain_part true k = refl
plain_part false k = refl

plain_name : (names b : Bool) (k : List ℕ) → name_in names (plain b) k ≡ k
plain_name true true k = refl
plain_name true false k = refl
plain_name false true k = refl
plain_name false false k = refl

mutual
  plain_is : (names b : Bool) (d : Document) → wire names (plain b) d ≡ document_json d
  plain_is names b doc.null = refl
  plain_is names b (doc.boolean x) = refl
  plain_is names b (doc.number n) = plain_number b n
  plain_is names b (doc.string s) = plain_string b s
  plain_is names b (doc.array ds) = ap (λ f. json.array (wire_items names f ds)) (plain_element b) ∙ ap json.array (plain_items names b ds)
  plain_is names b (doc.object ms) = ap json.object (plain_members names b ms)

  plain_items : (names b : Bool) (ds : doc.Items) → wire_items names (plain b) ds ≡ items_json ds
  plain_items names b doc.no_items = refl
  plain_items names b (doc.item d ds) = ap₂ json.item (plain_is names b d) (plain_items names b ds)

  plain_members : (names b : Bool) (ms : doc.Members) → wire_members names (plain b) ms ≡ entries_json ms
  plain_members names b doc.no_members = refl
  plain_members names b (doc.member k d ms) =
      ap (λ n. json.member n (wire names (part_form (plain b) k) d) (wire_members names (plain b) ms)) (plain_name names b k)
      ∙ ap₂ (json.member k) (ap (λ f. wire names f d) (plain_part b k) ∙ plain_is names b d) (plain_members names b ms)

-- ---- scalars

same_integer : (z : ℤ) → integer_of_number (number_of z) ≡ z
same_integer (pos n) = refl
same_integer (negsuc n) = refl

decimal_is : (z : ℤ) → json.number (number_text (number_of z)) ≡ json.number (signed_decimal z)
decimal_is z = ap (λ x. json.number (signed_decimal x)) (same_integer z)

whole_said : (w : Width) (k : ShapeType) (n : Schema) (z : ℤ) → kind_takes k (width_kind w) ≡ true → wire_number (form_by k None n) (number_of z) ≡ json.number (signed_decimal z)
whole_said value.byte kind.Byte n z e = decimal_is z
whole_said value.byte _ n z e = absurd (cc e)
whole_said value.short kind.Short n z e = decimal_is z
whole_said value.short _ n z e = absurd (cc e)
whole_said value.integer kind.Integer n z e = decimal_is z
whole_said value.integer _ n z e = absurd (cc e)
whole_said value.long kind.Long n z e = decimal_is z
whole_said value.long _ n z e = absurd (cc e)

-- the text of a calendar's format
calendar_said : (text : Option (List ℕ)) (other : Json) → is_some text ≡ true → option_map_or json.string text other ≡ json.string (unwrap_or text [])
calendar_said (Some t) other e = refl
calendar_said None other e = absurd (cc e)

has_date : (z : ℤ) → is_in_calendar z ≡ true → is_some (timestamp_text DateTime z) ≡ true
has_date z e = calendar_is z (calendar_text DateTime) ∙ e

has_http_date : (z : ℤ) → is_in_calendar z ≡ true → is_some (timestamp_text HttpDate z) ≡ true
has_http_date z e = calendar_is z (calendar_text HttpDate) ∙ e

time_said : (o : Option TimestampFormat) (z : ℤ) → has_text o z ≡ true → wire_number (time_form o) (number_of z) ≡ time_json o z
time_said (Some time.DateTime) z e =
    ap (λ x. option_map_or json.string (timestamp_text DateTime x) (json.number (signed_decimal x))) (same_integer z) ∙ calendar_said (timestamp_text DateTime z) _ (has_date z e)
time_said (Some time.HttpDate) z e =
    ap (λ x. option_map_or json.string (timestamp_text HttpDate x) (json.number (signed_decimal x))) (same_integer z) ∙ calendar_said (timestamp_text HttpDate z) _ (has_http_date z e)
time_said (Some time.EpochSeconds) z e = decimal_is z
time_said None z e = decimal_is z

integer_said : (k : ShapeType) (n : Schema) (t : List ℕ) → kind_takes k kind.BigInteger ≡ true → is_integer t ≡ true → wire_string (form_by k None n) t ≡ json.number t
integer_said kind.BigInteger n t e is = ap (λ b. if b then json.number t else json.string t) is
integer_said _ n t e is = absurd (cc e)

big_decimal_said : (k : ShapeType) (n : Schema) (t : List ℕ) → kind_takes k kind.BigDecimal ≡ true → is_number t ≡ true → wire_string (form_by k None n) t ≡ json.number t
big_decimal_said kind.BigDecimal n t e is = ap (λ b. if b then json.number t else json.string t) is
big_decimal_said _ n t e is = absurd (cc e)

text_said : (k : ShapeType) (n : Schema) (t : List ℕ) → kind_takes k kind.String ≡ true → wire_string (form_by k None n) t ≡ json.string t
text_said kind.String n t e = refl
text_said _ n t e = absurd (cc e)

blob_said : (k : ShapeType) (n : Schema) (t : List ℕ) → kind_takes k kind.Blob ≡ true → wire_string (form_by k None n) t ≡ json.string t
blob_said kind.Blob n t e = refl
blob_said _ n t e = absurd (cc e)

seconds_said : (k : ShapeType) (n : Schema) (z : ℤ) → kind_takes k kind.Timestamp ≡ true → has_text (either_format n) z ≡ true → wire_number (form_by k None n) (number_of z) ≡ time_json (either_format n) z
seconds_said kind.Timestamp n z e is = time_said (either_format n) z is
seconds_said _ n z e is = absurd (cc e)

document_said : (names : Bool) (k : ShapeType) (n : Schema) (d : Document) → kind_takes k kind.Document ≡ true → wire names (form_by k None n) d ≡ document_json d
document_said names kind.Document n d e = plain_is names true d
document_said names _ n d e = absurd (cc e)

scalar_said : (names : Bool) (n : Schema) (s : Scalar) → is_of_kind n (scalar s) ≡ true → has_json n s ≡ true → wire names (form_of n) (scalar_document s) ≡ scalar_json n s
scalar_said names n (value.boolean b) takes is = refl
scalar_said names n (value.whole w z) takes is = whole_said w (shape n).node.kind n z takes
scalar_said names n (value.big_integer t) takes is = integer_said (shape n).node.kind n t takes is
scalar_said names n (value.big_decimal t) takes is = big_decimal_said (shape n).node.kind n t takes is
scalar_said names n (value.text t) takes is = text_said (shape n).node.kind n t takes
scalar_said names n (value.blob bytes) takes is = blob_said (shape n).node.kind n _ takes
scalar_said names n (value.timestamp z) takes is = seconds_said (shape n).node.kind n z takes is
scalar_said names n (value.document d) takes is = document_said names (shape n).node.kind n d takes
scalar_said names n value.null takes is = refl

told_scalar : (names : Bool) (n : Schema) (s : Scalar) → (is_of_kind n (scalar s) && has_json n s) ≡ true → wire names (form_of n) (scalar_document s) ≡ scalar_json n s
told_scalar names n s follow = let parts = and_parts (is_of_kind n (scalar s)) (has_json n s) follow in scalar_said names n s parts.0 parts.1

scalar_here : (names : Bool) (n : Schema) (s : Scalar) → follows (Some n) (scalar s) ≡ true → wire names (form_of n) (scalar_document s) ≡ scalar_json n s
scalar_here names n value.null follow = refl
scalar_here names n (value.boolean b) follow = refl
scalar_here names n (value.whole w z) follow = told_scalar names n (value.whole w z) follow
scalar_here names n (value.big_integer t) follow = told_scalar names n (value.big_integer t) follow
scalar_here names n (value.big_decimal t) follow = told_scalar names n (value.big_decimal t) follow
scalar_here names n (value.text t) follow = told_scalar names n (value.text t) follow
scalar_here names n (value.blob bytes) follow = told_scalar names n (value.blob bytes) follow
scalar_here names n (value.timestamp z) follow = told_scalar names n (value.timestamp z) follow
scalar_here names n (value.document d) follow = told_scalar names n (value.document d) follow

-- ---- objects

-- under its name, a part has the name in JSON and the JSON of its document
abbrev Said : Bool → Form → Beside (List ℕ × Json) Document
Said names f name part d = (part.0 ≡ name_in names f name) × (part.1 ≡ wire names (part_form f name) d)

listed : (names : Bool) (f : Form) (ms : doc.Members) (ps : Parts) → Aligned (Said names f) ps (list_of_members ms) → wire_members names f ms ≡ members_json ps
listed names f doc.no_members [] aligned = refl
listed names f doc.no_members (p ∷ ps) aligned = absurd aligned
listed names f (doc.member k d ms) [] aligned = absurd aligned
listed names f (doc.member k d ms) (p ∷ ps) aligned =
    ap (λ n. json.member (name_in names f n) (wire names (part_form f n) d) (wire_members names f ms)) (sym aligned.0)
    ∙ ap (λ n. json.member n (wire names (part_form f p.0) d) (wire_members names f ms)) (sym aligned.1.0)
    ∙ ap₂ (json.member p.1.0) (sym aligned.1.1) (listed names f ms ps aligned.2)

-- an object of these documents
object_said : (names : Bool) (f : Form) (ps : Parts) (ds : Pairs Document) → Aligned (Said names f) ps ds → wire names f (doc.object (members_of ds)) ≡ object_json ps
object_said names f ps ds aligned =
    ap json.object
    (listed names f (members_of ds) (all_put ps [])
    (subst (Aligned (Said names f) (all_put ps [])) (sym (members_ordered ds)) (all_aligned (Said names f) ps ds [] [] aligned tt)))

named_said : (names : Bool) (side : Option Side) (s : Schema) (name : List ℕ) → is_some (field_named side s name) ≡ true → field_name names side s name ≡ name_in names (fields side s) name
named_said false side s name there = refl
named_said true side s name there = go (field_named side s name) there
  where
    go : (o : Option Schema) → is_some o ≡ true → option_map_or json_name o name ≡ option_map_or json_name o (option_map_or name_of (field_in_json side s name) name)
    go (Some m) there = refl
    go None there = absurd (cc there)

key_stays : (names : Bool) (values : Option Schema) (key : List ℕ) → key ≡ name_in names (entries values) key
key_stays true values key = refl
key_stays false values key = refl

-- ---- at every depth

mutual
  value_said : (names : Bool) (here : Option Schema) (v : Value) (d : Document) → follows here v ≡ true → document_of v ≡ Ok d → wire names (form_or_free here) d ≡ said names here v
  value_said names None v d follow told = plain_is names false d ∙ ap (λ r. option_map_or document_json (result_ok r) json.null) (sym told)
  value_said names (Some n) (scalar s) d follow told = let same : scalar_document s ≡ d = cc told in ap (wire names (form_of n)) (sym same) ∙ scalar_here names n s follow
  value_said names (Some n) (list ws) d follow told =
      let parts = and_parts (is_of_kind n (list ws)) (elements_follow (element_of (shape n)) ws) follow in
      let g = give_gave (elements_of ws) (λ ds. doc.array (items_of ds)) d told in
      let r : Ok (doc.array (items_of g.x)) ≡ Ok d = g.rest in
      let same : doc.array (items_of g.x) ≡ d = cc r in
      ap (wire names (form_of n)) (sym same) ∙ ap (λ f. json.array (wire_items names f (items_of g.x))) (element_is n ws parts.0)
      ∙ ap json.array (elements_here names (element_of (shape n)) ws g.x parts.1 g.first)
  value_said names (Some n) (value.map ws) d follow told =
      let parts = and_parts (is_of_kind n (value.map ws)) (entries_follow (value_of (shape n)) ws) follow in
      let g = give_gave (entries_of ws) (λ ps. doc.object (members_of ps)) d told in
      let r : Ok (doc.object (members_of g.x)) ≡ Ok d = g.rest in
      let same : doc.object (members_of g.x) ≡ d = cc r in
      ap (wire names (form_of n)) (sym same) ∙ ap (λ f. wire names f (doc.object (members_of g.x))) (map_is n ws parts.0)
      ∙ object_said names (entries (value_of (shape n))) (entries_said names (value_of (shape n)) ws) g.x (entries_here names (value_of (shape n)) ws g.x parts.1 g.first)
  value_said names (Some n) (structure ws) d follow told =
      let parts = and_parts (is_of_kind n (structure ws)) (has_one_if_union n ws && fields_follow None (shape n) ws) follow in
      let all = and_parts (has_one_if_union n ws) (fields_follow None (shape n) ws) parts.1 in
      let g = give_gave (fields_of ws) (λ ps. doc.object (members_of ps)) d told in
      let r : Ok (doc.object (members_of g.x)) ≡ Ok d = g.rest in
      let same : doc.object (members_of g.x) ≡ d = cc r in
      ap (wire names (form_of n)) (sym same) ∙ ap (λ f. wire names f (doc.object (members_of g.x))) (fields_are n ws parts.0)
      ∙ object_said names (fields None (shape n)) (fields_said names None (shape n) ws) g.x (fields_here names None (shape n) ws g.x all.1 g.first)

  elements_here : (names : Bool) (element : Option Schema) (ws : Writes) (ds : List Document) → elements_follow element ws ≡ true → elements_of ws ≡ Ok ds
      → wire_items names (form_or_free element) (items_of ds) ≡ elements_said names element ws
  elements_here names element no_writes ds follow told = let same : [] ≡ ds = cc told in ap (λ xs. wire_items names (form_or_free element) (items_of xs)) (sym same)
  elements_here names element (write l v ws) ds follow told =
      let parts = and_parts (follows element v) (elements_follow element ws) follow in
      let g = try_gave (document_of v) (λ d. then_give (elements_of ws) λ es. d ∷ es) ds told in
      let h = give_gave (elements_of ws) (λ es. g.x ∷ es) ds g.rest in
      let r : Ok (g.x ∷ h.x) ≡ Ok ds = h.rest in
      let same : g.x ∷ h.x ≡ ds = cc r in
      ap (λ xs. wire_items names (form_or_free element) (items_of xs)) (sym same)
      ∙ ap₂ json.item (value_said names element v g.x parts.0 g.first) (elements_here names element ws h.x parts.1 h.first)

  entries_here : (names : Bool) (values : Option Schema) (ws : Writes) (ps : Pairs Document) → entries_follow values ws ≡ true → entries_of ws ≡ Ok ps
      → Aligned (Said names (entries values)) (entries_said names values ws) ps
  entries_here names values no_writes [] follow told = tt
  entries_here names values no_writes (p ∷ ps) follow told = absurd (cc told)
  entries_here names values (write k key ws) ps follow told =
      let g = try_gave (document_of key) (λ d. then_try (key_text d) λ n. entries_behind n ws) ps told in
      let h = try_gave (key_text g.x) (λ n. entries_behind n ws) ps g.rest in
      let same : entry_name key ≡ h.x = ap (λ r. unwrap_or (option_and_then (λ d. result_ok (key_text d)) (result_ok r)) []) g.first ∙ ap (λ r. unwrap_or (result_ok r) []) h.first in
      subst (λ n. Aligned (Said names (entries values)) (values_said names values n ws) ps) (sym same) (values_here names values h.x ws ps follow h.rest)

  values_here : (names : Bool) (values : Option Schema) (key : List ℕ) (ws : Writes) (ps : Pairs Document) → values_follow values ws ≡ true → entries_behind key ws ≡ Ok ps
      → Aligned (Said names (entries values)) (values_said names values key ws) ps
  values_here names values key no_writes ps follow told = absurd (cc told)
  values_here names values key (write l v ws) ps follow told =
      let parts = and_parts (follows values v) (entries_follow values ws) follow in
      let g = try_gave (document_of v) (λ d. then_give (entries_of ws) λ qs. (key, d) ∷ qs) ps told in
      let h = give_gave (entries_of ws) (λ qs. (key, g.x) ∷ qs) ps g.rest in
      let r : Ok ((key, g.x) ∷ h.x) ≡ Ok ps = h.rest in
      let same : (key, g.x) ∷ h.x ≡ ps = cc r in
      subst (Aligned (Said names (entries values)) (values_said names values key (write l v ws))) {x = (key, g.x) ∷ h.x} same
      (refl, (key_stays names values key, sym (value_said names values v g.x parts.0 g.first)), entries_here names values ws h.x parts.1 h.first)

  fields_here : (names : Bool) (side : Option Side) (s : Schema) (ws : Writes) (ps : Pairs Document) → fields_follow side s ws ≡ true → fields_of ws ≡ Ok ps
      → Aligned (Said names (fields side s)) (fields_said names side s ws) ps
  fields_here names side s no_writes [] follow told = tt
  fields_here names side s no_writes (p ∷ ps) follow told = absurd (cc told)
  fields_here names side s (write l v ws) ps follow told =
      let all = and_parts (is_some (field_of side s l) && follows (field_of side s l) v) (fields_follow side s ws) follow in
      let here = and_parts (is_some (field_of side s l)) (follows (field_of side s l) v) all.0 in
      let g = try_gave (document_of v) (λ d. then_try (name_told_by l) λ name. then_give (fields_of ws) λ qs. (name, d) ∷ qs) ps told in
      let h = try_gave (name_told_by l) (λ name. then_give (fields_of ws) λ qs. (name, g.x) ∷ qs) ps g.rest in
      let j = give_gave (fields_of ws) (λ qs. (h.x, g.x) ∷ qs) ps h.rest in
      let r : Ok ((h.x, g.x) ∷ j.x) ≡ Ok ps = j.rest in
      let same : (h.x, g.x) ∷ j.x ≡ ps = cc r in
      let name = name_told l h.x h.first in
      subst (Aligned (Said names (fields side s)) (fields_said names side s (write l v ws))) {x = (h.x, g.x) ∷ j.x} same (
        ap (λ o. unwrap_or o []) name,
        (named_said names side s (told_name l) here.0, sym (value_said names (field_of side s l) v g.x here.1 g.first)),
        fields_here names side s ws j.x all.1 j.first,
      )

pub values_are_said : ValuesAreSaid
values_are_said names n v d follow told = value_said names (Some n) v d follow told

pub fields_are_said : FieldsAreSaid
fields_are_said names side n ws d follow told =
    let g = give_gave (fields_of ws) (λ ps. doc.object (members_of ps)) d told in
    let r : Ok (doc.object (members_of g.x)) ≡ Ok d = g.rest in
    let same : doc.object (members_of g.x) ≡ d = cc r in
    ap (wire names (fields (Some side) (shape n))) (sym same)
    ∙ object_said names (fields (Some side) (shape n)) (fields_said names (Some side) (shape n) ws) g.x (fields_here names (Some side) (shape n) ws g.x follow g.first)
