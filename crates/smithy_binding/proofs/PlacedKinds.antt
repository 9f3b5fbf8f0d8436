-- The members of a checked schema are of kinds that their bindings take.
use Rattle.smithy_binding.proofs.Common.{◌≡◌, refl, ap, sym, ◌∙◌, ℕ, Bool, true, false, not, ◌&&◌, ◌||◌, List, [], ◌∷◌, filter_map, Option, Some, None, option_map, is_some, is_none, cons_option, option_map_or, list_all, list_all-from_AllPass, and_parts, ShapeType, same_kind, is_scalar, Schema, Table, at_place, element_of, key_of, value_of, members_of, has_at_most_one, has_bound_kind, has_code_kind, has_element, has_header_kind, has_label_kind, has_map_kind, has_prefix_kind, is_header_kind, is_plain_string, is_text_map, members_with, checked_input, checked_output, directed_schema, directed_table, has_placed_kind}
use Rattle.smithy_ids.specs.declared.shape_type.ShapeType.TheVariants as kind
use Rattle.smithy_binding.specs.declared.direction.Direction.TheVariants as direction
use Rattle.smithy_binding.proofs.CheckedLaws.{IsCheckedInput-from_test, map_kinds, prefix_kinds}
use Rattle.smithy_binding.proofs.CheckedOutputLaws.{IsCheckedOutput-from_test, code_kinds}
use Rattle.smithy_binding.proofs.Directions.{at-in, cited-in}
use Rattle.smithy_binding.proofs.JointTests.{all-both}

pub placed-kinds : (schema : Schema) → checked_input schema ≡ true → list_all has_placed_kind (members_of schema) ≡ true
placed-kinds schema e =
    let facts = IsCheckedInput-from_test schema e in
    let ms = members_of schema in
    all-both has_bound_kind has_map_kind ms (list_all-from_AllPass has_bound_kind ms facts.kinds) (map_kinds schema facts.maps)

-- the same of an output, as a response has it

abbrev out : Schema → Schema
out m = directed_schema direction.Response m

integer_from_test : (k : ShapeType) → same_kind k kind.Integer ≡ true → k ≡ kind.Integer
integer_from_test kind.Integer e = refl
integer_from_test _ e = absurd (cc e)

label-out : (m : Schema) → has_code_kind m ≡ true → has_label_kind (out m) ≡ true
label-out m e = go m.node.traits.http_response_code e
  where
    go : (code : Bool) → (not code || same_kind m.node.kind kind.Integer) ≡ true → (not code || is_scalar m.node.kind) ≡ true
    go false e = refl
    go true e = ap is_scalar (integer_from_test m.node.kind e)

element-out : (test : ShapeType → Bool) (m : Schema) → has_element test (out m) ≡ has_element test m
element-out test m = ap (λ o. same_kind m.node.kind kind.List && option_map_or (λ e. test e.node.kind) o false) (cited-in direction.Response m m.node.element) ∙ go (element_of m)
  where
    go : (o : Option Schema) → (same_kind m.node.kind kind.List && option_map_or (λ e. test e.node.kind) (option_map out o) false) ≡ (same_kind m.node.kind kind.List && option_map_or (λ e. test e.node.kind) o false)
    go None = refl
    go (Some s) = refl

header-out : (m : Schema) → has_header_kind m ≡ true → has_header_kind (out m) ≡ true
header-out m e = ap (λ b. is_none m.node.traits.http_header || is_header_kind m.node.kind || b) (element-out is_header_kind m) ∙ e

plain-out : (o : Option Schema) → is_plain_string (option_map out o) ≡ is_plain_string o
plain-out None = refl
plain-out (Some s) = refl

text_map-out : (m : Schema) → is_text_map (out m) ≡ is_text_map m
text_map-out m = λ i. same_kind m.node.kind kind.Map && (ap is_plain_string (cited-in direction.Response m m.node.key) ∙ plain-out (key_of m)) i && (ap is_plain_string (cited-in direction.Response m m.node.value) ∙ plain-out (value_of m)) i

prefix-out : (m : Schema) → has_prefix_kind m ≡ true → has_prefix_kind (out m) ≡ true
prefix-out m e = ap (λ b. not (is_some m.node.traits.http_prefix_headers) || b) (text_map-out m) ∙ e

-- what is asked of a member's kind in a response
abbrev has_response_kind : Schema → Bool
has_response_kind m = has_header_kind m && has_prefix_kind m && has_code_kind m

placed-out : (m : Schema) → has_response_kind m ≡ true → has_placed_kind (out m) ≡ true
placed-out m e =
    let both = and_parts (has_header_kind m && has_prefix_kind m) (has_code_kind m) e in
    let heads = and_parts (has_header_kind m) (has_prefix_kind m) both.0 in
    rw (label-out m both.1, header-out m heads.0, prefix-out m heads.1) refl

all-out : (t : Table) (places : List ℕ) → list_all has_response_kind (filter_map (at_place t) places) ≡ true → list_all has_placed_kind (filter_map (at_place (directed_table direction.Response t)) places) ≡ true
all-out t [] e = refl
all-out t (p ∷ places) e = ap (λ o. list_all has_placed_kind (cons_option o (filter_map (at_place (directed_table direction.Response t)) places))) (at-in direction.Response t p) ∙ go (at_place t p) e (λ h. all-out t places h)
  where
    go : (o : Option Schema) → list_all has_response_kind (cons_option o (filter_map (at_place t) places)) ≡ true
        → (list_all has_response_kind (filter_map (at_place t) places) ≡ true → list_all has_placed_kind (filter_map (at_place (directed_table direction.Response t)) places) ≡ true)
        → list_all has_placed_kind (cons_option (option_map out o) (filter_map (at_place (directed_table direction.Response t)) places)) ≡ true
    go None e rest = rest e
    go (Some m) e rest =
        let both = and_parts (has_response_kind m) (list_all has_response_kind (filter_map (at_place t) places)) e in
        rw (placed-out m both.0) (rest both.1)

pub placed-kinds-out : (schema : Schema) → checked_output schema ≡ true → list_all has_placed_kind (members_of (directed_schema direction.Response schema)) ≡ true
placed-kinds-out schema e =
    let facts = IsCheckedOutput-from_test schema e in
    let ms = members_of schema in
    let prefixes = and_parts (has_at_most_one (λ t. is_some t.http_prefix_headers) schema) (list_all is_text_map (members_with (λ t. is_some t.http_prefix_headers) schema)) facts.prefix_map in
    let code = and_parts (has_at_most_one (λ t. t.http_response_code) schema) (list_all (λ m. same_kind m.node.kind kind.Integer) (members_with (λ t. t.http_response_code) schema)) facts.response_code in
    all-out schema.table schema.node.members
    (all-both (λ m. has_header_kind m && has_prefix_kind m) has_code_kind ms
    (all-both has_header_kind has_prefix_kind ms (list_all-from_AllPass has_header_kind ms facts.kinds) (sym (prefix_kinds schema) ∙ prefixes.1)) (sym (code_kinds schema) ∙ code.1))
