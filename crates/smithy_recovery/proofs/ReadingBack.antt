-- Of a request with the facts of a typed input's the normal form is read.
use Rattle.std.proofs.Common.{◌≡◌, refl, sym, ◌∙◌, ap, subst, cond, ℕ, suc, ◌+◌, slice_get, Bool, true, false, ◌&&◌, ◌||◌, List, [], ◌∷◌, Option, Some, None, option_and_then, is_some, is_none, not, if◌then◌else◌}
use Rattle.std.specs.List.{AllByRecursion, enumerate_from, list_any}
use Rattle.std.specs.Option.{option_map_or}
use Rattle.std.specs.Str.{str_to_ascii_lowercase}
use Rattle.std.proofs.lemmas.Bool.{and_parts}
use Rattle.std.proofs.lemmas.List.Sums.{list_all-from_AllPass}
use Rattle.smithy_types.specs.Grammars.{before_query}
use Rattle.smithy_ids.specs.declared.shape_type.ShapeType.TheVariants as kind
use Rattle.smithy_ids.specs.Kinds.{same_kind}
use Rattle.smithy_http.specs.Facts.{values_at, query_pieces}
use Rattle.smithy_http.specs.Requests.{Request}
use Rattle.smithy_schema.specs.Nodes.{Schema, element_of, member_at, members_of, Binding, to_header, to_prefix, to_query, to_query_map, to_label, to_payload, to_body, binding_of, is_outside_body, is_bound}
use Rattle.smithy_schema.specs.Templates.{pieces}
use Rattle.smithy_schema.specs.WellMade.{has_utf8}
use Rattle.smithy_serde.specs.Lawful.{IsLawfulText}
use Rattle.smithy_serde.specs.Ranges.{is_in_range}
use Rattle.smithy_serde.specs.Values.{Value, Write}
use Rattle.smithy_strings.specs.Escapes.{escape, AreBytes}
use Rattle.smithy_binding.specs.Bindings.{pairs, labels}
use Rattle.smithy_binding.specs.Bodies.{has_unbound_member}
use Rattle.smithy_binding.specs.Checked.{IsCheckedInput, has_plain_elements, is_element_plain, same_format}
use Rattle.smithy_binding.specs.NormalForm.{member_view}
use Rattle.smithy_binding.specs.Placing.{Protocol, OmitFlags, template_of}
use Rattle.smithy_strings.proofs.Bytes.{AreBytes-from_utf8}
use Rattle.smithy_binding.proofs.WriteSteps.{member-passes}
use Rattle.smithy_unambiguity.proofs.ByMember.{first_value, first_texts}
use Rattle.smithy_unambiguity.proofs.HeadersTold.{clear_template}
use Rattle.smithy_unambiguity.proofs.Lists.{all_apply}
use Rattle.smithy_unambiguity.proofs.Members.{member_in_place}
use Rattle.smithy_unambiguity.proofs.Placed.{HasTypedWrites, first_fitting}
use Rattle.smithy_unambiguity.proofs.Positions.{members_by_position, sound_input}
use Rattle.smithy_unambiguity.proofs.QueryNames.{pairs_of_member}
use Rattle.smithy_unambiguity.proofs.TextsBytes.{AreUtf8, texts_utf8, pairs_are_bytes, IsBytePair}
use Rattle.smithy_unambiguity.proofs.Traits.{trait_of}
use Rattle.smithy_unambiguity.proofs.UnboundTold.{unbound_form_is}
use Rattle.smithy_recovery.specs.BodyParts.{payload_part, held_writes}
use Rattle.smithy_recovery.specs.HeaderParts.{header_part}
use Rattle.smithy_recovery.specs.MemberParts.{part_writes, with_body}
use Rattle.smithy_recovery.specs.PathParts.{path_texts}
use Rattle.smithy_recovery.specs.QueryParts.{pieces_named, query_texts, query_part}
use Rattle.smithy_recovery.specs.Recovered.{Reading, template, part_at, body_writes, read_writes}
use Rattle.smithy_recovery.proofs.BodyBack.{payload_member_back, unbound_back}
use Rattle.smithy_recovery.proofs.Exact.{ReadsView}
use Rattle.smithy_recovery.proofs.HeadersBack.{HasPlainElements, header_member_back}
use Rattle.smithy_recovery.proofs.Joining.{bound_part, free_part, unbound_is_free, reads_view}
use Rattle.smithy_recovery.proofs.LabelsBack.{AreLabelTexts, labels_back, label_member_back}
use Rattle.smithy_recovery.proofs.Merging.{writes}
use Rattle.smithy_recovery.proofs.PrefixMapBack.{prefix_back}
use Rattle.smithy_recovery.proofs.QueryBack.{query_texts_back, query_member_back}
use Rattle.smithy_recovery.proofs.QueryMapBack.{query_map_back}
use Rattle.smithy_recovery.proofs.Seen.{IsSeen, seen}

-- Elements of a header or query list have no media type.
plain_elements : (schema : Schema) → IsCheckedInput schema → (i : ℕ) (m : Schema) → member_at schema i ≡ Some m → (is_none m.node.traits.http_query && is_none m.node.traits.http_header) ≡ false → HasPlainElements m
plain_elements schema checked i m at bound e is_list element =
    let test = member-passes has_plain_elements schema i m (list_all-from_AllPass has_plain_elements (members_of schema) checked.elements) at in
    let plain : is_element_plain m ≡ true = ap (λ b. b || is_element_plain m) (sym bound) ∙ test in
    let is_plain = λ (x : Schema). is_none x.node.traits.media_type && same_format x.node.traits.timestamp_format m.node.traits.timestamp_format in
    let one : is_plain e ≡ true =
    sym (ap (λ k. not (same_kind k kind.List) || option_map_or is_plain (element_of m) true) is_list ∙ ap (λ o. option_map_or is_plain o true) element)
    ∙ plain in
    go e.node.traits.media_type (and_parts (is_none e.node.traits.media_type) (same_format e.node.traits.timestamp_format m.node.traits.timestamp_format) one).0
  where
    go : {X : Type 0} (o : Option X) → is_none o ≡ true → is_some o ≡ false
    go None h = refl
    go (Some x) h = absurd (cc h)

header_not_none : (a : Bool) (o : Option (List ℕ)) (name : List ℕ) → o ≡ Some name → (a && is_none o) ≡ false
header_not_none true o name e = ap is_none e
header_not_none false o name e = refl

query_not_none : (b : Bool) (o : Option (List ℕ)) (name : List ℕ) → o ≡ Some name → (is_none o && b) ≡ false
query_not_none b o name e = ap (λ (p : Option (List ℕ)). is_none p && b) e

names_are_bytes : (ps : List (List ℕ × List ℕ)) → AllByRecursion IsBytePair ps → AllByRecursion (λ p. AreBytes p.0) ps
names_are_bytes ps all = all_apply IsBytePair (λ p. AreBytes p.0) ps (λ p both. both.0) all

first_utf8 : (schema : Schema) (ws : List Write) (i : ℕ) (m : Schema) → HasTypedWrites schema ws → member_at schema i ≡ Some m → ((u : Value) → first_value schema ws i ≡ Some u → is_in_range u ≡ true) → AreUtf8 (first_texts m (first_value schema ws i))
first_utf8 schema ws i m typed at range = go (first_value schema ws i) range
  where
    go : (o : Option Value) → ((u : Value) → o ≡ Some u → is_in_range u ≡ true) → AreUtf8 (first_texts m o)
    go None r = tt
    go (Some u) r = texts_utf8 m u (r u refl)

query_seen : (protocol : Protocol) (schema : Schema) (endpoint : List ℕ) (omit : OmitFlags) (ws : List Write) (q : Request) → IsSeen protocol schema endpoint omit ws q → (i : ℕ) (m : Schema) (name : List ℕ) → member_at schema i ≡ Some m → binding_of m ≡ to_query name
    → query_texts (pieces (template_of schema endpoint)) (pieces_named (escape name) (query_pieces q.target)) name ≡ Some (values_at name (pairs schema ws))
query_seen protocol schema endpoint omit ws q is i m name at query =
    ap (λ xs. query_texts (pieces (template_of schema endpoint)) xs name) (sym (is.query (escape name)))
    ∙ query_texts_back schema (template_of schema endpoint) (labels schema ws) is.request.path name (pairs schema ws) (clear_template schema endpoint is.checked is.typed.clear) is.request.fills
    (AreBytes-from_utf8 name (ap has_utf8 (sym (trait_of m (to_query name) query)) ∙ (member_in_place schema i m is.well_made at).texts.query))
    (names_are_bytes (pairs schema ws) (pairs_are_bytes schema ws is.well_made is.writes.conforming is.writes.in_range))
    (subst AreUtf8 (sym (pairs_of_member schema is.checked ws i m name at query)) (first_utf8 schema ws i m is.writes at (λ u e. (first_fitting schema ws i m u is.writes.conforming is.writes.in_range at e).in_range)))

-- Each part.

outside : (schema : Schema) (ws : List Write) (i : ℕ) (m : Schema) (b : Binding) → binding_of m ≡ b → is_outside_body b ≡ true → Some (member_view schema ws i m) ≡ Some (bound_part schema ws (i, m))
outside schema ws i m b is out = sym (ap (λ t. Some (if t then member_view schema ws i m else None)) (ap is_outside_body is ∙ out))

bound_back : (r : Reading) → IsLawfulText r.protocol.text_of r.holds → (omit : OmitFlags) (ws : List Write) (q : Request) (is : IsSeen r.protocol r.schema r.endpoint omit ws q)
    → (x : AreLabelTexts r.schema ws (template_of r.schema r.endpoint) is.request.path) → (i : ℕ) (m : Schema) → member_at r.schema i ≡ Some m → part_at r q x.texts (binding_of m) m ≡ Some (bound_part r.schema ws (i, m))
bound_back r lawful omit ws q is x i m at = go (binding_of m) refl
  where
    go : (b : Binding) → binding_of m ≡ b → part_at r q x.texts b m ≡ Some (bound_part r.schema ws (i, m))
    go (to_header name) e =
        ap (header_part m) (sym (is.headers (str_to_ascii_lowercase name)))
        ∙ header_member_back r.protocol r.schema r.endpoint omit ws i m name is.checked is.typed at e
        (plain_elements r.schema is.checked i m at (header_not_none (is_none m.node.traits.http_query) m.node.traits.http_header name (trait_of m (to_header name) e)))
        ∙ outside r.schema ws i m (to_header name) e refl
    go (to_prefix prefix) e = prefix_back r.protocol r.schema r.endpoint omit ws q is i m prefix at e ∙ outside r.schema ws i m (to_prefix prefix) e refl
    go (to_query name) e =
        ap (option_and_then (query_part m)) (query_seen r.protocol r.schema r.endpoint omit ws q is i m name at e)
        ∙ query_member_back r.schema ws i m name is.checked is.writes at e
        (plain_elements r.schema is.checked i m at (query_not_none (is_none m.node.traits.http_header) m.node.traits.http_query name (trait_of m (to_query name) e)))
        ∙ outside r.schema ws i m (to_query name) e refl
    go to_query_map e = query_map_back r.protocol r.schema r.endpoint omit ws q is i m at e ∙ outside r.schema ws i m to_query_map e refl
    go to_label e = label_member_back r.schema ws (template_of r.schema r.endpoint) is.request.path x i m is.checked is.well_made is.writes at e ∙ outside r.schema ws i m to_label e refl
    go to_payload e =
        ap (payload_part r.holds m) (sym is.body) ∙ payload_member_back r.protocol r.holds lawful r.schema r.endpoint omit ws i m is.checked is.well_made is.typed at e ∙ outside r.schema ws i m to_payload e refl
    go to_body e = sym (ap (λ t. Some (if t then member_view r.schema ws i m else None)) (ap is_outside_body e))

-- without an unbound member the body has no part of the normal form
no_free : (schema : Schema) (ws : List Write) (k : ℕ) (ms : List Schema) → list_any (λ m. not (is_bound m)) ms ≡ false → writes (free_part schema ws) k ms ≡ []
no_free schema ws k [] e = refl
no_free schema ws k (m ∷ ms) e = go (is_bound m) refl e (no_free schema ws (k + 1) ms)
  where
    go : (b : Bool) → is_bound m ≡ b → (not b || list_any (λ m. not (is_bound m)) ms) ≡ false → (list_any (λ m. not (is_bound m)) ms ≡ false → writes (free_part schema ws) (k + 1) ms ≡ []) → writes (free_part schema ws) k (m ∷ ms) ≡ []
    go true is h rest = rw is (rest h)
    go false is h rest = absurd (cc h)

-- some member that passes
some_member : (ms : List Schema) → list_any (λ m. not (is_bound m)) ms ≡ true → (j : ℕ) × (m : Schema) × (slice_get ms j ≡ Some m) × (is_bound m ≡ false)
some_member [] e = absurd (cc e)
some_member (m ∷ ms) e = go (is_bound m) refl e (some_member ms)
  where
    go : (b : Bool) → is_bound m ≡ b → (not b || list_any (λ m. not (is_bound m)) ms) ≡ true → (list_any (λ m. not (is_bound m)) ms ≡ true → (j : ℕ) × (n : Schema) × (slice_get ms j ≡ Some n) × (is_bound n ≡ false))
        → (j : ℕ) × (n : Schema) × (slice_get (m ∷ ms) j ≡ Some n) × (is_bound n ≡ false)
    go false is h later = (0, m, refl, is)
    go true is h later = let rest = later h in (suc rest.0, rest.1, rest.2, rest.3)

body_back : (r : Reading) → IsLawfulText r.protocol.text_of r.holds → (omit : OmitFlags) (ws : List Write) (q : Request) → IsSeen r.protocol r.schema r.endpoint omit ws q → body_writes r q ≡ Some (writes (free_part r.schema ws) 0 (members_of r.schema))
body_back r lawful omit ws q is = go (has_unbound_member r.schema) refl
  where
    go : (b : Bool) → has_unbound_member r.schema ≡ b → cond b (option_and_then (held_writes r.schema) (r.holds q.body)) (Some []) ≡ Some (writes (free_part r.schema ws) 0 (members_of r.schema))
    go false e = ap Some (sym (no_free r.schema ws 0 (members_of r.schema) e))
    go true e =
        let x = some_member (members_of r.schema) e in
        let form = unbound_form_is r.schema (sound_input r.schema is.checked) x.0 x.1 (sym (members_by_position r.schema is.checked.cited x.0) ∙ x.2) x.3 in
        ap (λ b. option_and_then (held_writes r.schema) (r.holds b)) (sym is.body)
        ∙ unbound_back r.protocol r.holds lawful r.schema r.endpoint omit ws is.checked is.well_made is.typed form
        ∙ ap Some (unbound_is_free r.protocol r.schema r.endpoint omit ws is.checked is.well_made is.typed)

pub reads_by : (r : Reading) → IsLawfulText r.protocol.text_of r.holds → ReadsView r
unfolding read_writes
reads_by r lawful omit q ws checked well_made typed e =
    let is = seen r.protocol r.schema r.endpoint omit ws q checked well_made typed e in
    let x = labels_back r.schema ws (template_of r.schema r.endpoint) is.request.path is.well_made is.writes (clear_template r.schema r.endpoint is.checked is.typed.clear) is.request.fills in
    let read : path_texts (template r) (before_query q.target) ≡ Some x.texts = ap (path_texts (template r)) (sym is.path) ∙ x.read in
    ap (option_and_then (λ texts. with_body (part_writes (λ p. part_at r q texts (binding_of p.1) p.1) (enumerate_from 0 (members_of r.schema))) (body_writes r q))) read
    ∙ reads_view r.protocol r.schema r.endpoint omit ws (λ p. part_at r q x.texts (binding_of p.1) p.1) (body_writes r q) is.checked is.well_made is.typed
    (λ i m at. bound_back r lawful omit ws q is x i m at) (body_back r lawful omit ws q is)
