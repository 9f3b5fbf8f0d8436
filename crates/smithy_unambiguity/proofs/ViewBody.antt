-- The normal form has the same body.
use Rattle.smithy_unambiguity.proofs.Common.{◌≡◌, refl, sym, ◌∙◌, ap, subst, ℕ, ◌+◌, ◌⊎◌, inl, inr, Bool, true, false, not, cond, List, [], ◌∷◌, map, filter, find, filter_map, Option, Some, None, option_map, option_and_then, unwrap_or, if◌then◌else◌, AllByRecursion, enumerate_from, cons_option, result_ok, Document, Schema, member_at, members_of as nodes_of, to_payload, binding_of, is_bound, is_well_made, Value, Write, no_writes, writes_of, label_of, document_of, doc_of, is_kind, settled, field_of, Resolved, all_resolved, firsts, is_payload, is_codec_kind, form_in, body_parts, body, document_value, document_by, raw_bytes, text_of_document, bytes_by, IsCheckedInput, view, member_view, unless_empty, Protocol, OmitFlags, IsTyped, cond_both}
use Rattle.smithy_types.specs.Documents as doc
use Rattle.smithy_ids.specs.declared.shape_type.ShapeType.TheVariants as kind
use Rattle.smithy_serde.specs.Values as value
use Rattle.smithy_binding.specs.declared.body_form.BodyForm.{BodyForm}
use Rattle.smithy_binding.specs.declared.body_form.BodyForm.TheVariants as form
use Rattle.smithy_document.proofs.NormalDocuments.{normal_document}
use Rattle.smithy_unambiguity.proofs.BodyObject.{IsBodied, typed_bodied, body_node, bodied_writes, body_fields, free_view_shaped, fields_placed, free_view, unless_bound}
use Rattle.smithy_unambiguity.proofs.ByMember.{at_member, first_value}
use Rattle.smithy_unambiguity.proofs.Conforming.{resolved_at}
use Rattle.smithy_unambiguity.proofs.Firsts.{all_firsts}
use Rattle.smithy_unambiguity.proofs.Lists.{all_apply, all_made}
use Rattle.smithy_unambiguity.proofs.PayloadTold.{body_bytes, document_value_is, payload_is, payload_value, payload_own_text, payload_view, codec_view, codec_payload, HasOwnText}
use Rattle.smithy_unambiguity.proofs.Placed.{bound_view_of}
use Rattle.smithy_unambiguity.proofs.Positions.{members_placed, own_names, sound_input}
use Rattle.smithy_unambiguity.proofs.UnboundTold.{body_value, unbound_own_text}
use Rattle.smithy_unambiguity.proofs.ViewParts.{member_or, SomeOrNone}
use Rattle.smithy_unambiguity.proofs.ViewWrites.{own_resolved, resolved_view, first_value_of_view}
use Rattle.smithy_serde.specs.ValueRead.{write_by}

-- What holds of each member's part holds of each write of the normal form.

pub all_of_view : (P : Resolved → Type 0) (schema : Schema) (ws : List Write) → IsCheckedInput schema → is_well_made schema ≡ true
    → ((i : ℕ) (m : Schema) (u : Value) → member_at schema i ≡ Some m → member_view schema ws i m ≡ Some u → P (at_member i m u)) → AllByRecursion P (all_resolved schema (view schema ws))
all_of_view P schema ws checked well_made has =
    subst (AllByRecursion P) (sym (resolved_view schema ws checked well_made))
    (all_made P (λ p. at_member p.0 p.1) (λ p. member_view schema ws p.0 p.1) (enumerate_from 0 (nodes_of schema))
    (all_apply (λ p. member_at schema p.0 ≡ Some p.1) (λ p. (u : Value) → member_view schema ws p.0 p.1 ≡ Some u → P (at_member p.0 p.1 u)) (enumerate_from 0 (nodes_of schema))
    (λ p at u e. has p.0 p.1 u at e) (members_placed schema checked)))

-- Payloads.

raw_left : (v : Value) → unwrap_or (option_map raw_bytes (unless_empty v)) [] ≡ raw_bytes v
raw_left (value.scalar (value.text [])) = refl
raw_left (value.scalar (value.text (b ∷ t))) = refl
raw_left (value.scalar (value.blob [])) = refl
raw_left (value.scalar (value.blob (b ∷ t))) = refl
raw_left (value.list no_writes) = refl
raw_left (value.list (value.write l v ws)) = refl
raw_left (value.map no_writes) = refl
raw_left (value.map (value.write l v ws)) = refl
raw_left _ = refl

-- The structure of the unbound members.

pub bodied_view : (schema : Schema) (ws : List Write) → IsCheckedInput schema → is_well_made schema ≡ true → AllByRecursion (IsBodied is_bound schema) (all_resolved schema ws) → AllByRecursion (IsBodied is_bound schema) (all_resolved schema (view schema ws))
bodied_view schema ws checked well_made bodied = all_of_view (IsBodied is_bound schema) schema ws checked well_made (λ i m u at e. record { at = at; shaped = λ free. free_view_shaped schema ws i m u checked well_made bodied at free e })

-- the write of an unbound member
abbrev own_field : Schema → List Write → ℕ × Schema → Option Write
own_field schema ws p = option_map (λ v. record { label = label_of p.1; value = v }) (if is_bound p.1 then None else member_view schema ws p.0 p.1)

-- the writes of a normal form's structure are those of the normal form of the structure
view_writes : (schema : Schema) (ws : List Write) (fields : List (List ℕ × Value)) (k : ℕ) (ms : List Schema) → AllByRecursion (λ p. field_of fields p.1 ≡ own_field schema ws p) (enumerate_from k ms)
    → map (λ (r : Resolved). record { label = label_of r.member; value = r.value }) (filter (λ (r : Resolved). not (is_bound r.member)) (filter_map (own_resolved schema ws) (enumerate_from k ms))) ≡ filter_map (field_of fields) ms
view_writes schema ws fields k [] each = refl
view_writes schema ws fields k (m ∷ ms) each =
    go (is_bound m) (member_view schema ws k m) refl (view_writes schema ws fields (k + 1) ms each.1) ∙ ap (λ o. cons_option o (filter_map (field_of fields) ms)) (sym each.0)
  where
    go : (b : Bool) (o : Option Value) → is_bound m ≡ b
        → map (λ (r : Resolved). record { label = label_of r.member; value = r.value }) (filter (λ (r : Resolved). not (is_bound r.member)) (filter_map (own_resolved schema ws) (enumerate_from (k + 1) ms))) ≡ filter_map (field_of fields) ms
        → map (λ (r : Resolved). record { label = label_of r.member; value = r.value }) (filter (λ (r : Resolved). not (is_bound r.member)) (cons_option (option_map (at_member k m) o) (filter_map (own_resolved schema ws) (enumerate_from (k + 1) ms))))
        ≡ cons_option (option_map (λ v. record { label = label_of m; value = v }) (if is_bound m then None else o)) (filter_map (field_of fields) ms)
    go true None is rest = rw is rest
    go false None is rest = rw is rest
    go true (Some u) is rest = rw is rest
    go false (Some u) is rest = rw is (ap (λ ws. record { label = label_of m; value = u } ∷ ws) rest)

view_settles_body : (schema : Schema) (ws : List Write) → IsCheckedInput schema → is_well_made schema ≡ true → AllByRecursion (IsBodied is_bound schema) (all_resolved schema ws) → body_value schema (view schema ws) ≡ settled (Some (body_node schema)) (body_value schema ws)
view_settles_body schema ws checked well_made bodied =
    ap (λ rs. value.structure (bodied_writes is_bound rs)) (resolved_view schema ws checked well_made)
    ∙ ap (λ us. value.structure (writes_of us)) (view_writes schema ws (body_fields is_bound schema (all_resolved schema ws)) 0 (nodes_of schema)
    (all_apply (λ p. field_of (body_fields is_bound schema rs) p.1 ≡ option_map (write_by p.1) (free_view is_bound p.0 p.1 rs)) (λ p. field_of (body_fields is_bound schema rs) p.1 ≡ own_field schema ws p) (enumerate_from 0 (nodes_of schema))
    (λ p e. e ∙ ap (option_map (write_by p.1)) (unless_bound (is_bound p.1) _ _)) (fields_placed is_bound schema (own_names schema checked) well_made rs bodied)))
  where
    rs : List Resolved
    rs = all_resolved schema ws

-- The body, by its form.

none_found : (rs : List Resolved) → AllByRecursion (λ r. is_payload (binding_of r.member) ≡ false) rs → find (λ (r : Resolved). is_payload (binding_of r.member)) rs ≡ None
none_found [] all = refl
none_found (r ∷ rs) all = ap (λ t. cond t (Some r) (find (λ (x : Resolved). is_payload (binding_of x.member)) rs)) all.0 ∙ none_found rs all.1

-- The payload of an input and of its normal form: there is none, or both are of one member.
abbrev PayloadOf : Schema → List Write → Type 0
PayloadOf schema ws =
    ((i : ℕ) × (m : Schema) × (member_at schema i ≡ Some m) × (binding_of m ≡ to_payload)
    × ((body_parts schema (view schema ws)).payload ≡ option_and_then (payload_view m) (first_value schema ws i))
    × ((body_parts schema ws).payload ≡ first_value schema ws i))
    ⊎ (((body_parts schema (view schema ws)).payload ≡ None) × ((body_parts schema ws).payload ≡ None))

payload_of_view : (schema : Schema) (ws : List Write) → IsCheckedInput schema → is_well_made schema ≡ true → PayloadOf schema ws
payload_of_view schema ws checked well_made = go (member_or schema checked (λ m. is_payload (binding_of m)))
  where
    no_payload : ((i : ℕ) (m : Schema) → member_at schema i ≡ Some m → is_payload (binding_of m) ≡ false) → (us : List Write) → (body_parts schema us).payload ≡ None
    no_payload none us =
        ap (option_map (λ (r : Resolved). r.value))
        (none_found (firsts schema us) (all_firsts (λ r. is_payload (binding_of r.member) ≡ false) (all_resolved schema us)
        (all_apply (λ r. member_at schema r.position ≡ Some r.member) (λ r. is_payload (binding_of r.member) ≡ false) (all_resolved schema us) (λ r at. none r.position r.member at) (resolved_at schema us))))

    go : SomeOrNone (member_at schema) (λ m. is_payload (binding_of m)) → PayloadOf schema ws
    go (inr none) = inr (no_payload none (view schema ws), no_payload none ws)
    go (inl x) =
        let payload = payload_is (binding_of x.1) x.3 in
        inl (
          x.0,
          x.1,
          x.2,
          payload,
          payload_value schema (sound_input schema checked) (view schema ws) x.0 x.1 x.2 payload ∙ first_value_of_view schema ws x.0 x.1 checked well_made x.2 ∙ bound_view_of schema ws x.0 x.1 to_payload x.2 payload refl,
          payload_value schema (sound_input schema checked) ws x.0 x.1 x.2 payload,
        )

-- bodies with the same bytes are the same: the form is the schema's
same_body : (protocol : Protocol) (schema : Schema) (v w : List Write) → (body protocol.text_of schema v).bytes ≡ (body protocol.text_of schema w).bytes → body protocol.text_of schema v ≡ body protocol.text_of schema w
unfolding body
same_body protocol schema v w e = λ i. record { bytes = e i; form = form_in schema }

raw_settled : (here : Option Schema) (v : Value) → raw_bytes (settled here v) ≡ raw_bytes v
raw_settled here (value.scalar value.null) = cond_both (is_kind kind.Document here) (value.scalar (value.document doc.null)) (value.scalar value.null) (λ v. raw_bytes v ≡ []) (λ e. refl) (λ e. refl)
raw_settled here _ = refl

-- the payload's bytes are those of the normal form's
raw_same : (schema : Schema) (ws : List Write) → PayloadOf schema ws → unwrap_or (option_map raw_bytes (body_parts schema (view schema ws)).payload) [] ≡ unwrap_or (option_map raw_bytes (body_parts schema ws).payload) []
raw_same schema ws (inr none) = ap (λ o. unwrap_or (option_map raw_bytes o) []) (none.0 ∙ sym none.1)
raw_same schema ws (inl x) = ap (λ o. unwrap_or (option_map raw_bytes o) []) x.4 ∙ go (is_codec_kind x.1.node.kind) (first_value schema ws x.0) ∙ ap (λ o. unwrap_or (option_map raw_bytes o) []) (sym x.5)
  where
    go : (t : Bool) (o : Option Value) → unwrap_or (option_map raw_bytes (option_and_then (λ u. if t then Some (settled (Some x.1) u) else unless_empty u) o)) [] ≡ unwrap_or (option_map raw_bytes o) []
    go t None = refl
    go true (Some v) = raw_settled (Some x.1) v
    go false (Some v) = raw_left v

-- the normal form of what is written has its document
kept_document : (m : Schema) (o : Option Value) → ((u : Value) → o ≡ Some u → HasOwnText m u) → option_map document_of (option_map (settled (Some m)) o) ≡ option_map document_of o
kept_document m None has = refl
kept_document m (Some u) has = let h = has u refl in ap Some (normal_document m u h.doc h.shaped h.has ∙ sym h.has)

payload_alike : (protocol : Protocol) (schema : Schema) (endpoint : List ℕ) (omit : OmitFlags) (ws : List Write) → IsCheckedInput schema → is_well_made schema ≡ true → IsTyped protocol schema endpoint omit ws
    → form_in schema ≡ form.Payload → PayloadOf schema ws → option_map document_of (body_parts schema (view schema ws)).payload ≡ option_map document_of (body_parts schema ws).payload
payload_alike protocol schema endpoint omit ws checked well_made typed is (inr none) = ap (option_map document_of) (none.0 ∙ sym none.1)
payload_alike protocol schema endpoint omit ws checked well_made typed is (inl x) =
    ap (option_map document_of) (x.4 ∙ codec_view x.1 (first_value schema ws x.0) (codec_payload schema (sound_input schema checked) x.0 x.1 x.2 x.3 is))
    ∙ kept_document x.1 (first_value schema ws x.0) (payload_own_text protocol schema endpoint omit ws x.0 x.1 checked well_made typed x.2 x.3 is)
    ∙ ap (option_map document_of) (sym x.5)

-- the documents of both, where there are any
pub docs_alike : (protocol : Protocol) (schema : Schema) (endpoint : List ℕ) (omit : OmitFlags) (ws : List Write) → IsCheckedInput schema → is_well_made schema ≡ true → IsTyped protocol schema endpoint omit ws
    → option_map document_of (document_value schema (view schema ws)) ≡ option_map document_of (document_value schema ws)
docs_alike protocol schema endpoint omit ws checked well_made typed = go (form_in schema) refl
  where
    by_form : (f : BodyForm) → form_in schema ≡ f → option_map document_of (document_by f (body_parts schema (view schema ws))) ≡ option_map document_of (document_by f (body_parts schema ws))
        → option_map document_of (document_value schema (view schema ws)) ≡ option_map document_of (document_value schema ws)
    by_form f is e = ap (option_map document_of) (document_value_is schema (view schema ws) f is) ∙ e ∙ ap (option_map document_of) (sym (document_value_is schema ws f is))

    go : (f : BodyForm) → form_in schema ≡ f → option_map document_of (document_value schema (view schema ws)) ≡ option_map document_of (document_value schema ws)
    go form.Nothing is = by_form form.Nothing is refl
    go form.Raw is = by_form form.Raw is refl
    go form.Payload is = by_form form.Payload is (payload_alike protocol schema endpoint omit ws checked well_made typed is (payload_of_view schema ws checked well_made))
    go form.Unbound is =
        let h = unbound_own_text protocol schema endpoint omit ws checked well_made typed is in
        by_form form.Unbound is
        (ap (λ v. Some (document_of v)) (view_settles_body schema ws checked well_made (typed_bodied protocol schema endpoint omit ws typed))
        ∙ ap Some (normal_document (body_node schema) (body_value schema ws) h.doc h.shaped h.has ∙ sym h.has))

-- the document of a value, where it has one
pub doc_by : (o : Option Value) → option_and_then doc_of o ≡ option_and_then result_ok (option_map document_of o)
doc_by None = refl
doc_by (Some v) = refl

pub body_of_view : (protocol : Protocol) (schema : Schema) (endpoint : List ℕ) (omit : OmitFlags) (ws : List Write) → IsCheckedInput schema → is_well_made schema ≡ true → IsTyped protocol schema endpoint omit ws
    → body protocol.text_of schema (view schema ws) ≡ body protocol.text_of schema ws
body_of_view protocol schema endpoint omit ws checked well_made typed =
    same_body protocol schema (view schema ws) ws (body_bytes protocol.text_of schema (view schema ws) ∙ go (form_in schema) refl ∙ sym (body_bytes protocol.text_of schema ws))
  where
    texts : text_of_document protocol.text_of (document_value schema (view schema ws)) ≡ text_of_document protocol.text_of (document_value schema ws)
    texts =
        ap (λ (d : Option Document). unwrap_or (option_map protocol.text_of d) [])
        (doc_by (document_value schema (view schema ws)) ∙ ap (option_and_then result_ok) (docs_alike protocol schema endpoint omit ws checked well_made typed) ∙ sym (doc_by (document_value schema ws)))

    by_codec : (f : BodyForm) → form_in schema ≡ f → text_of_document protocol.text_of (document_by f (body_parts schema (view schema ws))) ≡ text_of_document protocol.text_of (document_by f (body_parts schema ws))
    by_codec f is = ap (text_of_document protocol.text_of) (sym (document_value_is schema (view schema ws) f is)) ∙ texts ∙ ap (text_of_document protocol.text_of) (document_value_is schema ws f is)

    go : (f : BodyForm) → form_in schema ≡ f → bytes_by f protocol.text_of (body_parts schema (view schema ws)) ≡ bytes_by f protocol.text_of (body_parts schema ws)
    go form.Raw is = raw_same schema ws (payload_of_view schema ws checked well_made)
    go form.Payload is = by_codec form.Payload is
    go form.Unbound is = by_codec form.Unbound is
    go form.Nothing is = refl
