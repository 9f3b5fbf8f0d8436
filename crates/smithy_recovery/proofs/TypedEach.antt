-- What the test of each write alone says of first writes and of the body, for any writes.
use Rattle.std.proofs.Common.{◌≡◌, refl, sym, ◌∙◌, ap, subst, ℕ, ◌≤◌, ◌-◌, arith, Bool, true, false, not, cond, ◌&&◌, ◌||◌, List, [], ◌∷◌, filter, find, map, Option, Some, None, option_map, option_and_then, is_some, IsTrue, if◌then◌else◌, Result, Ok, Err}
use Rattle.std.specs.List.{AllByRecursion, list_all, cons_option}
use Rattle.std.specs.Option.{option_map_or}
use Rattle.std.specs.Result.{result_ok}
use Rattle.std.proofs.lemmas.Bool.{and_parts, and_from, leb-true, le-leb}
use Rattle.smithy_types.specs.Documents.{Document, nesting}
use Rattle.smithy_types.specs.Texts.{are_distinct, is_one_of}
use Rattle.smithy_schema.specs.Nodes.{Schema, member_at, Binding, to_header, to_prefix, to_query, to_query_map, to_label, to_payload, to_body, binding_of, is_outside_body, is_bound}
use Rattle.smithy_serde.specs.DocumentOf.{DocumentFault, document_of, doc_of}
use Rattle.smithy_serde.specs.Lawful.{max_nesting}
use Rattle.smithy_serde.specs.Ranges.{is_in_range, are_in_range}
use Rattle.smithy_serde.specs.Shaped.{is_shaped}
use Rattle.smithy_serde.specs.Values as value
use Rattle.smithy_serde.specs.Values.{Value, Write, structure, label_of, keys_of}
use Rattle.smithy_serde.specs.Writes.{Resolved, all_resolved, firsts, position_in}
use Rattle.std.specs.Bool.{then_some}
use Rattle.smithy_binding.specs.declared.body_form.BodyForm.{BodyForm}
use Rattle.smithy_binding.specs.declared.body_form.BodyForm.TheVariants as form
use Rattle.smithy_binding.specs.Bindings.{inserted_at}
use Rattle.smithy_binding.specs.Bodies.{is_payload, is_codec_kind, form_in, body_parts, document_by, document_value}
use Rattle.smithy_binding.specs.Checked.{IsCheckedInput}
use Rattle.smithy_binding.specs.Faults.{is_placed_at}
use Rattle.smithy_binding.specs.Typed.{bodied, has_distinct_keys, has_own_formats, is_placed_typed, is_shaped_write, is_codec_payload, is_shaped_payload, default_names, has_no_default_name, is_shallow}
use Rattle.smithy_unambiguity.proofs.BodyObject.{bodied_writes}
use Rattle.smithy_unambiguity.proofs.ByMember.{at_member}
use Rattle.smithy_unambiguity.proofs.Conforming.{resolved_at}
use Rattle.smithy_unambiguity.proofs.Firsts.{all_firsts}
use Rattle.smithy_unambiguity.proofs.Lists.{all_apply, both_hold, test_from_all}
use Rattle.smithy_unambiguity.proofs.PayloadTold.{document_value_is, payload_is, codec_payload}
use Rattle.smithy_unambiguity.proofs.Settled.{shaped_range}
use Rattle.smithy_unambiguity.proofs.ViewedMembers.{inserts_nothing}
use Rattle.smithy_recovery.specs.Shallow.{value_nesting, writes_nesting, is_shallow_at}
use Rattle.smithy_recovery.specs.TypedWrites.{is_typed_document, has_sound_parts, is_typed_text, has_no_default, is_typed_at, is_typed_value, member_by_index, is_typed_write, has_typed_writes}
use Rattle.smithy_recovery.proofs.Depths.{document_within}
use Rattle.smithy_unambiguity.proofs.Positions.{sound_input}

-- the value of a write is one of a typed input's
abbrev pub HasTypedValue : Resolved → Type 0
HasTypedValue r = is_typed_value r.member r.value ≡ true

-- a write that is resolved by the index of its node
indexed_typed : (schema : Schema) (w : Write) (i : ℕ) (rest : List Resolved) (n : Option Schema) → member_at schema i ≡ n → option_map_or (λ m. is_typed_value m w.value) n false ≡ true → AllByRecursion HasTypedValue rest
    → AllByRecursion HasTypedValue (cons_option (option_and_then (λ (j : ℕ). option_map (λ m. at_member j m w.value) (member_at schema j)) (then_some (is_some (member_at schema i)) i)) rest)
indexed_typed schema w i rest None at h all = absurd (cc h)
indexed_typed schema w i rest (Some m) at h all =
    let one : Resolved = at_member i m w.value in
    let is : option_and_then (λ (j : ℕ). option_map (λ m. at_member j m w.value) (member_at schema j)) (then_some (is_some (member_at schema i)) i) ≡ Some one =
    ap (λ (o : Option Schema). option_and_then (λ (j : ℕ). option_map (λ m. at_member j m w.value) (member_at schema j)) (then_some (is_some o) i)) at
    ∙ ap (option_map (λ m. at_member i m w.value)) at in
    subst (λ o. AllByRecursion HasTypedValue (cons_option o rest)) (sym is) (h, all)

pub each_typed : (schema : Schema) (ws : List Write) → has_typed_writes schema ws ≡ true → AllByRecursion HasTypedValue (all_resolved schema ws)
each_typed schema [] e = tt
each_typed schema (w ∷ ws) e =
    let parts = and_parts (is_typed_write schema w) (has_typed_writes schema ws) e in
    go w.label.member_index parts.0 (each_typed schema ws parts.1)
  where
    go : (o : Option ℕ) → option_map_or (λ m. is_typed_value m w.value) (option_and_then (member_at schema) o) false ≡ true → AllByRecursion HasTypedValue (all_resolved schema ws)
        → AllByRecursion HasTypedValue (cons_option (option_and_then (λ (j : ℕ). option_map (λ m. at_member j m w.value) (member_at schema j)) (position_in schema o w.label.member_name)) (all_resolved schema ws))
    go None h rest = absurd (cc h)
    go (Some i) h rest = indexed_typed schema w i (all_resolved schema ws) (member_at schema i) refl h rest

-- ---- ranges

text_range : (m : Schema) (v : Value) → is_typed_text m v ≡ true → is_in_range v ≡ true
text_range m v e = (and_parts (is_in_range v) (has_sound_parts m v) e).0

document_range : (levels : ℕ) (m : Schema) (v : Value) → is_typed_document levels m v ≡ true → is_in_range v ≡ true
document_range levels m v e = shaped_range (Some m) v (and_parts (is_shallow_at levels v) (is_shaped (Some m) v) e).1

range_at : (b : Binding) (m : Schema) (v : Value) → is_typed_at b m v ≡ true → is_in_range v ≡ true
range_at (to_prefix prefix) m v e = text_range m v (and_parts (is_typed_text m v) (has_no_default prefix m v) e).0
range_at to_payload m v e = go (is_codec_kind m.node.kind) e
  where
    go : (t : Bool) → (if t then is_typed_document max_nesting m v else is_in_range v) ≡ true → is_in_range v ≡ true
    go true h = document_range max_nesting m v h
    go false h = h
range_at to_body m v e = document_range (max_nesting - 1) m v e
range_at _ m v e = text_range m v e

pub typed_ranges : (schema : Schema) (ws : List Write) → has_typed_writes schema ws ≡ true → are_in_range ws ≡ true
typed_ranges schema [] e = refl
typed_ranges schema (w ∷ ws) e =
    let parts = and_parts (is_typed_write schema w) (has_typed_writes schema ws) e in
    and_from (is_in_range w.value) (are_in_range ws) (go (member_by_index schema w.label) parts.0) (typed_ranges schema ws parts.1)
  where
    go : (o : Option Schema) → option_map_or (λ m. is_typed_value m w.value) o false ≡ true → is_in_range w.value ≡ true
    go None h = absurd (cc h)
    go (Some m) h = range_at (binding_of m) m w.value h

-- ---- values in the target and the headers

pub sound_parts : (m : Schema) (v : Value) → has_sound_parts m v ≡ true → (has_distinct_keys v && has_own_formats m v) ≡ true
sound_parts m (value.map ws) e = and_from (are_distinct (keys_of ws)) true e refl
sound_parts m (value.list ws) e = e
sound_parts m _ e = refl

text_placed : (m : Schema) (v : Value) → is_typed_text m v ≡ true → (has_distinct_keys v && has_own_formats m v) ≡ true
text_placed m v e = sound_parts m v (and_parts (is_in_range v) (has_sound_parts m v) e).1

pub placed_typed : (r : Resolved) → HasTypedValue r → is_placed_typed r ≡ true
placed_typed r e = go (binding_of r.member) e
  where
    go : (b : Binding) → is_typed_at b r.member r.value ≡ true → (not (is_placed_at b) || (has_distinct_keys r.value && has_own_formats r.member r.value)) ≡ true
    go (to_prefix prefix) h = text_placed r.member r.value (and_parts (is_typed_text r.member r.value) (has_no_default prefix r.member r.value) h).0
    go to_payload h = refl
    go to_body h = refl
    go _ h = text_placed r.member r.value h

pub no_default_typed : (r : Resolved) → HasTypedValue r → has_no_default_name (binding_of r.member) r ≡ true
no_default_typed r e = go (binding_of r.member) refl e
  where
    go : (b : Binding) → binding_of r.member ≡ b → is_typed_at b r.member r.value ≡ true → has_no_default_name b r ≡ true
    go (to_header name) is h = refl
    go (to_prefix prefix) is h =
        ap (λ b. list_all (λ (p : List ℕ × List ℕ). not (is_one_of p.0 default_names)) (inserted_at b r.member r.value)) is
        ∙ (and_parts (is_typed_text r.member r.value) (has_no_default prefix r.member r.value) h).1
    go (to_query name) is h = inserts_nothing r.member r.value (to_query name) is refl
    go to_query_map is h = inserts_nothing r.member r.value to_query_map is refl
    go to_label is h = inserts_nothing r.member r.value to_label is refl
    go to_payload is h = inserts_nothing r.member r.value to_payload is refl
    go to_body is h = inserts_nothing r.member r.value to_body is refl

-- ---- values in the body

free_document : (r : Resolved) → HasTypedValue r → is_bound r.member ≡ false → is_typed_document (max_nesting - 1) r.member r.value ≡ true
free_document r e free = go (binding_of r.member) free e
  where
    go : (b : Binding) → is_outside_body b ≡ false → is_typed_at b r.member r.value ≡ true → is_typed_document (max_nesting - 1) r.member r.value ≡ true
    go to_body f h = h
    go _ f h = absurd (cc f)

payload_document : (r : Resolved) → HasTypedValue r → is_payload (binding_of r.member) ≡ true → is_codec_kind r.member.node.kind ≡ true → is_typed_document max_nesting r.member r.value ≡ true
payload_document r e payload codec = go (binding_of r.member) payload e
  where
    go : (b : Binding) → is_payload b ≡ true → is_typed_at b r.member r.value ≡ true → is_typed_document max_nesting r.member r.value ≡ true
    go to_payload p h = ap (λ t. if t then is_typed_document max_nesting r.member r.value else is_in_range r.value) (sym codec) ∙ h
    go _ p h = absurd (cc p)

document_shaped : (levels : ℕ) (m : Schema) (v : Value) → is_typed_document levels m v ≡ true → is_shaped (Some m) v ≡ true
document_shaped levels m v e = (and_parts (is_shallow_at levels v) (is_shaped (Some m) v) e).1

document_low : (levels : ℕ) (m : Schema) (v : Value) → is_typed_document levels m v ≡ true → value_nesting v ≤ levels
document_low levels m v e = leb-true (value_nesting v) levels (and_parts (is_shallow_at levels v) (is_shaped (Some m) v) e).0

filtered : {X : Type 0} (P Q : X → Type 0) (test : X → Bool) (xs : List X) → ((x : X) → P x → test x ≡ true → Q x) → AllByRecursion P xs → AllByRecursion Q (filter test xs)
filtered P Q test [] f all = tt
filtered P Q test (x ∷ xs) f all = go (test x) refl (filtered P Q test xs f all.1)
  where
    go : (t : Bool) → test x ≡ t → AllByRecursion Q (filter test xs) → AllByRecursion Q (cond t (x ∷ filter test xs) (filter test xs))
    go true is rest = (f x all.0 is, rest)
    go false is rest = rest

not_bound : (b : Bool) → not b ≡ true → b ≡ false
not_bound true e = absurd (cc e)
not_bound false e = refl

pub unbound_typed : (schema : Schema) (ws : List Write) → AllByRecursion HasTypedValue (all_resolved schema ws) → AllByRecursion (λ r. IsTrue (is_shaped_write r)) (bodied schema ws)
unbound_typed schema ws all =
    filtered HasTypedValue (λ r. IsTrue (is_shaped_write r)) (λ r. not (is_bound r.member)) (all_resolved schema ws)
    (λ r h free. document_shaped (max_nesting - 1) r.member r.value (free_document r h (not_bound (is_bound r.member) free))) all

payload_test : (r : Resolved) → HasTypedValue r → (not (is_codec_payload r.member) || is_shaped_write r) ≡ true
payload_test r e = go (is_payload (binding_of r.member)) (is_codec_kind r.member.node.kind) refl refl
  where
    go : (p c : Bool) → is_payload (binding_of r.member) ≡ p → is_codec_kind r.member.node.kind ≡ c → (not (p && c) || is_shaped_write r) ≡ true
    go true true payload codec = document_shaped max_nesting r.member r.value (payload_document r e payload codec)
    go true false payload codec = refl
    go false c payload codec = refl

pub payload_typed : (schema : Schema) (ws : List Write) → AllByRecursion HasTypedValue (all_resolved schema ws) → is_shaped_payload schema ws ≡ true
payload_typed schema ws all =
    test_from_all (λ r. not (is_codec_payload r.member) || is_shaped_write r) (firsts schema ws)
    (all_firsts (λ r. (not (is_codec_payload r.member) || is_shaped_write r) ≡ true) (all_resolved schema ws)
    (all_apply HasTypedValue (λ r. (not (is_codec_payload r.member) || is_shaped_write r) ≡ true) (all_resolved schema ws) payload_test all))

-- ---- the document of the body

shallow_within : (v : Value) → value_nesting v ≤ max_nesting → is_shallow (doc_of v) ≡ true
shallow_within v low = go (document_of v) refl
  where
    go : (r : Result Document DocumentFault) → document_of v ≡ r → is_shallow (result_ok r) ≡ true
    go (Ok d) e = let one = document_within v d e in le-leb (nesting d) max_nesting (omega (arith, one, low))
    go (Err f) e = refl

object_low : (n : ℕ) (rs : List Resolved) → AllByRecursion (λ r. is_bound r.member ≡ false → value_nesting r.value ≤ n) rs → writes_nesting (bodied_writes is_bound rs) ≤ n
object_low n [] all = omega arith
object_low n (r ∷ rs) all = go (is_bound r.member) refl (object_low n rs all.1)
  where
    go : (b : Bool) → is_bound r.member ≡ b → writes_nesting (bodied_writes is_bound rs) ≤ n
        → writes_nesting (value.writes_of (map (λ (r : Resolved). record { label = label_of r.member; value = r.value }) (cond (not b) (r ∷ filter (λ (r : Resolved). not (is_bound r.member)) rs) (filter (λ (r : Resolved). not (is_bound r.member)) rs)))) ≤ n
    go true is later = later
    go false is later = let one = all.0 is in omega (arith, one, later)

abbrev is_payload_write : Resolved → Bool
is_payload_write r = is_payload (binding_of r.member)

-- what is found passes, and is as each is
found_one : (P : Resolved → Type 0) (test : Resolved → Bool) (rs : List Resolved) (r : Resolved) → AllByRecursion P rs → find test rs ≡ Some r → P r × (test r ≡ true)
found_one P test [] r all e = absurd (cc e)
found_one P test (x ∷ rs) r all e = go (test x) refl (found_one P test rs r all.1) e
  where
    go : (t : Bool) → test x ≡ t → (find test rs ≡ Some r → P r × (test r ≡ true)) → cond t (Some x) (find test rs) ≡ Some r → P r × (test r ≡ true)
    go true is later h = let same : x ≡ r = cc h in subst (λ y. P y × (test y ≡ true)) same (all.0, is)
    go false is later h = later h

pub shallow_typed : (schema : Schema) (ws : List Write) → IsCheckedInput schema → AllByRecursion HasTypedValue (all_resolved schema ws) → is_shallow (option_and_then doc_of (document_value schema ws)) ≡ true
shallow_typed schema ws checked all = go (form_in schema) refl
  where
    by_form : (f : BodyForm) → form_in schema ≡ f → is_shallow (option_and_then doc_of (document_by f (body_parts schema ws))) ≡ true → is_shallow (option_and_then doc_of (document_value schema ws)) ≡ true
    by_form f is h = ap (λ o. is_shallow (option_and_then doc_of o)) (document_value_is schema ws f is) ∙ h

    firsts_typed : AllByRecursion (λ r. (member_at schema r.position ≡ Some r.member) × HasTypedValue r) (firsts schema ws)
    firsts_typed =
        all_firsts (λ r. (member_at schema r.position ≡ Some r.member) × HasTypedValue r) (all_resolved schema ws)
        (both_hold (λ r. member_at schema r.position ≡ Some r.member) HasTypedValue (all_resolved schema ws) (resolved_at schema ws) all)

    payload : form_in schema ≡ form.Payload → (o : Option Resolved) → find is_payload_write (firsts schema ws) ≡ o → is_shallow (option_and_then doc_of (option_map (λ (r : Resolved). r.value) o)) ≡ true
    payload is None e = refl
    payload is (Some r) e =
        let found = found_one (λ r. (member_at schema r.position ≡ Some r.member) × HasTypedValue r) is_payload_write (firsts schema ws) r firsts_typed e in
        let codec = codec_payload schema (sound_input schema checked) r.position r.member found.0.0 (payload_is (binding_of r.member) found.1) is in
        shallow_within r.value (document_low max_nesting r.member r.value (payload_document r found.0.1 found.1 codec))

    go : (f : BodyForm) → form_in schema ≡ f → is_shallow (option_and_then doc_of (document_value schema ws)) ≡ true
    go form.Nothing is = by_form form.Nothing is refl
    go form.Raw is = by_form form.Raw is refl
    go form.Payload is = by_form form.Payload is (payload is (find is_payload_write (firsts schema ws)) refl)
    go form.Unbound is =
        let low = object_low (max_nesting - 1) (all_resolved schema ws)
        (all_apply HasTypedValue (λ r. is_bound r.member ≡ false → value_nesting r.value ≤ max_nesting - 1) (all_resolved schema ws)
        (λ r h free. document_low (max_nesting - 1) r.member r.value (free_document r h free)) all) in
        by_form form.Unbound is (shallow_within (structure (bodied_writes is_bound (all_resolved schema ws))) (omega (arith, low)))
