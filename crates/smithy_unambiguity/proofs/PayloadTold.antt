-- The body of a payload tells its normal form.
use Rattle.smithy_unambiguity.proofs.Common.{◌≡◌, refl, sym, ◌∙◌, ap, ℕ, ◌≤◌, nat_le, ◌⊎◌, inl, inr, Bool, true, false, not, ◌&&◌, ◌||◌, ◌==◌, List, [], length, filter, find, Result, Ok, Option, Some, None, option_map, option_and_then, unwrap_or, if◌then◌else◌, eq-eqb, result_ok, and_parts, eqb-true, leb-true, Document, nesting, ShapeType, Schema, member_at, members_of, Binding, to_payload, binding_of, is_outside_body, is_bound, Value, Write, fits, is_null, Held, IsLawfulText, is_sound, max_nesting, DocumentFault, document_of, doc_of, is_shaped, settled, Resolved, all_resolved, firsts, is_of, is_payload, is_codec_kind, payload_kind, has_unbound_member, is_raw_kind, form_at, form_in, body_parts, body, document_value, document_by, raw_bytes, text_of_document, bytes_by, IsCheckedInput, has_at_most_one, is_sound_payload, is_well_made, Protocol, OmitFlags, IsTyped, is_codec_payload, is_shaped_write, is_shallow, member_view, unless_empty, Stands, text_form, both_ways}
use Rattle.smithy_ids.specs.declared.shape_type.ShapeType.TheVariants as kind
use Rattle.smithy_serde.specs.Values as value
use Rattle.smithy_binding.specs.declared.body_form.BodyForm.{BodyForm}
use Rattle.smithy_binding.specs.declared.body_form.BodyForm.TheVariants as form
use Rattle.smithy_serde.proofs.LawfulLemmas.{lawful_apart}
use Rattle.smithy_document.proofs.ShapedDocuments.{has_document}
use Rattle.smithy_document.proofs.ShapedReads.{tells_normal_form}
use Rattle.smithy_unambiguity.proofs.ByMember.{first_value}
use Rattle.smithy_unambiguity.proofs.Conforming.{resolved_at}
use Rattle.smithy_unambiguity.proofs.Firsts.{first_finds, all_firsts}
use Rattle.smithy_unambiguity.proofs.HeadersTold.{AreSeenSame, bound_told}
use Rattle.smithy_unambiguity.proofs.Lists.{all_apply, all_from_test}
use Rattle.smithy_unambiguity.proofs.Traits.{trait_of}
use Rattle.smithy_unambiguity.proofs.Members.{member_in_place}
use Rattle.smithy_unambiguity.proofs.Placed.{HasTypedWrites, bound_fits, first_fitting, first_has}
use Rattle.smithy_unambiguity.proofs.Positions.{IsSoundMessage, sound_input}
use Rattle.smithy_unambiguity.proofs.Singles.{single, find_same, find_alone}
use Rattle.smithy_unambiguity.proofs.Sound.{sound}

pub payload_is : (b : Binding) → is_payload b ≡ true → b ≡ to_payload
payload_is to_payload e = refl
payload_is _ e = absurd (cc e)

pub payload_of : (m : Schema) → is_payload (binding_of m) ≡ true → m.node.traits.http_payload ≡ true
payload_of m e = trait_of m to_payload (payload_is (binding_of m) e)

pub one_payload : (schema : Schema) → IsSoundMessage schema → length (filter (λ m. m.node.traits.http_payload) (members_of schema)) ≤ 1
one_payload schema message =
    leb-true (length (filter (λ m. m.node.traits.http_payload) (members_of schema))) 1
    (and_parts (has_at_most_one (λ t. t.http_payload) schema) (is_sound_payload (payload_kind schema) (has_unbound_member schema)) message.payload).0

-- the payload member is the one that is found
pub payload_kind_is : (schema : Schema) → IsSoundMessage schema → (i : ℕ) (m : Schema) → member_at schema i ≡ Some m → binding_of m ≡ to_payload → payload_kind schema ≡ Some m.node.kind
payload_kind_is schema message i m at payload =
    ap (option_map (λ n. n.node.kind))
    (find_alone (λ n. is_payload (binding_of n)) (members_of schema) i m (message.by_position i ∙ at) (ap is_payload payload)
    (λ j n at_j is. single (λ n. n.node.traits.http_payload) (members_of schema) (one_payload schema message) j i n m at_j (message.by_position i ∙ at) (payload_of n is) (payload_of m (ap is_payload payload))))

-- and its first write is the payload
pub payload_value : (schema : Schema) → IsSoundMessage schema → (ws : List Write) (i : ℕ) (m : Schema) → member_at schema i ≡ Some m → binding_of m ≡ to_payload
    → option_map (λ (r : Resolved). r.value) (find (λ (r : Resolved). is_payload (binding_of r.member)) (firsts schema ws)) ≡ first_value schema ws i
payload_value schema message ws i m at payload =
    ap (option_map (λ (r : Resolved). r.value))
    (find_same (λ (r : Resolved). is_payload (binding_of r.member)) (is_of i) (firsts schema ws)
    (all_firsts (λ r. is_payload (binding_of r.member) ≡ is_of i r) (all_resolved schema ws) (all_apply (λ r. member_at schema r.position ≡ Some r.member) (λ r. is_payload (binding_of r.member) ≡ is_of i r) (all_resolved schema ws) same_test (resolved_at schema ws)))
    ∙ first_finds i (all_resolved schema ws))
  where
    same_test : (r : Resolved) → member_at schema r.position ≡ Some r.member → is_payload (binding_of r.member) ≡ is_of i r
    same_test r at_r =
        both_ways (is_payload (binding_of r.member)) (r.position == i)
        (λ is. eq-eqb r.position i (single (λ n. n.node.traits.http_payload) (members_of schema) (one_payload schema message) r.position i r.member m (message.by_position r.position ∙ at_r) (message.by_position i ∙ at)
        (payload_of r.member is) (payload_of m (ap is_payload payload))))
        (λ e.
        let members : Some r.member ≡ Some m = sym at_r ∙ ap (member_at schema) (eqb-true r.position i e) ∙ at in
        let same : r.member ≡ m = cc members in
        ap (λ n. is_payload (binding_of n)) same ∙ ap is_payload payload)

-- the bytes of the body, by its form
pub body_bytes : (text_of : Document → List ℕ) (schema : Schema) (ws : List Write) → (body text_of schema ws).bytes ≡ bytes_by (form_in schema) text_of (body_parts schema ws)
unfolding body
body_bytes text_of schema ws = refl

-- Raw payloads.

pub blob_form : (v : Value) → fits kind.Blob v ≡ true → (b : List ℕ) × (v ≡ value.scalar (value.blob b))
blob_form (value.scalar (value.blob b)) e = (b, refl)
blob_form (value.scalar (value.whole value.byte z)) e = absurd (cc e)
blob_form (value.scalar (value.whole value.short z)) e = absurd (cc e)
blob_form (value.scalar (value.whole value.integer z)) e = absurd (cc e)
blob_form (value.scalar (value.whole value.long z)) e = absurd (cc e)
blob_form _ e = absurd (cc e)

-- a raw value is what is made of its bytes
raw_told : (k : ShapeType) (make : List ℕ → Value) → ((v : Value) → fits k v ≡ true → v ≡ make (raw_bytes v)) → unless_empty (make []) ≡ None
    → (o p : Option Value) → ((v : Value) → o ≡ Some v → fits k v ≡ true) → ((v : Value) → p ≡ Some v → fits k v ≡ true)
    → unwrap_or (option_map raw_bytes o) [] ≡ unwrap_or (option_map raw_bytes p) [] → option_and_then unless_empty o ≡ option_and_then unless_empty p
raw_told k make back none o p is_o is_p e = shown o is_o ∙ ap (λ t. unless_empty (make t)) e ∙ sym (shown p is_p)
  where
    shown : (o : Option Value) → ((v : Value) → o ≡ Some v → fits k v ≡ true) → option_and_then unless_empty o ≡ unless_empty (make (unwrap_or (option_map raw_bytes o) []))
    shown None is = sym none
    shown (Some v) is = ap unless_empty (back v (is v refl))

blob_back : (v : Value) → fits kind.Blob v ≡ true → v ≡ value.scalar (value.blob (raw_bytes v))
blob_back v fit = let x = blob_form v fit in x.1 ∙ ap (λ u. value.scalar (value.blob (raw_bytes u))) (sym x.1)

text_back : (v : Value) → fits kind.String v ≡ true → v ≡ value.scalar (value.text (raw_bytes v))
text_back v fit = let x = text_form v fit in x.1 ∙ ap (λ u. value.scalar (value.text (raw_bytes u))) (sym x.1)

-- Payloads that the codec writes.

-- what the normal form has of a payload
abbrev pub payload_view : Schema → Value → Option Value
payload_view m u = if is_codec_kind m.node.kind then Some (settled (Some m) u) else unless_empty u

pub codec_view : (m : Schema) (o : Option Value) → is_codec_kind m.node.kind ≡ true → option_and_then (payload_view m) o ≡ option_map (settled (Some m)) o
codec_view m None codec = refl
codec_view m (Some u) codec = ap (λ t. if t then Some (settled (Some m) u) else unless_empty u) codec

pub raw_view : (m : Schema) (o : Option Value) → is_codec_kind m.node.kind ≡ false → option_and_then (payload_view m) o ≡ option_and_then unless_empty o
raw_view m o raw = ap (λ t. option_and_then (λ u. if t then Some (settled (Some m) u) else unless_empty u) o) raw

-- a shaped value whose document a codec tells apart
pub record HasOwnText (m : Schema) (v : Value) : Type 0 where
  pub shaped : is_shaped (Some m) v ≡ true
  pub doc : Document
  pub has : document_of v ≡ Ok doc
  pub sound : is_sound doc ≡ true
  pub shallow : nesting doc ≤ max_nesting

pub own_bytes : (text_of : Document → List ℕ) (m : Schema) (v : Value) (is : HasOwnText m v) → text_of_document text_of (Some v) ≡ text_of is.doc
own_bytes text_of m v is = ap (λ (r : Result Document DocumentFault). unwrap_or (option_map text_of (result_ok r)) []) is.has

pub text_tells : (text_of : Document → List ℕ) (holds : List ℕ → Option Held) → IsLawfulText text_of holds → (m : Schema) (v w : Value) → Stands m → HasOwnText m v → HasOwnText m w
    → text_of_document text_of (Some v) ≡ text_of_document text_of (Some w) → settled (Some m) v ≡ settled (Some m) w
text_tells text_of holds lawful m v w stands a b e =
    let same = lawful_apart text_of holds lawful a.doc b.doc a.sound b.sound a.shallow b.shallow (sym (own_bytes text_of m v a) ∙ e ∙ own_bytes text_of m w b) in
    (tells_normal_form m v w stands a.shaped b.shaped).0 (a.has ∙ ap Ok same ∙ sym b.has)

texts_tell : (text_of : Document → List ℕ) (holds : List ℕ → Option Held) → IsLawfulText text_of holds → (m : Schema) → Stands m → (o p : Option Value) → ((v : Value) → o ≡ Some v → HasOwnText m v) → ((v : Value) → p ≡ Some v → HasOwnText m v)
    → text_of_document text_of o ≡ text_of_document text_of p → option_map (settled (Some m)) o ≡ option_map (settled (Some m)) p
texts_tell text_of holds lawful m stands None None is_o is_p e = refl
texts_tell text_of holds lawful m stands (Some v) None is_o is_p e =
    let is = is_o v refl in absurd (lawful.is_not_empty is.doc is.sound (sym (own_bytes text_of m v is) ∙ e))
texts_tell text_of holds lawful m stands None (Some w) is_o is_p e =
    let is = is_p w refl in absurd (lawful.is_not_empty is.doc is.sound (sym (own_bytes text_of m w is) ∙ sym e))
texts_tell text_of holds lawful m stands (Some v) (Some w) is_o is_p e = ap Some (text_tells text_of holds lawful m v w stands (is_o v refl) (is_p w refl) e)

-- the value of a body follows its node
pub own_text : (schema : Schema) (ws : List Write) (m : Schema) (u : Value) → is_shallow (option_and_then doc_of (document_value schema ws)) ≡ true → Stands m → document_value schema ws ≡ Some u → is_shaped (Some m) u ≡ true → HasOwnText m u
own_text schema ws m u shallow stands is shaped =
    let d = has_document m u shaped in
    let low : nat_le (nesting d.0) max_nesting ≡ true =
    ap (λ (r : Result Document DocumentFault). is_shallow (result_ok r)) (sym d.1) ∙ ap (λ (o : Option Value). is_shallow (option_and_then doc_of o)) (sym is) ∙ shallow in
    record { shaped = shaped; doc = d.0; has = d.1; sound = sound m u d.0 stands shaped d.1; shallow = leb-true (nesting d.0) max_nesting low }

pub document_value_is : (schema : Schema) (ws : List Write) (f : BodyForm) → form_in schema ≡ f → document_value schema ws ≡ document_by f (body_parts schema ws)
unfolding document_value
document_value_is schema ws f e = ap (λ g. document_by g (body_parts schema ws)) e

pub data_kind : (k : ShapeType) → (is_raw_kind k || is_codec_kind k) ≡ true → (k ≡ kind.Blob) ⊎ ((k ≡ kind.String) ⊎ (is_codec_kind k ≡ true))
data_kind kind.Blob e = inl refl
data_kind kind.String e = inr (inl refl)
data_kind _ e = inr (inr e)

pub codec_form : (k : ShapeType) (b : Bool) → is_codec_kind k ≡ true → form_at (Some k) b ≡ form.Payload
codec_form kind.Structure b e = refl
codec_form kind.Union b e = refl
codec_form kind.List b e = refl
codec_form kind.Map b e = refl
codec_form kind.Document b e = refl
codec_form _ b e = absurd (cc e)

-- the form of the bodies, by the kind of the payload
pub payload_form : (schema : Schema) → IsSoundMessage schema → (i : ℕ) (m : Schema) → member_at schema i ≡ Some m → binding_of m ≡ to_payload → form_in schema ≡ form_at (Some m.node.kind) (has_unbound_member schema)
payload_form schema message i m at payload = ap (λ o. form_at o (has_unbound_member schema)) (payload_kind_is schema message i m at payload)

-- the kind of a payload
pub payload_is_data : (schema : Schema) → IsSoundMessage schema → (i : ℕ) (m : Schema) → member_at schema i ≡ Some m → binding_of m ≡ to_payload → (is_raw_kind m.node.kind || is_codec_kind m.node.kind) ≡ true
payload_is_data schema message i m at payload =
    let tests = and_parts (has_at_most_one (λ t. t.http_payload) schema) (is_sound_payload (payload_kind schema) (has_unbound_member schema)) message.payload in
    (and_parts (is_raw_kind m.node.kind || is_codec_kind m.node.kind) (not (has_unbound_member schema)) (ap (λ o. is_sound_payload o (has_unbound_member schema)) (sym (payload_kind_is schema message i m at payload)) ∙ tests.1)).0

-- the codec writes the payload, where bodies have that form
pub codec_payload : (schema : Schema) → IsSoundMessage schema → (i : ℕ) (m : Schema) → member_at schema i ≡ Some m → binding_of m ≡ to_payload → form_in schema ≡ form.Payload → is_codec_kind m.node.kind ≡ true
codec_payload schema message i m at payload is = go (is_raw_kind m.node.kind) (is_codec_kind m.node.kind) (payload_is_data schema message i m at payload) (sym (payload_form schema message i m at payload) ∙ is)
  where
    go : (r c : Bool) → (r || c) ≡ true → (if r then form.Raw else form.Payload) ≡ form.Payload → c ≡ true
    go true c taken h = absurd (cc h)
    go false c taken h = taken

-- so does the payload
pub payload_own_text : (protocol : Protocol) (schema : Schema) (endpoint : List ℕ) (omit : OmitFlags) (ws : List Write) (i : ℕ) (m : Schema) → IsCheckedInput schema → is_well_made schema ≡ true → IsTyped protocol schema endpoint omit ws
    → member_at schema i ≡ Some m → binding_of m ≡ to_payload → form_in schema ≡ form.Payload → (u : Value) → first_value schema ws i ≡ Some u → HasOwnText m u
payload_own_text protocol schema endpoint omit ws i m checked well_made typed at payload is u e =
    let tested = first_has (λ r. (not (is_codec_payload r.member) || is_shaped_write r) ≡ true) schema ws i m u at e (all_from_test (λ r. not (is_codec_payload r.member) || is_shaped_write r) (firsts schema ws) typed.payload_shaped) in
    let asked : is_codec_payload m ≡ true = ap (λ b. is_payload b && is_codec_kind m.node.kind) payload ∙ codec_payload schema (sound_input schema checked) i m at payload is in
    own_text schema ws m u typed.shallow (member_in_place schema i m well_made at).stands (document_value_is schema ws form.Payload is ∙ payload_value schema (sound_input schema checked) ws i m at payload ∙ e)
    (ap (λ t. not t || is_shaped (Some m) u) (sym asked) ∙ tested)

pub payload_member_told : (protocol : Protocol) (schema : Schema) (endpoint : List ℕ) (omit : OmitFlags) (v w : List Write) → AreSeenSame protocol schema endpoint omit v w → (i : ℕ) (m : Schema)
    → member_at schema i ≡ Some m → binding_of m ≡ to_payload → member_view schema v i m ≡ member_view schema w i m
payload_member_told protocol schema endpoint omit v w are i m at payload =
    bound_told protocol schema endpoint omit v w are i m to_payload at payload refl (go (data_kind m.node.kind (payload_is_data schema (sound_input schema are.checked) i m at payload)))
  where
    value_of : (ws : List Write) → (body_parts schema ws).payload ≡ first_value schema ws i
    value_of ws = payload_value schema (sound_input schema are.checked) ws i m at payload

    fitting : (ws : List Write) → HasTypedWrites schema ws → (k : ShapeType) → m.node.kind ≡ k → (u : Value) → first_value schema ws i ≡ Some u → fits k u ≡ true
    fitting ws typed k is u e = ap (λ k. fits k u) (sym is) ∙ bound_fits (fits m.node.kind u) (is_null u) (is_bound m) (ap is_outside_body payload) (first_fitting schema ws i m u typed.conforming typed.in_range at e).fits

    bytes : (f : BodyForm) → form_in schema ≡ f → bytes_by f protocol.text_of (body_parts schema v) ≡ bytes_by f protocol.text_of (body_parts schema w)
    bytes f is =
        ap (λ g. bytes_by g protocol.text_of (body_parts schema v)) (sym is) ∙ sym (body_bytes protocol.text_of schema v) ∙ are.seen.body ∙ body_bytes protocol.text_of schema w
        ∙ ap (λ g. bytes_by g protocol.text_of (body_parts schema w)) is

    form_is : (k : ShapeType) → m.node.kind ≡ k → form_in schema ≡ form_at (Some k) (has_unbound_member schema)
    form_is k e = payload_form schema (sound_input schema are.checked) i m at payload ∙ ap (λ k. form_at (Some k) (has_unbound_member schema)) e

    raw : form_in schema ≡ form.Raw → unwrap_or (option_map raw_bytes (first_value schema v i)) [] ≡ unwrap_or (option_map raw_bytes (first_value schema w i)) []
    raw is =
        ap (λ o. unwrap_or (option_map raw_bytes o) []) (sym (value_of v)) ∙ bytes form.Raw is ∙ ap (λ o. unwrap_or (option_map raw_bytes o) []) (value_of w)

    go : (m.node.kind ≡ kind.Blob) ⊎ ((m.node.kind ≡ kind.String) ⊎ (is_codec_kind m.node.kind ≡ true))
        → option_and_then (payload_view m) (first_value schema v i) ≡ option_and_then (payload_view m) (first_value schema w i)
    go (inl e) =
        raw_view m (first_value schema v i) (ap is_codec_kind e)
        ∙ raw_told kind.Blob (λ b. value.scalar (value.blob b)) blob_back refl (first_value schema v i) (first_value schema w i) (fitting v are.writes_v kind.Blob e) (fitting w are.writes_w kind.Blob e) (raw (form_is kind.Blob e))
        ∙ sym (raw_view m (first_value schema w i) (ap is_codec_kind e))
    go (inr (inl e)) =
        raw_view m (first_value schema v i) (ap is_codec_kind e)
        ∙ raw_told kind.String (λ t. value.scalar (value.text t)) text_back refl (first_value schema v i) (first_value schema w i) (fitting v are.writes_v kind.String e) (fitting w are.writes_w kind.String e) (raw (form_is kind.String e))
        ∙ sym (raw_view m (first_value schema w i) (ap is_codec_kind e))
    go (inr (inr codec)) =
        let is = form_is m.node.kind refl ∙ codec_form m.node.kind (has_unbound_member schema) codec in
        let texts : text_of_document protocol.text_of (first_value schema v i) ≡ text_of_document protocol.text_of (first_value schema w i) =
        ap (text_of_document protocol.text_of) (sym (value_of v)) ∙ bytes form.Payload is ∙ ap (text_of_document protocol.text_of) (value_of w) in
        codec_view m (first_value schema v i) codec
        ∙ texts_tell protocol.text_of are.setting.holds are.setting.lawful m (member_in_place schema i m are.setting.well_made at).stands (first_value schema v i) (first_value schema w i)
        (payload_own_text protocol schema endpoint omit v i m are.checked are.setting.well_made are.typed_v at payload is) (payload_own_text protocol schema endpoint omit w i m are.checked are.setting.well_made are.typed_w at payload is) texts
        ∙ sym (codec_view m (first_value schema w i) codec)
