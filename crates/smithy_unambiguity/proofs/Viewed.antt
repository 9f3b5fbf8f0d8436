-- The normal form of a typed input is typed, if its target is a legal one.
use Rattle.smithy_unambiguity.proofs.Common.{◌≡◌, refl, sym, ◌∙◌, ap, subst, ℕ, Bool, true, false, not, ◌&&◌, ◌||◌, List, Option, Some, if◌then◌else◌, ShapeType, Schema, member_at, Binding, to_header, to_prefix, to_query, to_query_map, to_label, to_payload, to_body, binding_of, is_outside_body, is_bound, is_well_made, Value, Write, is_in_range, fits, is_null, is_shaped, settled, firsts, query_names, is_payload, is_codec_kind, IsCheckedInput, has_bound_kind, is_placed_at, member_view, bound_view_at, unless_empty, has_distinct_keys, has_own_formats, has_no_default_name, is_codec_payload, is_shaped_write, IsTyped, Protocol, OmitFlags}
use Rattle.smithy_serde.specs.Values as value
use Rattle.smithy_unambiguity.proofs.ByMember.{at_member, first_value}
use Rattle.smithy_unambiguity.proofs.Conforming.{IsFittingWrite}
use Rattle.smithy_unambiguity.proofs.HeadersTold.{typed_writes}
use Rattle.smithy_unambiguity.proofs.Lists.{all_from_test}
use Rattle.smithy_unambiguity.proofs.Placed.{HasTypedWrites, first_fitting, first_has, bound_fits, kinds_at}
use Rattle.smithy_unambiguity.proofs.Settled.{settled_shaped, shaped_range}
use Rattle.smithy_unambiguity.proofs.BodyObject.{typed_bodied, free_view_shaped}
use Rattle.smithy_unambiguity.proofs.ViewTyped.{IsViewed, HasViewed}
use Rattle.smithy_unambiguity.proofs.ViewedMaps.{prefix_viewed, query_map_viewed}
use Rattle.smithy_unambiguity.proofs.ViewedMembers.{free_viewed, label_viewed, query_viewed, header_viewed, WasMade, bound_made, some_left, inserts_nothing}

-- Payloads.

-- the normal form of a value that fits its node fits it
settled_fits : (k : ShapeType) (here : Option Schema) (v : Value) → fits k v ≡ true → fits k (settled here v) ≡ true
settled_fits k here (value.scalar value.null) e = absurd (cc e)
settled_fits k here _ e = e

payload_parts : (m : Schema) (u : Value) → binding_of m ≡ to_payload → fits m.node.kind u ≡ true → is_in_range u ≡ true → (not (is_codec_kind m.node.kind) || is_shaped (Some m) u) ≡ true → IsViewed m u
payload_parts m u payload fit range shaped =
    record {
      fits = ap (λ t. t || (is_null u && not (is_bound m))) fit;
      in_range = range;
      fault = λ placed. let q : true ≡ false = sym placed ∙ ap is_placed_at payload in absurd (cc q);
      typed = ap (λ b. not (is_placed_at b) || (has_distinct_keys u && has_own_formats m u)) payload;
      unlike = ap (λ c. has_no_default_name c (at_member 0 m u)) payload ∙ inserts_nothing m u to_payload payload refl;
      codec = ap (λ b. not (is_payload b && is_codec_kind m.node.kind) || is_shaped (Some m) u) payload ∙ shaped;
    }

payload_viewed : (protocol : Protocol) (schema : Schema) (endpoint : List ℕ) (omit : OmitFlags) (ws : List Write) (i : ℕ) (m : Schema) (u : Value) → IsTyped protocol schema endpoint omit ws
    → member_at schema i ≡ Some m → binding_of m ≡ to_payload → member_view schema ws i m ≡ Some u → IsViewed m u
payload_viewed protocol schema endpoint omit ws i m u typed at payload e = go (is_codec_kind m.node.kind) refl x.gives
  where
    x : WasMade (bound_view_at to_payload (query_names schema) m) (first_value schema ws i) u
    x = bound_made schema ws i m u to_payload at payload refl e

    writes : HasTypedWrites schema ws
    writes = typed_writes protocol schema endpoint omit ws typed

    fitting : IsFittingWrite (at_member i m x.from)
    fitting = first_fitting schema ws i m x.from writes.conforming writes.in_range at x.is

    fit : fits m.node.kind x.from ≡ true
    fit = bound_fits (fits m.node.kind x.from) (is_null x.from) (is_bound m) (ap is_outside_body payload) fitting.fits

    tested : (not (is_codec_payload m) || is_shaped (Some m) x.from) ≡ true
    tested =
        first_has (λ r. (not (is_codec_payload r.member) || is_shaped_write r) ≡ true) schema ws i m x.from at x.is
        (all_from_test (λ r. not (is_codec_payload r.member) || is_shaped_write r) (firsts schema ws) typed.payload_shaped)

    go : (t : Bool) → is_codec_kind m.node.kind ≡ t → (if t then Some (settled (Some m) x.from) else unless_empty x.from) ≡ Some u → IsViewed m u
    go false q h =
        subst (IsViewed m) (some_left x.from u h)
        (payload_parts m x.from payload fit fitting.in_range (ap (λ t. not t || is_shaped (Some m) x.from) q))
    go true q h =
        let same : settled (Some m) x.from ≡ u = cc h in
        let codec : is_codec_payload m ≡ true = ap (λ b. is_payload b && is_codec_kind m.node.kind) payload ∙ q in
        let kept = settled_shaped (Some m) x.from (ap (λ t. not t || is_shaped (Some m) x.from) (sym codec) ∙ tested) in
        subst (IsViewed m) same
        (payload_parts m (settled (Some m) x.from) payload (settled_fits m.node.kind (Some m) x.from fit) (shaped_range (Some m) (settled (Some m) x.from) kept)
        (ap (λ t. not t || is_shaped (Some m) (settled (Some m) x.from)) q ∙ kept))

-- each member's part of a typed input's normal form may be written to it
pub has_viewed : (protocol : Protocol) (schema : Schema) (endpoint : List ℕ) (omit : OmitFlags) (ws : List Write) → IsCheckedInput schema → is_well_made schema ≡ true → IsTyped protocol schema endpoint omit ws → HasViewed schema ws
has_viewed protocol schema endpoint omit ws checked well_made typed i m u at e = go (binding_of m) refl
  where
    writes : HasTypedWrites schema ws
    writes = typed_writes protocol schema endpoint omit ws typed

    kinds : has_bound_kind m ≡ true
    kinds = kinds_at schema checked i m at

    go : (b : Binding) → binding_of m ≡ b → IsViewed m u
    go (to_header name) b = header_viewed schema ws i m name u writes kinds at b e
    go (to_prefix prefix) b = prefix_viewed schema ws i m prefix u checked writes typed.prefixed at b e
    go (to_query name) b = query_viewed schema ws i m name u writes kinds at b e
    go to_query_map b = query_map_viewed schema ws i m u checked writes at b e
    go to_label b = label_viewed schema ws i m u writes at b e
    go to_payload b = payload_viewed protocol schema endpoint omit ws i m u typed at b e
    go to_body b =
        free_viewed m u b (free_view_shaped schema ws i m u checked well_made (typed_bodied protocol schema endpoint omit ws typed) at (ap is_outside_body b) e)
