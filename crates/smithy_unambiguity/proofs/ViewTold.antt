-- The facts of a request tell the normal form of its input.
use Rattle.smithy_unambiguity.proofs.Common.{◌≡◌, refl, ap, ℕ, true, List, Option, Some, option_map, IsTrue, enumerate_from, Schema, members_of, Binding, to_header, to_prefix, to_query, to_query_map, to_label, to_payload, to_body, binding_of, member_at, Write, label_of, has_bound_kind, checked_input, view, member_view, IsCheckedInput-from_test, IsTyped, OmitFlags, Protocol, SeesSame}
use Rattle.smithy_unambiguity.proofs.Setting.{IsSetting}
use Rattle.smithy_unambiguity.proofs.Lists.{all_apply, filter_map_same}
use Rattle.smithy_unambiguity.proofs.HeadersTold.{AreSeenSame, seen_same, header_member_told}
use Rattle.smithy_unambiguity.proofs.MapsTold.{prefix_member_told, query_map_told, all_pairs_told}
use Rattle.smithy_unambiguity.proofs.PayloadTold.{payload_member_told}
use Rattle.smithy_unambiguity.proofs.Placed.{kinds_at}
use Rattle.smithy_unambiguity.proofs.Positions.{members_placed}
use Rattle.smithy_unambiguity.proofs.TargetTold.{label_member_told, query_member_told}
use Rattle.smithy_unambiguity.proofs.UnboundTold.{unbound_member_told}

-- each member's part of the view is told
pub member_told : (protocol : Protocol) (schema : Schema) (endpoint : List ℕ) (omit : OmitFlags) (v w : List Write) → IsSetting protocol schema
    → IsTyped protocol schema endpoint omit v → IsTyped protocol schema endpoint omit w → SeesSame protocol schema endpoint omit v w
    → (i : ℕ) (m : Schema) → member_at schema i ≡ Some m → member_view schema v i m ≡ member_view schema w i m
member_told protocol schema endpoint omit v w setting typed_v typed_w same i m at = go (binding_of m) refl
  where
    are : AreSeenSame protocol schema endpoint omit v w
    are = seen_same protocol schema endpoint omit v w setting typed_v typed_w same

    kinds : has_bound_kind m ≡ true
    kinds = kinds_at schema are.checked i m at

    go : (b : Binding) → binding_of m ≡ b → member_view schema v i m ≡ member_view schema w i m
    go (to_header name) e = header_member_told protocol schema endpoint omit v w are i m name at kinds e
    go (to_prefix prefix) e = prefix_member_told protocol schema endpoint omit v w are i m prefix at e
    go (to_query name) e = query_member_told protocol schema endpoint omit v w are i m name at kinds e
    go to_query_map e = query_map_told protocol schema endpoint omit v w are i m at e (all_pairs_told protocol schema endpoint omit v w are)
    go to_label e = label_member_told protocol schema endpoint omit v w are i m at kinds e
    go to_payload e = payload_member_told protocol schema endpoint omit v w are i m at e
    go to_body e = unbound_member_told protocol schema endpoint omit v w are i m at e

-- the write of a member in the normal form
abbrev pub own_write : Schema → List Write → ℕ × Schema → Option Write
own_write schema ws p = option_map (λ u. record { label = label_of p.1; value = u }) (member_view schema ws p.0 p.1)

-- and the view is these parts
pub view_from_members : (schema : Schema) (v w : List Write) → IsTrue (checked_input schema)
    → ((i : ℕ) (m : Schema) → member_at schema i ≡ Some m → member_view schema v i m ≡ member_view schema w i m) → view schema v ≡ view schema w
unfolding view
view_from_members schema v w checked same =
    filter_map_same (own_write schema v) (own_write schema w) (enumerate_from 0 (members_of schema))
    (all_apply (λ p. member_at schema p.0 ≡ Some p.1) (λ p. own_write schema v p ≡ own_write schema w p) (enumerate_from 0 (members_of schema))
    (λ p at. ap (option_map (λ u. record { label = label_of p.1; value = u })) (same p.0 p.1 at)) (members_placed schema (IsCheckedInput-from_test schema checked)))

pub seen_tells_view : (protocol : Protocol) (schema : Schema) (endpoint : List ℕ) (omit : OmitFlags) (v w : List Write) → IsSetting protocol schema
    → IsTyped protocol schema endpoint omit v → IsTyped protocol schema endpoint omit w → SeesSame protocol schema endpoint omit v w → view schema v ≡ view schema w
seen_tells_view protocol schema endpoint omit v w setting typed_v typed_w same =
    view_from_members schema v w setting.checked (λ i m at. member_told protocol schema endpoint omit v w setting typed_v typed_w same i m at)
