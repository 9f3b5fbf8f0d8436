-- The kind of the payload member, a member at a time.
use Rattle.smithy_binding.proofs.Common.{◌≡◌, refl, ap, ◌∙◌, ℕ, ◌+◌, ◌<◌, ◌≤◌, cond, List, length, find, Option, Some, None, option_map, cons_option, option_or, drop_of_length-le, ShapeType, Schema, member_at, Binding, to_payload, binding_of, is_payload, payload_kind}
use Rattle.smithy_binding.specs.views.PayloadKinds.{kind_at, kind_if_payload}
use Rattle.smithy_binding.proofs.MemberSteps.{members_from, members_from-more}

abbrev pub kind_in : List Schema → Option ShapeType
kind_in ms = option_map (λ m. m.node.kind) (find (λ m. is_payload (binding_of m)) ms)

-- the same from a position on
unfoldable pub payload_from : Schema → ℕ → Option ShapeType
payload_from schema i = kind_in (members_from schema i)

pub payload_from-start : (schema : Schema) → payload_from schema 0 ≡ payload_kind schema
unfolding payload_from
payload_from-start schema = refl

pub payload_from-more : (schema : Schema) (i : ℕ) → i < length schema.node.members → payload_from schema i ≡ option_or (kind_if_payload (member_at schema i)) (payload_from schema (i + 1))
unfolding payload_from
payload_from-more schema i l = ap kind_in (members_from-more schema i) ∙ place (member_at schema i) (members_from schema (i + 1))
  where
    here : (b : Binding) (m : Schema) (ms : List Schema) → option_map (λ m. m.node.kind) (cond (is_payload b) (Some m) (find (λ m. is_payload (binding_of m)) ms)) ≡ option_or (kind_at b m) (kind_in ms)
    here to_payload m ms = refl
    here _ m ms = refl

    place : (o : Option Schema) (ms : List Schema) → kind_in (cons_option o ms) ≡ option_or (kind_if_payload o) (kind_in ms)
    place None ms = refl
    place (Some m) ms = here (binding_of m) m ms

pub payload_from-end : (schema : Schema) (i : ℕ) → length schema.node.members ≤ i → payload_from schema i ≡ None
unfolding payload_from
payload_from-end schema i l = rw (drop_of_length-le schema.node.members l) refl

pub ruleset finding_payload = (payload_from-start, payload_from-more, payload_from-end)
