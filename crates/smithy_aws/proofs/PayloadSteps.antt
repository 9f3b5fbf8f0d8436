-- The payload of a structure, a position at a time.
use Rattle.smithy_wire.proofs.Common.{◌≡◌, refl, ap, ◌∙◌, ℕ, ◌+◌, ◌≤◌, Bool, true, false, cond, if◌then◌else◌, List, length, find, Option, Some, None}
use Rattle.std.specs.Option.{option_or, option_map_or}
use Rattle.smithy_schema.specs.Nodes.{Schema, member_at}
use Rattle.smithy_wire.specs.views.MemberSteps.{members_from}
use Rattle.smithy_wire.proofs.MemberLemmas.{before, members_from-more, members_from-end}
use Rattle.smithy_aws.specs.Payloads.{if_payload, is_payload_member, payload_at}

-- the first payload from a position on
abbrev pub payload_from : Schema → ℕ → Option Schema
payload_from schema i = find is_payload_member (members_from schema i)

step : (o : Option Schema) (ms : List Schema) → find is_payload_member (before o ms) ≡ option_or (option_map_or if_payload o None) (find is_payload_member ms)
step None ms = refl
step (Some m) ms = go (is_payload_member m)
  where
    go : (b : Bool) → cond b (Some m) (find is_payload_member ms) ≡ option_or (if b then Some m else None) (find is_payload_member ms)
    go true = refl
    go false = refl

pub payload_from-more : (schema : Schema) (i : ℕ) → payload_from schema i ≡ option_or (payload_at schema i) (payload_from schema (i + 1))
payload_from-more schema i = ap (find is_payload_member) (members_from-more schema i) ∙ step (member_at schema i) (members_from schema (i + 1))

pub payload_from-end : (schema : Schema) (i : ℕ) → length schema.node.members ≤ i → payload_from schema i ≡ None
payload_from-end schema i past = ap (find is_payload_member) (members_from-end schema i past)
