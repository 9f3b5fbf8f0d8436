-- Whether some member is unbound, a member at a time.
use Rattle.smithy_binding.proofs.Common.{◌≡◌, refl, ap, ◌∙◌, ℕ, ◌+◌, ◌<◌, ◌≤◌, Bool, false, not, ◌||◌, List, length, Option, Some, None, list_any, cons_option, option_map_or, drop_of_length-le, Schema, member_at, is_bound, has_unbound_member}
use Rattle.smithy_binding.specs.views.PayloadKinds.{is_unbound_at}
use Rattle.smithy_binding.proofs.MemberSteps.{members_from, members_from-more}

-- the same from a position on
unfoldable pub unbound_from : Schema → ℕ → Bool
unbound_from schema i = list_any (λ m. not (is_bound m)) (members_from schema i)

pub unbound_from-start : (schema : Schema) → unbound_from schema 0 ≡ has_unbound_member schema
unfolding unbound_from
unbound_from-start schema = refl

pub unbound_from-more : (schema : Schema) (i : ℕ) → i < length schema.node.members
    → unbound_from schema i ≡ (is_unbound_at schema i || unbound_from schema (i + 1))
unfolding unbound_from
unbound_from-more schema i l = ap (list_any (λ m. not (is_bound m))) (members_from-more schema i) ∙ place (member_at schema i) (members_from schema (i + 1))
  where
    place : (o : Option Schema) (ms : List Schema) → list_any (λ m. not (is_bound m)) (cons_option o ms) ≡ (option_map_or (λ m. not (is_bound m)) o false || list_any (λ m. not (is_bound m)) ms)
    place None ms = refl
    place (Some m) ms = refl

pub unbound_from-end : (schema : Schema) (i : ℕ) → length schema.node.members ≤ i → unbound_from schema i ≡ false
unfolding unbound_from
unbound_from-end schema i l = rw (drop_of_length-le schema.node.members l) refl

pub ruleset finding_unbound = (unbound_from-start, unbound_from-more, unbound_from-end)
