-- Of a body that the codec's reader doesn't tell, where it is asked, nothing is read.
use Rattle.std.proofs.Common.{◌≡◌, refl, ◌∙◌, ap, cond, ℕ, ◌+◌, Bool, true, false, ◌||◌, not, List, [], ◌∷◌, ◌⊎◌, inl, inr, Option, Some, None, option_map, option_and_then}
use Rattle.std.specs.List.{list_any, cons_option, enumerate_from}
use Rattle.smithy_ids.specs.declared.shape_type.ShapeType.{ShapeType}
use Rattle.smithy_ids.specs.declared.shape_type.ShapeType.TheVariants as kind
use Rattle.smithy_types.specs.Grammars.{before_query}
use Rattle.smithy_http.specs.Requests.{Request}
use Rattle.smithy_schema.specs.Nodes.{Schema, members_of, Binding, to_payload, to_body, binding_of, is_outside_body, is_bound}
use Rattle.smithy_serde.specs.Held.{Held}
use Rattle.smithy_serde.specs.Values.{Value, Write}
use Rattle.smithy_serde.specs.ValueRead.{write_by}
use Rattle.smithy_binding.specs.Bodies.{is_raw_kind, has_unbound_member}
use Rattle.smithy_recovery.specs.BodyParts.{held_value, payload_value, payload_part, is_asked_at, is_asked, reads_body, is_told, held_writes}
use Rattle.smithy_recovery.specs.views.KeptMembers.{part_of, parts_read}
use Rattle.smithy_recovery.specs.MemberParts.{part_writes, with_body}
use Rattle.smithy_recovery.specs.PathParts.{path_texts}
use Rattle.smithy_recovery.specs.Recovered.{Reading, template, part_at, body_writes, read_writes, is_body_told}
use Rattle.smithy_recovery.proofs.BodyTold.{or_right}

untold : (asked : Bool) (o : Option Held) → is_told asked o ≡ false → (asked ≡ true) × (o ≡ None)
untold false o e = absurd (cc e)
untold true None e = (refl, refl)
untold true (Some h) e = absurd (cc e)

value_none : (holds : List ℕ → Option Held) (k : ShapeType) (m : Schema) (body : List ℕ) → holds body ≡ None → not (is_raw_kind k) ≡ true → payload_value holds k m body ≡ None
value_none holds kind.Blob m body none e = absurd (cc e)
value_none holds kind.String m body none e = absurd (cc e)
value_none holds _ m body none e = ap (option_and_then (held_value m)) none

payload_none : (holds : List ℕ → Option Held) (m : Schema) (body : List ℕ) → holds body ≡ None → is_asked_at to_payload m.node.kind body ≡ true → payload_part holds m body ≡ None
payload_none holds m [] none e = absurd (cc e)
payload_none holds m (b ∷ body) none e = ap (option_map (λ v. Some v)) (value_none holds m.node.kind m (b ∷ body) none e)

-- a member of which it is asked is unbound, or has no part
asked_part : (r : Reading) (q : Request) (texts : List (List ℕ × List ℕ)) (m : Schema) (b : Binding) → r.holds q.body ≡ None → is_asked_at b m.node.kind q.body ≡ true → (is_outside_body b ≡ false) ⊎ (part_at r q texts b m ≡ None)
asked_part r q texts m to_body none e = inl refl
asked_part r q texts m to_payload none e = inr (payload_none r.holds m q.body none e)
asked_part r q texts m _ none e = absurd (cc e)

no_rest : (m : Schema) (o : Option (Option Value)) (rest : Option (List Write)) → rest ≡ None → option_and_then (λ p. option_map (cons_option (option_map (write_by m) p)) rest) o ≡ None
no_rest m None rest e = refl
no_rest m (Some p) rest e = ap (option_map (cons_option (option_map (write_by m) p))) e

-- so is some member, or the members have no parts
asked_writes : (r : Reading) (q : Request) (texts : List (List ℕ × List ℕ)) (k : ℕ) (ms : List Schema) → r.holds q.body ≡ None → list_any (is_asked q.body) ms ≡ true
    → (list_any (λ m. not (is_bound m)) ms ≡ true) ⊎ (part_writes (λ p. part_of r q texts p.1) (enumerate_from k ms) ≡ None)
asked_writes r q texts k [] none e = absurd (cc e)
asked_writes r q texts k (m ∷ ms) none e = go (is_asked q.body m) refl e (asked_writes r q texts (k + 1) ms none)
  where
    rest : Option (List Write)
    rest = part_writes (λ p. part_of r q texts p.1) (enumerate_from (k + 1) ms)

    unbound : Bool
    unbound = list_any (λ m. not (is_bound m)) ms

    here : (is_bound m ≡ false) ⊎ (part_of r q texts m ≡ None)
        → ((not (is_bound m) || unbound) ≡ true) ⊎ (option_and_then (λ o. option_map (cons_option (option_map (write_by m) o)) rest) (part_of r q texts m) ≡ None)
    here (inl free) = inl (ap (λ b. not b || unbound) free)
    here (inr none) = inr (ap (option_and_then (λ o. option_map (cons_option (option_map (write_by m) o)) rest)) none)

    later : (unbound ≡ true) ⊎ (rest ≡ None) → ((not (is_bound m) || unbound) ≡ true) ⊎ (option_and_then (λ o. option_map (cons_option (option_map (write_by m) o)) rest) (part_of r q texts m) ≡ None)
    later (inl free) = inl (or_right (not (is_bound m)) unbound free)
    later (inr none) = inr (no_rest m (part_of r q texts m) rest none)

    go : (b : Bool) → is_asked q.body m ≡ b → (b || list_any (is_asked q.body) ms) ≡ true → (list_any (is_asked q.body) ms ≡ true → (unbound ≡ true) ⊎ (rest ≡ None))
        → ((not (is_bound m) || unbound) ≡ true) ⊎ (option_and_then (λ o. option_map (cons_option (option_map (write_by m) o)) rest) (part_of r q texts m) ≡ None)
    go true is h more = here (asked_part r q texts m (binding_of m) none is)
    go false is h more = later (more h)

no_bound : (unbound : Option (List Write)) → with_body None unbound ≡ None
no_bound None = refl
no_bound (Some us) = refl

pub untold_is_none : (r : Reading) (q : Request) → is_body_told r q ≡ false → read_writes r q ≡ None
unfolding read_writes
untold_is_none r q e = go (path_texts (template r) (before_query q.target))
  where
    asked : (reads_body r.schema q.body ≡ true) × (r.holds q.body ≡ None)
    asked = untold (reads_body r.schema q.body) (r.holds q.body) e

    no_body : has_unbound_member r.schema ≡ true → body_writes r q ≡ None
    no_body some =
        ap (λ b. cond b (option_and_then (held_writes r.schema) (r.holds q.body)) (Some [])) some ∙ ap (option_and_then (held_writes r.schema)) asked.1

    by : (texts : List (List ℕ × List ℕ)) → (has_unbound_member r.schema ≡ true) ⊎ (parts_read r q texts (members_of r.schema) ≡ None) → with_body (parts_read r q texts (members_of r.schema)) (body_writes r q) ≡ None
    by texts (inl some) = ap (with_body (parts_read r q texts (members_of r.schema))) (no_body some)
    by texts (inr none) = ap (λ o. with_body o (body_writes r q)) none ∙ no_bound (body_writes r q)

    go : (o : Option (List (List ℕ × List ℕ))) → option_and_then (λ texts. with_body (parts_read r q texts (members_of r.schema)) (body_writes r q)) o ≡ None
    go None = refl
    go (Some texts) = by texts (asked_writes r q texts 0 (members_of r.schema) asked.1 asked.0)
