-- A member's binding tells the trait that it stands for.
use Rattle.smithy_unambiguity.proofs.Common.{◌≡◌, refl, subst, ℕ, Bool, true, false, List, Option, Some, None, Schema, Binding, to_header, to_prefix, to_query, to_query_map, to_label, to_payload, to_body, binding_at, binding_of}

abbrev TraitAt : Option (List ℕ) → Option (List ℕ) → Option (List ℕ) → Bool → Bool → Bool → Binding → Type 0
TraitAt header prefix query query_map label payload (to_header name) = header ≡ Some name
TraitAt header prefix query query_map label payload (to_prefix name) = prefix ≡ Some name
TraitAt header prefix query query_map label payload (to_query name) = query ≡ Some name
TraitAt header prefix query query_map label payload to_query_map = query_map ≡ true
TraitAt header prefix query query_map label payload to_label = label ≡ true
TraitAt header prefix query query_map label payload to_payload = payload ≡ true
TraitAt header prefix query query_map label payload to_body = Unit {0}

trait_at : (header prefix query : Option (List ℕ)) (query_map label payload : Bool) → TraitAt header prefix query query_map label payload (binding_at header prefix query query_map label payload)
trait_at (Some h) prefix query query_map label payload = refl
trait_at None (Some p) query query_map label payload = refl
trait_at None None (Some q) query_map label payload = refl
trait_at None None None true label payload = refl
trait_at None None None false true payload = refl
trait_at None None None false false true = refl
trait_at None None None false false false = tt

abbrev pub HasTrait : Schema → Binding → Type 0
HasTrait m b = let t = m.node.traits in TraitAt t.http_header t.http_prefix_headers t.http_query t.http_query_params t.http_label t.http_payload b

pub trait_of : (m : Schema) (b : Binding) → binding_of m ≡ b → HasTrait m b
trait_of m b e = let t = m.node.traits in subst (HasTrait m) e (trait_at t.http_header t.http_prefix_headers t.http_query t.http_query_params t.http_label t.http_payload)

-- a binding is this one, of those without a name
abbrev pub stands_at : Binding → Binding → Bool
stands_at to_label to_label = true
stands_at to_query_map to_query_map = true
stands_at _ _ = false

pub stands_there : (place b : Binding) → stands_at place b ≡ true → b ≡ place
stands_there to_label to_label e = refl
stands_there to_query_map to_query_map e = refl
stands_there _ _ e = absurd (cc e)
