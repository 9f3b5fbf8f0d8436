-- The members of a schema from a position on.
use Rattle.smithy_response.proofs.Common.{◌≡◌, ◌<◌, ◌≤◌, ℕ, suc, List, [], ◌∷◌, length, Option, Some, None, option_map, refl, sym, ap, subst, ◌∙◌, SchemaRef, Schema, schema_of, members_from}
use Rattle.std.proofs.Math.ListN.{drop_of_length-le}
use Rattle.smithy_schema.specs.declared.parts.SchemaIndex.{SchemaIndex}
use Rattle.smithy_schema.specs.Places.{places_of}

pub from-end : (schema : Schema) (p : ℕ) → length schema.node.members ≤ p → members_from schema p ≡ []
from-end schema p h = rw (drop_of_length-le schema.node.members h) refl

-- what a walk over positions finds
places_length : (xs : List SchemaIndex) → length (places_of xs) ≡ length xs
places_length [] = refl
places_length (x ∷ xs) = ap suc (places_length xs)

pub within : (xs : List SchemaIndex) (ys : List ℕ) (p : ℕ) → places_of xs ≡ ys → p < length xs → p < length ys
within xs ys p e h = subst (λ n. p < n) (sym (places_length xs) ∙ ap length e) h

pub here : (found : Option SchemaRef) (at : Option Schema) (m : SchemaRef) → option_map schema_of found ≡ at → found ≡ Some m → Some (schema_of m) ≡ at
here found at m e is = sym (ap (option_map schema_of) is) ∙ e

pub nowhere : (found : Option SchemaRef) (at : Option Schema) → option_map schema_of found ≡ at → found ≡ None → None ≡ at
nowhere found at e is = sym (ap (option_map schema_of) is) ∙ e
