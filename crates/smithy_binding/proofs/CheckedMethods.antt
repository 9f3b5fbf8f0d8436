-- The method of a checked schema is a token.
use Rattle.smithy_binding.proofs.Common.{◌≡◌, refl, true, ◌&&◌, codes, Option, Some, None, nat_eq, starts_with, option_map_or, and_parts, is_token, Schema, Http, checked_input, is_clear, method_of}
use Rattle.smithy_binding.proofs.CheckedLaws.{IsCheckedInput-from_test}

pub is_token-method_of : (schema : Schema) → checked_input schema ≡ true → is_token (method_of schema) ≡ true
is_token-method_of schema e = go schema.node.traits.http (IsCheckedInput-from_test schema e).http
  where
    go : (o : Option Http) → option_map_or (λ h. is_token h.method && is_clear h.uri schema && starts_with nat_eq h.uri (codes "/")) o true ≡ true
        → is_token (option_map_or (λ h. h.method) o (codes "GET")) ≡ true
    go None e = refl
    go (Some h) e = (and_parts (is_token h.method) _ (and_parts _ (starts_with nat_eq h.uri (codes "/")) e).0).0
