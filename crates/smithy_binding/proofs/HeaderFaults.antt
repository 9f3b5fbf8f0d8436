-- What is wrong with one header.
use Rattle.smithy_binding.proofs.Common.{◌≡◌, refl, ℕ, Bool, true, false, codes, List, [], ◌∷◌, Some, None, is_token, is_header_value, Schema, wrong_header, pairs_fault}

pub true_unless : (b : Bool) → (b ≡ false → ⊥) → b ≡ true
true_unless true h = refl
true_unless false h = absurd (h refl)

pub header-legal : (m : Schema) (name text : List ℕ) → is_token name ≡ true → is_header_value text ≡ true → pairs_fault m ((name, text) ∷ []) ≡ None
header-legal m name text n v = rw (n, v) refl

pub header-name : (m : Schema) (name text : List ℕ) → is_token name ≡ false → pairs_fault m ((name, text) ∷ []) ≡ Some (wrong_header m (codes "invalid header name"))
header-name m name text n = rw n refl

pub header-value : (m : Schema) (name text : List ℕ) → is_token name ≡ true → is_header_value text ≡ false → pairs_fault m ((name, text) ∷ []) ≡ Some (wrong_header m (codes "invalid header value"))
header-value m name text n v = rw (n, v) refl
