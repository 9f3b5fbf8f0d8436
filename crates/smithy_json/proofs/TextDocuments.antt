-- What bytes read as.
use Rattle.std.proofs.Common.{◌≡◌, ℕ, List, None, Bool, true, false, refl}
use Rattle.std.specs.Str.{IsUtf8, is_utf8}
use Rattle.std.proofs.lemmas.Str.{IsUtf8-from_is_utf8, is_utf8-from_IsUtf8}
use Rattle.serde_json.specs.Read.{read}
use Rattle.smithy_json.specs.FromText.{json_of}

pub text_read : (bytes : List ℕ) → IsUtf8 bytes → json_of bytes ≡ read bytes
unfolding json_of
text_read bytes utf8 = rw (is_utf8-from_IsUtf8 bytes utf8) refl

none_at : (bytes : List ℕ) (b : Bool) → is_utf8 bytes ≡ b → (IsUtf8 bytes → ⊥) → json_of bytes ≡ None
unfolding json_of
none_at bytes true e h = absurd (h (IsUtf8-from_is_utf8 bytes e))
none_at bytes false e h = rw e refl

pub not_read : (bytes : List ℕ) → (IsUtf8 bytes → ⊥) → json_of bytes ≡ None
not_read bytes h = none_at bytes _ refl h
