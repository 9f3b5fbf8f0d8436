-- What bytes are as a value of JSON.
use Rattle.smithy_wire.proofs.Common.{◌≡◌, refl, ap, ℕ, ◌==◌, Bool, true, false, if◌then◌else◌, List, length, Some, None}
use Rattle.std.specs.Str.{IsUtf8, is_utf8}
use Rattle.std.proofs.lemmas.Str.{IsUtf8-from_is_utf8, is_utf8-from_IsUtf8}
use Rattle.smithy_serde.specs.Held as held
use Rattle.smithy_types.specs.Documents as doc
use Rattle.smithy_wire.specs.Forms.{Form}
use Rattle.smithy_wire.specs.WireText.{held_in, json_in, json_of, wire_held}
use Rattle.smithy_wire.specs.declared.wire_style.WireStyle.{WireStyle}

pub in_utf8 : (bytes : List ℕ) → IsUtf8 bytes → json_in bytes ≡ json_of bytes
unfolding json_in
in_utf8 bytes utf8 = rw (is_utf8-from_IsUtf8 bytes utf8) refl

none_at : (bytes : List ℕ) (b : Bool) → is_utf8 bytes ≡ b → (IsUtf8 bytes → ⊥) → json_in bytes ≡ None
unfolding json_in
none_at bytes true e h = absurd (h (IsUtf8-from_is_utf8 bytes e))
none_at bytes false e h = rw e refl

pub not_utf8 : (bytes : List ℕ) → (IsUtf8 bytes → ⊥) → json_in bytes ≡ None
not_utf8 bytes h = none_at bytes _ refl h

-- ---- what is had at hand of bytes

pub empty_held : (style : WireStyle) (f : Form) (bytes : List ℕ) → (length bytes == 0) ≡ true → wire_held style f bytes ≡ Some (held.document (doc.object doc.no_members))
unfolding wire_held
empty_held style f bytes e = ap (λ b. Some (if b then held.document (doc.object doc.no_members) else held_in style f (json_in bytes))) e

pub some_held : (style : WireStyle) (f : Form) (bytes : List ℕ) → (length bytes == 0) ≡ false → wire_held style f bytes ≡ Some (held_in style f (json_in bytes))
unfolding wire_held
some_held style f bytes e = ap (λ b. Some (if b then held.document (doc.object doc.no_members) else held_in style f (json_in bytes))) e
