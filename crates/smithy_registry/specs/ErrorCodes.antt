-- The codes by which responses name errors (Smithy, AWS JSON protocols, operation error serialization).
use Rattle.std.specs.Prelude.{◌≡◌, ℕ, Bool, false, List, codes, Option, None, Some, ◌==◌, if◌then◌else◌}
use Rattle.std.specs.List.{before_first, after_first, list_any}
use Rattle.std.specs.Option.{option_and_then}
use Rattle.smithy_types.specs.Texts.{has_byte}
use Rattle.smithy_http.specs.Facts.{values_at}
use Rattle.smithy_http.specs.HeaderValues.{first_text}
use Rattle.smithy_ids.specs.ShapeIds.{is_hash, has_hash}

abbrev pub is_colon : ℕ → Bool
is_colon b = b == 58

abbrev pub is_semicolon : ℕ → Bool
is_semicolon b = b == 59

-- what stands behind the first `#`, or all
abbrev pub past_hash : List ℕ → List ℕ
past_hash text = if has_hash text then after_first is_hash text else text

-- the name of the shape in an error code: before the first `:`, and there past the first `#`
abbrev pub sanitized : List ℕ → List ℕ
sanitized code = past_hash (before_first is_colon code)

-- a text cut at its first `;`
abbrev pub cut_at_semicolon : List ℕ → Option (List ℕ × List ℕ)
cut_at_semicolon text =
    if has_byte 59 text then Some (before_first is_semicolon text, after_first is_semicolon text) else None

-- the code and the side to blame in the first value of the header, where that is a text with a `;`
abbrev pub query_error : List (List ℕ × List ℕ) → Option (List ℕ × List ℕ)
query_error headers = option_and_then cut_at_semicolon (first_text (values_at (codes "x-amzn-query-error") headers))

-- what is left of a code has no colon
abbrev pub LacksColons : Type 0
LacksColons = (code : List ℕ) → list_any is_colon (sanitized code) ≡ false
