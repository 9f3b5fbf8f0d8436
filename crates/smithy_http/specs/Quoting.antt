-- How a text is written as an item of a header list (RFC 7230, section 7, with `quoted-string` of section 3.2.6).
use Rattle.std.specs.Prelude.{ℕ, Bool, false, ◌||◌, ◌==◌, codes, List, [], ◌∷◌, ◌++◌, flat_map, None, if◌then◌else◌}
use Rattle.std.specs.Str.{chars}
use Rattle.std.specs.Char.{is_whitespace}
use Rattle.std.specs.List.{last_or, list_any}
use Rattle.std.specs.Option.{option_map_or}
use Rattle.smithy_types.specs.Texts.{ascii, has_byte}

abbrev pub begins_with_white_space : List ℕ → Bool
begins_with_white_space [] = false
begins_with_white_space (c ∷ cs) = is_whitespace c

abbrev pub ends_with_white_space : List ℕ → Bool
ends_with_white_space cs = option_map_or is_whitespace (last_or None cs) false

-- `"`, `,`, `(` and `)`
abbrev pub is_delimiter : ℕ → Bool
is_delimiter b = has_byte b (codes "\",()")

-- the first or the last character is white space, or some character is `"`, `,`, `(` or `)`
abbrev pub needs_quotes : List ℕ → Bool
needs_quotes text =
    begins_with_white_space (chars text) || ends_with_white_space (chars text) || list_any is_delimiter text

-- what stands before a character between quotes: a `\` before a `"` or a `\` (`quoted-pair` of RFC 7230, section 3.2.6)
abbrev pub mark_before : ℕ → List ℕ
mark_before b = if (b == ascii "\"") || (b == ascii "\\") then codes "\\" else []

-- a character between quotes
abbrev pub paired : ℕ → List ℕ
paired b = mark_before b ++ b ∷ []

-- `quoted-string` of RFC 7230, section 3.2.6
abbrev pub quoted : List ℕ → List ℕ
quoted text = ascii "\"" ∷ flat_map paired text ++ codes "\""

-- a text as an item of a list: in quotes where it needs them
abbrev pub list_item : List ℕ → List ℕ
list_item text = if needs_quotes text then quoted text else text
