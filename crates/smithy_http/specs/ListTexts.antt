-- What a reader makes of a header value that is a list: its texts, or what is wrong with it (RFC 7230, section 7, with `quoted-string` of section 3.2.6).
use Rattle.std.specs.Prelude.{◌≡◌, ◌↔◌, ℕ, zero, suc, Bool, true, false, ◌==◌, List, [], ◌∷◌, length, Option, Some, None, option_map, Result, Ok, Err, if◌then◌else◌}
use Rattle.std.specs.List.{before_first, after_first}
use Rattle.std.specs.Option.{ok_or}
use Rattle.std.specs.Str.{trim}
use Rattle.smithy_types.specs.Results.{then_try, then_give}
use Rattle.smithy_types.specs.Texts.{ascii}
use Rattle.smithy_http.specs.declared.error.ListFault.{ListFault}
use Rattle.smithy_http.specs.declared.error.ListFault.TheVariants as fault
use Rattle.smithy_http.specs.Spelling.{is_blank, Spells}

abbrev pub is_comma : ℕ → Bool
is_comma b = b == ascii ","

-- what stands behind the blanks at the front (`OWS` of RFC 7230, section 3.2.3)
abbrev pub behind_blanks : List ℕ → List ℕ
behind_blanks [] = []
behind_blanks (b ∷ bytes) = if is_blank b then behind_blanks bytes else b ∷ bytes

-- a text with a byte before it, and what stands behind it
abbrev pub with_first : ℕ → List ℕ × List ℕ → List ℕ × List ℕ
with_first b read = (b ∷ read.0, read.1)

-- From behind an opening quote: the text, and what stands behind the closing quote; none where no quote closes it.
-- A `\` is left out, and the byte behind it, where `paired` is true, stands for itself (`quoted-pair` of RFC 7230, section 3.2.6).
abbrev pub quoted_text : Bool → List ℕ → Option (List ℕ × List ℕ)
quoted_text paired [] = None
quoted_text true (b ∷ bytes) = option_map (with_first b) (quoted_text false bytes)
quoted_text false (b ∷ bytes) =
    if b == ascii "\"" then Some ([], bytes)
    else if b == ascii "\\" then quoted_text true bytes
    else option_map (with_first b) (quoted_text false bytes)

-- what stands behind the comma that follows a quoted text; nothing at the end
abbrev pub behind_comma : List ℕ → Result (List ℕ) ListFault
behind_comma [] = Ok []
behind_comma (b ∷ bytes) = if is_comma b then Ok bytes else Err fault.Trailing

-- from behind an opening quote: the text, and what stands behind the comma after it
abbrev pub quoted_item : List ℕ → Result (List ℕ × List ℕ) ListFault
quoted_item bytes =
    then_try (ok_or (quoted_text false bytes) fault.Unended)
    (λ read. then_give (behind_comma (behind_blanks read.1)) (λ rest. (read.0, rest)))

-- the text up to a comma without its outer white space, and what stands behind the comma
abbrev pub bare_item : List ℕ → List ℕ × List ℕ
bare_item bytes = (trim (before_first is_comma bytes), after_first is_comma bytes)

-- an item that no blank precedes
abbrev pub item_at : List ℕ → Result (List ℕ × List ℕ) ListFault
item_at [] = Ok (bare_item [])
item_at (b ∷ bytes) = if b == ascii "\"" then quoted_item bytes else Ok (bare_item (b ∷ bytes))

-- the text of the first item, and what stands behind it and its comma
unfoldable pub first_item : List ℕ → Result (List ℕ × List ℕ) ListFault
first_item bytes = item_at (behind_blanks bytes)

-- the first texts, this many at most
abbrev pub texts_within : ℕ → List ℕ → Result (List (List ℕ)) ListFault
texts_within most [] = Ok []
texts_within zero (b ∷ bytes) = Ok []
texts_within (suc most) (b ∷ bytes) =
    then_try (first_item (b ∷ bytes)) (λ item. then_give (texts_within most item.1) (λ texts. item.0 ∷ texts))

-- The texts of a list, or its first fault. Each item but an empty one at the end has a byte or a comma, so there are not more than bytes.
unfoldable pub list_texts : List ℕ → Result (List (List ℕ)) ListFault
list_texts bytes = texts_within (length bytes) bytes

-- what is read is what is spelled
abbrev pub ReadsWhatIsSpelled : Type 0
ReadsWhatIsSpelled = (texts : List (List ℕ)) (bytes : List ℕ) → (Spells texts bytes ↔ (list_texts bytes ≡ Ok texts))
