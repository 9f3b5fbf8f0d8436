-- The text of an array or an object whose parts are told one by one (RFC 8259, sections 4 and 5).
use Rattle.std.specs.Prelude.{◌≡◌, ℕ, ◌+◌, length, Bool, true, false, not, nat_lt, ◌==◌, ◌&&◌, List, [], ◌∷◌, ◌++◌}
use Rattle.std.specs.Ordering.{nat_cmp}
use Rattle.std.specs.declared.cmp.Ordering.TheVariants.{Less}
use Rattle.std.specs.Cmp.Lexicographic.{slice_cmp}
use Rattle.json.specs.Print.{quoted}
use Rattle.serde_json.specs.Written.{comma_if}
use Rattle.smithy_types.specs.Documents.{Document, Items, no_items, item}
use Rattle.smithy_document.specs.JsonText.{json_text}

-- a byte that stands for itself between quotes (RFC 8259, section 7)
abbrev pub is_plain_byte : ℕ → Bool
is_plain_byte x = not (nat_lt x 32) && (not (x == 34) && not (x == 92))

-- there is one
abbrev pub some_items : Items → Bool
some_items no_items = false
some_items (item d ds) = true

-- the items told so far, without the brackets
abbrev pub items_shown : Bool → Items → List ℕ
items_shown later no_items = []
items_shown later (item d ds) = comma_if later ++ (json_text d ++ items_shown true ds)

-- a name with its document
abbrev pub Pair : Type 0
Pair = List ℕ × Document

-- there is one
abbrev pub some_pairs : List Pair → Bool
some_pairs [] = false
some_pairs (p ∷ ps) = true

-- a name before its value
abbrev pub name_shown : List ℕ → List ℕ
name_shown name = quoted name ++ 58 ∷ []

-- the fields told so far, in the order in which they were told
abbrev pub fields_shown : Bool → List Pair → List ℕ
fields_shown later [] = []
fields_shown later (p ∷ ps) = comma_if later ++ (name_shown p.0 ++ (json_text p.1 ++ fields_shown true ps))

-- where the text of each begins, if the first, or the comma before it, stands at this place
abbrev pub field_starts : ℕ → Bool → List Pair → List ℕ
field_starts at later [] = []
field_starts at later (p ∷ ps) =
    (at + length (comma_if later)) ∷ field_starts (at + length (comma_if later ++ (name_shown p.0 ++ json_text p.1))) true ps

-- each name stands behind the one before it, in byte order
abbrev pub IsBehind : List ℕ → List (List ℕ) → Type 0
IsBehind low [] = Unit {0}
IsBehind low (name ∷ names) = (slice_cmp nat_cmp low name ≡ Less) × IsBehind name names

abbrev pub NamesAscend : List (List ℕ) → Type 0
NamesAscend [] = Unit {0}
NamesAscend (name ∷ names) = IsBehind name names
