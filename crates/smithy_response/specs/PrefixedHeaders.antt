-- The headers behind a prefix (Smithy, HTTP protocol bindings: httpPrefixHeaders).
use Rattle.std.specs.Prelude.{ℕ, nat_eq, List, [], ◌∷◌, ◌++◌, map, filter_map, length, drop, Option, Some, None, if◌then◌else◌}
use Rattle.smithy_response.specs.Words.{list_any, starts_with, str_to_ascii_lowercase, Prefixed}
use Rattle.smithy_types.specs.Texts.{same_text}
use Rattle.smithy_http.specs.Facts.{values_at}

-- the values of a name, without ASCII case
abbrev pub values_named : List ℕ → List (List ℕ × List ℕ) → List (List ℕ)
values_named name pairs = values_at (str_to_ascii_lowercase name) pairs

-- what stands behind a prefix in a name, both in lower case
abbrev pub behind_lower : List ℕ → List ℕ → Option (List ℕ)
behind_lower lower name = if starts_with nat_eq name lower then Some (drop (length lower) name) else None

-- the texts that are known, and this one behind them if it is none of them
abbrev pub with_key : List (List ℕ) → List ℕ → List (List ℕ)
with_key known text = if list_any (same_text text) known then known else known ++ text ∷ []

-- the texts that are known, and each other one at its first place
abbrev pub with_new : List (List ℕ) → List (List ℕ) → List (List ℕ)
with_new known [] = known
with_new known (text ∷ texts) = with_new (with_key known text) texts

-- what stands behind a prefix in lower case, each once, in the order of the headers
abbrev pub keys_behind_lower : List ℕ → List (List ℕ × List ℕ) → List (List ℕ)
keys_behind_lower lower pairs = with_new [] (filter_map (λ p. behind_lower lower p.0) pairs)

-- the same, the prefix taken without ASCII case
abbrev pub keys_behind : List ℕ → List (List ℕ × List ℕ) → List (List ℕ)
keys_behind prefix pairs = keys_behind_lower (str_to_ascii_lowercase prefix) pairs

-- the name of an entry, in lower case
abbrev pub entry_name : List ℕ → List ℕ → List ℕ
entry_name prefix key = str_to_ascii_lowercase prefix ++ key

-- an entry, with the name and its values
abbrev pub entry_of : List ℕ → List (List ℕ × List ℕ) → List ℕ → Prefixed
entry_of prefix pairs key =
    record { key = key; name = entry_name prefix key; values = values_named (entry_name prefix key) pairs }

abbrev pub prefixed_in : List ℕ → List (List ℕ × List ℕ) → List Prefixed
prefixed_in prefix pairs = map (entry_of prefix pairs) (keys_behind prefix pairs)
