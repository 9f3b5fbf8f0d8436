-- The entries of a map of texts, as they are read.
use Rattle.std.specs.Prelude.{◌≡◌, ℕ, Bool, List, [], ◌++◌, slice_get, String, string_bytes, Option, option_map, option_and_then, is_some, if◌then◌else◌}
use Rattle.smithy_binding.specs.Words.{Bor, BTreeMap, get_by, slice_cmp, option_map_or, nat_cmp, is_one_of, Schema, Table, member_at, to_query_map, schema_of, SchemaRef, ShapeValue, WriteList, value_in, writes_in, Value, Writes, list_of, text_of_key}
use Rattle.smithy_binding.specs.Bindings.{pairs_with, entry_texts, pairs_at}
use Rattle.smithy_binding.specs.Faults.{Fault, part_fault, nested_fault}
use Rattle.smithy_binding.specs.views.StoredTexts.{list_in, map_in}
use Rattle.smithy_binding.specs.views.TargetParts.{queries}

-- each text of an entry under its key
abbrev pub entry_pairs : List ℕ × Value → List (List ℕ × List ℕ)
entry_pairs e = pairs_with e.0 (entry_texts e.1)

-- the text at a place, and the empty one where none stands
abbrev pub text_at : Writes → ℕ → List ℕ
text_at ws place = option_map_or (λ w. text_of_key w.value) (slice_get (list_of ws) place) []

-- the pairs of the value at a place under a key, and none where no value stands
abbrev pub pairs_at_place : Writes → ℕ → List ℕ → List (List ℕ × List ℕ)
pairs_at_place ws place key = option_map_or (λ w. entry_pairs (key, w.value)) (slice_get (list_of ws) place) []

-- what is wrong with a stored part of a map, or inside it
abbrev pub part_in : SchemaRef → Option SchemaRef → Table → ShapeValue → Option Fault
part_in m here t v = part_fault (schema_of m) (option_map schema_of here) (value_in t v)

abbrev pub nested_in : SchemaRef → Option SchemaRef → Table → ShapeValue → Option Fault
nested_in m here t v = nested_fault (schema_of m) (option_map schema_of here) (value_in t v)

-- the query name of the member at a position
abbrev pub query_name_at : Schema → ℕ → Option (List ℕ)
query_name_at schema position = option_and_then (λ m. m.node.traits.http_query) (member_at schema position)

-- the name is among the names
unfoldable pub has_key : BTreeMap (Bor (List ℕ)) ℕ → List ℕ → Bool
has_key names name = is_some (get_by (λ k. slice_cmp nat_cmp name k.now) names)

-- the pairs of a key, unless it is among these names
abbrev pub unnamed : BTreeMap (Bor (List ℕ)) ℕ → List ℕ → List (List ℕ × List ℕ) → List (List ℕ × List ℕ)
unnamed names key pairs = if has_key names key then [] else pairs

-- the keys are these names
abbrev pub HasKeys : List (List ℕ) → BTreeMap (Bor (List ℕ)) ℕ → Type 0
HasKeys all names = (name : List ℕ) → has_key names name ≡ is_one_of name all

-- the pairs of a stored value under a key, over the nodes of a table
abbrev pub value_pairs : List ℕ → ShapeValue → Table → List (List ℕ × List ℕ)
value_pairs key v t = entry_pairs (key, value_in t v)

-- of a stored list
abbrev pub list_pairs : List ℕ → WriteList → Table → List (List ℕ × List ℕ)
list_pairs key ws t = entry_pairs (key, list_in t ws)

-- of the value at a place, unless its key is among these names
abbrev pub pairs_unless : BTreeMap (Bor (List ℕ)) ℕ → List ℕ → WriteList → ℕ → Table → List (List ℕ × List ℕ)
pairs_unless names key ws place t = unnamed names key (pairs_at_place (writes_in t ws) place key)

-- these pairs were added to a query, whatever the table
abbrev pub AddsQuery : {Z : Type 0} → (Table → List (List ℕ × List ℕ)) → String Z → String Z → Type 0
AddsQuery pairs old new = (t : Table) → string_bytes new ≡ string_bytes old ++ queries (pairs t)

-- the pairs of stored entries were, beside query members of these names, whatever the table and the member
abbrev pub AddsEntries : {Z : Type 0} → List (List ℕ) → WriteList → String Z → String Z → Type 0
AddsEntries names ws old new = (t : Table) (m : Schema) → string_bytes new ≡ string_bytes old ++ queries (pairs_at to_query_map names m (map_in t ws))
