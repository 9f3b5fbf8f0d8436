-- What a bound write puts into labels, headers and the query (Smithy, HTTP protocol bindings).
use Rattle.std.specs.Prelude.{ℕ, false, not, List, [], ◌∷◌, ◌++◌, map, filter, flat_map, filter_map, Option, Some, option_map, unwrap_or, is_some}
use Rattle.smithy_binding.specs.Words.{option_map_or, str_to_ascii_lowercase, is_one_of, each, ShapeType, put_all, Schema, element_of, members_of, name_of, Binding, to_header, to_prefix, to_query, to_query_map, to_label, binding_of, Value, list, Writes, no_writes, write, Write, list_of, text_of_key, Resolved, firsts}
use Rattle.smithy_ids.specs.declared.shape_type.ShapeType.TheVariants as kind
use Rattle.smithy_serde.specs.Values as value
use Rattle.smithy_strings.specs.declared.wire.Place.{Place}
use Rattle.smithy_strings.specs.declared.wire.Place.TheVariants.{Header, Query, Label}
use Rattle.smithy_strings.specs.Wire.{wire}
use Rattle.smithy_strings.specs.Lists.{listed}

-- where the texts of a member with this binding stand
abbrev pub place_at : Binding → Place
place_at (to_header name) = Header
place_at (to_prefix prefix) = Header
place_at to_label = Label
place_at _ = Query

-- of a node that is not there, a kind that no value has
abbrev pub kind_or_none : Option Schema → ShapeType
kind_or_none schema = option_map_or (λ s. s.node.kind) schema kind.Member

-- keys with their values, in the order of the writes; a last key without a value is left out
abbrev pub entries_of : Writes → List (List ℕ × Value)
entries_of no_writes = []
entries_of (write k key no_writes) = []
entries_of (write k key (write l v ws)) = (text_of_key key, v) ∷ entries_of ws

-- the entries of a map, and of no other value; its keys are texts
abbrev pub map_entries : Value → List (List ℕ × Value)
map_entries (value.map ws) = entries_of ws
map_entries _ = []

-- The texts of an entry: of each element of a list, or the value itself. An entry holds texts alone, which stand as
-- they are.
abbrev pub entry_texts : Value → List (List ℕ)
entry_texts (list ws) = map (λ w. text_of_key w.value) (list_of ws)
entry_texts v = text_of_key v ∷ []

-- The texts of a value at its member's place: of a scalar one, by the member's time format and media type, and of a list one
-- for each element, by the format of the node with which it was written. There are none at all where one of them is missing.
abbrev pub texts : Schema → Value → Option (List (List ℕ))
texts m (list ws) = each (λ w. wire w.label.time_format false (place_at (binding_of m)) w.value) (list_of ws)
texts m (value.map ws) = Some []
texts m v = option_map (λ t. t ∷ []) (wire m.node.traits.timestamp_format (is_some m.node.traits.media_type) (place_at (binding_of m)) v)

-- a list is one text in a header (httpHeader)
abbrev pub header_texts : Schema → Value → List (List ℕ) → List (List ℕ)
header_texts m (list ws) ts = listed (kind_or_none (element_of m)) ts ∷ []
header_texts m v ts = ts

-- each text under one name
abbrev pub pairs_with : List ℕ → List (List ℕ) → List (List ℕ × List ℕ)
pairs_with name ts = map (λ t. (name, t)) ts

-- The pairs of lower-case name and value of a header or prefix write (httpHeader, httpPrefixHeaders).
abbrev pub inserted_at : Binding → Schema → Value → List (List ℕ × List ℕ)
inserted_at (to_header name) m v = pairs_with (str_to_ascii_lowercase name) (option_map_or (header_texts m v) (texts m v) [])
inserted_at (to_prefix prefix) m v = map (λ e. (str_to_ascii_lowercase (prefix ++ e.0), text_of_key e.1)) (map_entries v)
inserted_at _ m v = []

-- the pairs that a write gives to the headers
abbrev pub inserted : Resolved → List (List ℕ × List ℕ)
inserted r = inserted_at (binding_of r.member) r.member r.value

-- The headers of the first writes, in the order of the writes: each name once, at its first place, with its last value.
unfoldable pub headers : Schema → List Write → List (List ℕ × List ℕ)
headers schema ws = put_all [] (flat_map inserted (firsts schema ws))

-- the names of the schema's query members, written or not (httpQuery)
abbrev pub query_names : Schema → List (List ℕ)
query_names schema = filter_map (λ m. m.node.traits.http_query) (members_of schema)

-- The pairs of a query write: each text under the member's name or the entry's key. An entry of the query map whose key is one of these names, those of the query members, is
-- left out (httpQuery, httpQueryParams).
abbrev pub pairs_at : Binding → List (List ℕ) → Schema → Value → List (List ℕ × List ℕ)
pairs_at (to_query name) names m v = pairs_with name (unwrap_or (texts m v) [])
pairs_at to_query_map names m v = flat_map (λ e. pairs_with e.0 (entry_texts e.1)) (filter (λ e. not (is_one_of e.0 names)) (map_entries v))
pairs_at _ names m v = []

-- the query pairs of the first writes, in the order of the writes
unfoldable pub pairs : Schema → List Write → List (List ℕ × List ℕ)
pairs schema ws = flat_map (λ r. pairs_at (binding_of r.member) (query_names schema) r.member r.value) (firsts schema ws)

-- the text of a label write, under its member's name (httpLabel)
abbrev pub labelled_at : Binding → Schema → Value → List (List ℕ × List ℕ)
labelled_at to_label m v = pairs_with (name_of m) (unwrap_or (texts m v) [])
labelled_at _ m v = []

-- the label texts of the first writes, by the names of their members
unfoldable pub labels : Schema → List Write → List (List ℕ × List ℕ)
labels schema ws = flat_map (λ r. labelled_at (binding_of r.member) r.member r.value) (firsts schema ws)
