-- Worked rows of outputs: which are typed, what one fails where it is not, and normal forms.
use Rattle.smithy_served.proofs.Common.{zero, suc, range_with_len, option_map_or, ◌≡◌, refl, ℕ, codes, true, List, [], ◌∷◌, ◌++◌, map, flat_map, Option, Some, None, pos, ShapeType, Schema, Node, Table, Traits, no_traits, bare_node, member_at, Label, Value, Write, scalar, text, blob, list, label_of, writes_of, checked_output, Protocol, answer_view}
use Rattle.smithy_ids.specs.declared.shape_type.ShapeType.TheVariants as kind
use Rattle.smithy_serde.specs.Values as value
use Rattle.smithy_document.specs.JsonText.{json_text}
use Rattle.smithy_served.proofs.OnLiterals.{served_on_literals}
use Rattle.smithy_served.proofs.OutputTests.{failing}

-- How the rows' schemas and outputs are made.

abbrev header : List ℕ → Traits
header name = record no_traits { http_header = Some name }

abbrev prefix_map : List ℕ → Traits
prefix_map prefix = record no_traits { http_prefix_headers = Some prefix }

abbrev response_code : Traits
response_code = record no_traits { http_response_code = true }

abbrev payload : Traits
payload = record no_traits { http_payload = true }

abbrev member : ℕ → List ℕ → ShapeType → Traits → Option Node
member index name k traits = Some (record (bare_node (codes "ex#Out$" ++ name) k) { member_name = Some name; member_index = Some index; traits = traits })

abbrev with_element : ℕ → Option Node → Option Node
with_element place None = None
with_element place (Some n) = Some (record n { element = Some place })

abbrev with_entries : ℕ → ℕ → Option Node → Option Node
with_entries k v None = None
with_entries k v (Some n) = Some (record n { key = Some k; value = Some v })

abbrev string_node : Option Node
string_node = Some (bare_node (codes "smithy.api#String") kind.String)

-- a structure whose members stand at the first places of the table, and more nodes behind them
abbrev structure_of : ℕ → Table → Schema
structure_of count table = record { table = table; node = record (bare_node (codes "ex#Out") kind.Structure) { members = range_with_len 0 count } }

abbrev item_label : Label
item_label = record { full_name = codes "smithy.api#String"; member_name = None; member_index = None; time_format = None }

abbrev to : Schema → ℕ → Value → Write
to schema index v = record { label = option_map_or label_of (member_at schema index) item_label; value = v }

abbrev elements : List Value → Value
elements vs = list (writes_of (map (λ v. record { label = item_label; value = v }) vs))

abbrev strings : List (List ℕ) → Value
strings texts = elements (map (λ t. scalar (text t)) texts)

abbrev string_map : List (List ℕ × List ℕ) → Value
string_map entries = value.map (writes_of (flat_map (λ e. record { label = item_label; value = scalar (text e.0) } ∷ record { label = item_label; value = scalar (text e.1) } ∷ []) entries))

abbrev json : Protocol
json = record { content_type = codes "application/json"; text_of = json_text }

-- Which outputs are typed.

-- an output with each binding beside members of the body
abbrev every_place : Schema
every_place = structure_of 6 (
    member 0 (codes "Code") kind.Integer response_code
    ∷ member 1 (codes "Etag") kind.String (header (codes "ETag"))
    ∷ member 2 (codes "Count") kind.Integer (header (codes "X-Count"))
    ∷ with_element 6 (member 3 (codes "Tags") kind.List (header (codes "X-Tags")))
    ∷ with_entries 6 6 (member 4 (codes "Meta") kind.Map (prefix_map (codes "X-Meta-")))
    ∷ member 5 (codes "Name") kind.String no_traits
    ∷ string_node
    ∷ [])

abbrev word : List ℕ → Value
word t = scalar (text t)

abbrev number : ℕ → Value
number n = scalar (value.whole value.integer (pos n))

-- an output of it, with this header, these entries and this code
abbrev output : List ℕ → List (List ℕ × List ℕ) → ℕ → List Write
output etag entries code =
    to every_place 5 (word (codes "a")) ∷ to every_place 1 (word etag) ∷ to every_place 4 (string_map entries) ∷ to every_place 0 (number code)
    ∷ to every_place 3 (strings (codes "b" ∷ codes "c d" ∷ [])) ∷ to every_place 5 (word (codes "e")) ∷ []

pub every_place_is_checked : checked_output every_place ≡ true
unfolding served_on_literals
every_place_is_checked = refl

-- a list whose node has no element node, in the object of the body or as a payload; lists of lists without an end; a payload of bytes;
-- a header with a default's name, and a prefix of one
abbrev bare_list : Traits → Schema
bare_list traits = structure_of 1 (member 0 (codes "Items") kind.List traits ∷ [])

abbrev deep_list : Schema
deep_list = structure_of 1 (with_element 1 (member 0 (codes "Lists") kind.List no_traits) ∷ with_element 1 (Some (bare_node (codes "ex#Lists") kind.List)) ∷ [])

abbrev nested : ℕ → Value
nested zero = elements []
nested (suc levels) = elements (nested levels ∷ [])

abbrev bytes_output : Schema
bytes_output = structure_of 1 (member 0 (codes "Body") kind.Blob payload ∷ [])

abbrev typed_header : Schema
typed_header = structure_of 2 (member 0 (codes "Type") kind.String (header (codes "Content-Type")) ∷ member 1 (codes "Name") kind.String no_traits ∷ [])

abbrev wide_prefix : Schema
wide_prefix = structure_of 1 (with_entries 1 1 (member 0 (codes "Meta") kind.Map (prefix_map (codes "Content-"))) ∷ string_node ∷ [])

-- outputs that are typed, with each binding, and for each reason one that is not, with the field that it fails
abbrev typed_rows : List (Schema × List Write × List (List ℕ))
typed_rows =
    (every_place, output (codes "\"x\"") ((codes "K", codes "v") ∷ []) 201, [])
    ∷ (bytes_output, to bytes_output 0 (scalar (blob (codes "abc"))) ∷ [], [])
    ∷ (every_place, to every_place 2 (number 2147483648) ∷ output (codes "x") [] 200, codes "in_range" ∷ [])
    -- white space at the end of a header and of an entry, and a key that stands twice
    ∷ (every_place, output (codes " x") [] 200, codes "header_values" ∷ [])
    ∷ (every_place, output (codes "x") ((codes "k", codes "v ") ∷ []) 200, codes "header_values" ∷ [])
    ∷ (every_place, output (codes "x") ((codes "k", codes "v") ∷ (codes "k", codes "w") ∷ []) 200, codes "header_values" ∷ [])
    -- a code that is no status, and one that is not written
    ∷ (every_place, output (codes "x") [] 99, codes "conforming" ∷ [])
    ∷ (every_place, to every_place 5 (word (codes "a")) ∷ [], codes "code" ∷ [])
    ∷ (bare_list no_traits, to (bare_list no_traits) 0 (elements (word (codes "a") ∷ [])) ∷ [], codes "unbound_shaped" ∷ [])
    ∷ (bare_list payload, to (bare_list payload) 0 (elements (word (codes "a") ∷ [])) ∷ [], codes "payload_shaped" ∷ [])
    ∷ (deep_list, to deep_list 0 (nested 100) ∷ [], codes "shallow" ∷ [])
    ∷ (typed_header, to typed_header 1 (word (codes "a")) ∷ [], codes "defaults" ∷ [])
    ∷ (wide_prefix, to wide_prefix 0 (string_map []) ∷ [], codes "prefixed" ∷ [])
    ∷ []

pub each_reason : map (λ r. failing json r.0 r.1) typed_rows ≡ map (λ r. r.2) typed_rows
unfolding served_on_literals
each_reason = refl

-- outputs with their normal forms
abbrev view_rows : List (Schema × List Write × List Write)
view_rows = (
  every_place,
  output (codes "x") ((codes "K", codes "v") ∷ []) 201,
  to every_place 0 (number 201) ∷ to every_place 1 (word (codes "x")) ∷ to every_place 3 (strings (codes "b" ∷ codes "c d" ∷ []))
      ∷ to every_place 4 (string_map ((codes "k", codes "v") ∷ [])) ∷ to every_place 5 (word (codes "e")) ∷ [],
)
    -- an empty text stands as a header, an empty list does not, and the map is there in any case
    ∷ (every_place, to every_place 3 (strings []) ∷ to every_place 1 (word []) ∷ [], to every_place 1 (word []) ∷ to every_place 4 (string_map []) ∷ [])
    ∷ (bytes_output, to bytes_output 0 (scalar (blob [])) ∷ [], [])
    ∷ []

pub each_view : map (λ r. answer_view r.0 r.1) view_rows ≡ map (λ r. r.2) view_rows
unfolding served_on_literals
each_view = refl
