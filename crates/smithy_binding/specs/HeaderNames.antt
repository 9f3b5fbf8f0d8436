-- The names of a schema's header members in lower case, and a column beside its table that holds them (Smithy, httpHeader trait).
use Rattle.std.specs.Prelude.{◌≡◌, ℕ, List, slice_get, Option, Some, option_map, option_and_then}
use Rattle.smithy_schema.specs.Columns.{Column, cell_at}
use Rattle.smithy_binding.specs.Words.{str_to_ascii_lowercase, Schema, Table, at_place, SchemaRef, schema_of, Write, Writes, list_of, all_resolved, AllByRecursion}

-- the header's name that a node has, in lower case
abbrev pub header_name : Schema → Option (List ℕ)
header_name schema = option_map str_to_ascii_lowercase schema.node.traits.http_header

-- the header's name of the node at a place
abbrev pub header_at : Table → ℕ → Option (List ℕ)
header_at table place = option_and_then (λ (m : Schema). m.node.traits.http_header) (at_place table place)

-- each thing that is given of a node is its header's name in lower case, or none where it has none
abbrev pub GivesHeaderNames : {F : Type 0} → (F → Schema → Option (List ℕ) → Type 0) → F → Type 0
GivesHeaderNames gives provider = (schema : Schema) (name : Option (List ℕ)) → gives provider schema name → name ≡ header_name schema

-- the cell of a place is filled
abbrev pub IsFilled : {F T : Type 0} → Column F T → ℕ → Type 0
IsFilled {F} {T} column place = (cell : T) × (cell_at column place ≡ Some cell)

-- where the member at a position stands in a header, its place has its name
abbrev pub HasNameAt : (ℕ → Type 0) → Schema → ℕ → Type 0
HasNameAt holds schema position =
    (place : ℕ) (name : List ℕ) → slice_get schema.node.members position ≡ Some place → header_at schema.table place ≡ Some name → holds place

-- so it is for each member that is written
abbrev pub HaveNames : (ℕ → Type 0) → Schema → List Write → Type 0
HaveNames holds schema ws = AllByRecursion (λ r. HasNameAt holds schema r.position) (all_resolved schema ws)

-- the same of writes by the schema of a reference
abbrev pub AreNamed : (ℕ → Type 0) → SchemaRef → Writes → Type 0
AreNamed holds schema ws = HaveNames holds (schema_of schema) (list_of ws)

-- of each header member that has a write, the cell is filled
abbrev pub AreFilled : {F T : Type 0} → Column F T → SchemaRef → Writes → Type 0
AreFilled column schema ws = AreNamed (IsFilled column) schema ws
