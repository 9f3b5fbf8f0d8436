-- The input of a job: an object, or an array of pairs of a member's name and its value.
use Rattle.std.specs.Prelude.{ℕ, List, [], ◌∷◌, Option, Some, None, option_map, option_and_then}
use Rattle.serde_json.specs.Data as json
use Rattle.serde_json.specs.Data.{Data, Items}
use Rattle.serde_json.specs.Find.{as_str}
use Rattle.smithy_schema.specs.Nodes.{Schema}
use Rattle.smithy_serde.specs.Values.{Writes, no_writes, write}
use Rattle.smithy_model.specs.Json.{items_in}
use Rattle.smithy_model.specs.declared.floats.Floats.{Floats}
use Rattle.smithy_job.specs.Values.{member_at, member_label, value_in, members_in}

-- a name and a value
abbrev pub named_value : List Data → Option (List ℕ × Data)
named_value (name ∷ value ∷ []) = option_map (λ n. (n, value)) (as_str name)
named_value _ = None

abbrev pub pair_in : Data → Option (List ℕ × Data)
pair_in d = option_and_then named_value (items_in d)

-- in front of others, the write of a value for the member of this name
abbrev pub named_before : Floats → Schema → Option Writes → List ℕ × Data → Option Writes
named_before floats schema others p =
    let member = member_at (Some schema) p.0 in
    option_and_then (λ v. option_map (write (member_label member p.0) v) others) (value_in floats member p.1)

abbrev pub pairs_in : Floats → Schema → Items → Option Writes
pairs_in floats schema json.no_items = Some no_writes
pairs_in floats schema (json.item d ds) = option_and_then (named_before floats schema (pairs_in floats schema ds)) (pair_in d)

-- the writes of an input at a schema, by how floats are read
unfoldable pub input : Floats → Schema → Data → Option Writes
input floats schema (json.object ms) = members_in floats (Some schema) ms
input floats schema (json.array ds) = pairs_in floats schema ds
input floats schema _ = None
