-- The input of a request with a body of JSON (AWS restJson1).
use Rattle.std.specs.Prelude.{◌≡◌, ℕ, List, Some, option_map, IsTrue, Result, Err}
use Rattle.smithy_http.specs.Facts.{facts}
use Rattle.smithy_http.specs.Requests.{Request}
use Rattle.smithy_schema.specs.Nodes.{Table, Schema, at_place}
use Rattle.smithy_serde.specs.StructValues.{members_of, node_of}
use Rattle.smithy_serde.specs.Values.{Write, list_of}
use Rattle.smithy_serde.specs.declared.struct_value.StructValue.{StructValue}
use Rattle.smithy_binding.specs.Answer.{place}
use Rattle.smithy_binding.specs.Checked.{checked_input}
use Rattle.smithy_binding.specs.Placing.{OmitFlags}
use Rattle.smithy_binding.specs.Typed.{IsTyped}
use Rattle.smithy_recovery.specs.declared.error.RecoverError.{RecoverError}
use Rattle.smithy_recovery.specs.declared.error.RecoverError.TheVariants.{NotPlaced}
use Rattle.smithy_gateway.specs.Answers.{IsInput}
use Rattle.uses.specs.Answering.{json_bodies}

-- the structure is the typed input in normal form that has this request
abbrev pub HasRequest : List ℕ → OmitFlags → Request → StructValue → Type 0
HasRequest endpoint omit q v = IsInput json_bodies (node_of v) endpoint omit q (list_of (members_of v))

-- where the request is refused, no typed input has it by the schema at a place, if a request can be placed by that
abbrev pub LacksInput : Table → ℕ → List ℕ → OmitFlags → Request → Result StructValue RecoverError → Type 0
LacksInput table index endpoint omit q result =
    result ≡ Err NotPlaced → (s : Schema) (ws : List Write) → at_place table index ≡ Some s → IsTrue (checked_input s)
    → IsTyped json_bodies s endpoint omit ws → option_map facts (place json_bodies s ws endpoint omit) ≡ Some (facts q) → ⊥
