-- What the way back answers.
use Rattle.std.specs.Prelude.{◌≡◌, ℕ, List, Option, Some, Result, Err, option_map, IsTrue}
use Rattle.smithy_types.specs.Documents.{Document}
use Rattle.smithy_http.specs.Facts.{facts}
use Rattle.smithy_http.specs.Requests.{Request}
use Rattle.smithy_schema.specs.Nodes.{Schema, Table, at_place}
use Rattle.smithy_schema.specs.declared.parts.SchemaIndex.{SchemaIndex}
use Rattle.smithy_serde.specs.Held.{Held}
use Rattle.smithy_serde.specs.StructValues.{node_of, members_of}
use Rattle.smithy_serde.specs.Values.{Write, list_of}
use Rattle.smithy_serde.specs.declared.struct_value.StructValue.{StructValue}
use Rattle.smithy_binding.specs.Answer.{place}
use Rattle.smithy_binding.specs.Checked.{checked_input}
use Rattle.smithy_binding.specs.Placing.{OmitFlags}
use Rattle.smithy_binding.specs.Protocols.{Parts}
use Rattle.smithy_binding.specs.Typed.{IsTyped}
use Rattle.smithy_recovery.specs.Finding.{Finds}
use Rattle.smithy_recovery.specs.Recovered.{Reading, reading_by, recovered, IsRecovered}
use Rattle.smithy_recovery.specs.declared.error.RecoverError.{RecoverError}
use Rattle.smithy_recovery.specs.declared.error.RecoverError.TheVariants.{NotPlaced}

-- the schema at a place, if there is one, passes the test of an input schema
abbrev pub IsCheckedAt : Table → ℕ → Type 0
IsCheckedAt t place = (schema : Schema) → at_place t place ≡ Some schema → IsTrue (checked_input schema)

-- an outcome of code is the input that is recovered by a schema, none where it is refused, and want of memory is free
abbrev pub RecoversBy : {C : Type 0} → (C → Document → List ℕ) → (C → List ℕ → Option Held) → Parts C → Schema → List ℕ → OmitFlags → Request → Result StructValue RecoverError → Type 0
RecoversBy text holds p schema endpoint omit q result =
    Finds (λ v. list_of (members_of v)) result (recovered (reading_by text holds p schema endpoint) omit q)

-- the same by the schema at a place of a table
abbrev pub Recovers : {C : Type 0} → (C → Document → List ℕ) → (C → List ℕ → Option Held) → Parts C → Table → ℕ → List ℕ → OmitFlags → Request → Result StructValue RecoverError → Type 0
Recovers text holds p t place endpoint omit q result =
    (schema : Schema) → at_place t place ≡ Some schema → RecoversBy text holds p schema endpoint omit q result

-- a structure is a typed input by its own node, in normal form, whose request has the facts of this one
abbrev pub IsInputOf : {C : Type 0} → (C → Document → List ℕ) → (C → List ℕ → Option Held) → Parts C → List ℕ → OmitFlags → Request → StructValue → Type 0
IsInputOf text holds p endpoint omit q v = IsRecovered (reading_by text holds p (node_of v) endpoint) omit q (list_of (members_of v))

-- a typed input whose request has the facts of this one
pub record HasFactsOf (r : Reading) (omit : OmitFlags) (q : Request) (ws : List Write) : Type 0 where
  pub typed : IsTyped r.protocol r.schema r.endpoint omit ws
  pub seen : option_map facts (place r.protocol r.schema ws r.endpoint omit) ≡ Some (facts q)

-- where it is refused, there is no such input by the schema at a place of a table
abbrev pub Lacks : {C : Type 0} → (C → Document → List ℕ) → (C → List ℕ → Option Held) → Parts C → Table → SchemaIndex → List ℕ → OmitFlags → Request → Result StructValue RecoverError → Type 0
Lacks text holds p t place endpoint omit q result =
    result ≡ Err NotPlaced → (schema : Schema) (ws : List Write) → at_place t place.0 ≡ Some schema
    → HasFactsOf (reading_by text holds p schema endpoint) omit q ws → ⊥
