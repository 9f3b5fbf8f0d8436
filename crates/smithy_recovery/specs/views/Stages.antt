-- What the stages of the way back answer: the tests of the writes that were read, and the placing of the input that they are.
use Rattle.std.specs.Prelude.{◌≡◌, ℕ, Bool, false, ◌&&◌, List, Option, Some, Result, Ok, Err, IfOk}
use Rattle.smithy_types.specs.Documents.{Document}
use Rattle.smithy_http.specs.Requests.{Request}
use Rattle.smithy_schema.specs.Nodes.{Schema, Table, at_place}
use Rattle.smithy_schema.specs.References.{schema_of}
use Rattle.smithy_schema.specs.declared.schema_ref.SchemaRef.{SchemaRef}
use Rattle.smithy_serde.specs.Held.{Held}
use Rattle.smithy_serde.specs.StoredValues.{writes_in}
use Rattle.smithy_serde.specs.StructValues.{members_of, node_of}
use Rattle.smithy_serde.specs.Values.{Write, list_of}
use Rattle.smithy_serde.specs.declared.error.SerdeError.{SerdeError}
use Rattle.smithy_serde.specs.declared.struct_value.StructValue.{StructValue}
use Rattle.smithy_serde.specs.declared.value.WriteList.{WriteList}
use Rattle.smithy_binding.specs.Answer.{place}
use Rattle.smithy_binding.specs.Protocols.{Parts, AnswersBy, protocol_of}
use Rattle.smithy_binding.specs.Typed.{has_clear_template}
use Rattle.smithy_recovery.specs.Finding.{Finds}
use Rattle.smithy_recovery.specs.Recovered.{reading_by, is_placed_so}
use Rattle.smithy_recovery.specs.Recovering.{RecoversBy}
use Rattle.smithy_recovery.specs.TypedWrites.{has_typed_writes}
use Rattle.smithy_recovery.specs.declared.error.RecoverError.{RecoverError}
use Rattle.smithy_recovery.specs.declared.error.RecoverError.TheVariants.{NotPlaced, OutOfMemory}
use Rattle.smithy_recovery.specs.declared.recovering.Setting.{Setting}

-- the input is of the node at the place that is set
abbrev pub StandsAt : Setting → StructValue → Type 0
StandsAt s v = Some (node_of v) ≡ at_place s.table.now s.place.0

-- what is asked of the writes of a typed input alone, and of its template
abbrev pub are_typed : Schema → List ℕ → List Write → Bool
are_typed schema endpoint ws = has_typed_writes schema ws && has_clear_template schema endpoint

-- a test of code says that, over a table, where there is memory
abbrev pub TellsTyped : {E : Type 0} → SchemaRef → List ℕ → Table → WriteList → Result Bool E → Type 0
TellsTyped schema endpoint t ws result = IfOk result (λ b. b ≡ are_typed (schema_of schema) endpoint (list_of (writes_in t ws)))

-- an outcome of code is the request of an input, or its first fault
abbrev pub Answers : {C : Type 0} → (C → Document → List ℕ) → Parts C → Setting → StructValue → Result Request SerdeError → Type 0
Answers text p s v result = AnswersBy text p s.schema (members_of v) s.endpoint.now s.omit result

-- the same, where any fault says that it has none
abbrev pub Places : {C : Type 0} → (C → Document → List ℕ) → Parts C → Setting → StructValue → Result Request RecoverError → Type 0
Places text p s v result =
    Finds (λ x. x) result (place (protocol_of text p) (schema_of s.schema) (list_of (members_of v)) s.endpoint.now s.omit)

-- what a test says is this, where there is memory; a refusal says no
abbrev pub Tells : Bool → Result Bool RecoverError → Type 0
Tells test (Ok says) = test ≡ says
Tells test (Err NotPlaced) = test ≡ false
Tells test (Err OutOfMemory) = Unit {0}

-- a test of code says whether the request of an input has the same facts
abbrev pub TellsSame : {C : Type 0} → (C → Document → List ℕ) → (C → List ℕ → Option Held) → Parts C → Setting → StructValue → Request → Result Bool RecoverError → Type 0
TellsSame text holds p s v q result =
    Tells (is_placed_so (reading_by text holds p (schema_of s.schema) s.endpoint.now) s.omit q (list_of (members_of v))) result

-- an outcome of code is the input that is recovered by a node
abbrev pub RecoversNode : {C : Type 0} → (C → Document → List ℕ) → (C → List ℕ → Option Held) → Parts C → Setting → Request → Result StructValue RecoverError → Type 0
RecoversNode text holds p s q result = RecoversBy text holds p (schema_of s.schema) s.endpoint.now s.omit q result
