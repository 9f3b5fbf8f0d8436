-- What the parts of the gateway answer.
use Rattle.std.specs.Prelude.{◌≡◌, ℕ, List, Some, Result, IsTrue}
use Rattle.smithy_serde.specs.declared.struct_value.StructValue.{StructValue}
use Rattle.smithy_schema.specs.declared.schema_ref.SchemaRef.{SchemaRef}
use Rattle.smithy_gateway.specs.Words.{result_ok, Request, Table, at_place, schema_of, is_well_made, HasNode, members_of, list_of, place, checked_input, OmitFlags, Parts, protocol_of, rpc_answer, Finds, Reading, reading_by, KeepsMembers, held_writes, WriteList, RecoverError}
use Rattle.smithy_gateway.specs.Calls.{Texts, Holds, calling_by}
use Rattle.smithy_gateway.specs.Gateway.{posted_form, called}
use Rattle.smithy_gateway.specs.declared.setting.Setting.{Setting}

-- the node stands at its place, and requests can be placed by it
pub record IsSet (at : Setting) : Type 0 where
  pub stands : HasNode at.table.now at.place.0
  pub node : at_place at.table.now at.place.0 ≡ Some (schema_of at.node)
  pub checked : IsTrue (checked_input (schema_of at.node))
  pub well_made : IsTrue (is_well_made (schema_of at.node))

-- the reading in this setting
abbrev pub reading_at : {C : Type 0} → Texts C → Holds C → Parts C → Setting → Reading
reading_at text holds p at = reading_by text holds p (schema_of at.node) at.endpoint.now

-- the writes of a body by the schema's members are kept, where what the codec's reader has of it is told
abbrev pub KeepsCall : {D : Type 0} → Holds D → Parts D → Table → SchemaRef → Request → Result WriteList RecoverError → Type 0
KeepsCall holds rpc t schema q result = KeepsMembers t (holds rpc.codec q.body) (held_writes (schema_of schema)) result

-- an outcome of code is the request of an input, if it has one
abbrev pub Places : {C : Type 0} → Texts C → Parts C → Setting → StructValue → Result Request RecoverError → Type 0
Places text p at v result =
    Finds (λ x. x) result (place (protocol_of text p) (schema_of at.node) (list_of (members_of v)) at.endpoint.now at.omit)

-- an outcome of code is the request that posts an input whole, if it has one
abbrev pub Posts : {D : Type 0} → Texts D → Parts D → StructValue → List ℕ → OmitFlags → Result Request RecoverError → Type 0
Posts text rpc v endpoint omit result = Finds (λ x. x) result (result_ok (rpc_answer (protocol_of text rpc) (members_of v) endpoint omit))

-- an outcome of code is the input that a request posts, none where it is refused, and want of memory is free
abbrev pub FindsCall : {C D : Type 0} → Texts C → Holds C → Texts D → Holds D → Parts C → Parts D → Setting → Request → Result StructValue RecoverError → Type 0
FindsCall text holds call_text call_holds p rpc at q result =
    Finds (λ v. list_of (members_of v)) result (called (reading_at text holds p at) at.omit (calling_by call_text call_holds rpc) q)

-- an outcome of code is the normal form of what was read, where the request posts just that
abbrev pub FindsForm : {C D : Type 0} → Texts C → Holds C → Texts D → Holds D → Parts C → Parts D → Setting → StructValue → Request → Result StructValue RecoverError → Type 0
FindsForm text holds call_text call_holds p rpc at read q result =
    Finds (λ v. list_of (members_of v)) result (posted_form (reading_at text holds p at) at.omit (protocol_of call_text rpc) q (list_of (members_of read)))
