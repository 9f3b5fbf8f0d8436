-- The names of other crates that this crate's specs, clauses and proofs cite, from one place.
pub use Rattle.smithy_binding.specs.Answer.{place}
pub use Rattle.smithy_binding.specs.Checked.{checked_input}
unfoldable pub use Rattle.smithy_binding.specs.NormalForm.{view}
pub use Rattle.smithy_binding.specs.Placing.{OmitFlags, Protocol, endpoint_or_slash, with_defaults}
pub use Rattle.smithy_binding.specs.Protocols.{Parts, protocol_of}
unfoldable pub use Rattle.smithy_binding.specs.Rpc.{rpc_answer}
pub use Rattle.smithy_binding.specs.Typed.{IsTyped, is_shallow}
pub use Rattle.smithy_http.specs.Facts.{facts}
pub use Rattle.smithy_http.specs.Requests.{Request}
pub use Rattle.smithy_recovery.specs.BodyParts.{held_writes}
pub use Rattle.smithy_recovery.specs.Finding.{Finds}
pub use Rattle.smithy_recovery.specs.Recovered.{Reading, reading_by, recovered}
pub use Rattle.smithy_recovery.specs.Recovering.{HasFactsOf, IsCheckedAt}
pub use Rattle.smithy_recovery.specs.Shallow.{is_shallow_at}
pub use Rattle.smithy_recovery.specs.declared.error.RecoverError.{RecoverError}
pub use Rattle.smithy_recovery.specs.declared.error.RecoverError.TheVariants.{NotPlaced, OutOfMemory}
pub use Rattle.smithy_recovery.specs.views.Keeping.{KeepsMembers}
pub use Rattle.smithy_schema.specs.Nodes.{Schema, Table, at_place}
pub use Rattle.smithy_schema.specs.References.{schema_of}
pub use Rattle.smithy_schema.specs.WellMade.{is_well_made}
pub use Rattle.smithy_schema.specs.declared.parts.SchemaIndex.{SchemaIndex}
pub use Rattle.smithy_serde.specs.Held.{Held}
pub use Rattle.smithy_serde.specs.Lawful.{max_nesting}
pub use Rattle.smithy_serde.specs.StoredValues.{HasNode}
pub use Rattle.smithy_serde.specs.StructValues.{members_of}
pub use Rattle.smithy_serde.specs.Values.{Write, Writes, list_of, structure, writes_of}
pub use Rattle.smithy_serde.specs.declared.value.WriteList.{WriteList}
pub use Rattle.smithy_types.specs.Documents.{Document}
pub use Rattle.smithy_types.specs.Grammars.{is_legal_target}
pub use Rattle.smithy_types.specs.Texts.{same_text}
pub use Rattle.std.specs.Bool.{then_some}
pub use Rattle.std.specs.Option.{option_map_or}
pub use Rattle.std.specs.Result.{result_ok}
