use Rattle.std.proofs.Common.{inl}
use Rattle.smithy_schema.specs.References.{schema_of}
use Rattle.smithy_serde.specs.Values.{label_of, structure}
use Rattle.smithy_bind.proofs.FinishedTexts.{none_open}
use Rattle.response_rows.proofs.json.struct_text.Goals as goal

pub finish-requires : goal.finish-requires
finish-requires g c = inl (none_open (label_of (schema_of c.args.schema)) (structure ((goal.SerializableStruct-dyn g c.args.value.now).writes c.args.value.now.1)) _ _ _ c.requires c.in_ok-write_value.ensures)
