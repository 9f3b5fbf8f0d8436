use Rattle.std.proofs.Common.{rules, inl}
use Rattle.smithy_schema.specs.References.{schema_of}
use Rattle.smithy_serde.specs.Values.{label_of, structure}
use Rattle.smithy_serde.specs.Told.{empty_state}
use Rattle.smithy_serde.specs.DocumentOf.{document_fault}
use Rattle.smithy_serde.specs.Refusing.{IsFaultRefusal}
use Rattle.smithy_serde.proofs.Calls.{one_tells, writes_rule}
use Rattle.smithy_serde.proofs.FinishingLemmas.{refused_alone}
use Rattle.smithy_bind.proofs.FinishedTexts.{none_open, text_finished, memory_finished}
use Rattle.smithy_bind.proofs.json_value.finished_text.Goals as goal

pub returns-in_err-write_value-clause-err : goal.returns-in_err-write_value-clause-err
returns-in_err-write_value-clause-err g c =
    let e = c.in_err-write_value.field-0.0 in
    let v = structure ((goal.SerializableStruct-dyn g c.args.value.now).writes c.args.value.now.1) in
    let refused : IsFaultRefusal (document_fault v) e
    = refused_alone (label_of (schema_of c.args.schema)) v e (writes_rule _ _ _ e (one_tells _ _ _ _ _ c.in_err-write_value.ensures) c.requires.lawful c.requires.unrefused empty_state c.requires.told) in
    search rules

pub finish-requires : goal.finish-requires
finish-requires g c = inl (none_open (label_of (schema_of c.args.schema)) (structure ((goal.SerializableStruct-dyn g c.args.value.now).writes c.args.value.now.1)) _ _ _ c.requires c.in_ok-write_value.ensures)

pub returns-clause-ok : goal.returns-clause-ok
returns-clause-ok g c =
    text_finished (label_of (schema_of c.args.schema)) (structure ((goal.SerializableStruct-dyn g c.args.value.now).writes c.args.value.now.1)) _ _ _ c.finish.result c.requires c.in_ok-write_value.ensures c.finish.ensures

pub returns-clause-err : goal.returns-clause-err
returns-clause-err g c =
    memory_finished (label_of (schema_of c.args.schema)) (structure ((goal.SerializableStruct-dyn g c.args.value.now).writes c.args.value.now.1)) _ _ _ c.finish.result c.requires c.in_ok-write_value.ensures c.finish.ensures
