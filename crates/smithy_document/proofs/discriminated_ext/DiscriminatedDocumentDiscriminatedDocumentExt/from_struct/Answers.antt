use Rattle.smithy_document.proofs.Common.{rules, subst, schema_of, label_of, structure, one_write, empty_state, written, one_tells, writes_rule}
use Rattle.std.proofs.lemmas.Result.{IfOk-weaker, IfErr-weaker}
use Rattle.smithy_serde.proofs.FinishingLemmas.{refused_alone}
use Rattle.smithy_document.specs.views.Finished.{IsFinishRefusal}
use Rattle.smithy_document.proofs.RefusalLemmas.{document_by_rule}
use Rattle.smithy_document.proofs.discriminated_ext.DiscriminatedDocumentDiscriminatedDocumentExt.from_struct.Goals as goal

pub returns-clause-document : goal.returns-clause-document
returns-clause-document g c =
    let state = written (label_of (schema_of c.args.schema)) (structure ((goal.SerializableStruct-dyn g c.args.value.now).writes c.args.value.now.1)) empty_state in
    let told = c.in_ok-write_struct.ensures.outcome.states empty_state c.new-serializer.ensures.told in
    IfOk-weaker c.finish.result _ _ (λ d h. (h state told).0) c.finish.ensures.document

pub returns-clause-discriminator : goal.returns-clause-discriminator
returns-clause-discriminator g c =
    let state = written (label_of (schema_of c.args.schema)) (structure ((goal.SerializableStruct-dyn g c.args.value.now).writes c.args.value.now.1)) empty_state in
    let told = c.in_ok-write_struct.ensures.outcome.states empty_state c.new-serializer.ensures.told in
    IfOk-weaker c.finish.result _ _ (λ d h. (h state told).1) c.finish.ensures.document

pub returns-clause-refusal : goal.returns-clause-refusal
returns-clause-refusal g c =
    let label = label_of (schema_of c.args.schema) in
    let value = structure ((goal.SerializableStruct-dyn g c.args.value.now).writes c.args.value.now.1) in
    let told = c.in_ok-write_struct.ensures.outcome.states empty_state c.new-serializer.ensures.told in
    IfErr-weaker c.finish.result _ _
    (λ e h. absurd (subst (λ o. IsFinishRefusal o (one_write label value) e) c.in_ok-write_struct.ensures.outcome.unrefused.1 (h (written label value empty_state) told)))
    c.finish.ensures.refusal

pub returns-in_err-write_struct-clause-refusal : goal.returns-in_err-write_struct-clause-refusal
returns-in_err-write_struct-clause-refusal g c =
    let value = structure ((goal.SerializableStruct-dyn g c.args.value.now).writes c.args.value.now.1) in
    let refused = refused_alone (label_of (schema_of c.args.schema)) value c.in_err-write_struct.field-0.0
    (writes_rule _ _ _ _ (one_tells _ _ _ _ _ c.in_err-write_struct.ensures) document_by_rule c.new-serializer.ensures.unrefused empty_state c.new-serializer.ensures.told) in
    search rules
