use Rattle.smithy_binding.proofs.Common.{rules, writes_in, no_writes, structure, empty_state, document_fault, IsFaultRefusal, label, call_rule, writes_rule}
use Rattle.smithy_serde.specs.declared.scalar.Group.TheVariants as group
use Rattle.smithy_serde.proofs.FinishingLemmas.{refused_part, refused_group}
use Rattle.smithy_binding.proofs.http_rpc_protocol.stored_text.Goals as goal

pub returns-in_err-open_struct-clause-err : goal.returns-in_err-open_struct-clause-err
returns-in_err-open_struct-clause-err g c =
    let e = c.in_err-open_struct.field-0.0 in
    let ws = writes_in c.args.table.now c.args.writes.now in
    let ready = c.requires.ready in
    let refused : IsFaultRefusal (document_fault (structure ws)) e
    = refused_part (label c.args.schema) group.Structure no_writes ws e (call_rule _ _ _ e c.in_err-open_struct.ensures ready.lawful ready.unrefused empty_state ready.told) in
    search rules

pub returns-in_err-tell_stored-clause-err : goal.returns-in_err-tell_stored-clause-err
returns-in_err-tell_stored-clause-err g c =
    let e = c.in_err-tell_stored.field-0.0 in
    let ws = writes_in c.args.table.now c.args.writes.now in
    let ready = c.requires.ready in
    let opened = c.in_ok-open_struct.ensures in
    let refused : IsFaultRefusal (document_fault (structure ws)) e
    = refused_group (label c.args.schema) group.Structure ws e
    (writes_rule _ _ _ e c.in_err-tell_stored.ensures (opened.same.lawful ready.lawful) opened.outcome.unrefused.1 _ (opened.outcome.states empty_state ready.told)) in
    search rules
