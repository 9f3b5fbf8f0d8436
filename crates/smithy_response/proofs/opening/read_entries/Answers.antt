use Rattle.smithy_response.proofs.Common.{sym, subst, [], ◌∷◌, schema_of, prefix_refusal, scalar_of_read, Reads, IsRefusal, prefix_at_hand, told_frame, entries_left}
use Rattle.smithy_serde.specs.declared.scalar.Group.TheVariants as group
use Rattle.smithy_serde.specs.Held as held
use Rattle.smithy_response.proofs.Readings.{prefix_not_read}
use Rattle.smithy_response.proofs.opening.read_entries.Goals as goal

pub returns-in-Some : goal.returns-in-Some
returns-in-Some c = λ ps.
    subst (λ es. Reads scalar_of_read c.args.kind (schema_of c.args.schema) (prefix_at_hand c.args.response.now ps es) (prefix_at_hand c.args.response.now ps es) c.read.result) (sym c.in-Some.is)
    (c.read.ensures (told_frame group.Map (held.prefixed ps) (entries_left c.args.response.now c.in-Some.map) ∷ []))

pub returns-in-None : goal.returns-in-None
returns-in-None c = λ ps.
    let refused = subst (λ k. IsRefusal (prefix_refusal k) c.prefix_refusal.result) c.shape_type.ensures c.prefix_refusal.ensures in
    rw c.in-None.is (prefix_not_read c.args.kind (schema_of c.args.schema) c.args.response.now ps c.prefix_refusal.result refused)
