use Rattle.std.proofs.Common.{rules}
use Rattle.smithy_schema.specs.References.{schema_of}
use Rattle.smithy_recovery.proofs.BodyTold.{nothing_kept, payload_kept, payload_refused}
use Rattle.smithy_recovery.proofs.body_writes.payload_part.Goals as goal

pub returns-then-is_empty : goal.returns-then-is_empty
returns-then-is_empty g c =
    nothing_kept c.args.table.now (g.C.Codec.holds c.args.codec.now) (schema_of c.args.member) c.args.body.now (search rules)

pub returns-in_err-value : goal.returns-in_err-value
returns-in_err-value g c =
    payload_refused c.args.table.now (g.C.Codec.holds c.args.codec.now) (schema_of c.args.member) c.args.body.now c.in_err-value.field-0.0 c.from_residual.result (search rules)
    (λ none. search rules) c.in_err-value.ensures

pub returns : goal.returns
returns g c =
    payload_kept c.args.table.now (g.C.Codec.holds c.args.codec.now) (schema_of c.args.member) c.args.body.now c.in_ok-value.value (λ none. search rules) c.in_ok-value.ensures
