use Rattle.std.proofs.Common.{sym, ◌∙◌}
use Rattle.smithy_schema.specs.References.{schema_of}
use Rattle.smithy_recovery.proofs.BodyTold.{body_kept, no_body_kept}
use Rattle.smithy_recovery.proofs.body_writes.body_writes.Goals as goal

pub returns-then-has_unbound_member : goal.returns-then-has_unbound_member
returns-then-has_unbound_member g c =
    body_kept c.args.table.now (g.C.Codec.holds c.args.codec.now) (schema_of c.args.schema) c.args.body.now c.unbound_writes.result (sym c.has_unbound_member.ensures ∙ c.if-has_unbound_member.true) c.unbound_writes.ensures

pub returns-else-has_unbound_member : goal.returns-else-has_unbound_member
returns-else-has_unbound_member g c =
    no_body_kept c.args.table.now (g.C.Codec.holds c.args.codec.now) (schema_of c.args.schema) c.args.body.now c.new.result (sym c.has_unbound_member.ensures ∙ c.if-has_unbound_member.false)
    (c.new.ensures.writes c.args.table.now) (c.new.ensures.defined c.args.table.now)
