use Rattle.std.proofs.Common.{ap, ◌∙◌}
use Rattle.smithy_schema.specs.Nodes.{member_named}
use Rattle.smithy_schema.specs.References.{schema_of}
use Rattle.smithy_recovery.proofs.FieldNames.{no_member, member_found}
use Rattle.smithy_recovery.proofs.shaped.member_of.Goals as goal

pub returns-in_default-clause-member : goal.returns-in_default-clause-member
returns-in_default-clause-member c = no_member (schema_of c.args.node) _ c.in_default.ensures

pub returns-clause-member : goal.returns-clause-member
returns-clause-member c =
    c.member_schema.ensures ∙ ap (λ s. member_named s c.in-Some.name.now) c.shape_of.ensures ∙ member_found (schema_of c.args.node) _ c.in-Some.name.now c.in-Some.ensures
