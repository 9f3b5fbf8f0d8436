use Rattle.smithy_binding.proofs.Common.{◌≡◌, sym, ◌∙◌, true, schema_of, same_kind}
use Rattle.smithy_ids.specs.declared.shape_type.ShapeType.TheVariants as kind
use Rattle.smithy_binding.proofs.BrokenLaws.{third_fails}
use Rattle.smithy_binding.proofs.breaking.named_rule.Goals as goal

pub returns : goal.returns
returns c =
    let schema = schema_of c.args.schema in
    let structure : same_kind schema.node.kind kind.Structure ≡ true = sym c.is_structure.ensures ∙ c.if-not-is_structure.false in
    let known = rw c.in-Some.is at c.in_ok-_members.ensures in
    third_fails _ _ _ structure known.0 c.requires
