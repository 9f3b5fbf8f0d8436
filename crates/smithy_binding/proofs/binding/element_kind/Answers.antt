use Rattle.smithy_binding.proofs.Common.{ap, sym, ◌∙◌, schema_of, kind_or_none}
use Rattle.smithy_binding.proofs.Directions.{element_kind-in}
use Rattle.smithy_binding.proofs.binding.element_kind.Goals as goal

pub returns : goal.returns
returns c = c.kind_of.ensures ∙ ap kind_or_none c.element.ensures ∙ sym (element_kind-in c.args.member.way (schema_of c.args.member.schema))
