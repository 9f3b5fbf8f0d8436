use Rattle.smithy_binding.proofs.Common.{ap, ◌∙◌, schema_of, pieces, endpoint_or_slash}
use Rattle.smithy_binding.specs.views.LeftTemplates.{template_in}
use Rattle.smithy_binding.proofs.HoleLemmas.{own-pieces, no-pieces}
use Rattle.smithy_binding.proofs.place.template_rest.Goals as goal

pub returns-in-Some : goal.returns-in-Some
returns-in-Some c = ap template_in c.as_slice.ensures ∙ own-pieces (schema_of c.args.schema).node.traits.http _ (endpoint_or_slash c.args.endpoint.now) c.in-Some.ensures

pub returns-in-None : goal.returns-in-None
returns-in-None c = ap pieces c.endpoint_or_slash.ensures ∙ no-pieces (schema_of c.args.schema).node.traits.http (endpoint_or_slash c.args.endpoint.now) c.in-None.ensures
