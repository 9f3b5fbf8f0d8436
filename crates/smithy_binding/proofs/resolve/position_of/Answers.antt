use Rattle.smithy_binding.proofs.Common.{sym, ◌∙◌, schema_of}
use Rattle.smithy_binding.proofs.Directions.{position-in}
use Rattle.smithy_binding.proofs.resolve.position_of.Goals as goal

pub returns : goal.returns
returns c = c.position_of.ensures ∙ sym (position-in c.args.schema.way (schema_of c.args.schema.schema) c.args.name.now)
