use Rattle.smithy_binding.proofs.NameSteps.{bound-header}
use Rattle.smithy_binding.proofs.placement.put_list.Goals as goal

pub put_named-requires-clause-name : goal.put_named-requires-clause-name
put_named-requires-clause-name g c = bound-header c.args.member c.args.name.now c.requires.header
