use Rattle.smithy_model.proofs.FilledLemmas.{filled-one}
use Rattle.smithy_model.proofs.nodes.define.Goals as goal

pub returns-in-Ok : goal.returns-in-Ok
returns-in-Ok c = filled-one c.args.index c.args.schema c.args.table.now c.define.new.self c.in-Ok.ensures.ok
