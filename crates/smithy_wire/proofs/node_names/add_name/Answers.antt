use Rattle.smithy_wire.proofs.FieldLemmas.{named}
use Rattle.smithy_wire.proofs.node_names.add_name.Goals as goal

pub returns : goal.returns
returns c =
    named c.args.positions.now c.insert.new.self c.in_ok-name.name c.args.name.now c.args.position c.in_ok-name.ensures.ok c.in_ok-insert.ensures.updates
