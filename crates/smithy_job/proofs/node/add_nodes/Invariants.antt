use Rattle.std.proofs.Common.{◌≡◌, take}
use Rattle.smithy_job.specs.views.Tables.{nodes_with}
use Rattle.smithy_job.proofs.node.add_nodes.Given as goal

abbrev pub invariant-loop-name : goal.invariant-loop-name
invariant-loop-name l = l.nodes ≡ nodes_with l.fn.nodes (take l.name-index l.names)
