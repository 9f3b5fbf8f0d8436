use Rattle.std.proofs.Common.{string_bytes}
use Rattle.smithy_router.proofs.Common.{◌∙◌, ap, map, route_seen, segment_seen, first_segments}
use Rattle.smithy_router.proofs.Growing.{grows_through, behind_way}
use Rattle.smithy_router.proofs.tree.node_for.Goals as goal

pub returns-clause-grown : goal.returns-clause-grown
returns-clause-grown c =
    grows_through c.args.nodes.now.items c.child_for.new.nodes.items c.node_behind.new.nodes.items
    (grows_through c.args.nodes.now.items c.make_root.new.nodes.items c.child_for.new.nodes.items c.make_root.ensures.grown c.child_for.ensures.grown) c.node_behind.ensures.grown

pub returns-clause-node : goal.returns-clause-node
returns-clause-node c =
    behind_way c.child_for.new.nodes.items c.node_behind.new.nodes.items (route_seen c.args.route.now) (string_bytes c.in_ok-from_str.field-0) c.in_ok-start.start (map segment_seen c.first_segments.result.now)
    c.node_behind.result (c.in_ok-from_str.ensures.ok ∙ c.as_str.ensures.value) c.in_ok-start.ensures.child c.node_behind.ensures.grown (rw c.deref.ensures.value at c.first_segments.ensures) c.node_behind.ensures.node
