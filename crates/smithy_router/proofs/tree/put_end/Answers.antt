use Rattle.smithy_router.proofs.Common.{refl, route_seen}
use Rattle.smithy_router.proofs.Growing.{grows_through, end_added, end_not_added, read_at}
use Rattle.smithy_router.proofs.tree.put_end.Goals as goal

pub returns-in_err-push_end-clause-grown : goal.returns-in_err-push_end-clause-grown
returns-in_err-push_end-clause-grown c =
    let nodes = c.node_for.new.nodes.items in
    let at = read_at nodes c.in_ok-place.place c.index_mut.result.now c.in_ok-place.ensures.node.within c.index_mut.ensures.value in
    grows_through c.args.nodes.now.items nodes _ c.node_for.ensures.grown (end_not_added nodes _ c.in_ok-place.place c.index_mut.result.now c.push_end.new.self at refl c.in_err-push_end.ensures.err)

pub returns-clause-grown : goal.returns-clause-grown
returns-clause-grown c =
    let nodes = c.node_for.new.nodes.items in
    let at = read_at nodes c.in_ok-place.place c.index_mut.result.now c.in_ok-place.ensures.node.within c.index_mut.ensures.value in
    let both = end_added nodes _ (route_seen c.args.route.now) c.in_ok-place.place c.args.number c.index_mut.result.now c.push_end.new.self c.goes_on.result at refl c.in_ok-place.ensures.node
    c.goes_on.ensures c.in_ok-push_end.ensures.ok in
    grows_through c.args.nodes.now.items nodes _ c.node_for.ensures.grown both.0

pub returns-clause-ends : goal.returns-clause-ends
returns-clause-ends c =
    let nodes = c.node_for.new.nodes.items in
    let at = read_at nodes c.in_ok-place.place c.index_mut.result.now c.in_ok-place.ensures.node.within c.index_mut.ensures.value in
    let both = end_added nodes _ (route_seen c.args.route.now) c.in_ok-place.place c.args.number c.index_mut.result.now c.push_end.new.self c.goes_on.result at refl c.in_ok-place.ensures.node
    c.goes_on.ensures c.in_ok-push_end.ensures.ok in
    both.1
