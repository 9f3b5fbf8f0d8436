use Rattle.smithy_router.proofs.Common.{best_seen, parts_left, entries_of}
use Rattle.smithy_router.proofs.Found.{below_more}
use Rattle.smithy_router.proofs.search.+best_below.Goals as goal

pub returns : goal.returns
returns t c =
    let s = c.args.search.now in
    below_more s.tree.now.nodes.items (entries_of s.tree.now) s.method.now s.target.now c.args.place c.in-Some.node.now c.in-Some-next_segment.segment.now (parts_left 47 c.in-Some-next_segment.behind)
    (parts_left 47 c.args.rest) c.deref-2.result.now c.literal_child.result (best_seen c.args.best) (best_seen c.best_among-greedy.result) (best_seen c.best_below-literal.result) (best_seen c.best_below.result)
    (rw c.deref.ensures.value at c.in-Some.ensures) c.in-Some-next_segment.ensures c.deref-2.ensures.value c.literal_child.ensures c.best_among-greedy.ensures c.best_below-literal.ensures c.best_below.ensures
