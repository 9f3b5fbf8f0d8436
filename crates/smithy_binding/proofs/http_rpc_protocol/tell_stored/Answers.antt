use Rattle.smithy_binding.proofs.Common.{rules, [], sym, ◌∙◌, subst, kept_writes, AreListedDefined, tells_none, told_more, told_stop_in, told_all, listed_in_order, one_as, tells_stored}
use Rattle.smithy_binding.proofs.KeptSteps.{first-defined}
use Rattle.smithy_binding.proofs.http_rpc_protocol.tell_stored.Goals as goal

pub loop-node-init : goal.loop-node-init
loop-node-init g c =
    let taken = c.into_iter-node-iterator.ensures.into_iter_gives in
    ([], sym (taken ∙ c.iter-node-items.ensures.value), tells_none _ _, subst (AreListedDefined c.args.table.now) (sym taken) (c.iter-node-items.ensures.defined c.args.table.now c.requires))

pub node_at-requires : goal.node_at-requires
node_at-requires g c = (first-defined c.args.table.now _ _ _ c.in-Some.ensures.steps c.loop-node.invariant.3).0

pub tell-requires : goal.tell-requires
tell-requires g c = (first-defined c.args.table.now _ _ _ c.in-Some.ensures.steps c.loop-node.invariant.3).1

pub loop-node-preserved : goal.loop-node-preserved
loop-node-preserved g c =
    let t = c.args.table.now in
    let so_far = c.loop-node.invariant in
    let told = told_more _ (listed_in_order t) _ so_far.0 _ _ _ _ _ _ _ _ so_far.1 c.in-Some.ensures.steps so_far.2 (one_as _ _ _ _ _ _ c.node_at.ensures c.in_ok-tell.ensures) in
    (told.0, told.1, told.2, (first-defined t _ _ _ c.in-Some.ensures.steps so_far.3).2)

pub returns-in_err-tell : goal.returns-in_err-tell
returns-in_err-tell g c =
    let t = c.args.table.now in
    let so_far = c.loop-node.invariant in
    let stopped = tells_stored t c.args.writes.now _ _ _ (told_stop_in _ (listed_in_order t) (kept_writes c.args.writes.now) so_far.0 _ _ _ _ _ _ _ _ so_far.1 c.in-Some.ensures.steps so_far.2 (one_as _ _ _ _ _ _ c.node_at.ensures c.in_err-tell.ensures)) in
    search rules

pub returns : goal.returns
returns g c =
    let t = c.args.table.now in
    let so_far = c.loop-node.invariant in
    tells_stored t c.args.writes.now _ _ _ (told_all _ (listed_in_order t) (kept_writes c.args.writes.now) so_far.0 _ _ _ _ so_far.1 c.in-None.ensures.steps.0 so_far.2)
