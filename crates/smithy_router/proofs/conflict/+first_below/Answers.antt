use Rattle.smithy_router.proofs.Common.{◌≡◌, suc, ◌-◌, ◌∙◌, arith}
use Rattle.smithy_router.specs.Seen.{segments_seen}
use Rattle.smithy_router.proofs.Conflicting.{none_below, literal_below, any_below, child_more}
use Rattle.smithy_router.proofs.conflict.+first_below.Goals as goal

pub returns-then-levels-eq0 : goal.returns-then-levels-eq0
returns-then-levels-eq0 t c =
    none_below c.args.new.now c.args.levels 0 c.args.first c.first_among-greedy.result c.first_among-here.result c.args.place c.in-Some.node.now (segments_seen c.args.segments.now) (segments_seen c.args.segments.now)
    (record {
      node_is = rw c.deref.ensures.value at c.in-Some.ensures;
      greedy_is = rw c.deref-2.ensures.value at c.first_among-greedy.ensures;
      here_is = rw c.deref-3.ensures.value at c.first_among-here.ensures;
    }) c.if-levels-eq0.true

pub returns-in-Some-first_literal : goal.returns-in-Some-first_literal
returns-in-Some-first_literal t c =
    let less : c.args.levels ≡ suc (c.args.levels - 1) = omega (arith, c.if-levels-eq0.false) in
    literal_below c.args.new.now c.args.levels (c.args.levels - 1) c.args.first c.first_among-greedy.result c.first_among-here.result c.args.place c.in-Some.node.now (segments_seen c.args.segments.now) (segments_seen c.behind-rest.result.now)
    c.first_below-found.result
    (record {
      node_is = rw c.deref.ensures.value at c.in-Some.ensures;
      greedy_is = rw c.deref-2.ensures.value at c.first_among-greedy.ensures;
      here_is = rw c.deref-3.ensures.value at c.first_among-here.ensures;
    }) less c.behind-rest.ensures c.first_below-found.ensures c.in-Some-first_literal.text.now c.literal_child.result c.first_below.result c.in-Some-first_literal.ensures c.literal_child.ensures c.first_below.ensures

pub loop-child-init : goal.loop-child-init
loop-child-init t c =
    let less : c.args.levels ≡ suc (c.args.levels - 1) = omega (arith, c.if-levels-eq0.false) in
    any_below c.args.new.now c.args.levels (c.args.levels - 1) c.args.first c.first_among-greedy.result c.first_among-here.result c.args.place c.in-Some.node.now (segments_seen c.args.segments.now) (segments_seen c.behind-rest.result.now)
    c.first_below-found.result
    (record {
      node_is = rw c.deref.ensures.value at c.in-Some.ensures;
      greedy_is = rw c.deref-2.ensures.value at c.first_among-greedy.ensures;
      here_is = rw c.deref-3.ensures.value at c.first_among-here.ensures;
    }) less c.behind-rest.ensures c.first_below-found.ensures _ c.in_default-first_literal.ensures (c.into_iter-child-iterator.ensures.into_iter_gives ∙ c.values-child-items.ensures.rest)

pub loop-child-preserved : goal.loop-child-preserved
loop-child-preserved t c =
    child_more c.args.new.now _ c.loop-child.found _ c.in-Some-child.child.now _ _ _ c.in-Some-child.ensures.steps c.first_below-found-in-loop-child.ensures c.loop-child.invariant
