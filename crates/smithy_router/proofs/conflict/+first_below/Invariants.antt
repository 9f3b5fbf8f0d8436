use Rattle.smithy_router.proofs.Common.{◌≡◌, ◌-◌, map, Some, segment_seen}
use Rattle.smithy_router.specs.Conflicting.{first_among, from_each, met}
use Rattle.smithy_router.proofs.conflict.+first_below.Given as goal

abbrev pub decreases-first_below : goal.decreases-first_below
decreases-first_below l = l.levels

abbrev pub invariant-loop-child : goal.invariant-loop-child
invariant-loop-child l =
    first_among l.new l.found (from_each (λ p. met l.new.tree.now.nodes.items (l.levels - 1) p (map segment_seen l.rest)) (map Some l.child-iterator))
    ≡ first_among l.new l.fn.first (met l.new.tree.now.nodes.items l.fn.levels l.fn.place (map segment_seen l.fn.segments))
