use Rattle.std.proofs.Common.{◌*◌, ◌<◌, [], ap, sym, ◌∙◌, arith}
use Rattle.smithy_serde.specs.StoredValues.{value_in, listed}
use Rattle.smithy_recovery.specs.Shallow.{value_nesting}
use Rattle.smithy_recovery.proofs.InRange.{all_writes, value_below, writes_more, writes_past, writes_end}
use Rattle.smithy_recovery.proofs.ranges.+in_range.Goals as goal

pub are_in_range-parts-init : goal.are_in_range-parts-init
are_in_range-parts-init n c = λ t.
    all_writes _ _ (ap (listed t) c.into_iter-part-iterator.ensures.into_iter_gives ∙ sym (c.iter-part-items.ensures.writes t))

pub are_in_range-is_in_range-requires : goal.are_in_range-is_in_range-requires
are_in_range-is_in_range-requires n c =
    let inside = value_below _ _ _ _ _ (ap (listed []) c.in-Some.ensures.steps) (c.parts.invariant []) in
    let below : 2 * value_nesting (value_in [] c.in-Some.part.now) < n = omega (arith, inside, c.decreases) in
    (below, tt)

pub are_in_range-parts-preserved : goal.are_in_range-parts-preserved
are_in_range-parts-preserved n c = λ t.
    writes_more _ _ _ _ _ (ap (listed t) c.in-Some.ensures.steps) (c.parts.invariant t) (sym (c.is_in_range.ensures t) ∙ c.if-not-is_in_range.false)

pub are_in_range-returns-then-not-is_in_range : goal.are_in_range-returns-then-not-is_in_range
are_in_range-returns-then-not-is_in_range n c = λ t.
    writes_past _ _ _ _ _ (ap (listed t) c.in-Some.ensures.steps) (c.parts.invariant t) (sym (c.is_in_range.ensures t) ∙ c.if-not-is_in_range.true)

pub are_in_range-returns : goal.are_in_range-returns
are_in_range-returns n c = λ t. writes_end _ _ (ap (listed t) c.in-None.ensures.steps.0) (c.parts.invariant t)
