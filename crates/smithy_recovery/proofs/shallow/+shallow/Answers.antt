use Rattle.std.proofs.Common.{◌*◌, ◌<◌, [], ap, sym, ◌∙◌, arith}
use Rattle.smithy_serde.specs.StoredValues.{value_in, listed}
use Rattle.smithy_recovery.specs.Shallow.{value_nesting, writes_nesting}
use Rattle.smithy_recovery.proofs.Nested.{all_left, part_below, left_more, left_past, left_none}
use Rattle.smithy_recovery.proofs.shallow.+shallow.Goals as goal

pub are_shallow-parts-init : goal.are_shallow-parts-init
are_shallow-parts-init n c = λ t.
    all_left _ _ _ (ap writes_nesting (ap (listed t) c.into_iter-part-iterator.ensures.into_iter_gives ∙ sym (c.iter-part-items.ensures.writes t)))

pub are_shallow-is_shallow-requires : goal.are_shallow-is_shallow-requires
are_shallow-is_shallow-requires n c =
    let inside = part_below _ _ _ _ _ (ap (λ ws. writes_nesting (listed [] ws)) c.in-Some.ensures.steps) (c.parts.invariant []) in
    let below : 2 * value_nesting (value_in [] c.in-Some.part.now) < n = omega (arith, inside, c.decreases) in
    (below, tt)

pub are_shallow-parts-preserved : goal.are_shallow-parts-preserved
are_shallow-parts-preserved n c = λ t.
    left_more _ _ _ _ _ (ap (λ ws. writes_nesting (listed t ws)) c.in-Some.ensures.steps) (c.parts.invariant t) (sym (c.is_shallow.ensures t) ∙ c.if-not-is_shallow.false)

pub are_shallow-returns-then-not-is_shallow : goal.are_shallow-returns-then-not-is_shallow
are_shallow-returns-then-not-is_shallow n c = λ t.
    left_past _ _ _ _ _ (ap (λ ws. writes_nesting (listed t ws)) c.in-Some.ensures.steps) (c.parts.invariant t) (sym (c.is_shallow.ensures t) ∙ c.if-not-is_shallow.true)

pub are_shallow-returns : goal.are_shallow-returns
are_shallow-returns n c = λ t. left_none _ _ _ (ap (λ ws. writes_nesting (listed t ws)) c.in-None.ensures.steps.0) (c.parts.invariant t)
