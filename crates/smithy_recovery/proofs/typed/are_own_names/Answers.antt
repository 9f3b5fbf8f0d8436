use Rattle.std.proofs.Common.{refl, sym, ◌∙◌, true, false}
use Rattle.smithy_serde.specs.StoredValues.{writes_in}
use Rattle.smithy_recovery.proofs.TypedSteps.{names-next, names-end}
use Rattle.smithy_recovery.proofs.typed.are_own_names.Goals as goal

pub loop-place-init : goal.loop-place-init
loop-place-init c = λ t. refl

pub loop-place-preserved : goal.loop-place-preserved
loop-place-preserved c = λ t.
    sym (names-next c.args.prefix.now (writes_in t c.args.entries.now) c.loop-place.place c.text_at-key.result.now false (c.len-place-end.ensures t) c.loop-place-test.true (c.text_at-key.ensures t)
    (sym c.in_ok-is_default_behind.ensures ∙ c.if-branch.false))
    ∙ c.loop-place.invariant t

pub returns-then-branch : goal.returns-then-branch
returns-then-branch c = λ t.
    sym (names-next c.args.prefix.now (writes_in t c.args.entries.now) c.loop-place.place c.text_at-key.result.now true (c.len-place-end.ensures t) c.loop-place-test.true (c.text_at-key.ensures t)
    (sym c.in_ok-is_default_behind.ensures ∙ c.if-branch.true))
    ∙ c.loop-place.invariant t

pub returns : goal.returns
returns c = λ t. sym (names-end c.args.prefix.now (writes_in t c.args.entries.now) c.loop-place.place (c.len-place-end.ensures t) c.loop-place-test.false) ∙ c.loop-place.invariant t
