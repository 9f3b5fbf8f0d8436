use Rattle.std.proofs.Common.{subst}
use Rattle.std.proofs.lemmas.List.{drop_more, drop_all}
use Rattle.smithy_bind.proofs.CodedLemmas.{Registering, registering-begins, registering-more, registering-ends, next-stands}
use Rattle.smithy_bind.proofs.coded.registry_of.Goals as goal

pub loop-place-init : goal.loop-place-init
loop-place-init c = λ all stand. rw c.builder-builder.ensures (registering-begins c.args.table.now all c.args.places.now stand)

pub add_error-requires : goal.add_error-requires
add_error-requires c =
    let all = c.requires.0 in
    next-stands c.args.table.now all _ _ c.loop-place.builder
    (subst (λ left. Registering c.args.table.now all left c.loop-place.builder) (drop_more c.args.places.now c.loop-place.place-index _ c.loop-place-test.true) (c.loop-place.invariant all c.requires.1))

pub loop-place-preserved : goal.loop-place-preserved
loop-place-preserved c = λ all stand.
    registering-more c.args.table.now all _ _ c.loop-place.builder c.add_error.new.builder c.in_ok-add_error.ensures
    (subst (λ left. Registering c.args.table.now all left c.loop-place.builder) (drop_more c.args.places.now c.loop-place.place-index _ c.loop-place-test.true) (c.loop-place.invariant all stand))

pub returns : goal.returns
returns c = λ all stand. rw c.build.ensures
    (registering-ends c.args.table.now all c.loop-place.builder
    (subst (λ left. Registering c.args.table.now all left c.loop-place.builder) (drop_all c.loop-place.place-index c.args.places.now c.loop-place-test.false) (c.loop-place.invariant all stand)))
