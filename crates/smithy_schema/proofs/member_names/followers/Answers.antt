use Rattle.std.proofs.Common.{sym, ◌∙◌}
use Rattle.std.proofs.lemmas.List.Elements.{All-replicate, All-set}
use Rattle.smithy_schema.specs.views.MemberNames.{IsOfName}
use Rattle.smithy_schema.proofs.FollowerLemmas.{values_of_names, head_of_names, left_of_names}
use Rattle.smithy_schema.proofs.member_names.followers.Goals as goal

pub loop-position-init : goal.loop-position-init
loop-position-init c =
    let named = values_of_names c.args.positions.now c.values.ensures.ordered in
    let first = head_of_names c.args.positions.now _ _ c.in-Some.first.now named (sym c.values.ensures.rest ∙ c.in-Some.ensures.steps) in
    record {
      put = rw (c.in_ok-followers.ensures.items_if_clones_equal (λ y same. same)) (All-replicate (IsOfName c.args.positions.now) _ _ first);
      left = rw (c.into_iter-position-iterator.ensures.into_iter_gives, c.values-position-items.ensures.rest) named;
    }

pub loop-position-preserved : goal.loop-position-preserved
loop-position-preserved c =
    let position = c.in-Some-position.position.now in
    let known = head_of_names c.args.positions.now _ _ position c.loop-position.invariant.left c.in-Some-position.ensures.steps in
    record {
      put = rw c.put_follower.ensures (All-set (IsOfName c.args.positions.now) c.loop-position.followers.items c.loop-position.last position known c.loop-position.invariant.put);
      left = left_of_names c.args.positions.now _ _ position c.loop-position.invariant.left c.in-Some-position.ensures.steps;
    }
