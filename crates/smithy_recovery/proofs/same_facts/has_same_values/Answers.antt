use Rattle.std.proofs.Common.{map, ◌∙◌}
use Rattle.smithy_recovery.specs.views.NameOrder.{named_seen, same_pairs}
use Rattle.smithy_recovery.proofs.Ordered.{ordered_same}
use Rattle.smithy_recovery.proofs.same_facts.has_same_values.Goals as goal

pub returns : goal.returns
returns c =
    c.are_same.ensures ∙ (λ i. same_pairs (map named_seen (c.deref.ensures.value i)) (map named_seen (c.deref-2.ensures.value i)))
    ∙ ordered_same (map named_seen c.args.pairs.items) (map named_seen c.args.others.items) (map named_seen c.in_ok-pairs.pairs.items) (map named_seen c.in_ok-others.others.items) c.in_ok-pairs.ensures c.in_ok-others.ensures
