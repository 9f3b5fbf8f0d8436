use Rattle.std.proofs.Common.{refl}
use Rattle.smithy_json.proofs.OrderLemmas.{up_at_end, out_of_order}
use Rattle.smithy_json.proofs.OrderedPairs.{ordered_up, up_ordered}
use Rattle.smithy_json.proofs.in_order.are_ascending.Goals as goal

pub returns-then-ge : goal.returns-then-ge
returns-then-ge c = (
  λ no. absurd (cc no),
  λ ordered. out_of_order _ c.in-Some.name _ _ c.member-item.result c.in-Some.is c.names-test.true c.member-item.is c.if-ge.ensures (c.names.invariant.1 (up_ordered _ ordered)),
)

pub returns : goal.returns
returns c = (λ _. ordered_up _ (c.names.invariant.0 (up_at_end _ _ _ c.names-test.false)), λ _. refl)
