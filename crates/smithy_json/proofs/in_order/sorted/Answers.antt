use Rattle.std.proofs.Common.{◌≡◌, ◌∷◌, ap, ◌∙◌, rules}
use Rattle.smithy_json.specs.views.JsonView.{members_view}
use Rattle.smithy_json.proofs.OrderLemmas.{one_fed, entry_put}
use Rattle.smithy_json.proofs.in_order.sorted.Goals as goal

pub members-preserved : goal.members-preserved
members-preserved c =
    let next : c.members.name-iterator.rest.items ≡ (c.in-Some.name, c.in-Some.value) ∷ c.next.new.self.rest.items = search rules in
    one_fed (c.in-Some.name, c.in-Some.value) _ _ _ _ _ next (ap members_view c.in_ok-insert.ensures.entries ∙ entry_put _ (c.in-Some.name, c.in-Some.value)) c.members.invariant
