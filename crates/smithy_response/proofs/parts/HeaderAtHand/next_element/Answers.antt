use Rattle.smithy_response.proofs.Containers.{element_advanced, list_closed}
use Rattle.smithy_response.proofs.parts.HeaderAtHand.next_element.Goals as goal

pub returns-then-advance-clause-next : goal.returns-then-advance-clause-next
returns-then-advance-clause-next c = λ response below.
    rw c.in-Some.is (element_advanced response c.args.self.now.name below c.in-Some.list c.advance.new.self c.if-advance.ensures.items c.if-advance.ensures.place.0 c.if-advance.ensures.place.1)

pub returns-clause-next : goal.returns-clause-next
returns-clause-next c = λ response below. rw c.in-Some.is (list_closed response c.args.self.now.name below c.in-Some.list c.if-advance.ensures.place)
