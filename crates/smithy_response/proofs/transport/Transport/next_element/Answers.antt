use Rattle.smithy_response.proofs.Common.{refl, sym, ap, subst, Ok, [], NextElement, in_header, settled_at, header_at_hand, member_at_hand}
use Rattle.smithy_response.proofs.Containers.{bound_prefix, prefix_below}
use Rattle.smithy_response.proofs.transport.Transport.next_element.Goals as goal

pub returns-in-Header-clause-next : goal.returns-in-Header-clause-next
returns-in-Header-clause-next c =
    subst (λ m. NextElement (member_at_hand c.args.self.now.response m) (header_at_hand c.args.self.now.response [] c.next_element.new.self) (Ok c.next_element.result)) (sym c.in-Header.is)
    (c.next_element.ensures.next c.args.self.now.response [])

pub returns-in-Header-clause-same : goal.returns-in-Header-clause-same
returns-in-Header-clause-same c = rw c.in-Header.is (record {
  response = record { response = refl; is_error = refl; policy = refl };
  place = refl;
  settled = ap (λ n e. settled_at (in_header n) c.args.self.now.policy c.args.self.now.response c.in-Header.field-0 e) c.next_element.ensures.name;
})

pub returns-in-Prefix-default-default-Some-clause-next : goal.returns-in-Prefix-default-default-Some-clause-next
returns-in-Prefix-default-default-Some-clause-next c =
    let p = c.in-Prefix-default-default-Some in
    let below = prefix_below c.args.self.now.response p.field-1 p.map in
    subst (λ m. NextElement (member_at_hand c.args.self.now.response m) (header_at_hand c.args.self.now.response below c.next_element-in-Prefix-default-default-Some.new.self) (Ok c.next_element-in-Prefix-default-default-Some.result))
    (sym (bound_prefix c.args.self.now.member p.field-0 p.field-1 p.field-2 p.map p.is p.field-2-is)) (c.next_element-in-Prefix-default-default-Some.ensures.next c.args.self.now.response below)
