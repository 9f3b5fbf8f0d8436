use Rattle.smithy_response.proofs.Common.{refl, sym, ap, subst, [], schema_of, status_refusal, raw_refusal, OpensAt, NotOpened, IsRefusal, in_header, settled_at, header_at_hand, member_at_hand}
use Rattle.smithy_response.proofs.Containers.{bound_prefix, prefix_below, status_not_opened, raw_not_opened}
use Rattle.smithy_response.proofs.transport.Transport.open.Goals as goal

pub returns-in-Header-clause-opens : goal.returns-in-Header-clause-opens
returns-in-Header-clause-opens c =
    subst (λ m. OpensAt c.args.group (schema_of c.args.schema) (member_at_hand c.args.self.now.response m) (header_at_hand c.args.self.now.response [] c.open.new.self) c.open.result) (sym c.in-Header.is)
    (c.open.ensures.opens [])

pub returns-in-Header-clause-same : goal.returns-in-Header-clause-same
returns-in-Header-clause-same c = rw c.in-Header.is (record {
  response = record { response = refl; is_error = refl; policy = refl };
  place = refl;
  settled = ap (λ n e. settled_at (in_header n) c.args.self.now.policy c.args.self.now.response c.in-Header.field-0 e) c.open.ensures.name;
})

pub returns-in-Prefix-default-default-Some-clause-opens : goal.returns-in-Prefix-default-default-Some-clause-opens
returns-in-Prefix-default-default-Some-clause-opens c =
    let p = c.in-Prefix-default-default-Some in
    let below = prefix_below c.args.self.now.response p.field-1 p.map in
    subst (λ m. OpensAt c.args.group (schema_of c.args.schema) (member_at_hand c.args.self.now.response m) (header_at_hand c.args.self.now.response below c.open-in-Prefix-default-default-Some.new.self) c.open-in-Prefix-default-default-Some.result)
    (sym (bound_prefix c.args.self.now.member p.field-0 p.field-1 p.field-2 p.map p.is p.field-2-is)) (c.open-in-Prefix-default-default-Some.ensures.opens below)

pub returns-in-Status-clause-opens : goal.returns-in-Status-clause-opens
returns-in-Status-clause-opens c =
    let refused = subst (λ k. IsRefusal (status_refusal k) c.status_refusal.result) c.opened_type.ensures c.status_refusal.ensures in
    subst (λ m. NotOpened c.args.group (schema_of c.args.schema) (member_at_hand c.args.self.now.response m) (member_at_hand c.args.self.now.response m) c.status_refusal.result) (sym c.in-Status.is)
    (status_not_opened c.args.self.now.response (schema_of c.args.schema) c.args.group c.status_refusal.result refused)

pub returns-in-Raw-clause-opens : goal.returns-in-Raw-clause-opens
returns-in-Raw-clause-opens c =
    let refused = subst (λ k. IsRefusal (raw_refusal k) c.raw_refusal.result) c.opened_type-in-Raw.ensures c.raw_refusal.ensures in
    subst (λ m. NotOpened c.args.group (schema_of c.args.schema) (member_at_hand c.args.self.now.response m) (member_at_hand c.args.self.now.response m) c.raw_refusal.result) (sym c.in-Raw.is)
    (raw_not_opened c.args.self.now.response (schema_of c.args.schema) c.args.group c.raw_refusal.result refused)
