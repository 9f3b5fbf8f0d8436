use Rattle.smithy_response.proofs.Common.{arith, sym, ◌∙◌, subst, err_from_is_err_and, member_at, schema_of, source_of, IsTakenAt}
use Rattle.smithy_response.proofs.Members.{here, nowhere}
use Rattle.smithy_response.proofs.Passing.{passes_hole, passes_member, passes_unbound, passes_body, hands_body, hands_member, refuses_member, to_bound, ends_unbound}
use Rattle.smithy_response.proofs.transport.Transport.next.Goals as goal

pub returns-in_err-taken-clause-turn : goal.returns-in_err-taken-clause-turn
returns-in_err-taken-clause-turn c =
    let p = err_from_is_err_and c.from_residual.result c.from_residual.ensures.1 in
    rw (p.1, p.2) (refuses_member (schema_of c.args.schema) c.args.is_given c.args.self.now (record c.loop-position.self { place = c.in-Some.position })
    (to_bound (schema_of c.args.schema) c.args.is_given c.args.self.now c.loop-position.self c.in-Some.position c.loop-position.invariant c.in-Some.ensures.next) c.in-Some.ensures.next.1
    (schema_of c.in-Some-member_schema_by_index.member)
    (here c.member_schema_by_index.result (member_at (schema_of c.args.schema) c.in-Some.position) c.in-Some-member_schema_by_index.member c.member_schema_by_index.ensures.node c.in-Some-member_schema_by_index.is) _ c.in_err-taken.ensures)

pub loop-position-preserved-then-not-has_http_response_binding : goal.loop-position-preserved-then-not-has_http_response_binding
loop-position-preserved-then-not-has_http_response_binding c =
    passes_unbound (schema_of c.args.schema) c.args.is_given c.args.self.now (record c.loop-position.self { place = c.in-Some.position })
    (to_bound (schema_of c.args.schema) c.args.is_given c.args.self.now c.loop-position.self c.in-Some.position c.loop-position.invariant c.in-Some.ensures.next) c.in-Some.ensures.next.1
    (schema_of c.in-Some-member_schema_by_index.member)
    (here c.member_schema_by_index.result (member_at (schema_of c.args.schema) c.in-Some.position) c.in-Some-member_schema_by_index.member c.member_schema_by_index.ensures.node c.in-Some-member_schema_by_index.is)
    (sym c.has_http_response_binding.ensures ∙ c.if-not-has_http_response_binding.true)

pub loop-position-preserved-in-Nothing : goal.loop-position-preserved-in-Nothing
loop-position-preserved-in-Nothing c =
    passes_member (schema_of c.args.schema) c.args.is_given c.args.self.now (record c.loop-position.self { place = c.in-Some.position })
    (to_bound (schema_of c.args.schema) c.args.is_given c.args.self.now c.loop-position.self c.in-Some.position c.loop-position.invariant c.in-Some.ensures.next) c.in-Some.ensures.next.1
    (schema_of c.in-Some-member_schema_by_index.member)
    (here c.member_schema_by_index.result (member_at (schema_of c.args.schema) c.in-Some.position) c.in-Some-member_schema_by_index.member c.member_schema_by_index.ensures.node c.in-Some-member_schema_by_index.is)
    (subst (λ b. IsTakenAt c.loop-position.self.response (source_of (schema_of c.in-Some-member_schema_by_index.member)) (schema_of c.in-Some-member_schema_by_index.member) b) c.in-Nothing.is c.in_ok-taken.ensures)

pub returns-then-not-is_given-clause-turn : goal.returns-then-not-is_given-clause-turn
returns-then-not-is_given-clause-turn c =
    hands_body (schema_of c.args.schema) c.args.is_given c.args.self.now (record c.loop-position.self { place = c.in-Some.position })
    (to_bound (schema_of c.args.schema) c.args.is_given c.args.self.now c.loop-position.self c.in-Some.position c.loop-position.invariant c.in-Some.ensures.next) c.in-Some.ensures.next.1
    (schema_of c.in-Some-member_schema_by_index.member)
    (here c.member_schema_by_index.result (member_at (schema_of c.args.schema) c.in-Some.position) c.in-Some-member_schema_by_index.member c.member_schema_by_index.ensures.node c.in-Some-member_schema_by_index.is) c.if-not-is_given.true
    (subst (λ b. IsTakenAt c.loop-position.self.response (source_of (schema_of c.in-Some-member_schema_by_index.member)) (schema_of c.in-Some-member_schema_by_index.member) b) c.in-Body.is c.in_ok-taken.ensures)

pub loop-position-preserved-else-not-is_given : goal.loop-position-preserved-else-not-is_given
loop-position-preserved-else-not-is_given c =
    passes_body (schema_of c.args.schema) c.args.is_given c.args.self.now (record c.loop-position.self { place = c.in-Some.position })
    (to_bound (schema_of c.args.schema) c.args.is_given c.args.self.now c.loop-position.self c.in-Some.position c.loop-position.invariant c.in-Some.ensures.next) c.in-Some.ensures.next.1
    (schema_of c.in-Some-member_schema_by_index.member)
    (here c.member_schema_by_index.result (member_at (schema_of c.args.schema) c.in-Some.position) c.in-Some-member_schema_by_index.member c.member_schema_by_index.ensures.node c.in-Some-member_schema_by_index.is) c.if-not-is_given.false
    (subst (λ b. IsTakenAt c.loop-position.self.response (source_of (schema_of c.in-Some-member_schema_by_index.member)) (schema_of c.in-Some-member_schema_by_index.member) b) c.in-Body.is c.in_ok-taken.ensures)

pub returns-in_default-2 : goal.returns-in_default-2
returns-in_default-2 c = record {
  turn =
      hands_member (schema_of c.args.schema) c.args.is_given c.args.self.now (record c.loop-position.self { place = c.in-Some.position })
      (to_bound (schema_of c.args.schema) c.args.is_given c.args.self.now c.loop-position.self c.in-Some.position c.loop-position.invariant c.in-Some.ensures.next) c.in-Some.ensures.next.1
      (schema_of c.in-Some-member_schema_by_index.member)
      (here c.member_schema_by_index.result (member_at (schema_of c.args.schema) c.in-Some.position) c.in-Some-member_schema_by_index.member c.member_schema_by_index.ensures.node c.in-Some-member_schema_by_index.is) c.in_ok-taken.taken c.in_default-2.not-Nothing c.in_default-2.not-Body c.in_ok-taken.ensures;
  same = record { response = c.loop-position.invariant.same.response; is_error = c.loop-position.invariant.same.is_error; policy = c.loop-position.invariant.same.policy };
  closed = c.in_ok-taken.ensures.closed;
}

pub loop-position-preserved : goal.loop-position-preserved
loop-position-preserved c =
    passes_hole (schema_of c.args.schema) c.args.is_given c.args.self.now (record c.loop-position.self { place = c.in-Some.position })
    (to_bound (schema_of c.args.schema) c.args.is_given c.args.self.now c.loop-position.self c.in-Some.position c.loop-position.invariant c.in-Some.ensures.next) c.in-Some.ensures.next.1
    (nowhere c.member_schema_by_index.result (member_at (schema_of c.args.schema) c.in-Some.position) c.member_schema_by_index.ensures.node c.in_default-member_schema_by_index.is)

pub returns-clause-turn : goal.returns-clause-turn
returns-clause-turn c = ends_unbound (schema_of c.args.schema) c.args.is_given c.args.self.now c.loop-position.self c.loop-position.invariant c.in_default.ensures.next

pub overflow_add-self : goal.overflow_add-self
overflow_add-self c = omega (arith, c.in-Some.ensures.fits)
