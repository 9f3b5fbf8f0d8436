use Rattle.std.proofs.Common.{rules, refl, ◌∙◌}
use Rattle.smithy_gateway.specs.Words.{members_of, list_of, protocol_of, Reading, recovered}
use Rattle.smithy_gateway.specs.Gateway.{posts_writes}
use Rattle.smithy_gateway.specs.views.Sending.{reading_at}
use Rattle.smithy_gateway.proofs.CallExact.{form_by}
use Rattle.smithy_gateway.proofs.calls.posted_form.Goals as goal
use Rattle.smithy_recovery.proofs.Refused.{refused, test_refused}

pub returns-in_err-sent : goal.returns-in_err-sent
returns-in_err-sent g c = refused (λ x. x) (λ v. list_of (members_of v)) _ _ c.in_err-sent.field-0.0 c.from_residual.result (search rules) (λ none. rw none refl) c.in_err-sent.ensures

pub returns-in_err-input : goal.returns-in_err-input
returns-in_err-input g c =
    let r : Reading = reading_at g.C.Codec.text g.C.Codec.holds c.args.rest.now c.args.at in
    refused (λ v. list_of (members_of v)) (λ v. list_of (members_of v)) (recovered r c.args.at.omit c.in_ok-sent.sent) _ c.in_err-input.field-0.0 c.from_residual-in_err-input.result (search rules)
    (λ none. rw (c.in_ok-sent.ensures, none) refl) (c.in_err-input.ensures.value r.schema c.requires.set.node)

pub returns-in_err-is_posted : goal.returns-in_err-is_posted
returns-in_err-is_posted g c =
    let r : Reading = reading_at g.C.Codec.text g.C.Codec.holds c.args.rest.now c.args.at in
    test_refused (λ v. list_of (members_of v)) (posts_writes (protocol_of g.D.Codec.text c.args.rpc.now) (members_of c.in_ok-input.input) c.args.request.now) _ c.in_err-is_posted.field-0.0 c.from_residual-in_err-is_posted.result (search rules)
    (λ fails. form_by r c.args.at.omit _ c.args.request.now _ _ (members_of c.in_ok-input.input) _ c.in_ok-sent.ensures (c.in_ok-input.ensures.value r.schema c.requires.set.node) fails) c.in_err-is_posted.ensures

pub returns-then-not-branch : goal.returns-then-not-branch
returns-then-not-branch g c =
    form_by _ c.args.at.omit _ c.args.request.now _ _ (members_of c.in_ok-input.input) _ c.in_ok-sent.ensures (c.in_ok-input.ensures.value _ c.requires.set.node) (c.in_ok-is_posted.ensures ∙ c.if-not-branch.true)

pub returns : goal.returns
returns g c =
    form_by _ c.args.at.omit _ c.args.request.now _ _ (members_of c.in_ok-input.input) _ c.in_ok-sent.ensures (c.in_ok-input.ensures.value _ c.requires.set.node) (c.in_ok-is_posted.ensures ∙ c.if-not-branch.false)
