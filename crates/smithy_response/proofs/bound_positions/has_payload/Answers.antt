use Rattle.smithy_response.proofs.Common.{sym, ◌∙◌, schema_of}
use Rattle.smithy_response.proofs.Payloads.{found_at, passed_at, to_bound, none_left}
use Rattle.smithy_response.proofs.bound_positions.has_payload.Goals as goal

pub returns-then-is_payload_at : goal.returns-then-is_payload_at
returns-then-is_payload_at c =
    let to = to_bound (schema_of c.args.schema) c.loop-position.from c.in-Some.position c.in-Some.ensures.next in
    sym (c.loop-position.invariant ∙ to ∙ found_at (schema_of c.args.schema) c.in-Some.position (sym c.is_payload_at.ensures ∙ c.if-is_payload_at.true))

pub loop-position-preserved : goal.loop-position-preserved
loop-position-preserved c =
    let to = to_bound (schema_of c.args.schema) c.loop-position.from c.in-Some.position c.in-Some.ensures.next in
    c.loop-position.invariant ∙ to ∙ passed_at (schema_of c.args.schema) c.in-Some.position (sym c.is_payload_at.ensures ∙ c.if-is_payload_at.false)

pub returns : goal.returns
returns c = sym (c.loop-position.invariant ∙ none_left (schema_of c.args.schema) c.loop-position.from c.in_default.ensures.next)
