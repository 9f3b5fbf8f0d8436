use Rattle.smithy_wire.proofs.Common.{◌≡◌, sym, ap, ◌∙◌, ◌+◌, length, arith}
use Rattle.std.proofs.lemmas.List.{length-map}
use Rattle.std.specs.Option.{option_or}
use Rattle.smithy_schema.specs.References.{schema_of}
use Rattle.smithy_aws.proofs.PayloadSteps.{payload_from, payload_from-more, payload_from-end}
use Rattle.smithy_aws.proofs.payload.payload_of.Goals as goal

pub returns-in-Some : goal.returns-in-Some
returns-in-Some c =
    let s = schema_of c.args.schema in
    let i = c.loop-position.position in
    ap (λ o. option_or o (payload_from s (i + 1))) c.in-Some.ensures
    ∙ sym (payload_from-more s i) ∙ c.loop-position.invariant

pub loop-position-preserved : goal.loop-position-preserved
loop-position-preserved c =
    let s = schema_of c.args.schema in
    let i = c.loop-position.position in
    ap (λ o. option_or o (payload_from s (i + 1))) c.in_default.ensures
    ∙ sym (payload_from-more s i) ∙ c.loop-position.invariant

pub returns : goal.returns
returns c =
    let s = schema_of c.args.schema in
    let i = c.loop-position.position in
    let same : length c.members-position-end.result.now ≡ length s.node.members = sym (length-map c.members-position-end.result.now _) ∙ ap length c.members-position-end.ensures.places in
    sym (payload_from-end s i (omega (arith, same, c.loop-position-test.false))) ∙ c.loop-position.invariant
