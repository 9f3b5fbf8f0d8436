use Rattle.smithy_wire.proofs.Common.{◌≡◌, sym, ap, ◌∙◌, ◌+◌, length, arith}
use Rattle.std.proofs.lemmas.List.{length-map}
use Rattle.std.specs.Option.{option_or}
use Rattle.smithy_schema.specs.References.{schema_of}
use Rattle.smithy_wire.specs.views.MemberSteps.{json_from}
use Rattle.smithy_wire.proofs.MemberLemmas.{json_from-more, json_from-end}
use Rattle.smithy_wire.proofs.names.field_in_json.Goals as goal

pub returns-in-Some : goal.returns-in-Some
returns-in-Some c =
    let s = schema_of c.args.schema in
    let i = c.loop-position.position in
    ap (λ o. option_or o (json_from c.args.side c.args.name.now s (i + 1))) c.in-Some.ensures
    ∙ sym (json_from-more c.args.side c.args.name.now s i) ∙ c.loop-position.invariant

pub loop-position-preserved : goal.loop-position-preserved
loop-position-preserved c =
    let s = schema_of c.args.schema in
    let i = c.loop-position.position in
    ap (λ o. option_or o (json_from c.args.side c.args.name.now s (i + 1))) c.in_default.ensures
    ∙ sym (json_from-more c.args.side c.args.name.now s i) ∙ c.loop-position.invariant

pub returns : goal.returns
returns c =
    let s = schema_of c.args.schema in
    let i = c.loop-position.position in
    let same : length c.members-position-end.result.now ≡ length s.node.members = sym (length-map c.members-position-end.result.now _) ∙ ap length c.members-position-end.ensures.places in
    sym (json_from-end c.args.side c.args.name.now s i (omega (arith, same, c.loop-position-test.false))) ∙ c.loop-position.invariant
