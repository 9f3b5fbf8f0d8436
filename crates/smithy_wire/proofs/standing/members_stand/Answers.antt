use Rattle.smithy_wire.proofs.Common.{◌≡◌, sym, ap, ◌∙◌, ◌+◌, ◌&&◌, length, arith}
use Rattle.std.proofs.lemmas.List.{length-map}
use Rattle.std.specs.List.{list_all}
use Rattle.smithy_schema.specs.References.{schema_of}
use Rattle.smithy_wire.specs.WireNames.{value_stands}
use Rattle.smithy_wire.specs.views.MemberSteps.{members_from}
use Rattle.smithy_wire.proofs.MemberLemmas.{all_from-more, all_from-end}
use Rattle.smithy_wire.proofs.standing.members_stand.Goals as goal

pub returns-then-not-branch : goal.returns-then-not-branch
returns-then-not-branch c =
    let s = schema_of c.args.schema in
    let i = c.loop-position.position in
    ap (λ b. b && list_all value_stands (members_from s (i + 1))) (sym c.if-not-branch.true ∙ c.in_ok-member_stands.ensures)
    ∙ sym (all_from-more value_stands s i) ∙ c.loop-position.invariant

pub loop-position-preserved : goal.loop-position-preserved
loop-position-preserved c =
    let s = schema_of c.args.schema in
    let i = c.loop-position.position in
    ap (λ b. b && list_all value_stands (members_from s (i + 1))) (sym c.if-not-branch.false ∙ c.in_ok-member_stands.ensures)
    ∙ sym (all_from-more value_stands s i) ∙ c.loop-position.invariant

pub returns : goal.returns
returns c =
    let s = schema_of c.args.schema in
    let i = c.loop-position.position in
    let same : length c.members-position-end.result.now ≡ length s.node.members = sym (length-map c.members-position-end.result.now _) ∙ ap length c.members-position-end.ensures.places in
    sym (all_from-end value_stands s i (omega (arith, same, c.loop-position-test.false))) ∙ c.loop-position.invariant
