use Rattle.smithy_wire.proofs.Common.{◌≡◌, sym, ap, ◌∙◌, ◌+◌, ◌&&◌, length, arith}
use Rattle.std.proofs.lemmas.List.{length-map}
use Rattle.std.specs.List.{list_all}
use Rattle.smithy_schema.specs.References.{schema_of}
use Rattle.smithy_wire.specs.views.FieldNames.{is_own}
use Rattle.smithy_wire.specs.views.MemberSteps.{members_from}
use Rattle.smithy_wire.proofs.FieldLemmas.{own_from-more, own_from-end}
use Rattle.smithy_wire.proofs.node_names.are_own.Goals as goal

pub returns-then-not-is_own_at : goal.returns-then-not-is_own_at
returns-then-not-is_own_at c =
    let s = schema_of c.args.schema in
    let i = c.loop-position.position in
    ap (λ b. b && list_all is_own (members_from s (i + 1))) (sym c.if-not-is_own_at.true ∙ c.is_own_at.ensures)
    ∙ sym (own_from-more s i) ∙ c.loop-position.invariant

pub loop-position-preserved : goal.loop-position-preserved
loop-position-preserved c =
    let s = schema_of c.args.schema in
    let i = c.loop-position.position in
    ap (λ b. b && list_all is_own (members_from s (i + 1))) (sym c.if-not-is_own_at.false ∙ c.is_own_at.ensures)
    ∙ sym (own_from-more s i) ∙ c.loop-position.invariant

pub returns : goal.returns
returns c =
    let s = schema_of c.args.schema in
    let i = c.loop-position.position in
    let same : length c.members-position-end.result.now ≡ length s.node.members = sym (length-map c.members-position-end.result.now _) ∙ ap length c.members-position-end.ensures.places in
    sym (own_from-end s i (omega (arith, same, c.loop-position-test.false))) ∙ c.loop-position.invariant
