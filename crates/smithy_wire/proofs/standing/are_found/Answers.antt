use Rattle.smithy_wire.proofs.Common.{◌≡◌, sym, ap, ◌∙◌, ◌+◌, ◌&&◌, length, arith}
use Rattle.std.proofs.lemmas.List.{length-map}
use Rattle.std.specs.List.{list_all}
use Rattle.smithy_schema.specs.References.{schema_of}
use Rattle.smithy_wire.specs.WireNames.{is_found}
use Rattle.smithy_wire.specs.views.MemberSteps.{fields_from}
use Rattle.smithy_wire.proofs.MemberLemmas.{found_from-more, found_from-end}
use Rattle.smithy_wire.proofs.standing.are_found.Goals as goal

pub returns-then-not-is_found_at : goal.returns-then-not-is_found_at
returns-then-not-is_found_at c =
    let s = schema_of c.args.schema in
    let i = c.loop-position.position in
    ap (λ b. b && list_all (is_found c.args.side s) (fields_from c.args.side s (i + 1))) (sym c.if-not-is_found_at.true ∙ c.is_found_at.ensures)
    ∙ sym (found_from-more c.args.side s i) ∙ c.loop-position.invariant

pub loop-position-preserved : goal.loop-position-preserved
loop-position-preserved c =
    let s = schema_of c.args.schema in
    let i = c.loop-position.position in
    ap (λ b. b && list_all (is_found c.args.side s) (fields_from c.args.side s (i + 1))) (sym c.if-not-is_found_at.false ∙ c.is_found_at.ensures)
    ∙ sym (found_from-more c.args.side s i) ∙ c.loop-position.invariant

pub returns : goal.returns
returns c =
    let s = schema_of c.args.schema in
    let i = c.loop-position.position in
    let same : length c.members-position-end.result.now ≡ length s.node.members = sym (length-map c.members-position-end.result.now _) ∙ ap length c.members-position-end.ensures.places in
    sym (found_from-end c.args.side s i (omega (arith, same, c.loop-position-test.false))) ∙ c.loop-position.invariant
