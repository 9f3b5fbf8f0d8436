use Rattle.smithy_wire.proofs.Common.{◌≡◌, sym, ap, ◌∙◌, length, arith}
use Rattle.std.proofs.lemmas.List.{length-map}
use Rattle.smithy_schema.specs.References.{schema_of}
use Rattle.smithy_wire.specs.WireNames.{field_names}
use Rattle.smithy_wire.specs.views.ShownNames.{texts_shown}
use Rattle.smithy_wire.proofs.MemberLemmas.{names_pushed, names_end}
use Rattle.smithy_wire.proofs.standing.field_names.Goals as goal

pub loop-position-preserved : goal.loop-position-preserved
loop-position-preserved c =
    let s = schema_of c.args.schema in
    names_pushed c.args.side (texts_shown c.loop-position.names.items) (texts_shown c.push_names_at.new.names.items) s c.loop-position.position (field_names c.args.side s) c.in_ok-push_names_at.ensures c.loop-position.invariant

pub returns : goal.returns
returns c =
    let s = schema_of c.args.schema in
    let same : length c.members-position-end.result.now ≡ length s.node.members = sym (length-map c.members-position-end.result.now _) ∙ ap length c.members-position-end.ensures.places in
    names_end c.args.side (texts_shown c.loop-position.names.items) s c.loop-position.position (field_names c.args.side s) (omega (arith, same, c.loop-position-test.false)) c.loop-position.invariant
