use Rattle.smithy_wire.proofs.Common.{◌≡◌, sym, ap, ◌∙◌, length, arith}
use Rattle.std.proofs.lemmas.List.{length-map}
use Rattle.smithy_schema.specs.References.{schema_of}
use Rattle.smithy_wire.proofs.FieldLemmas.{adding-more, adding-end}
use Rattle.smithy_wire.proofs.node_names.positions_of.Goals as goal

pub loop-position-preserved : goal.loop-position-preserved
loop-position-preserved c =
    adding-more (schema_of c.args.schema) c.loop-position.position c.loop-position.positions c.add_member.new.positions c.in_ok-add_member.ensures c.loop-position.invariant

pub returns : goal.returns
returns c =
    let s = schema_of c.args.schema in
    let i = c.loop-position.position in
    let same : length c.members-position-end.result.now ≡ length s.node.members = sym (length-map c.members-position-end.result.now _) ∙ ap length c.members-position-end.ensures.places in
    adding-end s i c.loop-position.positions (omega (arith, same, c.loop-position-test.false)) c.loop-position.invariant
