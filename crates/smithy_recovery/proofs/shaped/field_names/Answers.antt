use Rattle.std.proofs.Common.{◌++◌, ap, ◌∙◌}
use Rattle.smithy_schema.specs.Places.{places_of}
use Rattle.smithy_schema.specs.References.{schema_of}
use Rattle.smithy_recovery.proofs.FieldNames.{shown, names_from, name_more, no_name_more, names_end, own_names}
use Rattle.smithy_recovery.proofs.shaped.field_names.Goals.{in-Some+in_ok-push, in_default}
use Rattle.smithy_recovery.proofs.shaped.field_names.Goals as goal

pub members-init : goal.members-init
members-init c = ap (λ names. shown names ++ names_from c.args.table.now (places_of c.members-places.result.now)) c.new-names.ensures.items

pub members-preserved : goal.members-preserved
members-preserved c =
    let t = c.args.table.now in
    let places = c.members-places.result.now in
    let i = c.members.place-index in
    elim c.match-name_at.branch [
      | in-Some+in_ok-push w ↦ rw w.names-is (name_more t places i c.members-test.true _ c.members.names.items c.members.invariant w.push.new.self.items w.in-Some.name w.in_ok-push.ensures.items w.in-Some.ensures)
      | in_default w ↦ rw w.names-is (no_name_more t places i c.members-test.true _ c.members.names.items c.members.invariant w.in_default.ensures)
    ]

pub returns : goal.returns
returns c =
    names_end c.args.table.now c.members-places.result.now c.members.place-index _ c.members.names.items c.members-test.false c.members.invariant
    ∙ own_names (schema_of c.args.node) (schema_of c.shape_of.result) c.args.table.now _ c.shape_of.ensures c.requires c.members-places.ensures.places
