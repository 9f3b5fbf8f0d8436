use Rattle.std.proofs.Common.{rules, ◌∙◌}
use Rattle.smithy_schema.specs.Places.{places_of}
use Rattle.smithy_schema.specs.References.{schema_of}
use Rattle.smithy_binding.specs.Checked.{has_map_kind}
use Rattle.smithy_recovery.proofs.MembersAdded.{cut_kept, body_stops, members_stop, memory_cut, sound_members}
use Rattle.smithy_recovery.proofs.member_values.cut_writes.Goals as goal

pub push_members-requires : goal.push_members-requires
push_members-requires g c = sound_members has_map_kind (schema_of c.args.schema) c.args.cut.now.table.now (places_of c.members.result.now) c.requires.table c.members.ensures.places c.requires.sound

pub returns-in_err-writes : goal.returns-in_err-writes
returns-in_err-writes g c =
    body_stops (g.C.Codec.holds c.args.codec.now) c.args.cut.now (schema_of c.args.schema) c.as_slice.result.now c.in_err-writes.field-0.0 c.from_residual.result (search rules) (c.as_slice.ensures ∙ c.body-body.ensures) c.in_err-writes.ensures

pub returns-in_err-push_members : goal.returns-in_err-push_members
returns-in_err-push_members g c =
    members_stop _ (g.C.Codec.holds c.args.codec.now) c.args.cut.now (schema_of c.args.schema) (places_of c.members.result.now) c.as_slice.result.now c.in_ok-writes.writes c.push_members.new.writes c.in_err-push_members.field-0.0 c.from_residual-in_err-push_members.result (search rules)
    c.requires.table c.members.ensures.places (c.as_slice.ensures ∙ c.body-body.ensures) c.in_ok-writes.ensures c.in_err-push_members.ensures

pub returns-in_err-in_index_order : goal.returns-in_err-in_index_order
returns-in_err-in_index_order g c = memory_cut (g.C.Codec.holds c.args.codec.now) c.args.cut.now (schema_of c.args.schema) c.from_residual-in_err-in_index_order.result (search rules)

pub returns : goal.returns
returns g c =
    cut_kept (g.C.Codec.holds c.args.codec.now) c.args.cut.now (schema_of c.args.schema) (places_of c.members.result.now) c.as_slice.result.now c.in_ok-writes.writes c.push_members.new.writes c.in_ok-in_index_order.field-0 _
    c.requires.table c.members.ensures.places (c.as_slice.ensures ∙ c.body-body.ensures) c.in_ok-writes.ensures c.in_ok-push_members.ensures c.in_ok-in_index_order.ensures.order c.in_ok-in_index_order.ensures.defined
