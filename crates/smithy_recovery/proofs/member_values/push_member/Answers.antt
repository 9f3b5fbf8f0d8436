use Rattle.std.proofs.Common.{rules, sym, ap, ◌∙◌, true}
use Rattle.std.specs.Option.{option_map_or}
use Rattle.smithy_schema.specs.References.{schema_of}
use Rattle.smithy_binding.specs.Checked.{has_map_kind}
use Rattle.smithy_recovery.proofs.MembersKept.{placed_there, part_added, no_member_added, part_stops, memory_adds}
use Rattle.smithy_recovery.proofs.member_values.push_member.Goals as goal
use Rattle.smithy_serde.proofs.ReadValue.{at_place_table}

pub returns-in_default : goal.returns-in_default
returns-in_default g c = no_member_added (g.C.Codec.holds c.args.codec.now) c.args.cut.now c.args.place.0 c.args.writes.now _ (sym c.in_default.ensures.node)

pub bound_part-requires : goal.bound_part-requires
bound_part-requires g c =
    let t = c.args.cut.now.table.now in
    let m = schema_of c.in-Some.member in
    let at = sym c.in-Some.ensures.node in
    record {
      sound = ap (λ o. option_map_or has_map_kind o true) (sym at) ∙ c.requires;
      placed = placed_there t c.args.place.0 m at;
      table = at_place_table t c.args.place.0 m at;
    }

pub returns-in_err-part : goal.returns-in_err-part
returns-in_err-part g c =
    part_stops (g.C.Codec.holds c.args.codec.now) c.args.cut.now c.args.place.0 (schema_of c.in-Some.member) c.args.writes.now c.args.writes.now c.in_err-part.field-0.0 c.from_residual.result (sym c.in-Some.ensures.node) (search rules)
    c.in_err-part.ensures

pub returns-in_err-push_part : goal.returns-in_err-push_part
returns-in_err-push_part g c = memory_adds (g.C.Codec.holds c.args.codec.now) c.args.cut.now c.args.place.0 c.args.writes.now _ c.from_residual-in_err-push_part.result (search rules)

pub returns : goal.returns
returns g c =
    part_added (g.C.Codec.holds c.args.codec.now) c.args.cut.now c.args.place (schema_of c.in-Some.member) c.args.writes.now c.push_part.new.writes c.in_ok-part.part _ (sym c.in-Some.ensures.node) c.in_ok-push_part.ensures.writes
    c.in_ok-push_part.ensures.defined c.in_ok-part.ensures
