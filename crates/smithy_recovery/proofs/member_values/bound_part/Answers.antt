use Rattle.std.proofs.Common.{sym, ap, ◌∙◌}
use Rattle.smithy_schema.specs.References.{schema_of}
use Rattle.smithy_schema.specs.ShownBindings.{binding_shown}
use Rattle.smithy_recovery.proofs.MembersKept.{prefix_nodes, query_nodes, header_kept, prefix_kept, query_kept, query_map_kept, label_kept, payload_kept_there, unbound_kept}
use Rattle.smithy_recovery.proofs.member_values.bound_part.Goals as goal

pub prefix_part-requires : goal.prefix_part-requires
prefix_part-requires g c = prefix_nodes (schema_of c.args.member) c.in-Prefix.prefix.now c.requires.sound (sym c.request_binding.ensures ∙ ap binding_shown c.in-Prefix.is)

pub query_map_member-requires : goal.query_map_member-requires
query_map_member-requires g c = query_nodes (schema_of c.args.member) c.requires.sound (sym c.request_binding.ensures ∙ ap binding_shown c.in-QueryMap.is)

pub returns-in-Header : goal.returns-in-Header
returns-in-Header g c =
    header_kept (g.C.Codec.holds c.args.codec.now) c.args.cut.now (schema_of c.args.member) c.in-Header.name.now c.headers-headers.result.now c.header_part.result (sym c.request_binding.ensures ∙ ap binding_shown c.in-Header.is) c.headers-headers.ensures c.header_part.ensures

pub returns-in-Prefix : goal.returns-in-Prefix
returns-in-Prefix g c =
    prefix_kept (g.C.Codec.holds c.args.codec.now) c.args.cut.now (schema_of c.args.member) c.in-Prefix.prefix.now c.headers-headers.result.now c.prefix_part.result (sym c.request_binding.ensures ∙ ap binding_shown c.in-Prefix.is) c.headers-headers.ensures c.prefix_part.ensures

pub returns-in-Query : goal.returns-in-Query
returns-in-Query g c =
    query_kept (g.C.Codec.holds c.args.codec.now) c.args.cut.now (schema_of c.args.member) c.in-Query.name.now c.query_member.result (sym c.request_binding.ensures ∙ ap binding_shown c.in-Query.is) c.query_member.ensures

pub returns-in-QueryMap : goal.returns-in-QueryMap
returns-in-QueryMap g c =
    query_map_kept (g.C.Codec.holds c.args.codec.now) c.args.cut.now (schema_of c.args.member) c.query_map_member.result (sym c.request_binding.ensures ∙ ap binding_shown c.in-QueryMap.is) c.query_map_member.ensures

pub returns-in-Label : goal.returns-in-Label
returns-in-Label g c =
    label_kept (g.C.Codec.holds c.args.codec.now) c.args.cut.now (schema_of c.args.member) c.label_part.result (sym c.request_binding.ensures ∙ ap binding_shown c.in-Label.is) c.label_part.ensures

pub returns-in-Payload : goal.returns-in-Payload
returns-in-Payload g c =
    payload_kept_there (g.C.Codec.holds c.args.codec.now) c.args.cut.now (schema_of c.args.member) c.args.cut.now.table.now c.as_slice.result.now c.payload_part.result (sym c.request_binding.ensures ∙ ap binding_shown c.in-Payload.is) c.requires.table (c.as_slice.ensures ∙ c.body.ensures) c.payload_part.ensures

pub returns-in-Body : goal.returns-in-Body
returns-in-Body g c =
    unbound_kept (g.C.Codec.holds c.args.codec.now) c.args.cut.now (schema_of c.args.member) (sym c.request_binding.ensures ∙ ap binding_shown c.in-Body.is)
