use Rattle.std.proofs.Common.{rules}
use Rattle.smithy_schema.specs.References.{schema_of}
use Rattle.smithy_serde.specs.StructValues.{members_of}
use Rattle.smithy_serde.specs.Values.{list_of}
use Rattle.smithy_binding.specs.Answer.{place}
use Rattle.smithy_binding.specs.Protocols.{protocol_of}
use Rattle.smithy_recovery.proofs.Outcomes.{not_same}
use Rattle.smithy_recovery.proofs.recovering.is_placed_so.Goals as goal

pub returns-in_err-placed : goal.returns-in_err-placed
returns-in_err-placed g c =
    not_same c.in_err-placed.field-0.0 (place (protocol_of g.C.Codec.text c.args.protocol.now) (schema_of c.args.setting.schema) (list_of (members_of c.args.input.now)) c.args.setting.endpoint.now c.args.setting.omit) c.args.request.now
    c.from_residual.result (search rules) c.in_err-placed.ensures
