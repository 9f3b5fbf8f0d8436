use Rattle.std.proofs.Common.{ap}
use Rattle.std.specs.Result.{result_ok}
use Rattle.smithy_schema.specs.References.{schema_of}
use Rattle.smithy_serde.specs.StructValues.{members_of}
use Rattle.smithy_serde.specs.Values.{list_of}
use Rattle.smithy_binding.specs.Answer.{answer}
use Rattle.smithy_binding.specs.Protocols.{protocol_of}
use Rattle.smithy_recovery.proofs.Outcomes.{not_placed}
use Rattle.smithy_recovery.proofs.recovering.placed.Goals as goal

pub returns-in-Ok : goal.returns-in-Ok
returns-in-Ok g c = ap result_ok c.in-Ok.ensures

pub returns-in-Err : goal.returns-in-Err
returns-in-Err g c =
    rw c.from.ensures
    (not_placed c.in-Err.error (answer (protocol_of g.C.Codec.text c.args.protocol.now) (schema_of c.args.setting.schema) (list_of (members_of c.args.input.now)) c.args.setting.endpoint.now c.args.setting.omit) c.in-Err.ensures)
