use Rattle.std.proofs.Common.{sym}
use Rattle.smithy_gateway.specs.Words.{schema_of, members_of, Reading, reading_by}
use Rattle.smithy_gateway.specs.Calls.{calling_by}
use Rattle.smithy_gateway.proofs.Sent.{posted_after, rpc_answered}
use Rattle.smithy_gateway.proofs.rpc_requests.to_rpc.Goals as goal
use Rattle.smithy_recovery.proofs.Decided.{IsSoundReading}

pub returns : goal.returns
returns g c =
    let s = schema_of c.in-Some.node in
    let at = sym c.in-Some.ensures.node in
    let r : Reading = reading_by g.C.Codec.text g.C.Codec.holds c.args.rest.now s c.args.endpoint.now in
    let sound : IsSoundReading r = record { checked = c.requires.checked s at; well_made = c.in-Some.ensures.well_made; lawful = g.met.C.Codec.tells c.args.rest.now.codec c.requires.lawful } in
    let told = posted_after r c.args.omit (calling_by g.D.Codec.text g.D.Codec.holds c.args.rpc.now) c.args.request.now sound (members_of c.in_ok-input.input) c.args.rpc_endpoint.now c.args.rpc_omit c.posted.result (c.in_ok-input.ensures.value s at) c.posted.ensures in
    let is = rpc_answered g.C.Codec.text g.C.Codec.holds g.D.Codec.text g.D.Codec.holds c.args.rest.now c.args.rpc.now c.args.table.now c.args.schema s c.args.endpoint.now c.args.omit c.args.request.now at sound c.args.rpc_endpoint.now c.args.rpc_omit c.requires.endpoint c.posted.result told in
    record { ok = is.0; target = is.1; headers = is.2; none = is.3 }
