use Rattle.std.proofs.Common.{refl, rules, sym}
use Rattle.smithy_json.specs.views.JsonView.{view}
use Rattle.smithy_job.proofs.GatewayLemmas.{gateway-so, gateway-refused}
use Rattle.smithy_job.proofs.gateway.read_gateway.Goals as goal

pub returns-in_err-recovering : goal.returns-in_err-recovering
returns-in_err-recovering c =
    gateway-refused (view c.args.job.now) c.in-Some.to c.in-Some-rpc_endpoint_of.rpc_endpoint.now (sym c.in-Some.ensures) (sym c.in-Some-rpc_endpoint_of.ensures.value)
    c.in_err-recovering.field-0.0 c.from_residual.result (search rules) c.in_err-recovering.ensures

pub returns : goal.returns
returns c =
    gateway-so (view c.args.job.now) c.in-Some.to c.in-Some-rpc_endpoint_of.rpc_endpoint.now (sym c.in-Some.ensures) (sym c.in-Some-rpc_endpoint_of.ensures.value) _ refl refl
    c.in-Some-rpc_endpoint_of.ensures.target c.in_ok-recovering.ensures
