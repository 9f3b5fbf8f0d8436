use Rattle.smithy_job.specs.RoutingView.{operation_seen}
use Rattle.smithy_bind.proofs.RoutedLemmas.{adds_by_http}
use Rattle.smithy_bind.proofs.routed.add_route.Goals as goal

pub returns : goal.returns
returns c =
    adds_by_http (operation_seen c.args.operation.now) c.http-http.result c.method.result.now c.uri.result.now c.args.routes.now c.add.new.self c.add.result
    c.http-http.ensures c.method.ensures c.uri.ensures c.add.ensures.outcome c.add.ensures.apart
