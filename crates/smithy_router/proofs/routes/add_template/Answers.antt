use Rattle.smithy_router.proofs.Common.{rules, route_seen, route_of, entries_of}
use Rattle.smithy_router.proofs.Adding.{adds_none, adds_route}
use Rattle.smithy_router.proofs.Parsed.{route_is}
use Rattle.smithy_router.proofs.routes.add_template.Goals as goal

pub returns-in_err-route-clause-outcome : goal.returns-in_err-route-clause-outcome
returns-in_err-route-clause-outcome c =
    adds_none route_seen (entries_of c.args.tree.now) (route_of c.args.method.now c.args.template.now) c.args.operation.now
    c.in_err-route.field-0.0 c.from_residual.result (search rules) c.in_err-route.ensures

pub add_route-requires-clause-route : goal.add_route-requires-clause-route
add_route-requires-clause-route c = route_is c.args.method.now c.args.template.now (route_seen c.in_ok-route.route) c.in_ok-route.ensures

pub returns-clause-outcome : goal.returns-clause-outcome
returns-clause-outcome c =
    adds_route (entries_of c.args.tree.now) (entries_of c.add_route.new.tree) (route_of c.args.method.now c.args.template.now) (route_seen c.in_ok-route.route)
    c.args.operation.now c.add_route.result c.in_ok-route.ensures c.add_route.ensures.outcome
