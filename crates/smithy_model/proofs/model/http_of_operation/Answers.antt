use Rattle.std.proofs.Common.{refl, Some}
use Rattle.smithy_json.specs.views.JsonView.{view}
use Rattle.smithy_model.specs.Models.{http_in_model}
use Rattle.smithy_model.proofs.NoShapes.{nothing_asked}
use Rattle.smithy_model.proofs.model.http_of_operation.Goals as goal

pub returns-in_default-of : goal.returns-in_default-of
unfolding http_in_model
returns-in_default-of c = nothing_asked (λ shapes o. Some o.http) (view c.args.model.now) c.args.name.now (view c.in-Some.object.now) c.in-Some.ensures (c.in_default-of.ensures.none refl)
