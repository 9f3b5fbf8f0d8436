use Rattle.std.proofs.Common.{refl}
use Rattle.smithy_json.specs.views.JsonView.{view}
use Rattle.smithy_model.specs.Models.{errors_in, errors_with_floats}
use Rattle.smithy_model.specs.views.NameView.{texts}
use Rattle.smithy_model.proofs.NoShapes.{nothing_asked}
use Rattle.smithy_model.proofs.model.errors_with_floats.Goals as goal

pub returns-in_default-of : goal.returns-in_default-of
unfolding errors_with_floats
returns-in_default-of c =
    nothing_asked (errors_in c.args.floats (texts c.args.service.now)) (view c.args.model.now) c.args.name.now (view c.in-Some.object.now) c.in-Some.ensures (c.in_default-of.ensures.none refl)
