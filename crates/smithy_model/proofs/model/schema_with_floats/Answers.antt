use Rattle.std.proofs.Common.{refl}
use Rattle.smithy_json.specs.views.JsonView.{view}
use Rattle.smithy_model.specs.Models.{schema_in, schema_with_floats}
use Rattle.smithy_model.specs.views.ModelView.{asked_view}
use Rattle.smithy_model.proofs.NoShapes.{nothing_asked}
use Rattle.smithy_model.proofs.model.schema_with_floats.Goals as goal

pub returns-in_default-of : goal.returns-in_default-of
unfolding schema_with_floats
returns-in_default-of c =
    nothing_asked (schema_in c.args.floats (asked_view c.args.asked)) (view c.args.model.now) c.args.name.now (view c.in-Some.object.now) c.in-Some.ensures (c.in_default-of.ensures.none refl)
