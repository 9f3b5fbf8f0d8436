use Rattle.std.proofs.Common.{map}
use Rattle.std.specs.Prelude.{option_map}
use Rattle.smithy_json.specs.views.JsonView.{view}
use Rattle.smithy_model.specs.views.ModelView.{shapes_view}
use Rattle.smithy_job.proofs.RoutingLemmas.{all_by_shapes}
use Rattle.smithy_job.proofs.named_operations.named_in.Goals as goal

pub returns : goal.returns
returns c = all_by_shapes (view c.args.model.now) (option_map shapes_view c.shapes_of.result) (map view c.args.names.now) c.shapes_of.ensures
