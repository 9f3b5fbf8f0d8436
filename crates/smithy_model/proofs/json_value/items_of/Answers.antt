use Rattle.smithy_model.proofs.Views.{items_in_view}
use Rattle.smithy_model.proofs.json_value.items_of.Goals as goal

pub returns : goal.returns
returns c = items_in_view _ _ c.as_array.ensures
