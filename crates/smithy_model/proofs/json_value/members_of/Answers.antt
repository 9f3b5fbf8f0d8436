use Rattle.smithy_model.proofs.Views.{members_in_view}
use Rattle.smithy_model.proofs.json_value.members_of.Goals as goal

pub returns : goal.returns
returns c = members_in_view _ _ c.as_object.ensures
