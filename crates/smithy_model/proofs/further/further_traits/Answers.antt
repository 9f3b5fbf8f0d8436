use Rattle.std.proofs.Common.{ap, ◌∙◌}
use Rattle.smithy_model.specs.Further.{unless_none}
use Rattle.smithy_model.proofs.FurtherLemmas.{of_object, none_of, some_of}
use Rattle.smithy_model.proofs.further.further_traits.Goals as goal

pub returns-then-is_empty : goal.returns-then-is_empty
returns-then-is_empty c = none_of c.in_ok-found.found c.if-is_empty.ensures ∙ ap unless_none c.in_ok-found.ensures ∙ of_object _ _ c.in-Some.ensures

pub returns-else-is_empty : goal.returns-else-is_empty
returns-else-is_empty c = some_of c.in_ok-found.found c.if-is_empty.ensures ∙ ap unless_none c.in_ok-found.ensures ∙ of_object _ _ c.in-Some.ensures
