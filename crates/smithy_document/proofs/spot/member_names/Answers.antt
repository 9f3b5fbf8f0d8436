use Rattle.smithy_document.proofs.Common.{◌++◌, ap, sym, ◌∙◌, append-nil}
use Rattle.std.specs.Map.{keys_of}
use Rattle.smithy_document.proofs.spot.member_names.Goals as goal

pub returns-clause-all : goal.returns-clause-all
returns-clause-all c = sym (c.members.invariant ∙ ap (λ rest. c.members.names.items ++ keys_of rest) c.in-None.ensures.steps.0 ∙ append-nil c.members.names.items)
