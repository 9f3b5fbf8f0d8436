use Rattle.smithy_binding.proofs.Common.{◌≡◌}
use Rattle.smithy_binding.specs.Pointing.{without_all}
use Rattle.smithy_binding.proofs.endpoint.remove_all.Given as goal

abbrev pub invariant-loop-name : goal.invariant-loop-name
invariant-loop-name l = without_all l.name-iterator l.headers ≡ without_all l.others l.initial.headers
