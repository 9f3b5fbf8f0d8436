use Rattle.smithy_binding.proofs.Common.{◌≡◌, ◌++◌, map}
use Rattle.smithy_binding.specs.Pointing.{in_lower_case}
use Rattle.smithy_binding.proofs.endpoint.append_all.Given as goal

abbrev pub invariant-loop-name : goal.invariant-loop-name
invariant-loop-name l = l.headers ++ map in_lower_case l.name-iterator ≡ l.initial.headers ++ map in_lower_case l.others
