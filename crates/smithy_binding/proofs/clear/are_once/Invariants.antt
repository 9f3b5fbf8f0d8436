use Rattle.smithy_binding.proofs.Common.{◌≡◌, drop, list_all, is_marked_once}
use Rattle.smithy_binding.proofs.clear.are_once.Given as goal

abbrev pub invariant-loop-name : goal.invariant-loop-name
invariant-loop-name l = list_all (λ name. is_marked_once l.once name.now) (drop l.name-index l.names) ≡ list_all (λ name. is_marked_once l.once name.now) l.names
