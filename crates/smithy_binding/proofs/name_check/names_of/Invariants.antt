use Rattle.smithy_binding.proofs.Common.{◌≡◌, ◌++◌, drop, shown, names_under, texts_shown}
use Rattle.smithy_binding.proofs.name_check.names_of.Given as goal

abbrev pub invariant-loop-member : goal.invariant-loop-member
invariant-loop-member l = texts_shown l.names.items ++ names_under l.kind (shown (drop l.member-index l.members)) ≡ names_under l.kind (shown l.members)
