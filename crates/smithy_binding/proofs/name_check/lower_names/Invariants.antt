use Rattle.smithy_binding.proofs.Common.{◌≡◌, ◌++◌, drop, map, string_bytes, texts_shown, lower_names}
use Rattle.smithy_binding.proofs.name_check.lower_names.Given as goal

abbrev pub invariant-loop-name : goal.invariant-loop-name
invariant-loop-name l = map string_bytes l.lower.items ++ lower_names (texts_shown (drop l.name-index l.names)) ≡ lower_names (texts_shown l.names)
