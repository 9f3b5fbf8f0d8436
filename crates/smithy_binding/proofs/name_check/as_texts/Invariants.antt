use Rattle.smithy_binding.proofs.Common.{◌≡◌, ◌++◌, drop, map, string_bytes, texts_shown}
use Rattle.smithy_binding.proofs.name_check.as_texts.Given as goal

abbrev pub invariant-loop-name : goal.invariant-loop-name
invariant-loop-name l = texts_shown l.texts.items ++ map string_bytes (drop l.name-index l.names) ≡ map string_bytes l.names
