use Rattle.smithy_binding.proofs.Common.{◌≡◌, drop, list_all, texts_shown, is_sound_prefix_of}
use Rattle.smithy_binding.proofs.name_check.are_sound_prefixes.Given as goal

abbrev pub invariant-loop-prefix : goal.invariant-loop-prefix
invariant-loop-prefix l = list_all (is_sound_prefix_of (texts_shown l.headers)) (texts_shown (drop l.prefix-index l.prefixes)) ≡ list_all (is_sound_prefix_of (texts_shown l.headers)) (texts_shown l.prefixes)
