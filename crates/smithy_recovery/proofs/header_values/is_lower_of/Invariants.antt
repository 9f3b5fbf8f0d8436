use Rattle.std.proofs.Common.{◌≡◌, drop}
use Rattle.std.specs.Str.{str_to_ascii_lowercase}
use Rattle.smithy_types.specs.Texts.{same_text}
use Rattle.smithy_recovery.proofs.header_values.is_lower_of.Given as goal

abbrev pub invariant-loop-place : goal.invariant-loop-place
invariant-loop-place l =
    same_text (drop l.place l.lower-2) (str_to_ascii_lowercase (drop l.place l.name-2)) ≡ same_text l.lower-2 (str_to_ascii_lowercase l.name-2)
