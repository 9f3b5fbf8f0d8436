use Rattle.std.proofs.Common.{◌≡◌, take}
use Rattle.std.specs.Str.{str_to_ascii_lowercase}
use Rattle.smithy_http.proofs.pairs.is_in_lower_case.Given as goal

abbrev pub invariant-loop-b : goal.invariant-loop-b
invariant-loop-b l = str_to_ascii_lowercase (take l.b-index l.name) ≡ take l.b-index l.name
