use Rattle.std.proofs.Common.{◌≡◌, drop, []}
use Rattle.smithy_json.specs.views.JsonView.{entries}
use Rattle.smithy_model.specs.Further.{further_in}
use Rattle.smithy_model.proofs.further.further_in.Given as goal

abbrev pub invariant-loop-given : goal.invariant-loop-given
invariant-loop-given l = further_in l.found (entries (drop l.given-index l.traits)) ≡ further_in [] (entries l.traits)
