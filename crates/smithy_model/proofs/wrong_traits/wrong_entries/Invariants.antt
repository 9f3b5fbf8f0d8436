use Rattle.std.proofs.Common.{◌≡◌, drop}
use Rattle.smithy_json.specs.views.JsonView.{entries}
use Rattle.smithy_model.specs.Wrong.{first_in}
use Rattle.smithy_model.specs.WrongModels.{wrong_entry}
use Rattle.smithy_model.proofs.wrong_traits.wrong_entries.Given as goal

abbrev pub invariant-loop-member : goal.invariant-loop-member
invariant-loop-member l = first_in wrong_entry (entries (drop l.member-index l.members)) ≡ first_in wrong_entry (entries l.members)
