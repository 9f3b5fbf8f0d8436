use Rattle.std.proofs.Common.{◌≡◌, map, drop}
use Rattle.smithy_types.specs.Results.{each}
use Rattle.smithy_json.specs.views.JsonView.{entries}
use Rattle.smithy_model.specs.Shapes.{member_in}
use Rattle.smithy_model.specs.views.ModelView.{member_view}
use Rattle.smithy_model.proofs.Each.{and_rest}
use Rattle.smithy_model.proofs.shapes.members_in.Given as goal

abbrev pub invariant-loop-member : goal.invariant-loop-member
invariant-loop-member l = and_rest (map member_view l.found.items) (each member_in (entries (drop l.member-index l.members))) ≡ each member_in (entries l.members)
