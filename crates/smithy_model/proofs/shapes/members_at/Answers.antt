use Rattle.std.proofs.Common.{◌∙◌, ap, subst, map, Option, option_and_then, List}
use Rattle.smithy_types.specs.Results.{each}
use Rattle.smithy_model.specs.Reads.{Reads}
use Rattle.smithy_model.specs.Json.{members_in}
use Rattle.smithy_model.specs.Shapes.{member_in, Member}
use Rattle.smithy_model.specs.views.ModelView.{member_view}
use Rattle.smithy_model.proofs.shapes.members_at.Goals as goal

pub returns-in-Some-members_of : goal.returns-in-Some-members_of
returns-in-Some-members_of c =
    let members = ap (option_and_then (each member_in)) (c.in-Some-members_of.ensures ∙ ap (option_and_then members_in) c.in-Some.ensures) in
    subst (λ (o : Option (List Member)). Reads (λ v. map member_view v.items) o c.members_in.result) members c.members_in.ensures
