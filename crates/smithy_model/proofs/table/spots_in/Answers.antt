use Rattle.std.proofs.Common.{◌≡◌, ◌∙◌, sym, ap, map}
use Rattle.smithy_model.specs.Reached.{names_of}
use Rattle.smithy_model.specs.Nodes.{spots_from, member_count}
use Rattle.smithy_model.specs.views.ModelView.{shape_view}
use Rattle.smithy_model.specs.views.NameView.{position_in}
use Rattle.smithy_model.specs.views.SpotView.{names_at}
use Rattle.smithy_model.proofs.SpotLemmas.{spots-names}
use Rattle.smithy_model.proofs.table.spots_in.Goals as goal

pub invariant_of-spots : goal.invariant_of-spots
invariant_of-spots c =
    let names = ap names_at c.in_ok-spots_from.ensures ∙ spots-names 0 c.in_ok-first.first (map shape_view c.as_slice-shapes.result.now)
    ∙ ap (λ xs. names_of (map shape_view xs)) c.as_slice-shapes.ensures.value in
    record { located = λ name. c.requires.located name ∙ ap (λ ns. position_in ns name) (sym names) }

pub returns : goal.returns
returns c =
    let shapes = map shape_view c.args.reached.now.shapes.items in
    let given = c.as_slice-shapes.ensures.value in
    let first : c.in_ok-first.first ≡ member_count shapes = c.in_ok-first.ensures ∙ ap (λ xs. member_count (map shape_view xs)) given in
    record {
      are = c.in_ok-spots_from.ensures ∙ ap (λ xs. spots_from 0 c.in_ok-first.first (map shape_view xs)) given ∙ ap (λ n. spots_from 0 n shapes) first;
      first = first;
    }
