use Rattle.std.proofs.Common.{◌≡◌, ◌∙◌, ◌+◌, refl, sym, ap, [], length, Some}
use Rattle.std.proofs.lemmas.List.{length-map}
use Rattle.smithy_json.specs.views.JsonView.{entry_of, entries}
use Rattle.smithy_model.specs.Prelude.{prelude_kinds}
use Rattle.smithy_model.specs.Reached.{with_names}
use Rattle.smithy_model.specs.views.ModelView.{shapes_view}
use Rattle.smithy_model.specs.views.NameView.{texts}
use Rattle.smithy_model.proofs.Items.{name_at}
use Rattle.smithy_model.proofs.NamesReached.{names_start, names_more, names_none, names_end}
use Rattle.smithy_model.proofs.Views.{members_in_view}
use Rattle.smithy_model.proofs.wrong_reached.names_reached.Goals as goal

pub loop-step-init : goal.loop-step-init
loop-step-init c =
    let shapes = c.args.shapes.now in
    let names : texts c.meet_names.new.names.items ≡ with_names [] (texts c.args.roots.now) =
    c.in_ok-meet_names.ensures.names ∙ ap (λ ns. with_names (texts ns) (texts c.args.roots.now)) c.new-names.ensures.items in
    let count : c.in_ok-count.count ≡ length (entries shapes.members.now) + length prelude_kinds =
    c.in_ok-count.ensures ∙ ap (λ n. n + length prelude_kinds) (sym (length-map shapes.members.now entry_of)) in
    record {
      so_far = names_start (shapes_view shapes) (entries shapes.members.now) _ _ _ (sym (members_in_view (shapes_view shapes) (Some shapes.members) refl)) (c.in_ok-steps.ensures ∙ ap (λ n. n + 1) count) names;
      located = c.in_ok-meet_names.ensures.positions;
    }

pub returns-in_default : goal.returns-in_default
returns-in_default c =
    let at = rw c.in_default.is at (name_at c.loop-step.names.items _ c.loop-step.step c.get.result c.as_slice.ensures.value c.get.ensures.lookup) in
    names_none _ _ (shapes_view c.args.shapes.now) _ _ c.loop-step-test.true at c.loop-step.invariant.so_far

pub loop-step-preserved : goal.loop-step-preserved
loop-step-preserved c =
    let at = rw c.in-Some.is at (name_at c.loop-step.names.items _ c.loop-step.step c.get.result c.as_slice.ensures.value c.get.ensures.lookup) in
    record {
      so_far = rw c.in_ok-meet_shape.ensures.names (names_more _ _ (shapes_view c.args.shapes.now) _ _ _ c.loop-step-test.true at c.loop-step.invariant.so_far);
      located = c.in_ok-meet_shape.ensures.positions;
    }

pub returns : goal.returns
returns c = names_end _ _ (shapes_view c.args.shapes.now) _ _ c.loop-step-test.false c.loop-step.invariant.so_far
