use Rattle.std.proofs.Common.{◌≡◌, ◌∙◌, refl, sym, ap, subst, rules, arith, ◌+◌, ◌-◌, [], ◌∷◌, length, map, Some}
use Rattle.std.proofs.lemmas.List.{map-append, length-map}
use Rattle.smithy_json.specs.views.JsonView.{entry_of, entries}
use Rattle.smithy_model.specs.Reached.{reached, with_names, with_targets}
use Rattle.smithy_model.specs.Prelude.{prelude_kinds}
use Rattle.smithy_model.specs.Shapes.{shape_at}
use Rattle.smithy_model.specs.views.ModelView.{shape_view, member_view, shapes_view}
use Rattle.smithy_model.specs.views.NameView.{texts, ArePositions}
use Rattle.smithy_model.specs.declared.reached.Reached.{Reached}
use Rattle.smithy_model.proofs.Items.{next_name}
use Rattle.smithy_model.proofs.Views.{members_in_view}
use Rattle.smithy_model.proofs.Reading.{refused_by}
use Rattle.smithy_model.proofs.ReachedLemmas.{walked-start, walked-more, walked-short, walk-refused, walk-end, front-end}
use Rattle.smithy_model.proofs.reached.shapes_from.Goals as goal

pub walk-init : goal.walk-init
walk-init c =
    let shapes = c.args.shapes.now in
    let names : texts c.meet_names.new.names.items ≡ with_names [] (texts c.args.roots.now) =
    c.in_ok-meet_names.ensures.names ∙ ap (λ ns. with_names (texts ns) (texts c.args.roots.now)) c.new-names.ensures.items in
    let steps : c.in_ok-rest.rest ≡ length (entries shapes.members.now) + length prelude_kinds =
    c.in_ok-rest.ensures ∙ ap (λ n. n + length prelude_kinds) (sym (length-map shapes.members.now entry_of)) in
    record {
      so_far = walked-start (shapes_view shapes) (entries shapes.members.now) (texts c.args.roots.now) _ (map shape_view c.new-found.result.items) _ (members_in_view (shapes_view shapes) (Some shapes.members) refl) steps (ap (map shape_view) c.new-found.ensures.items) names;
      located = c.in_ok-meet_names.ensures.positions;
    }

pub returns-in_err-shape-clause-shapes : goal.returns-in_err-shape-clause-shapes
returns-in_err-shape-clause-shapes c =
    let d = shapes_view c.args.shapes.now in
    let found = map shape_view c.walk.found.items in
    let at = rw c.in-Some.is at (next_name c.walk.names.items _ c.walk.found.items _ c.get.result c.as_slice.ensures.value c.as_slice-in-walk.ensures.value c.get.ensures.lookup) in
    let refused = refused_by {B = Reached} shape_view (λ r. map shape_view r.shapes.items) (shape_at d c.in-Some.name.now.now) (reached d (texts c.args.roots.now)) c.in_err-shape.field-0.0
    (λ none. walk-refused c.walk.rest d found (texts c.walk.names.items) c.in-Some.name.now.now (reached d (texts c.args.roots.now)) at none c.walk.invariant.so_far.walked) c.in_err-shape.ensures in
    search rules

pub returns-then-rest-eq0-clause-shapes : goal.returns-then-rest-eq0-clause-shapes
returns-then-rest-eq0-clause-shapes c =
    let at = rw c.in-Some.is at (next_name c.walk.names.items _ c.walk.found.items _ c.get.result c.as_slice.ensures.value c.as_slice-in-walk.ensures.value c.get.ensures.lookup) in
    walked-short _ _ c.walk.rest _ _ _ _ at c.in_ok-shape.ensures c.if-rest-eq0.true c.walk.invariant.so_far

pub walk-preserved : goal.walk-preserved
walk-preserved c =
    let at = rw c.in-Some.is at (next_name c.walk.names.items _ c.walk.found.items _ c.get.result c.as_slice.ensures.value c.as_slice-in-walk.ensures.value c.get.ensures.lookup) in
    let found = ap (map shape_view) c.in_ok-push.ensures.items ∙ map-append shape_view c.walk.found.items (c.in_ok-shape.shape ∷ []) in
    let names = c.in_ok-meet_targets.ensures.names ∙ ap (λ ms. with_targets (texts c.walk.names.items) (map member_view ms)) c.as_slice-in-Some.ensures.value in
    record {
      so_far = walked-more _ _ c.walk.rest (c.walk.rest - 1) _ _ _ (shape_view c.in_ok-shape.shape) _ _ at c.in_ok-shape.ensures (omega (arith, c.if-rest-eq0.false)) found names c.walk.invariant.so_far;
      located = c.in_ok-meet_targets.ensures.positions;
    }

pub returns-clause-shapes : goal.returns-clause-shapes
returns-clause-shapes c =
    let at = rw c.in_default.is at (next_name c.walk.names.items _ c.walk.found.items _ c.get.result c.as_slice.ensures.value c.as_slice-in-walk.ensures.value c.get.ensures.lookup) in
    walk-end c.walk.rest (shapes_view c.args.shapes.now) _ _ _ at c.walk.invariant.so_far.walked

pub returns-clause-whole : goal.returns-clause-whole
returns-clause-whole c =
    let at = rw c.in_default.is at (next_name c.walk.names.items _ c.walk.found.items _ c.get.result c.as_slice.ensures.value c.as_slice-in-walk.ensures.value c.get.ensures.lookup) in
    record {
      located = subst (ArePositions c.walk.positions) (front-end _ _ c.walk.invariant.so_far.front at) c.walk.invariant.located;
      named = c.walk.invariant.so_far.named;
    }
