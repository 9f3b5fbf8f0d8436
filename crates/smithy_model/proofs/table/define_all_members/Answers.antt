use Rattle.std.proofs.Common.{sym, ◌∙◌}
use Rattle.std.proofs.lemmas.List.Folds.{list_all-map}
use Rattle.smithy_ids.specs.ShapeIds.{has_hash}
use Rattle.smithy_model.specs.views.ModelView.{shape_view}
use Rattle.smithy_model.specs.views.NodeView.{spots_of}
use Rattle.smithy_model.proofs.SpotLemmas.{pass-at}
use Rattle.smithy_model.proofs.NodeLemmas.{shape-more}
use Rattle.smithy_model.proofs.table.define_all_members.Goals as goal

pub define_members-requires : goal.define_members-requires
define_members-requires c =
    pass-at (λ s. has_hash (shape_view s).name) c.args.shapes.now c.loop-shape.shape-index c.shape-item.result c.loop-shape-test.true c.shape-item.is
    (sym (list_all-map (λ s. has_hash s.name) shape_view c.args.shapes.now) ∙ c.requires)

pub loop-shape-preserved : goal.loop-shape-preserved
loop-shape-preserved c =
    shape-more (spots_of c.args.spots.now) c.args.shapes.now c.loop-shape.shape-index c.shape-item.result c.as_slice-members.result.now c.loop-shape.first c.in_ok-first.first
    c.args.table.now c.loop-shape.table c.define_members.new.table _ c.loop-shape-test.true c.shape-item.is c.as_slice-members.ensures.value c.in_ok-first.ensures c.in_ok-define_members.ensures c.loop-shape.invariant
