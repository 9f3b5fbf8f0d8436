use Rattle.std.proofs.Common.{sym, ◌∙◌}
use Rattle.std.proofs.lemmas.List.Folds.{list_all-map}
use Rattle.smithy_ids.specs.ShapeIds.{has_hash}
use Rattle.smithy_model.specs.views.SpotView.{spot_view}
use Rattle.smithy_model.specs.views.NodeView.{spots_of}
use Rattle.smithy_model.proofs.SpotLemmas.{pass-at}
use Rattle.smithy_model.proofs.NodeLemmas.{spot-more}
use Rattle.smithy_model.proofs.table.define_shapes.Goals as goal

pub define_shape-requires : goal.define_shape-requires
define_shape-requires c =
    pass-at (λ s. has_hash (spot_view s).shape.name) c.args.spots.now.spots.items c.loop-position.position c.spot-item.result
    (rw c.as_slice-spot-items.ensures.value at c.loop-position-test.true) (rw c.as_slice-spot-items.ensures.value at c.spot-item.is)
    (sym (list_all-map (λ s. has_hash s.shape.name) spot_view c.args.spots.now.spots.items) ∙ c.requires)

pub loop-position-preserved : goal.loop-position-preserved
loop-position-preserved c =
    spot-more (spots_of c.args.spots.now) c.args.first c.in_ok-index.index c.args.spots.now.spots.items c.loop-position.position c.spot-item.result
    c.args.table.now c.loop-position.table c.define_shape.new.table _ (rw c.as_slice-spot-items.ensures.value at c.loop-position-test.true) (rw c.as_slice-spot-items.ensures.value at c.spot-item.is)
    c.in_ok-index.ensures c.in_ok-define_shape.ensures c.loop-position.invariant
