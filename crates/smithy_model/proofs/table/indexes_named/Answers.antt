use Rattle.std.proofs.Common.{◌∙◌, sym, ap, option_map}
use Rattle.std.proofs.lemmas.List.{map-append}
use Rattle.smithy_schema.specs.Places.{places_of}
use Rattle.smithy_model.specs.Nodes.{index_named}
use Rattle.smithy_model.specs.views.NodeView.{spots_of}
use Rattle.smithy_model.proofs.Each.{each_at}
use Rattle.smithy_model.proofs.table.indexes_named.Goals as goal

pub loop-name-preserved : goal.loop-name-preserved
loop-name-preserved c =
    let index = ap (option_map (λ s. s.index)) (sym c.in-Some.ensures) in
    rw (c.in_ok-push.ensures.items, map-append)
    (sym (each_at (λ n. n.now) (index_named (spots_of c.args.spots.now)) (places_of c.loop-name.indexes.items) c.in-Some.spot.index c.args.names.now c.loop-name.name-index _ c.loop-name-test.true index) ∙ c.loop-name.invariant)
