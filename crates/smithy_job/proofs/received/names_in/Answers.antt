use Rattle.std.proofs.Common.{◌∙◌, sym}
use Rattle.std.proofs.lemmas.List.{map-append}
use Rattle.smithy_json.specs.views.JsonView.{view}
use Rattle.smithy_model.specs.views.NameView.{texts}
use Rattle.smithy_model.proofs.Each.{each_item}
use Rattle.smithy_job.specs.Jobs.{full_name_in}
use Rattle.smithy_job.proofs.received.names_in.Goals as goal

pub loop-item-preserved : goal.loop-item-preserved
loop-item-preserved c =
    rw (c.in_ok-push.ensures.items, map-append)
    (sym (each_item view full_name_in (texts c.loop-item.names.items) c.in-Some.name.now c.args.items.now c.loop-item.item-index c.item-item.result c.loop-item-test.true c.item-item.is (sym c.in-Some.ensures)) ∙ c.loop-item.invariant)
