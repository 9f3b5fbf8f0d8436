use Rattle.std.proofs.Common.{◌≡◌, map, drop}
use Rattle.smithy_json.specs.views.JsonView.{view}
use Rattle.smithy_types.specs.Results.{each}
use Rattle.smithy_model.specs.views.NameView.{texts}
use Rattle.smithy_model.proofs.Each.{and_rest}
use Rattle.smithy_job.specs.Jobs.{full_name_in}
use Rattle.smithy_job.proofs.received.names_in.Given as goal

abbrev pub invariant-loop-item : goal.invariant-loop-item
invariant-loop-item l = and_rest (texts l.names.items) (each full_name_in (map view (drop l.item-index l.items))) ≡ each full_name_in (map view l.items)
