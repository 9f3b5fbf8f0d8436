use Rattle.std.proofs.Common.{◌≡◌, map, drop}
use Rattle.smithy_json.specs.views.JsonView.{view}
use Rattle.smithy_types.specs.Results.{each}
use Rattle.smithy_model.proofs.Each.{and_rest}
use Rattle.smithy_job.specs.Responses.{header_in}
use Rattle.smithy_job.proofs.response.headers_in.Given as goal

abbrev pub invariant-loop-item : goal.invariant-loop-item
invariant-loop-item l = and_rest l.headers (each header_in (map view (drop l.item-index l.items))) ≡ each header_in (map view l.items)
