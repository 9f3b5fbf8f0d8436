use Rattle.std.proofs.Common.{map, take}
use Rattle.smithy_json.specs.views.JsonView.{view}
use Rattle.smithy_schema.specs.References.{schema_of}
use Rattle.smithy_job.specs.views.CommonView.{input_read, AreReadOver}
use Rattle.smithy_job.proofs.common.read_each.Given as goal

abbrev pub invariant-loop-value : goal.invariant-loop-value
invariant-loop-value l = AreReadOver l.model.table l.names.items l.each.items (map (input_read (schema_of l.schema)) (map view (take l.value-index l.values)))
