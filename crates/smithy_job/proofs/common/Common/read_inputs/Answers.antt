use Rattle.std.proofs.Common.{map}
use Rattle.smithy_json.specs.views.JsonView.{view}
use Rattle.smithy_schema.specs.References.{schema_of}
use Rattle.smithy_job.proofs.CommonLemmas.{inputs-read}
use Rattle.smithy_job.proofs.common.Common.read_inputs.Goals as goal

pub returns : goal.returns
returns c = λ is common.
    inputs-read c.args.self.now is (schema_of c.in-Some.schema) c.read_each.new.names.items _ (map view c.args.values.now) common c.in-Some.ensures.node c.in_ok-each.ensures (rw c.as_slice.ensures.value at c.in_ok-further.ensures)
