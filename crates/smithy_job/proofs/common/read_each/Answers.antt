use Rattle.smithy_schema.specs.References.{schema_of}
use Rattle.smithy_job.proofs.CommonLemmas.{reads-next}
use Rattle.smithy_job.proofs.common.read_each.Goals as goal

pub loop-value-preserved : goal.loop-value-preserved
loop-value-preserved c =
    reads-next (schema_of c.args.schema) c.args.values.now c.loop-value.value-index c.args.model.now.table c.loop-value.names c.read_behind.new.names c.loop-value.each.items c.push.new.self.items
    c.value-item.result c.in_ok-input.input c.loop-value-test.true c.value-item.is c.in_ok-push.ensures.items c.loop-value.invariant c.in_ok-input.ensures
