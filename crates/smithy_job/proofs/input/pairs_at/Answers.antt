use Rattle.std.proofs.Common.{option_map, rules, sym}
use Rattle.smithy_json.specs.views.JsonView.{view}
use Rattle.smithy_schema.specs.References.{schema_of}
use Rattle.smithy_job.specs.Values.{value_in}
use Rattle.smithy_job.proofs.InputLemmas.{next_pair, no_pair}
use Rattle.smithy_job.proofs.TableLemmas.{keeps-all, keeps-both, label-kept}
use Rattle.smithy_job.proofs.ValueLemmas.{so_far-start, so_far-end, value_more, next_refused}
use Rattle.smithy_job.proofs.input.pairs_at.Goals as goal

pub loop-item-init : goal.loop-item-init
loop-item-init c = record {
  kept = keeps-all _;
  so_far = so_far-start _ _ _ c.new-writes.ensures.writes c.new-writes.ensures.defined;
}

pub returns-in_err-value-clause-writes : goal.returns-in_err-value-clause-writes
returns-in_err-value-clause-writes c =
    next_refused _ _ _ _ (value_in c.args.model.floats (option_map schema_of c.member_at-node.result) (view c.in-Some.value.now)) _ c.in_err-value.field-0.0 c.from_residual-in_err-value.result (search rules)
    (rw (next_pair c.args.model.floats (schema_of c.args.schema) c.args.items.now c.loop-item.item-index c.item-item.result c.in-Some.name.now (view c.in-Some.value.now) c.loop-item-test.true c.item-item.is (sym c.in-Some.ensures), ← c.member_at-node.ensures) at c.loop-item.invariant.so_far)
    c.in_err-value.ensures.value

pub loop-item-preserved : goal.loop-item-preserved
loop-item-preserved c =
    let kept = keeps-both _ _ _ c.in_ok-index.ensures.kept c.in_ok-value.ensures.kept in
    record {
      kept = keeps-both _ _ _ c.loop-item.invariant.kept kept;
      so_far =
          value_more _ _ c.loop-item.writes c.push.new.self c.in_ok-index.index _ c.in_ok-value.value (value_in c.args.model.floats (option_map schema_of c.member_at-node.result) (view c.in-Some.value.now)) _ _ kept
          (label-kept _ _ _ _ c.in_ok-value.ensures.kept c.in_ok-index.ensures.index) c.in_ok-value.ensures.value c.in_ok-push.ensures.ok c.in_ok-push.ensures.ok_defined
          (rw (next_pair c.args.model.floats (schema_of c.args.schema) c.args.items.now c.loop-item.item-index c.item-item.result c.in-Some.name.now (view c.in-Some.value.now) c.loop-item-test.true c.item-item.is (sym c.in-Some.ensures), ← c.member_at-node.ensures) at c.loop-item.invariant.so_far);
    }

pub returns-clause-writes : goal.returns-clause-writes
returns-clause-writes c = so_far-end _ _ _ _ (no_pair c.args.model.floats (schema_of c.args.schema) c.args.items.now c.loop-item.item-index c.loop-item-test.false) c.loop-item.invariant.so_far
