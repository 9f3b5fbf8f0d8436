use Rattle.std.proofs.Common.{ap, sym, ◌∙◌, subst}
use Rattle.smithy_schema.specs.References.{schema_of}
use Rattle.smithy_serde.specs.StoredValues.{listed, AreListedDefined}
use Rattle.smithy_serde.specs.Values.{Writes, list_of}
use Rattle.smithy_binding.proofs.KeptSteps.{first-defined}
use Rattle.smithy_recovery.specs.TypedWrites.{has_typed_writes}
use Rattle.smithy_recovery.proofs.TypedSteps.{writes-more, writes-stop, writes-end}
use Rattle.smithy_recovery.proofs.typed.has_typed_writes.Goals as goal

pub loop-node-init : goal.loop-node-init
loop-node-init c =
    let t = c.args.table.now in
    let taken = c.into_iter-node-iterator.ensures.into_iter_gives in
    record {
      same = ap (λ (us : Writes). has_typed_writes (schema_of c.args.schema) (list_of us)) (ap (listed t) taken ∙ sym (c.iter-node-items.ensures.writes t));
      defined = subst (AreListedDefined t) (sym taken) (c.iter-node-items.ensures.defined t c.requires.defined);
      known = c.no_shapes-known.ensures t;
    }

pub is_typed_write-requires-clause-defined : goal.is_typed_write-requires-clause-defined
is_typed_write-requires-clause-defined c = (first-defined c.args.table.now _ _ _ c.in-Some.ensures.steps c.loop-node.invariant.defined).1

pub loop-node-preserved : goal.loop-node-preserved
loop-node-preserved c =
    let t = c.args.table.now in
    record {
      same = sym (writes-more t (schema_of c.args.schema) _ _ _ c.in-Some.ensures.steps (sym c.in_ok-is_typed_write.ensures.test ∙ c.if-not-branch.false)) ∙ c.loop-node.invariant.same;
      defined = (first-defined t _ _ _ c.in-Some.ensures.steps c.loop-node.invariant.defined).2;
      known = c.in_ok-is_typed_write.ensures.known;
    }

pub returns-then-not-branch : goal.returns-then-not-branch
returns-then-not-branch c =
    sym (writes-stop c.args.table.now (schema_of c.args.schema) _ _ _ c.in-Some.ensures.steps (sym c.in_ok-is_typed_write.ensures.test ∙ c.if-not-branch.true)) ∙ c.loop-node.invariant.same

pub returns : goal.returns
returns c = sym (writes-end c.args.table.now (schema_of c.args.schema) _ c.in-None.ensures.steps.0) ∙ c.loop-node.invariant.same
