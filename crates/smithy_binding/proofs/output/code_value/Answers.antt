use Rattle.smithy_binding.proofs.Common.{ap, sym, ◌∙◌, subst, directed_of, listed, AreListedDefined, Writes, list_of}
use Rattle.smithy_binding.proofs.Codes.{code_in, code-more, code-here, code-end}
use Rattle.smithy_binding.proofs.KeptSteps.{first-defined}
use Rattle.smithy_binding.proofs.output.code_value.Goals as goal

pub loop-node-init : goal.loop-node-init
loop-node-init c =
    let t = c.args.table.now in
    let taken = c.into_iter-node-iterator.ensures.into_iter_gives in
    record {
      code = ap (λ (us : Writes). code_in (directed_of c.args.schema) (list_of us)) (ap (listed t) taken ∙ sym (c.iter-node-items.ensures.writes t));
      nodes = subst (AreListedDefined t) (sym taken) (c.iter-node-items.ensures.defined t c.requires);
    }

pub is_code-requires : goal.is_code-requires
is_code-requires c = (first-defined c.args.table.now _ _ _ c.in-Some.ensures.steps c.loop-node.invariant.nodes).0

pub returns-then-is_code : goal.returns-then-is_code
returns-then-is_code c =
    sym (code-here c.args.table.now (directed_of c.args.schema) _ _ _ c.in-Some.ensures.steps (sym c.is_code.ensures ∙ c.if-is_code.true)) ∙ c.loop-node.invariant.code

pub loop-node-preserved : goal.loop-node-preserved
loop-node-preserved c =
    let t = c.args.table.now in
    record {
      code = sym (code-more t (directed_of c.args.schema) _ _ _ c.in-Some.ensures.steps (sym c.is_code.ensures ∙ c.if-is_code.false)) ∙ c.loop-node.invariant.code;
      nodes = (first-defined t _ _ _ c.in-Some.ensures.steps c.loop-node.invariant.nodes).2;
    }

pub returns : goal.returns
returns c = sym (code-end c.args.table.now (directed_of c.args.schema) _ c.in-None.ensures.steps.0) ∙ c.loop-node.invariant.code
