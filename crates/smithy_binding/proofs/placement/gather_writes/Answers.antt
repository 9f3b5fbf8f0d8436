use Rattle.smithy_binding.proofs.Common.{rules, ◌≡◌, ◌∷◌, [], ap, sym, ◌∙◌, subst, Err, IfErr, directed_of, label_at, value_in, writes_in, listed, AreListedDefined, Write, Writes, list_of, all_resolved, gather, gather_one, nothing_yet, TellsFault, Gathered, gathered_of, no_parts, keep_all, kept_in}
use Rattle.smithy_binding.proofs.Refusals.{IfErr-then}
use Rattle.smithy_binding.proofs.KeptSteps.{kept-step, kept-end, kept-all, kept-empty, defined-empty, first-defined}
use Rattle.smithy_binding.specs.HeaderNames.{HaveNames}
use Rattle.smithy_binding.proofs.NameSteps.{names-end, names-kept, names-step, none-seen}
use Rattle.smithy_binding.proofs.WriteSteps.{gather-more, gather-stop, gather-end}
use Rattle.smithy_binding.proofs.placement.gather_writes.Goals as goal

pub loop-node-init : goal.loop-node-init
loop-node-init g c =
    let t = c.args.table.now in
    let schema = directed_of c.args.schema in
    let taken = c.into_iter-node-iterator.ensures.into_iter_gives in
    let all = ap (listed t) taken ∙ sym (c.iter-node-items.ensures.writes t) in
    record {
      walk = ap (λ s. gather c.args.schema.way schema s (list_of (listed t c.into_iter-node-iterator.result))) c.requires.empty ∙ ap (λ (us : Writes). gather c.args.schema.way schema (nothing_yet schema) (list_of us)) all;
      body = ap (λ parts. keep_all parts (all_resolved schema (list_of (listed t c.into_iter-node-iterator.result)))) (kept-empty t c.args.parts.now.body c.requires.empty_body)
          ∙ ap (λ (us : Writes). keep_all no_parts (all_resolved schema (list_of us))) all;
      defined = defined-empty t c.args.parts.now.body c.requires.empty_body;
      nodes = subst (AreListedDefined t) (sym taken) (c.iter-node-items.ensures.defined t c.requires.defined);
      kept = g.met.N.HeaderNames.keeps_same c.args.names.now;
      serves = c.requires.serves;
      seen = none-seen _ schema _ (gathered_of c.args.parts.now).seen (ap (λ (s : Gathered). s.seen) c.requires.empty);
      at_hand = λ later kept have. subst (λ (us : Writes). HaveNames (g.N.HeaderNames.has later) schema (list_of us)) all have;
    }

pub add_write-requires-clause-defined : goal.add_write-requires-clause-defined
add_write-requires-clause-defined g c = (first-defined c.args.table.now _ _ _ c.in-Some.ensures.steps c.loop-node.invariant.nodes).0

pub returns-in_err-add_write-clause-gathered : goal.returns-in_err-add_write-clause-gathered
returns-in_err-add_write-clause-gathered g c =
    let schema = directed_of c.args.schema in
    let t = c.args.table.now in
    let s = gathered_of c.loop-node.parts in
    let w : Write = record { label = label_at t c.in-Some.node.0; value = value_in t c.in-Some.value.now } in
    let told : IfErr c.from_residual.result (λ e. TellsFault e (λ f. gather_one c.args.schema.way schema s w ≡ Err f)) = search rules in
    record {
      ok = search rules;
      err = IfErr-then c.from_residual.result _ _ (λ f e. sym c.loop-node.invariant.walk ∙ gather-stop t c.args.schema.way schema s _ _ _ c.in-Some.ensures.steps f e) told;
      body = search rules;
    }

pub loop-node-preserved : goal.loop-node-preserved
loop-node-preserved g c =
    let schema = directed_of c.args.schema in
    let t = c.args.table.now in
    let first = first-defined t _ _ _ c.in-Some.ensures.steps c.loop-node.invariant.nodes in
    let w : Write = record { label = label_at t c.in-Some.node.0; value = value_in t c.in-Some.value.now } in
    record {
      walk = sym (gather-more t c.args.schema.way schema (gathered_of c.loop-node.parts) _ _ _ c.in-Some.ensures.steps (gathered_of c.add_write.new.parts) c.in_ok-add_write.ensures.added.ok) ∙ c.loop-node.invariant.walk;
      body = kept-step t schema _ _ _ (kept_in t c.loop-node.parts.body) (kept_in t c.add_write.new.parts.body) c.in-Some.ensures.steps c.in_ok-add_write.ensures.added.body ∙ c.loop-node.invariant.body;
      defined = c.in_ok-add_write.ensures.defined c.loop-node.invariant.defined first.1;
      nodes = first.2;
      kept = g.met.N.HeaderNames.keeps_on _ _ _ c.loop-node.invariant.kept c.in_ok-add_write.ensures.kept;
      serves = g.met.N.HeaderNames.serves_on _ _ _ c.in_ok-add_write.ensures.kept c.loop-node.invariant.serves;
      seen = c.in_ok-add_write.ensures.seen;
      at_hand = λ later kept have.
          c.loop-node.invariant.at_hand later (g.met.N.HeaderNames.keeps_on _ _ _ c.in_ok-add_write.ensures.kept kept)
          (names-step (g.N.HeaderNames.has later) t schema _ _ _ c.in-Some.ensures.steps
          (names-kept (g.N.HeaderNames.has c.add_write.new.names) (g.N.HeaderNames.has later) schema (w ∷ []) (λ place has. g.met.N.HeaderNames.has_on c.add_write.new.names later place kept has)
          c.in_ok-add_write.ensures.named) have);
    }

pub returns-clause-gathered : goal.returns-clause-gathered
returns-clause-gathered g c =
    let schema = directed_of c.args.schema in
    let t = c.args.table.now in
    record {
      ok = sym c.loop-node.invariant.walk ∙ gather-end t c.args.schema.way schema (gathered_of c.loop-node.parts) _ c.in-None.ensures.steps.0;
      err = search rules;
      body = sym (kept-end t schema _ (kept_in t c.loop-node.parts.body) c.in-None.ensures.steps.0) ∙ c.loop-node.invariant.body ∙ kept-all schema (list_of (writes_in t c.args.writes.now));
    }

pub returns-in_err-add_write-clause-kept : goal.returns-in_err-add_write-clause-kept
returns-in_err-add_write-clause-kept g c = g.met.N.HeaderNames.keeps_on _ _ _ c.loop-node.invariant.kept c.add_write.ensures.kept

pub returns-clause-named : goal.returns-clause-named
returns-clause-named g c =
    c.loop-node.invariant.at_hand _ (g.met.N.HeaderNames.keeps_same _) (names-end _ c.args.table.now (directed_of c.args.schema) _ c.in-None.ensures.steps.0)
