use Rattle.smithy_binding.proofs.Common.{rules, ◌≡◌, refl, ap, sym, ◌∙◌, [], Some, None, option_map, IfErr, writes_in, value_in, label_at, Write, list_of, element_text, no_year, TellsFault}
use Rattle.smithy_serde.specs.StoredValues as stored
use Rattle.smithy_strings.specs.declared.wire.Place.TheVariants as at
use Rattle.smithy_strings.specs.Lists.{listed}
use Rattle.smithy_binding.proofs.ElementSteps.{AreTexts-none, AreTexts-stop, AreTexts-end, written-more, some_texts, left}
use Rattle.smithy_binding.proofs.Refusals.{IfErr-then}
use Rattle.smithy_binding.proofs.elements.listed_text.Goals as goal

pub loop-node-init : goal.loop-node-init
unfolding listed
loop-node-init c =
    let t = c.args.table.now in
    let taken = c.iter-node-items.ensures.writes t ∙ sym (ap (stored.listed t) c.into_iter-node-iterator.ensures.into_iter_gives) in
    (record { texts = []; are = AreTexts-none (element_text at.Header) _ (left t c.into_iter-node-iterator.result) (ap list_of taken); written = search rules }, refl)

pub loop-node-preserved : goal.loop-node-preserved
loop-node-preserved c =
    let so_far = c.loop-node.invariant.0 in
    let found = c.in_ok-text.ensures.ok ∙ ap Some (sym c.as_str.ensures.value) in
    (written-more c.args.table.now c.in-Some.ensures.steps so_far found (c.in_ok-push_listed.ensures.ok so_far.texts c.loop-node.invariant.1 so_far.written), some_texts so_far.texts c.as_str.result.now)

pub loop-node-preserved-in_ok-push_listed : goal.loop-node-preserved-in_ok-push_listed
loop-node-preserved-in_ok-push_listed c =
    let so_far = c.loop-node.invariant.0 in
    let found = c.in_ok-text.ensures.ok ∙ ap Some (sym c.as_str.ensures.value) in
    (written-more c.args.table.now c.in-Some.ensures.steps so_far found (c.in_ok-push_listed.ensures.ok so_far.texts c.loop-node.invariant.1 so_far.written), some_texts so_far.texts c.as_str.result.now)

pub returns-in_err-text-clause-err : goal.returns-in_err-text-clause-err
returns-in_err-text-clause-err c =
    let t = c.args.table.now in
    let ws = list_of (writes_in t c.args.elements.now) in
    let w : Write = record { label = label_at t c.in-Some.node.0; value = value_in t c.in-Some.value.now } in
    let so_far = c.loop-node.invariant.0 in
    let told : IfErr c.from_residual.result (λ e. TellsFault e (λ f. (f ≡ no_year) × (element_text at.Header w ≡ None))) = search rules in
    IfErr-then c.from_residual.result _ _ (λ f e. (e.0, AreTexts-stop (element_text at.Header) t ws so_far.texts _ _ _ c.in-Some.ensures.steps so_far.are e.1)) told

pub returns-clause-ok : goal.returns-clause-ok
returns-clause-ok c =
    let t = c.args.table.now in
    let so_far = c.loop-node.invariant.0 in
    ap (option_map (listed c.args.kind)) (AreTexts-end (element_text at.Header) t (list_of (writes_in t c.args.elements.now)) so_far.texts _ c.in-None.ensures.steps.0 so_far.are)
    ∙ ap Some (sym so_far.written ∙ sym c.from_string.ensures)
