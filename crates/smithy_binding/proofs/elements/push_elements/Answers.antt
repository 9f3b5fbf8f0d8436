use Rattle.smithy_binding.proofs.Common.{rules, ◌≡◌, ap, sym, ◌∙◌, ◌++◌, [], string_bytes, Some, None, option_map, IfErr, append-nil, writes_in, value_in, label_at, listed, Write, list_of, pairs_with, element_text, no_year, TellsFault, queries}
use Rattle.smithy_strings.specs.declared.wire.Place.TheVariants as at
use Rattle.smithy_binding.proofs.ElementSteps.{AreTexts-none, AreTexts-stop, AreTexts-end, written-more, queries-push, left}
use Rattle.smithy_binding.proofs.Refusals.{IfErr-then}
use Rattle.smithy_binding.proofs.elements.push_elements.Goals as goal

pub loop-node-init : goal.loop-node-init
loop-node-init c =
    let t = c.args.table.now in
    let taken = c.iter-node-items.ensures.writes t ∙ sym (ap (listed t) c.into_iter-node-iterator.ensures.into_iter_gives) in
    record { texts = []; are = AreTexts-none (element_text at.Query) _ (left t c.into_iter-node-iterator.result) (ap list_of taken); written = sym (append-nil (string_bytes c.args.query.now)) }

pub loop-node-preserved : goal.loop-node-preserved
loop-node-preserved c =
    let so_far = c.loop-node.invariant in
    let found = c.in_ok-text.ensures.ok ∙ ap Some (sym c.as_str.ensures.value) in
    written-more c.args.table.now c.in-Some.ensures.steps so_far found
    (queries-push (string_bytes c.args.query.now) (string_bytes c.loop-node.query) (string_bytes c.push_pair.new.query) c.args.name.now c.as_str.result.now so_far.texts so_far.written c.in_ok-push_pair.ensures)

pub loop-node-preserved-in_ok-push_pair : goal.loop-node-preserved-in_ok-push_pair
loop-node-preserved-in_ok-push_pair c =
    let so_far = c.loop-node.invariant in
    let found = c.in_ok-text.ensures.ok ∙ ap Some (sym c.as_str.ensures.value) in
    written-more c.args.table.now c.in-Some.ensures.steps so_far found
    (queries-push (string_bytes c.args.query.now) (string_bytes c.loop-node.query) (string_bytes c.push_pair.new.query) c.args.name.now c.as_str.result.now so_far.texts so_far.written c.in_ok-push_pair.ensures)

pub returns-in_err-text-clause-err : goal.returns-in_err-text-clause-err
returns-in_err-text-clause-err c =
    let t = c.args.table.now in
    let ws = list_of (writes_in t c.args.elements.now) in
    let w : Write = record { label = label_at t c.in-Some.node.0; value = value_in t c.in-Some.value.now } in
    let so_far = c.loop-node.invariant in
    let told : IfErr c.from_residual.result (λ e. TellsFault e (λ f. (f ≡ no_year) × (element_text at.Query w ≡ None))) = search rules in
    IfErr-then c.from_residual.result _ _ (λ f e. (e.0, AreTexts-stop (element_text at.Query) t ws so_far.texts _ _ _ c.in-Some.ensures.steps so_far.are e.1)) told

pub returns-clause-ok : goal.returns-clause-ok
returns-clause-ok c =
    let t = c.args.table.now in
    let so_far = c.loop-node.invariant in
    ap (option_map (λ texts. string_bytes c.args.query.now ++ queries (pairs_with c.args.name.now texts)))
    (AreTexts-end (element_text at.Query) t (list_of (writes_in t c.args.elements.now)) so_far.texts _ c.in-None.ensures.steps.0 so_far.are)
    ∙ ap Some (sym so_far.written)
