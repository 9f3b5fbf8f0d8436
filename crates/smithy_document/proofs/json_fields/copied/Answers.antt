use Rattle.smithy_document.proofs.Common.{◌≡◌, [], ◌∷◌, ◌++◌, false, sym, ap, ◌∙◌, subst}
use Rattle.smithy_document.specs.views.JsonShown.{fields_shown}
use Rattle.smithy_document.specs.views.JsonFields.{spans_in, AreSpans}
use Rattle.smithy_document.proofs.JsonOrder.{Leaves, copy_turn, all_copied}
use Rattle.smithy_document.proofs.json_fields.copied.Goals as goal

pub spans-init : goal.spans-init
spans-init c = λ ps are.
    let same : c.into_iter-entry-iterator.result ≡ c.args.spans.entries = c.into_iter-entry-iterator.ensures.into_iter_gives.0 in (
      ps,
      subst (λ es. AreSpans c.args.text.now (spans_in es) ps) (sym same) are,
      ap (λ t. t ++ fields_shown false ps) (c.in_ok-push.ensures.items ∙ ap (λ xs. xs ++ 123 ∷ []) c.in_ok-copy.ensures.items),
    )

pub spans-preserved : goal.spans-preserved
spans-preserved c = λ ps are.
    copy_turn c.args.text.now c.in-Some.entry c.next.new.self c.spans.copy.items _ _ c.spans.later ps c.in_ok-push_comma.ensures c.in_ok-push_span.ensures
    (subst (λ es. Leaves c.args.text.now es c.spans.copy.items c.spans.later ps) c.in-Some.ensures.steps (c.spans.invariant ps are))

pub returns : goal.returns
returns c = λ ps are. all_copied c.args.text.now c.spans.copy.items c.spans.later ps (subst (λ es. Leaves c.args.text.now es c.spans.copy.items c.spans.later ps) c.in-None.ensures.steps.0 (c.spans.invariant ps are))
