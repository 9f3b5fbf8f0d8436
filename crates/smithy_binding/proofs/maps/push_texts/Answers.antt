use Rattle.smithy_binding.proofs.Common.{sym, ◌∙◌, string_bytes}
use Rattle.smithy_binding.proofs.MapEntries.{texts-push, texts-end}
use Rattle.smithy_binding.proofs.maps.push_texts.Goals as goal

pub loop-text-preserved : goal.loop-text-preserved
loop-text-preserved c = λ t.
    texts-push t (string_bytes c.loop-text.query) (string_bytes c.push_pair.new.query) c.args.key.now c.text_or_empty.result.now _ _ _ c.in-Some.ensures.steps (c.text_or_empty.ensures t) c.in_ok-push_pair.ensures
    ∙ c.loop-text.invariant t

pub returns : goal.returns
returns c = λ t. sym (texts-end t (string_bytes c.loop-text.query) c.args.key.now _ c.in-None.ensures.steps.0) ∙ c.loop-text.invariant t
