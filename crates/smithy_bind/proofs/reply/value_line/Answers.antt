use Rattle.std.proofs.Common.{◌++◌, ◌∙◌, ap, codes}
use Rattle.smithy_bind.proofs.ReplyLemmas.{value_lined}
use Rattle.smithy_bind.proofs.reply.value_line.Goals as goal

pub returns : goal.returns
returns c =
    value_lined c.args.reply.now c.new-writer.result c.write_front.new.writer c.extend_from_slice-2.new.self.items (c.new-writer.ensures.before ∙ c.in_ok-with_capacity.ensures.items) c.new-writer.ensures.tokens c.in_ok-write_front.ensures
    (c.in_ok-extend_from_slice-2.ensures.items ∙ ap (λ t. t ++ codes "}\n") (c.in_ok-extend_from_slice.ensures.items ∙ (λ i. c.into_inner-line.ensures.items i ++ c.as_slice-text.ensures i)))
