use Rattle.std.proofs.Common.{◌++◌, ◌∙◌, ap, codes}
use Rattle.smithy_bind.proofs.ReplyLemmas.{refused_lined}
use Rattle.smithy_bind.proofs.reply.refused_line.Goals as goal

pub returns : goal.returns
returns c = record {
  line = refused_lined c.args.refusal.now c.new-writer.result c.write_refusal.new.writer c.push.new.self.items (c.new-writer.ensures.before ∙ c.in_ok-with_capacity.ensures.items) c.new-writer.ensures.tokens
      c.in_ok-write_refusal.ensures.words (c.in_ok-push.ensures.items ∙ ap (λ bs. bs ++ codes "\n") c.into_inner-line.ensures.items);
  memory = c.in_ok-write_refusal.ensures.memory;
}
