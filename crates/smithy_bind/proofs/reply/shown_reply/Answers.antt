use Rattle.std.proofs.Common.{◌++◌, ◌∙◌, ap, codes, append_assoc}
use Rattle.smithy_bind.specs.Responding.{error_line}
use Rattle.smithy_bind.specs.views.ReplyView.{name_seen}
use Rattle.smithy_bind.proofs.ReplyLemmas.{shown_made}
use Rattle.smithy_bind.proofs.reply.shown_reply.Goals as goal

pub returns : goal.returns
returns c =
    shown_made c.args.reply.now c.push.new.self.items
    (c.in_ok-push.ensures.items ∙ ap (λ t. t ++ codes "\n") (c.in_ok-extend_from_slice.ensures.items ∙ (λ i. c.in_ok-text.ensures i ++ c.as_slice.ensures i))
    ∙ append_assoc (error_line (name_seen c.args.reply.now.error)) c.args.reply.now.text (codes "\n"))
