use Rattle.std.proofs.Common.{subst}
use Rattle.smithy_bind.specs.views.ReplyView.{name_seen, MakesText}
use Rattle.smithy_bind.proofs.AwsLemmas.{refused_named, text_named}
use Rattle.smithy_bind.proofs.aws_target.named.Goals as goal

pub returns-in-Ok : goal.returns-in-Ok
returns-in-Ok c = λ made is. text_named made (record { error = c.args.error; text = c.in-Ok.text }) (subst (MakesText made) c.in-Ok.is is)

pub returns-in-Err : goal.returns-in-Err
returns-in-Err c = λ made is. refused_named made (name_seen c.args.error) c.in-Err.refusal (subst (MakesText made) c.in-Err.is is)
