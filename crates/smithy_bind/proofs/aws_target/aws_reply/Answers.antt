use Rattle.std.proofs.Common.{rules}
use Rattle.smithy_bind.proofs.AwsLemmas.{schema_refused, schema_replied}
use Rattle.smithy_bind.proofs.ReplyLemmas.{by_stands}
use Rattle.smithy_bind.proofs.aws_target.aws_reply.Goals as goal

pub text_at-requires : goal.text_at-requires
text_at-requires c =
    by_stands c.args.target.now.table c.in-Schema.place c.in-Schema.is_error c.in-Schema.is_coded c.requires.0 (rw c.in-Schema.is at c.requires.1)

pub name_at-requires : goal.name_at-requires
name_at-requires c =
    by_stands c.args.target.now.table c.in-Schema.place c.in-Schema.is_error c.in-Schema.is_coded c.requires.0 (rw c.in-Schema.is at c.requires.1)

pub returns-in_err-text-in-Schema : goal.returns-in_err-text-in-Schema
returns-in_err-text-in-Schema c = λ is by.
    schema_refused c.args.reading c.args.target.now.table c.in-Schema.place c.in-Schema.is_error c.in-Schema.is_coded c.args.message.now c.in_err-text-in-Schema.field-0.0 c.from_residual.result (search rules)
    c.in_err-text-in-Schema.ensures is (rw c.in-Schema.is at by)

pub returns-in_ok-text-in-Schema : goal.returns-in_ok-text-in-Schema
returns-in_ok-text-in-Schema c = λ is by.
    schema_replied c.args.reading c.args.target.now.table c.in-Schema.place c.in-Schema.is_error c.in-Schema.is_coded c.args.message.now c.in_ok-text-in-Schema.text c.name_at.result c.named.result
    c.in_ok-text-in-Schema.ensures c.name_at.ensures c.named.ensures is (rw c.in-Schema.is at by)
