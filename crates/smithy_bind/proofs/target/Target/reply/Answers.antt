use Rattle.std.proofs.Common.{rules}
use Rattle.smithy_bind.proofs.ReplyLemmas.{by_refused, by_stands}
use Rattle.smithy_bind.proofs.target.Target.reply.Goals as goal

pub text_at-requires : goal.text_at-requires
text_at-requires c =
    by_stands c.args.self.now.table c.in-Schema.place c.in-Schema.is_error c.in-Schema.is_coded c.requires.0 (rw c.in-Schema.is at c.requires.1)

pub name_at-error-requires : goal.name_at-error-requires
name_at-error-requires c =
    by_stands c.args.self.now.table c.in-Schema.place c.in-Schema.is_error c.in-Schema.is_coded c.requires.0 (rw c.in-Schema.is at c.requires.1)

pub returns-in_err-text-in-Schema : goal.returns-in_err-text-in-Schema
returns-in_err-text-in-Schema c = λ is by.
    by_refused c.args.self.now.table c.in-Schema.place c.in-Schema.is_error c.in-Schema.is_coded c.args.message.now c.in_err-text-in-Schema.field-0.0 c.from_residual.result (search rules) c.in_err-text-in-Schema.ensures is (rw c.in-Schema.is at by)
