use Rattle.std.proofs.Common.{◌∙◌, ap, Some}
use Rattle.smithy_bind.proofs.AwsLemmas.{error_told, no_error_told, some_coded}
use Rattle.smithy_bind.proofs.aws_responded.named_error_told.Goals as goal

pub returns-in_default : goal.returns-in_default
returns-in_default c =
    no_error_told c.args.reading c.args.errors c.args.message.now c.refused.result c.invalid_input-refusal.result (rw c.in_default.is at c.in_ok-code.ensures) c.invalid_input-refusal.ensures c.refused.ensures

pub expected_told-requires : goal.expected_told-requires
expected_told-requires c = some_coded c.args.errors c.as_str.result c.requires

pub returns : goal.returns
returns c = error_told c.args.reading c.args.errors c.args.message.now c.expected_told.result c.as_str.result (ap Some c.as_str.ensures ∙ (rw c.in-Some.is at c.in_ok-code.ensures)) c.expected_told.ensures
