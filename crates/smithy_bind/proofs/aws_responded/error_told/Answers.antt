use Rattle.std.proofs.Common.{rules}
use Rattle.smithy_model.specs.declared.floats.Floats.TheVariants.{Decimals}
use Rattle.smithy_job.specs.Jobs.{errors_given_with_floats}
use Rattle.smithy_job.specs.KeysView.{keys_seen}
use Rattle.smithy_bind.proofs.AwsLemmas.{errors_none, errors_so, some_errors}
use Rattle.smithy_bind.proofs.aws_responded.error_told.Goals as goal

pub returns-in_err-errors : goal.returns-in_err-errors
returns-in_err-errors c =
    errors_none c.args.reading (keys_seen c.args.keys.now) c.from_residual.result c.args.message.now c.requires c.in_err-errors.field-0.0 (search rules) c.in_err-errors.ensures

pub named_error_told-requires : goal.named_error_told-requires
named_error_told-requires c = some_errors (errors_given_with_floats Decimals (keys_seen c.args.keys.now)) c.in_ok-errors.errors c.in_ok-errors.ensures

pub returns : goal.returns
returns c = errors_so c.args.reading (keys_seen c.args.keys.now) c.named_error_told.result c.args.message.now c.requires c.in_ok-errors.errors c.in_ok-errors.ensures c.named_error_told.ensures
