use Rattle.std.proofs.Common.{rules}
use Rattle.smithy_model.specs.declared.floats.Floats.TheVariants.{Decimals}
use Rattle.smithy_job.specs.Jobs.{expected_with_floats}
use Rattle.smithy_job.specs.KeysView.{keys_seen}
use Rattle.smithy_bind.proofs.AwsLemmas.{expected_none, expected_so}
use Rattle.smithy_bind.proofs.ReplyLemmas.{expectable}
use Rattle.smithy_bind.proofs.aws_responded.asked_told.Goals as goal

pub returns-in_err-expected : goal.returns-in_err-expected
returns-in_err-expected c =
    expected_none c.args.reading (keys_seen c.args.keys.now) c.from_residual.result c.args.message.now c.requires c.in_err-expected.field-0.0 (search rules) c.in_err-expected.ensures

pub expected_told-requires : goal.expected_told-requires
expected_told-requires c = expectable (expected_with_floats Decimals (keys_seen c.args.keys.now)) c.in_ok-expected.expected c.in_ok-expected.ensures

pub returns : goal.returns
returns c = expected_so c.args.reading (keys_seen c.args.keys.now) c.expected_told.result c.args.message.now c.requires c.in_ok-expected.expected c.in_ok-expected.ensures c.expected_told.ensures
