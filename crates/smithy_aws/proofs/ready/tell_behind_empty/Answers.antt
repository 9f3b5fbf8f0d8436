use Rattle.std.proofs.Common.{rules}
use Rattle.smithy_serde.specs.StructValues.{members_of}
use Rattle.smithy_serde.proofs.Calls.{one_tells, tells_before, tells_then}
use Rattle.smithy_aws.proofs.ready.tell_behind_empty.Goals as goal

pub returns-in_err-write_empty : goal.returns-in_err-write_empty
returns-in_err-write_empty g c =
    let whole = tells_before _ (members_of c.args.input.now) _ _ _ (one_tells _ _ _ _ _ c.in_err-write_empty.ensures) in search rules

pub returns : goal.returns
returns g c = tells_then _ _ _ _ _ _ _ (one_tells _ _ _ _ _ c.in_ok-write_empty.ensures) c.serialize_members.ensures
