use Rattle.std.proofs.Common.{rules}
use Rattle.smithy_serde.specs.Values.{no_writes}
use Rattle.smithy_serde.proofs.Calls.{not_opened, tells_none, closed}
use Rattle.smithy_aws.proofs.ready.write_empty.Goals as goal

pub returns-in_err-open_struct : goal.returns-in_err-open_struct
returns-in_err-open_struct g c =
    let whole = not_opened _ _ no_writes _ _ _ c.in_err-open_struct.ensures in search rules

pub returns : goal.returns
returns g c = closed _ _ _ _ _ _ _ _ _ _ c.in_ok-open_struct.ensures (tells_none _ (tt {0})) c.close.ensures
