use Rattle.std.proofs.Common.{sym}
use Rattle.smithy_serde.proofs.ReadValue.{at_place_table}
use Rattle.codec_rows.proofs.values.by_own_members.Goals as goal

pub read_struct_value-requires : goal.read_struct_value-requires
read_struct_value-requires c = at_place_table _ _ _ (sym c.in-Some.ensures.node)
