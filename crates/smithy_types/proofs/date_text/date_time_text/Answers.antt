use Rattle.std.proofs.Common.{IsAscii, sym, subst}
use Rattle.smithy_types.proofs.DatePieces.{date_time-ascii}
use Rattle.smithy_types.proofs.date_text.date_time_text.Goals as goal

pub ascii_text-requires : goal.ascii_text-requires
ascii_text-requires c = subst IsAscii (sym c.date_time_bytes.ensures) (date_time-ascii c.args.seconds c.requires)
