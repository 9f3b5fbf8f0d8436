use Rattle.std.proofs.Common.{IsAscii, sym, subst}
use Rattle.smithy_types.proofs.DatePieces.{http_date-ascii}
use Rattle.smithy_types.proofs.date_text.http_date_text.Goals as goal

pub ascii_text-requires : goal.ascii_text-requires
ascii_text-requires c = subst IsAscii (sym c.http_date_bytes.ensures) (http_date-ascii c.args.seconds c.requires)
