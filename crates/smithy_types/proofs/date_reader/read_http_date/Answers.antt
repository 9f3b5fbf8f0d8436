use Rattle.std.proofs.Common.{codes, sym, arith}
use Rattle.smithy_types.specs.TimestampReading.{short_date_of}
use Rattle.smithy_types.proofs.Readings.{time_of_short}
use Rattle.smithy_types.proofs.date_reader.read_http_date.Goals as goal

pub returns-then-text-lt25 : goal.returns-then-text-lt25
returns-then-text-lt25 c = sym (time_of_short 17 short_date_of (codes " GMT") c.args.text.now (omega arith))
