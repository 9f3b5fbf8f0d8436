use Rattle.std.proofs.Common.{codes, sym, arith}
use Rattle.smithy_types.specs.TimestampReading.{full_date_of}
use Rattle.smithy_types.proofs.Readings.{time_of_short}
use Rattle.smithy_types.proofs.date_reader.read_date_time.Goals as goal

pub returns-then-text-lt19 : goal.returns-then-text-lt19
returns-then-text-lt19 c = sym (time_of_short 11 full_date_of (codes "Z") c.args.text.now (omega arith))
