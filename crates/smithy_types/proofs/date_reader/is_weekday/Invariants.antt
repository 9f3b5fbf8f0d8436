use Rattle.std.proofs.Common.{◌≡◌, drop}
use Rattle.smithy_types.specs.Texts.{is_one_of}
use Rattle.smithy_types.specs.Timestamps.{weekday_names}
use Rattle.smithy_types.proofs.date_reader.is_weekday.Given as goal

abbrev pub invariant-loop-day : goal.invariant-loop-day
invariant-loop-day l = is_one_of l.name (drop l.day weekday_names) ≡ is_one_of l.name weekday_names
