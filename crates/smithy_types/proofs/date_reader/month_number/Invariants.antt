use Rattle.std.proofs.Common.{◌≡◌, ◌+◌, ◌-◌, drop}
use Rattle.std.specs.List.{position_or_len}
use Rattle.smithy_types.specs.Texts.{same_text}
use Rattle.smithy_types.specs.Timestamps.{month_names}
use Rattle.smithy_types.proofs.date_reader.month_number.Given as goal

abbrev pub invariant-loop-month : goal.invariant-loop-month
invariant-loop-month l = position_or_len (same_text l.name) month_names ≡ l.month - 1 + position_or_len (same_text l.name) (drop (l.month - 1) month_names)
