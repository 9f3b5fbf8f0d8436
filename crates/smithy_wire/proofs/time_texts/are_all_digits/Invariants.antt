use Rattle.smithy_wire.proofs.Common.{◌≡◌, drop}
use Rattle.std.specs.List.{list_all}
use Rattle.smithy_types.specs.BigNumbers.{is_digit}
use Rattle.smithy_wire.proofs.time_texts.are_all_digits.Given as goal

abbrev pub invariant-loop-byte : goal.invariant-loop-byte
invariant-loop-byte l = list_all is_digit (drop l.byte-index l.text) ≡ list_all is_digit l.text
