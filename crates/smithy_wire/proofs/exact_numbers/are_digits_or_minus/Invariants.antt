use Rattle.smithy_wire.proofs.Common.{◌≡◌, ◌==◌, ◌||◌, drop}
use Rattle.std.specs.List.{list_all}
use Rattle.smithy_types.specs.BigNumbers.{is_digit}
use Rattle.smithy_wire.proofs.exact_numbers.are_digits_or_minus.Given as goal

abbrev pub invariant-loop-byte : goal.invariant-loop-byte
invariant-loop-byte l = list_all (λ b. is_digit b || (b == 45)) (drop l.byte-index l.bytes) ≡ list_all (λ b. is_digit b || (b == 45)) l.bytes
