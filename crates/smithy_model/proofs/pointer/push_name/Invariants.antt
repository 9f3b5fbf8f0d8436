use Rattle.std.proofs.Common.{◌≡◌, ◌++◌, drop, flat_map}
use Rattle.smithy_model.specs.Wrong.{escaped}
use Rattle.smithy_model.proofs.pointer.push_name.Given as goal

abbrev pub invariant-loop-byte : goal.invariant-loop-byte
invariant-loop-byte l = l.text.items ++ flat_map escaped (drop l.byte-index l.name) ≡ l.fn.text.items ++ flat_map escaped l.name
