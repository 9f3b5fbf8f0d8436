use Rattle.std.proofs.Common.{◌≡◌, ◌++◌}
use Rattle.smithy_json.proofs.in_order.listed.Given as goal

abbrev pub invariant-entries : goal.invariant-entries
invariant-entries l = l.found.items ++ l.entry-iterator ≡ l.fn.entries.entries
