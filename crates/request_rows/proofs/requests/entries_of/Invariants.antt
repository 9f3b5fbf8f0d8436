use Rattle.smithy_serde.specs.StoredValues.{AreDefined}
use Rattle.request_rows.proofs.requests.entries_of.Given as goal

-- each node of an entry is one of the table
abbrev pub invariant-loop-text : goal.invariant-loop-text
invariant-loop-text l = AreDefined l.nodes l.entries
