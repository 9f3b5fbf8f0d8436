use Rattle.std.proofs.Common.{◌≡◌}
use Rattle.smithy_serde.specs.StoredValues.{writes_in}
use Rattle.uses.specs.Members.{text_of_named}
use Rattle.uses.proofs.MemberLemmas.{left_text}
use Rattle.uses.proofs.responses.text_among.Given as goal

-- what is left has the text
abbrev pub invariant-loop-node : goal.invariant-loop-node
invariant-loop-node l = left_text l.name l.table l.node-iterator ≡ text_of_named l.name (writes_in l.table l.writes)
