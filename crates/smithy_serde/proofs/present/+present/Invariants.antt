use Rattle.std.proofs.Common.{◌≡◌}
use Rattle.smithy_schema.specs.Nodes.{Table}
use Rattle.smithy_serde.specs.Present.{present_members, present_parts}
use Rattle.smithy_serde.specs.StoredValues.{writes_in, listed}
use Rattle.smithy_serde.specs.Told.{appended}
use Rattle.smithy_serde.proofs.PresentLemmas.{StaysDefinedBehind}
use Rattle.smithy_serde.proofs.present.+present.Given as goal

-- what is kept with what comes of the rest is what comes of all, and stays defined

abbrev pub invariant-present_parts-parts : goal.invariant-present_parts-parts
invariant-present_parts-parts l = record {
  writes : (t : Table) → appended (writes_in t l.kept) (present_parts (listed t l.write-iterator.rest.items)) ≡ present_parts (writes_in t l.fn.parts);
  defined : StaysDefinedBehind l.fn.parts l.kept l.write-iterator.rest.items;
}

abbrev pub invariant-present_members-members : goal.invariant-present_members-members
invariant-present_members-members l = record {
  writes : (t : Table) → appended (writes_in t l.kept) (present_members (listed t l.write-iterator.rest.items)) ≡ present_members (writes_in t l.fn.members);
  defined : StaysDefinedBehind l.fn.members l.kept l.write-iterator.rest.items;
}
