use Rattle.smithy_binding.proofs.Common.{◌≡◌, ◌++◌, members_of, schema_of, has_defined_members, shown}
use Rattle.smithy_binding.proofs.MemberSteps.{members_from, are_defined_from}
use Rattle.smithy_binding.proofs.members.defined_members.Given as goal

abbrev pub invariant-loop-position : goal.invariant-loop-position
invariant-loop-position l = record {
  members : shown l.members.items ++ members_from (schema_of l.schema) l.position ≡ members_of (schema_of l.schema);
  defined : are_defined_from (schema_of l.schema) l.position ≡ has_defined_members (schema_of l.schema);
}
