use Rattle.smithy_schema.specs.views.MemberNames.{AreOfNames}
use Rattle.smithy_schema.proofs.member_names.followers.Given as goal

-- the followers so far, and the positions that are left
abbrev pub invariant-loop-position : goal.invariant-loop-position
invariant-loop-position l = record {
  put : AreOfNames l.positions l.followers.items;
  left : AreOfNames l.positions l.position-iterator;
}
