use Rattle.smithy_binding.proofs.Common.{◌≡◌, ◌||◌, directed_of, payload_kind, has_unbound_member}
use Rattle.smithy_binding.proofs.PayloadMembers.{payload_from}
use Rattle.smithy_binding.proofs.UnboundMembers.{unbound_from}
use Rattle.smithy_binding.proofs.body_form.body_form.Given as goal

abbrev pub invariant-loop-position : goal.invariant-loop-position
invariant-loop-position l = record {
  payload : payload_from (directed_of l.schema) l.position ≡ payload_kind (directed_of l.schema);
  unbound : (l.has_unbound || unbound_from (directed_of l.schema) l.position) ≡ has_unbound_member (directed_of l.schema);
}
