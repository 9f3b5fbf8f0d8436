use Rattle.smithy_response.proofs.Common.{sym, subst, IsIn, NextEntry, prefixed_in, prefix_at_hand, member_at_hand}
use Rattle.smithy_serde.specs.declared.scalar.Group.TheVariants as group
use Rattle.smithy_response.proofs.Containers.{at_entries}
use Rattle.smithy_response.proofs.transport.Transport.next_entry.Goals as goal

pub next_entry-requires : goal.next_entry-requires
next_entry-requires c =
    at_entries c.args.self.now.response (prefixed_in c.in-Prefix.field-1 c.args.self.now.response.headers) c.in-Prefix.entries
    (subst (λ m. IsIn group.Map (member_at_hand c.args.self.now.response m)) c.in-Prefix.is c.requires)

pub returns-clause-next : goal.returns-clause-next
returns-clause-next c =
    let ps = prefixed_in c.in-Prefix.field-1 c.args.self.now.response.headers in
    subst (λ m. NextEntry (member_at_hand c.args.self.now.response m) (prefix_at_hand c.args.self.now.response ps c.next_entry.new.entries) c.next_entry.result) (sym c.in-Prefix.is)
    (c.next_entry.ensures c.args.self.now.response ps)
