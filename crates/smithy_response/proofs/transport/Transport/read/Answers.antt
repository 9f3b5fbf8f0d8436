use Rattle.smithy_response.proofs.Common.{sym, subst, [], schema_of, scalar_of_read, Reads, prefixed_in, member_at_hand}
use Rattle.smithy_response.proofs.transport.Transport.read.Goals as goal

pub returns-in-Header-clause-reads : goal.returns-in-Header-clause-reads
returns-in-Header-clause-reads c =
    let t = c.args.self.now in
    subst (λ m. Reads scalar_of_read c.args.kind (schema_of c.args.schema) (member_at_hand t.response m) (member_at_hand t.response m) c.read.result) (sym c.in-Header.is) (c.read.ensures [])

pub returns-in-Prefix-clause-reads : goal.returns-in-Prefix-clause-reads
returns-in-Prefix-clause-reads c =
    let t = c.args.self.now in
    subst (λ m. Reads scalar_of_read c.args.kind (schema_of c.args.schema) (member_at_hand t.response m) (member_at_hand t.response m) c.read_entries.result) (sym c.in-Prefix.is)
    (c.read_entries.ensures (prefixed_in c.in-Prefix.field-1 t.response.headers))
