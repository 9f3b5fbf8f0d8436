use Rattle.std.proofs.Common.{sym, ap, subst, Some}
use Rattle.smithy_schema.specs.References.{schema_of}
use Rattle.smithy_recovery.specs.views.KeptQueries.{entries_in, under_put, PutsLeft}
use Rattle.smithy_recovery.specs.views.Pieces.{shown_pieces}
use Rattle.smithy_recovery.proofs.query_entries.put_left.Goals as goal

pub returns-in-Some-clause-put : goal.returns-in-Some-clause-put
returns-in-Some-clause-put c =
    subst (λ o. PutsLeft (schema_of c.args.here) c.args.names.now c.args.name.now o c.args.entries.now c.put_under.new.entries c.put_under.result) (sym c.in-Some.is) c.put_under.ensures.put

pub returns-in-None-clause-put : goal.returns-in-None-clause-put
returns-in-None-clause-put c =
    let n = schema_of c.args.here in
    ap (λ o. under_put c.args.names.now (Some n) c.args.name.now (shown_pieces o) (entries_in n.table c.args.entries.now)) c.in-None.is
