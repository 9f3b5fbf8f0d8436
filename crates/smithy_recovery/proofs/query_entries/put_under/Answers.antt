use Rattle.std.proofs.Common.{rules, sym, ap, subst, ◌∙◌, ℕ, List, Option, Some, None}
use Rattle.smithy_schema.specs.References.{schema_of}
use Rattle.smithy_recovery.specs.Finding.{Finds}
use Rattle.smithy_recovery.specs.views.KeptQueries.{entries_in, unnamed_key, under_put}
use Rattle.smithy_recovery.proofs.QueryKept.{shown, under_some}
use Rattle.smithy_recovery.proofs.Refused.{refused}
use Rattle.smithy_recovery.proofs.query_entries.put_under.Goals as goal

pub returns-in_err-key-clause-put : goal.returns-in_err-key-clause-put
returns-in_err-key-clause-put c =
    let n = schema_of c.args.here in
    let es = entries_in n.table c.args.entries.now in
    refused {A = Option (List ℕ)} (λ k. k) (λ _. es) (unnamed_key c.args.names.now c.args.name.now) (under_put c.args.names.now (Some n) c.args.name.now (shown c.args.pieces.now) es) c.in_err-key.field-0.0 c.from_residual.result (search rules)
    (λ none. under_some c.args.names.now (Some n) c.args.name.now es c.args.pieces.now (sym c.is_empty.ensures ∙ c.if-is_empty.false) None none)
    c.in_err-key.ensures

pub returns-in-Some-clause-put : goal.returns-in-Some-clause-put
returns-in-Some-clause-put c =
    let n = schema_of c.args.here in
    let es = entries_in n.table c.args.entries.now in
    subst (Finds (λ _. entries_in n.table c.put_new.new.entries) c.put_new.result)
    (sym (under_some c.args.names.now (Some n) c.args.name.now es c.args.pieces.now (sym c.is_empty.ensures ∙ c.if-is_empty.false) (Some (Some c.in-Some.key)) (c.in_ok-key.ensures ∙ ap (λ o. Some o) c.in-Some.is)))
    c.put_new.ensures.put

pub returns-in-None-clause-put : goal.returns-in-None-clause-put
returns-in-None-clause-put c =
    let n = schema_of c.args.here in
    let es = entries_in n.table c.args.entries.now in
    under_some c.args.names.now (Some n) c.args.name.now es c.args.pieces.now (sym c.is_empty.ensures ∙ c.if-is_empty.false) (Some None) (c.in_ok-key.ensures ∙ ap (λ o. Some o) c.in-None.is)
