use Rattle.std.proofs.Common.{rules, sym, ap, ◌∙◌, subst, Some, option_and_then}
use Rattle.smithy_types.specs.Results.{each}
use Rattle.smithy_schema.specs.References.{schema_of}
use Rattle.smithy_recovery.specs.views.Keeping.{Keeps}
use Rattle.smithy_recovery.specs.views.KeptQueries.{value_under}
use Rattle.smithy_recovery.specs.MapParts.{entry_value}
use Rattle.smithy_recovery.specs.QueryParts.{piece_text}
use Rattle.smithy_recovery.proofs.QueryKept.{shown}
use Rattle.smithy_recovery.proofs.Refused.{text_refused}
use Rattle.smithy_recovery.proofs.query_entries.value_under.Goals as goal

pub returns-in_err-texts : goal.returns-in_err-texts
returns-in_err-texts c =
    let n = schema_of c.args.here in
    text_refused n.table (each piece_text (shown c.args.pieces.now)) (value_under (Some n) (shown c.args.pieces.now)) c.in_err-texts.field-0.0 c.from_residual.result (search rules)
    (λ none. ap (option_and_then (entry_value (Some n))) none) c.in_err-texts.ensures

pub returns : goal.returns
returns c =
    let n = schema_of c.args.here in
    subst (λ o. Keeps n.table (option_and_then (entry_value (Some n)) o) c.entry_value.result) (ap (λ ts. Some ts) c.as_slice.ensures ∙ sym c.in_ok-texts.ensures) c.entry_value.ensures
