use Rattle.std.proofs.Common.{rules, ap, sym, ◌∙◌, subst, ℕ, List, Some, option_and_then}
use Rattle.smithy_schema.specs.References.{schema_of}
use Rattle.smithy_strings.specs.Escapes.{escape}
use Rattle.smithy_recovery.specs.views.Keeping.{KeepsPart}
use Rattle.smithy_recovery.specs.views.KeptMembers.{query_read}
use Rattle.smithy_recovery.specs.views.Pieces.{texts_left}
use Rattle.smithy_recovery.specs.QueryParts.{query_part}
use Rattle.smithy_recovery.proofs.Refused.{part_refused}
use Rattle.smithy_recovery.proofs.member_values.query_member.Goals as goal

pub returns-in_err-texts : goal.returns-in_err-texts
returns-in_err-texts c =
    let m = schema_of c.args.member in
    let own = c.args.cut.now.own.now in
    let pieces = c.args.cut.now.pieces.now in
    part_refused {A = List (List ℕ)} m.table (texts_left own pieces (escape c.args.name.now)) (query_read c.args.cut.now c.args.name.now m) c.in_err-texts.field-0.0 c.from_residual.result (search rules)
    (λ none. ap (option_and_then (query_part m)) none) c.in_err-texts.ensures

pub returns : goal.returns
returns c =
    let m = schema_of c.args.member in
    subst (λ ts. KeepsPart m.table (option_and_then (query_part m) ts) c.query_part.result) (ap (λ ts. Some ts) c.as_slice.ensures ∙ sym c.in_ok-texts.ensures) c.query_part.ensures
