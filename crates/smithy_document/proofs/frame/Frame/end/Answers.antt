use Rattle.smithy_document.proofs.Common.{rules, Err, building_view, finished, held_of, ended_with}
use Rattle.smithy_document.specs.Refused.{Gives}
use Rattle.smithy_document.proofs.RefusalLemmas.{refused_before}
use Rattle.smithy_document.proofs.frame.Frame.end.Goals as goal

pub returns-in_err-document : goal.returns-in_err-document
returns-in_err-document c =
    let whole : Gives (ended_with (building_view c.args.inner) (held_of c.args.self)) building_view (Err c.in_err-document.field-0.0) = refused_before (finished (building_view c.args.inner)) _ _ c.in_err-document.ensures in
    search rules
