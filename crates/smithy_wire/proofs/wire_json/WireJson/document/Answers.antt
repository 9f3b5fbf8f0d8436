use Rattle.smithy_wire.proofs.Common.{Some, ap, ◌∙◌, inl}
use Rattle.smithy_wire.specs.views.WireReads.{outcome_held}
use Rattle.smithy_wire.proofs.wire_json.WireJson.document.Goals as goal

pub returns-in-Ok : goal.returns-in-Ok
returns-in-Ok c = c.in_ok-document.ensures ∙ ap (λ r. Some (outcome_held r)) c.in-Ok.is

pub returns-in-Err : goal.returns-in-Err
returns-in-Err c = inl (c.in_ok-document.ensures ∙ ap (λ r. Some (outcome_held r)) c.in-Err.is)
