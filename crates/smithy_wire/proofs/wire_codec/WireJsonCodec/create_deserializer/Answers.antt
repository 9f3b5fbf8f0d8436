use Rattle.smithy_wire.proofs.Common.{Some, sym, ap, ◌∙◌, subst}
use Rattle.smithy_document.specs.views.JsonHand.{hand}
use Rattle.smithy_serde.specs.ReadCalls.{Begins}
use Rattle.smithy_types.specs.DocumentView.{view}
use Rattle.smithy_wire.specs.views.WireOf.{form_in, style_in}
use Rattle.smithy_wire.specs.views.WireReads.{outcome_held}
use Rattle.smithy_wire.proofs.CanonicalReads.{held_canonical}
use Rattle.smithy_wire.proofs.wire_codec.WireJsonCodec.create_deserializer.Goals as goal

pub of_document-requires : goal.of_document-requires
of_document-requires c =
    held_canonical (style_in c.args.self.now) (form_in c.args.self.now) c.args.input.now (view c.in-Ok.document) (c.in_ok-document.ensures ∙ ap (λ r. Some (outcome_held r)) c.in-Ok.is)

pub returns-in_ok-of_document-in-Ok-clause-begins : goal.returns-in_ok-of_document-in-Ok-clause-begins
returns-in_ok-of_document-in-Ok-clause-begins c =
    subst (λ h. Begins h (hand c.in_ok-of_document-in-Ok.field-0)) (sym (c.in_ok-document.ensures ∙ ap (λ r. Some (outcome_held r)) c.in-Ok.is)) c.in_ok-of_document-in-Ok.ensures

pub returns-in-Err-clause-begins : goal.returns-in-Err-clause-begins
returns-in-Err-clause-begins c = subst (λ h. Begins h (hand c.of_refusal.result)) (sym (c.in_ok-document.ensures ∙ ap (λ r. Some (outcome_held r)) c.in-Err.is)) c.of_refusal.ensures
