-- The normal form has the document of its input, and is typed where its target is a legal one.
use Rattle.smithy_unambiguity.proofs.Common.{◌≡◌, refl, sym, ◌∙◌, ap, List, Option, Some, None, option_map, option_and_then, result_ok, result_err, Schema, pieces, Value, Write, DocumentFault, document_of, document_fault_text, all_resolved, labels, document_value, custom, body_fault, fault_of_document, view, template_of, is_shallow, IsCheckedInput-from_test, Protocol, OmitFlags, IsTyped, ℕ}
use Rattle.smithy_unambiguity.proofs.Setting.{IsSetting}
use Rattle.smithy_unambiguity.proofs.HeadersTold.{typed_writes}
use Rattle.smithy_unambiguity.proofs.Labels.{fill_same}
use Rattle.smithy_unambiguity.proofs.Conformity.{conforming, from_conforming}
use Rattle.smithy_unambiguity.proofs.BodyObject.{typed_bodied}
use Rattle.smithy_unambiguity.proofs.ViewBody.{bodied_view, docs_alike, doc_by, body_of_view}
use Rattle.smithy_unambiguity.proofs.ViewHeaders.{headers_of_view}
use Rattle.smithy_unambiguity.proofs.ViewParts.{labels_of_view}
use Rattle.smithy_unambiguity.proofs.ViewTarget.{target_of_view}
use Rattle.smithy_unambiguity.proofs.ViewTyped.{view_in_range, view_writes_conform, view_placed_values, view_prefixed, view_payload_shaped, view_defaults, unbound_are_shaped}
use Rattle.smithy_unambiguity.proofs.Viewed.{has_viewed}

-- what a value's document says of its faults
fault_by : (o : Option Value) → fault_of_document o ≡ option_map (λ (f : DocumentFault). custom (document_fault_text f)) (option_and_then result_err (option_map document_of o))
fault_by None = refl
fault_by (Some v) = refl

view_body_fault : (schema : Schema) (ws : List Write) → option_map document_of (document_value schema (view schema ws)) ≡ option_map document_of (document_value schema ws) → body_fault schema ws ≡ None → body_fault schema (view schema ws) ≡ None
unfolding body_fault
view_body_fault schema ws same e =
    fault_by (document_value schema (view schema ws)) ∙ ap (λ o. option_map (λ (f : DocumentFault). custom (document_fault_text f)) (option_and_then result_err o)) same ∙ sym (fault_by (document_value schema ws)) ∙ e

-- the view of a typed input is typed
pub view_typed : (protocol : Protocol) (schema : Schema) (endpoint : List ℕ) (omit : OmitFlags) (ws : List Write) → IsSetting protocol schema
    → IsTyped protocol schema endpoint omit ws → IsTyped protocol schema endpoint omit (view schema ws)
view_typed protocol schema endpoint omit ws setting typed =
    let checked = IsCheckedInput-from_test schema setting.checked in
    let viewed = has_viewed protocol schema endpoint omit ws checked setting.well_made typed in
    let alike = docs_alike protocol schema endpoint omit ws checked setting.well_made typed in
    let x = conforming schema ws endpoint typed.conforming in
    let fills = fill_same (labels schema (view schema ws)) (labels schema ws) (pieces (template_of schema endpoint)) (labels_of_view schema ws checked setting.well_made) ∙ x.fills in
    record {
      in_range = view_in_range schema ws checked viewed;
      conforming = from_conforming schema (view schema ws) endpoint (record {
        writes = view_writes_conform schema ws checked setting.well_made viewed;
        body = view_body_fault schema ws alike x.body;
        path = x.path;
        fills = fills;
        legal = target_of_view protocol schema endpoint omit ws checked setting.well_made typed x.path x.legal;
      });
      unbound_shaped = unbound_are_shaped schema (all_resolved schema (view schema ws)) (bodied_view schema ws checked setting.well_made (typed_bodied protocol schema endpoint omit ws typed));
      payload_shaped = view_payload_shaped schema ws checked setting.well_made viewed;
      placed_values = view_placed_values schema ws checked setting.well_made viewed;
      defaults = view_defaults protocol schema omit ws (body_of_view protocol schema endpoint omit ws checked setting.well_made typed) (headers_of_view schema ws checked setting.well_made (typed_writes protocol schema endpoint omit ws typed)) typed.defaults;
      prefixed = view_prefixed schema ws checked setting.well_made viewed;
      clear = typed.clear;
      shallow = ap is_shallow (doc_by (document_value schema (view schema ws)) ∙ ap (option_and_then result_ok) alike ∙ sym (doc_by (document_value schema ws))) ∙ typed.shallow;
    }
