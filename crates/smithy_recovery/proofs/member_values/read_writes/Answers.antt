use Rattle.std.proofs.Common.{rules, ◌≡◌, refl, sym, ap, ◌∙◌, subst, Some, map, IfOk}
use Rattle.smithy_types.specs.Grammars.{before_query}
use Rattle.smithy_schema.specs.References.{schema_of}
use Rattle.smithy_schema.specs.Templates.{pieces}
use Rattle.smithy_serde.specs.StoredValues.{AreDefined}
use Rattle.smithy_binding.proofs.CheckedLaws.{IsCheckedInput-from_test, map_kinds}
use Rattle.smithy_binding.specs.views.CutTemplate.{behind_holes, literal_alone}
use Rattle.smithy_recovery.specs.views.Kept.{label_seen, labels_seen}
use Rattle.smithy_recovery.specs.PathParts.{path_texts}
use Rattle.smithy_recovery.specs.Recovered.{template, reading_by}
use Rattle.smithy_recovery.proofs.MembersAdded.{own_of_holes, request_read, request_defined, path_stops}
use Rattle.smithy_recovery.proofs.member_values.read_writes.Goals as goal

pub labelled_writes-requires-clause-sound : goal.labelled_writes-requires-clause-sound
labelled_writes-requires-clause-sound g c = map_kinds (schema_of c.args.schema) (IsCheckedInput-from_test (schema_of c.args.schema) c.requires.checked).maps

pub returns-in_err-texts-clause-told : goal.returns-in_err-texts-clause-told
returns-in_err-texts-clause-told g c =
    let r = reading_by g.C.Codec.text g.C.Codec.holds c.args.protocol.now (schema_of c.args.schema) c.args.endpoint.now in
    let last = c.in_ok-template.template.last.now in
    let shown : behind_holes c.as_slice.result.now (literal_alone last) ≡ template r = ap (λ hs. behind_holes hs (literal_alone last)) c.as_slice.ensures.value ∙ c.in_ok-template.ensures ∙ ap pieces c.template_of.ensures in
    path_stops labels_seen r c.args.request.now (behind_holes c.as_slice.result.now (literal_alone last)) c.before_query-path.result.now c.in_err-texts.field-0.0 c.from_residual-in_err-texts.result (search rules) shown
    (c.before_query-path.ensures ∙ ap before_query c.uri.ensures.value) c.in_err-texts.ensures

pub returns : goal.returns
returns g c =
    let r = reading_by g.C.Codec.text g.C.Codec.holds c.args.protocol.now (schema_of c.args.schema) c.args.endpoint.now in
    let q = c.args.request.now in
    let last = c.in_ok-template.template.last.now in
    let texts = map label_seen c.as_slice-2.result.now in
    let shown : behind_holes c.as_slice.result.now (literal_alone last) ≡ template r = ap (λ hs. behind_holes hs (literal_alone last)) c.as_slice.ensures.value ∙ c.in_ok-template.ensures ∙ ap pieces c.template_of.ensures in
    let path : c.before_query-path.result.now ≡ before_query q.target = c.before_query-path.ensures ∙ ap before_query c.uri.ensures.value in
    let read : path_texts (template r) (before_query q.target) ≡ Some texts =
    (λ i. path_texts (sym shown i) (sym path i)) ∙ c.in_ok-texts.ensures ∙ ap (λ ls. Some (map label_seen ls)) (sym c.as_slice-2.ensures.value) in
    let holds : r.holds ≡ g.C.Codec.holds c.codec.result.now = ap g.C.Codec.holds (sym c.codec.ensures) in
    let own = own_of_holes c.as_slice.result.now last (template r) shown in
    record {
      told = request_read r q (g.C.Codec.holds c.codec.result.now) c.args.schema last texts c.labelled_writes.result c.labelled_writes.ensures holds refl own read;
      defined = subst (λ t. IfOk c.labelled_writes.result (λ ws. AreDefined t ws)) c.requires.table (request_defined r q (g.C.Codec.holds c.codec.result.now) c.args.schema last texts c.labelled_writes.result c.labelled_writes.ensures holds refl own);
    }
