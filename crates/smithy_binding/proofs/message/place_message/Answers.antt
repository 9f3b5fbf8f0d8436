use Rattle.smithy_binding.proofs.Common.{rules, ◌≡◌, ap, ◌∙◌, ℕ, List, length, Some, Err, IfErr, writes_in, list_of, document_by, is_codec, fault_of_document, gather, nothing_yet, kept_in, Protocol, with_defaults, TellsFault, gathered_of, directed_of}
use Rattle.smithy_binding.proofs.MessageEnds.{message-walk, message-body, message-none, message-parts, message-bytes, message-headers}
use Rattle.smithy_binding.proofs.Refusals.{IfErr-then}
use Rattle.smithy_binding.proofs.message.place_message.Goals as goal

pub returns-in_err-gather_writes-clause-err : goal.returns-in_err-gather_writes-clause-err
returns-in_err-gather_writes-clause-err g c =
    let way = c.args.plan.schema.way in
    let schema = directed_of c.args.plan.schema in
    let ws = list_of (writes_in c.args.table.now c.args.writes.now) in
    let told : IfErr c.from_residual-in_err-gather_writes.result (λ e. TellsFault e (λ f. gather way schema (nothing_yet schema) ws ≡ Err f)) = search rules in
    IfErr-then c.from_residual-in_err-gather_writes.result _ _ (λ f e. message-walk way schema ws f e) told

pub returns-in_err-body-clause-err : goal.returns-in_err-body-clause-err
returns-in_err-body-clause-err g c =
    let walked = c.in_ok-gather_writes.ensures.gathered in
    let parts = kept_in c.args.table.now c.gather_writes.new.parts.body in
    let told : IfErr c.from_residual-in_err-body.result (λ e. TellsFault e (λ f. fault_of_document (document_by c.body_form-form.result parts) ≡ Some f)) = search rules in
    IfErr-then c.from_residual-in_err-body.result _ _
    (λ f e. message-body c.args.plan.schema.way _ _ _ _ parts walked.ok c.body_form-form.ensures walked.body f e) told

pub returns-clause-ok : goal.returns-clause-ok
returns-clause-ok g c =
    let way = c.args.plan.schema.way in
    let schema = directed_of c.args.plan.schema in
    let ws = list_of (writes_in c.args.table.now c.args.writes.now) in
    let walked = c.in_ok-gather_writes.ensures.gathered in
    let s = gathered_of c.gather_writes.new.parts in
    let form = c.body_form-form.result in
    let parts = kept_in c.args.table.now c.gather_writes.new.parts.body in
    let bytes = c.in_ok-body.body in
    let omit = c.args.plan.omit in
    let content_type = c.args.plan.content_type.now in
    let protocol : Protocol = record { content_type = content_type; text_of = (g.S.ShapeSerializer.seen c.args.serializer).text } in
    let own = message-parts way schema ws s form parts walked.ok c.body_form-form.ensures walked.body in
    record {
      faultless = message-none way schema ws s form parts walked.ok c.body_form-form.ensures walked.body c.in_ok-body.ensures.ok;
      headers =
          c.in_ok-add_defaults.ensures
          ∙ ap (λ is_codec. with_defaults content_type is_codec (length c.as_slice-length.result.now) omit s.headers) c.is_codec.ensures
          ∙ ap (λ (bs : List ℕ). with_defaults content_type (is_codec form) (length bs) omit s.headers) c.as_slice-length.ensures
          ∙ message-headers way schema ws s form parts walked.ok c.body_form-form.ensures walked.body protocol omit bytes c.in_ok-body.ensures.bytes;
      body = message-bytes way schema ws s form parts walked.ok c.body_form-form.ensures walked.body protocol.text_of bytes c.in_ok-body.ensures.bytes;
      query = own.query;
      labels = own.labels;
    }
