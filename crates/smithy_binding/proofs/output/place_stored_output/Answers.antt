use Rattle.smithy_binding.proofs.Common.{rules, ◌≡◌, Some, IfErr, schema_of, writes_in, list_of, Protocol, as_output, message_fault, TellsFault}
use Rattle.smithy_binding.specs.ResponseCodes.{output_bound_fault}
use Rattle.smithy_binding.proofs.Codes.{output-err, output-ok}
use Rattle.smithy_binding.proofs.PlacedKinds.{placed-kinds-out}
use Rattle.smithy_binding.proofs.Refusals.{Answers-err}
use Rattle.smithy_binding.proofs.output.place_stored_output.Goals as goal

pub place_message-requires-clause-kinds : goal.place_message-requires-clause-kinds
place_message-requires-clause-kinds g c = placed-kinds-out (schema_of c.args.schema) c.requires.checked

pub returns-in_err-message : goal.returns-in_err-message
returns-in_err-message g c =
    let schema = schema_of c.args.schema in
    let ws = list_of (writes_in c.args.table.now c.args.writes.now) in
    let told : IfErr c.from_residual.result (λ e. TellsFault e (λ f. message_fault output_bound_fault (as_output schema) ws ≡ Some f)) = search rules in
    Answers-err c.from_residual.result _ _ (search rules) (λ f e. output-err _ schema ws f e) told

pub returns : goal.returns
returns g c =
    let message = c.in_ok-message.ensures.ok in
    let protocol : Protocol = record { content_type = c.args.content_type.now; text_of = (g.S.ShapeSerializer.seen c.args.serializer).text } in
    output-ok protocol (schema_of c.args.schema) (list_of (writes_in c.args.table.now c.args.writes.now)) message.faultless _ c.written_code.ensures message.headers message.body
