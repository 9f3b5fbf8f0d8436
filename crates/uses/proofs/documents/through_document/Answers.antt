use Rattle.std.proofs.Common.{rules}
use Rattle.uses.proofs.RoundTripLemmas.{refused_back}
use Rattle.uses.proofs.documents.through_document.Goals as goal

pub returns-in_err-told : goal.returns-in_err-told
returns-in_err-told g c =
    let ws = (goal.SerializableStruct-dyn g c.args.value.now).writes c.args.value.now.1 in
    refused_back c.args.reader ws c.in_err-told.field-0.0 c.from_residual.result (search rules)
    c.documents_tell_normal_forms.ensures.told c.in_err-told.ensures.refusal

pub returns : goal.returns
returns g c =
    let ws = (goal.SerializableStruct-dyn g c.args.value.now).writes c.args.value.now.1 in
    c.structure_in.ensures ws c.in_ok-told.ensures.document
