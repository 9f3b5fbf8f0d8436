use Rattle.std.proofs.Common.{ap, sym, ◌∙◌}
use Rattle.base64.specs.Engines.{standard}
use Rattle.base64.specs.GeneralPurpose.{decode_of}
use Rattle.smithy_job.proofs.ScalarLemmas.{blob_read, blob_unread}
use Rattle.smithy_job.proofs.scalar.blob_value.Goals as goal

pub returns-in-Ok : goal.returns-in-Ok
returns-in-Ok c = blob_read _ c.in-Ok.bytes.items c.args.text.now (ap (decode_of standard) (sym c.as_bytes.ensures.value) ∙ c.in-Ok.ensures.ok) c.from_vec.ensures

pub returns-in-Err-DecodeError : goal.returns-in-Err-DecodeError
returns-in-Err-DecodeError c =
    let failed = rw c.in-Err-DecodeError.field-0-is at c.in-Err-DecodeError.ensures.err in
    rw (← blob_unread c.args.text.now _ (ap (decode_of standard) (sym c.as_bytes.ensures.value) ∙ failed)) c.string_value.ensures
