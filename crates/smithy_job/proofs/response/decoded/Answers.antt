use Rattle.std.proofs.Common.{ap, sym, ◌∙◌}
use Rattle.base64.specs.Engines.{standard}
use Rattle.base64.specs.GeneralPurpose.{decode_of}
use Rattle.smithy_job.proofs.ReceivedLemmas.{decoded-so, undecoded}
use Rattle.smithy_job.proofs.response.decoded.Goals as goal

pub returns-in-Ok : goal.returns-in-Ok
returns-in-Ok c = decoded-so c.args.text.now c.in-Ok.bytes.items (ap (decode_of standard) (sym c.as_bytes.ensures.value) ∙ c.in-Ok.ensures.ok)

pub returns-in-Err-DecodeError : goal.returns-in-Err-DecodeError
returns-in-Err-DecodeError c =
    let failed = rw c.in-Err-DecodeError.field-0-is at c.in-Err-DecodeError.ensures.err in
    undecoded c.args.text.now _ (ap (decode_of standard) (sym c.as_bytes.ensures.value) ∙ failed)
