use Rattle.std.proofs.Common.{refl, ap, sym, ◌∙◌}
use Rattle.base64.specs.Engines.{standard}
use Rattle.base64.specs.GeneralPurpose.{decode_of}
use Rattle.smithy_strings.proofs.SpelledLemmas.{blob_decoded, blob_undecoded}
use Rattle.smithy_strings.proofs.spelled.blob.Goals as goal

pub returns-in-Ok : goal.returns-in-Ok
returns-in-Ok c =
    record { value = blob_decoded c.args.text.now c.in-Ok.bytes.items _ (ap (decode_of standard) (sym c.as_bytes.ensures.value) ∙ c.in-Ok.ensures.ok) c.from_vec.ensures; of_kind = refl }

pub returns-in-Err-DecodeError : goal.returns-in-Err-DecodeError
returns-in-Err-DecodeError c =
    let failed = rw c.in-Err-DecodeError.field-0-is at c.in-Err-DecodeError.ensures.err in
    record { value = blob_undecoded c.args.text.now _ (ap (decode_of standard) (sym c.as_bytes.ensures.value) ∙ failed); of_kind = tt }
