use Rattle.std.proofs.Common.{◌≡◌, Ok, None, codes, inl, inr, sym, ap, ◌∙◌}
use Rattle.std.specs.Option.{ok_or}
use Rattle.std.specs.Result.{result_ok}
use Rattle.base64.specs.GeneralPurpose.{decoded_of, decode_of}
use Rattle.base64.specs.Engines.{standard}
use Rattle.smithy_types.specs.declared.error.DocumentError.TheVariants.{Custom}
use Rattle.smithy_types.specs.Settings.{plain_blob}
use Rattle.smithy_types.proofs.settings.NoSettingsDocumentSettings.coerce_string_to_blob.Goals as goal

pub returns-in-Ok : goal.returns-in-Ok
unfolding plain_blob decoded_of
returns-in-Ok c =
    let decoded : decode_of standard c.args.text.now ≡ Ok c.in-Ok.bytes.items = ap (decode_of standard) (sym c.as_bytes.ensures.value) ∙ c.in-Ok.ensures.ok in
    inr (ap Ok c.from_vec.ensures ∙ ap (λ r. ok_or (result_ok r) (Custom (codes "cannot base64-decode string as blob"))) (sym decoded))

pub returns-in-Err-DecodeError : goal.returns-in-Err-DecodeError
unfolding plain_blob decoded_of
returns-in-Err-DecodeError c =
    let failed = rw c.in-Err-DecodeError.field-0-is at c.in-Err-DecodeError.ensures.err in
    let none : result_ok (decode_of standard c.args.text.now) ≡ None = ap (λ t. result_ok (decode_of standard t)) (sym c.as_bytes.ensures.value) ∙ ap result_ok failed in
    elim c.custom.ensures [
      | inl memory ↦ inl memory
      | inr refused ↦ inr (refused ∙ ap (λ o. ok_or o (Custom (codes "cannot base64-decode string as blob"))) (sym none))
    ]
