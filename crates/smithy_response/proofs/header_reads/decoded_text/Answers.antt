use Rattle.smithy_response.proofs.Common.{◌≡◌, false, Ok, None, inl, sym, ap, subst, ◌∙◌, true, is_utf8}
use Rattle.std.proofs.lemmas.Str.{IsUtf8-had}
use Rattle.std.specs.Result.{result_ok}
use Rattle.base64.specs.GeneralPurpose.{decode_of}
use Rattle.base64.specs.Engines.{standard}
use Rattle.smithy_serde.specs.Values as value
use Rattle.smithy_response.proofs.Refusing.{refused_answer}
use Rattle.smithy_response.proofs.Texts.{not_utf8, utf8, decoded_utf8, decoded_bytes, not_decoded}
use Rattle.smithy_response.proofs.header_reads.decoded_text.Goals as goal

pub returns-in-Ok-from_utf8 : goal.returns-in-Ok-from_utf8
returns-in-Ok-from_utf8 c =
    let decoded : decode_of standard c.args.text.now ≡ Ok c.in-Ok.bytes.items = ap (decode_of standard) (sym c.as_bytes.ensures.value) ∙ c.in-Ok.ensures.ok in
    let same = ap (λ v. v.items) c.in-Ok-from_utf8.ensures.ok in
    let u : is_utf8 c.in-Ok.bytes.items ≡ true = subst (λ bytes. is_utf8 bytes ≡ true) same (utf8 _ (IsUtf8-had _ c.in-Ok-from_utf8.text.ok)) in
    inl (ap (λ t. Ok (value.text t)) (c.from_string.ensures ∙ same) ∙ sym (decoded_utf8 c.args.text.now c.in-Ok.bytes.items decoded u))

pub returns-in-Ok : goal.returns-in-Ok
returns-in-Ok c =
    let decoded : decode_of standard c.args.text.now ≡ Ok c.in-Ok.bytes.items = ap (decode_of standard) (sym c.as_bytes.ensures.value) ∙ c.in-Ok.ensures.ok in
    let none = not_utf8 c.in-Ok.bytes.items (λ u. (let bad : false ≡ true = c.in-Err.ensures.succeeds u in cc)) in
    refused_answer (decoded_bytes c.args.text.now c.in-Ok.bytes.items decoded none) c.invalid_input.ensures

pub returns : goal.returns
returns c =
    let failed = rw c.in-Err-DecodeError.field-0-is at c.in-Err-DecodeError.ensures.err in
    let none : result_ok (decode_of standard c.args.text.now) ≡ None = ap (λ t. result_ok (decode_of standard t)) (sym c.as_bytes.ensures.value) ∙ ap result_ok failed in
    refused_answer (not_decoded c.args.text.now none) c.invalid_input-in-Err-DecodeError.ensures
