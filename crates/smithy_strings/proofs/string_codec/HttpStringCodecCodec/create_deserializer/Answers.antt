use Rattle.std.proofs.Common.{sym, ap, ◌∙◌, ◌≡◌, false}
use Rattle.smithy_http.proofs.ItemLemmas.{text_of-utf8, text_of-other}
use Rattle.smithy_serde.specs.Held as held
use Rattle.smithy_strings.specs.ReadingRefusals.{not_utf8}
use Rattle.smithy_strings.specs.StringReading.{held_whole, held_by_bytes}
use Rattle.smithy_strings.proofs.string_codec.HttpStringCodecCodec.create_deserializer.Goals as goal

pub returns-in-Ok-clause-begins : goal.returns-in-Ok-clause-begins
returns-in-Ok-clause-begins c =
    let same = ap (λ o. held_whole o false) (text_of-utf8 c.args.input.now c.in-Ok.ensures.cases.1) ∙ sym (ap (λ t. held.input t false) c.in-Ok.ensures.cases.0) in
    rw same c.new.ensures.begins

pub returns-in-Err-clause-begins : goal.returns-in-Err-clause-begins
returns-in-Err-clause-begins c =
    let same : held_by_bytes c.args.input.now ≡ held.refused not_utf8 = ap (λ o. held_whole o false) (text_of-other c.args.input.now c.in-Err.ensures.cases.0) in
    rw same c.of_no_text.ensures
