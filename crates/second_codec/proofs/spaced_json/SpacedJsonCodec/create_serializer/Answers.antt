use Rattle.std.proofs.Common.{refl}
use Rattle.smithy_document.proofs.JsonLaws.{json_is_lawful}
use Rattle.second_codec.proofs.spaced_json.SpacedJsonCodec.create_serializer.Goals as goal

pub returns-clause-fresh : goal.returns-clause-fresh
returns-clause-fresh c =
    let made = c.in_ok-inner.ensures.fresh in
    record { told = made.told; unrefused = made.unrefused; lists = made.lists; same_text = refl; is_lawful = λ h. made.is_lawful json_is_lawful }
