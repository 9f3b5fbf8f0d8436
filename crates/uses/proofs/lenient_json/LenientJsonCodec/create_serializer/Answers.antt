use Rattle.std.proofs.lemmas.Result.{IfOk-weaker}
use Rattle.smithy_document.proofs.JsonLaws.{json_is_lawful}
use Rattle.uses.proofs.lenient_json.LenientJsonCodec.create_serializer.Goals as goal

pub returns-clause-fresh : goal.returns-clause-fresh
returns-clause-fresh c =
    IfOk-weaker c.create_serializer.result _ _
    (λ s made. record { told = made.told; unrefused = made.unrefused; lists = made.lists; same_text = made.same_text; is_lawful = λ h. made.is_lawful json_is_lawful })
    c.create_serializer.ensures.fresh
