use Rattle.std.proofs.Common.{refl}
use Rattle.smithy_document.proofs.JsonPuts.{key_put}
use Rattle.smithy_document.proofs.json_writing.JsonWriting.key.Goals as goal

pub returns-clause-keyed : goal.returns-clause-keyed
returns-clause-keyed c = key_put c.args.self.now c.name.new.self _ c.args.name.now c.in_ok-name.ensures.named refl refl refl c.in_ok-name.ensures.around refl
