use Rattle.smithy_serde.proofs.LawfulLemmas.{lawful_apart}
use Rattle.smithy_serde.proofs.laws.texts_tell_apart.Goals as goal

pub returns : goal.returns
returns g c = lawful_apart _ _ (g.met.C.Codec.tells c.args.codec.now c.requires)
