use Rattle.smithy_ids.proofs.PartsLemmas as lemma
use Rattle.smithy_ids.proofs.laws.names_tell_parts.Goals as goal

pub returns : goal.returns
returns c = lemma.names_tell_parts
