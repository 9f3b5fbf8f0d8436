use Rattle.smithy_http.proofs.SpellingLaws.{Spells-unique}
use Rattle.smithy_http.proofs.laws.bytes_spell_one_list.Goals as goal

pub returns : goal.returns
returns c = Spells-unique
