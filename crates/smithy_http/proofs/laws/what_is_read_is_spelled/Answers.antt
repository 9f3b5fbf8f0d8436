use Rattle.smithy_http.proofs.SpellingLaws.{list_texts-spelled, Spells-list_texts}
use Rattle.smithy_http.proofs.laws.what_is_read_is_spelled.Goals as goal

pub returns : goal.returns
returns c = λ texts bytes. (list_texts-spelled texts bytes, Spells-list_texts texts bytes)
