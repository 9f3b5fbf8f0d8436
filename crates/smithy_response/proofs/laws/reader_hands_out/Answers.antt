use Rattle.smithy_response.proofs.WholeRead.{members_handed}
use Rattle.smithy_response.proofs.laws.reader_hands_out.Goals as goal

pub returns : goal.returns
returns g c = λ n response is_error policy body old new answer is all. members_handed _ n response policy old new answer (g.D.ShapeDeserializer.at_hand) is_error body c.args._reader.now is all
