use Rattle.smithy_document.proofs.Common.{closes}
use Rattle.smithy_document.proofs.StandingLemmas.{none_again, still_open}
use Rattle.smithy_document.proofs.JsonCalls.{attempted, attempts_end}
use Rattle.smithy_document.proofs.json_codec.JsonSerializerShapeSerializer.close.Goals as goal

pub end-tried-requires : goal.end-tried-requires
end-tried-requires c = still_open _ _ c.in_ok-again.ensures c.requires

pub returns : goal.returns
returns c = attempted (closes) c.args.self.now (record c.args.self.now { writing = c.end-tried.new.self; refusal = c.keep.new.self }) _ _ (none_again _ c.in_ok-again.ensures)
    (attempts_end _ _ _ (still_open _ _ c.in_ok-again.ensures c.requires) c.end-tried.ensures) c.keep.ensures
