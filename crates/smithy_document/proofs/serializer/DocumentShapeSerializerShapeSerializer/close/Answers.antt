use Rattle.smithy_document.proofs.Common.{closes}
use Rattle.smithy_document.proofs.StandingLemmas.{none_again, still_open, answered}
use Rattle.smithy_document.proofs.serializer.DocumentShapeSerializerShapeSerializer.close.Goals as goal

pub end-tried-requires : goal.end-tried-requires
end-tried-requires c = record { unrefused = none_again _ c.in_ok-again.ensures; «open» = still_open _ _ c.in_ok-again.ensures c.requires }

pub returns : goal.returns
returns c = answered (closes) c.args.self.now c.end-tried.new.self _ _ _ (none_again _ c.in_ok-again.ensures) c.end-tried.ensures c.keep.ensures
