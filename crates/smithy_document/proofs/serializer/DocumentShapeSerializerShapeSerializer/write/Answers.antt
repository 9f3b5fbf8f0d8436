use Rattle.smithy_document.proofs.Common.{adds, label, scalar_of}
use Rattle.smithy_document.proofs.StandingLemmas.{none_again, answered}
use Rattle.smithy_document.proofs.serializer.DocumentShapeSerializerShapeSerializer.write.Goals as goal

pub put-tried-requires : goal.put-tried-requires
put-tried-requires c = none_again _ c.in_ok-again.ensures

pub returns : goal.returns
returns c = answered (adds (label c.args.schema) (scalar_of c.args.scalar)) c.args.self.now c.put-tried.new.self _ _ _ (none_again _ c.in_ok-again.ensures) c.put-tried.ensures c.keep.ensures
