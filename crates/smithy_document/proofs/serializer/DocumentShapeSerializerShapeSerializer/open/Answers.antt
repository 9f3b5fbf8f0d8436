use Rattle.smithy_document.proofs.Common.{opens, label}
use Rattle.smithy_document.proofs.StandingLemmas.{none_again, answered}
use Rattle.smithy_document.proofs.serializer.DocumentShapeSerializerShapeSerializer.open.Goals as goal

pub begin-tried-requires : goal.begin-tried-requires
begin-tried-requires c = none_again _ c.in_ok-again.ensures

pub returns : goal.returns
returns c = answered (opens (label c.args.schema) c.args.group) c.args.self.now c.begin-tried.new.self _ _ _ (none_again _ c.in_ok-again.ensures) c.begin-tried.ensures c.keep.ensures
