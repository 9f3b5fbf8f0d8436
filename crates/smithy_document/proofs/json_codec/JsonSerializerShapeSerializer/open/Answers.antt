use Rattle.smithy_document.proofs.Common.{opens, label}
use Rattle.smithy_document.proofs.StandingLemmas.{none_again}
use Rattle.smithy_document.proofs.JsonCalls.{attempted, attempts_open}
use Rattle.smithy_document.proofs.json_codec.JsonSerializerShapeSerializer.open.Goals as goal

pub returns : goal.returns
returns c = attempted (opens (label c.args.schema) c.args.group) c.args.self.now (record c.args.self.now { writing = c.begin-tried.new.self; refusal = c.keep.new.self }) _ _ (none_again _ c.in_ok-again.ensures)
    (attempts_open (label c.args.schema) c.args.group _ _ _ c.begin-tried.ensures.begins c.begin-tried.ensures.memory c.begin-tried.ensures.err) c.keep.ensures
