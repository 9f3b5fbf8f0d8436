use Rattle.std.proofs.lemmas.Result.{on_ok_weaker}
use Rattle.smithy_bind.proofs.CodedLemmas.{error-added}
use Rattle.smithy_bind.proofs.coded.add_error.Goals as goal

pub returns : goal.returns
returns c =
    on_ok_weaker c.insert_error_shape.result
    (error-added c.args.table.now c.args.place.0 c.in-Some.schema c.new-reader.result c.new-reader.result c.args.builder.now c.insert_error_shape.new.self c.in-Some.ensures.node c.in-Some.ensures.place)
    c.insert_error_shape.ensures.ok
