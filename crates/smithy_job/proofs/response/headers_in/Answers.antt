use Rattle.std.proofs.Common.{◌≡◌, ◌++◌, ◌∷◌, [], rules}
use Rattle.smithy_job.proofs.ReceivedLemmas.{headers-more, headers-refused}
use Rattle.smithy_job.proofs.response.headers_in.Goals as goal

pub returns-in_err-push_header : goal.returns-in_err-push_header
returns-in_err-push_header c =
    headers-refused c.args.items.now c.loop-item.item-index c.item-item.result c.loop-item.headers c.push_header.new.headers _ c.loop-item-test.true c.item-item.is c.loop-item.invariant
    (λ _ p. c.push_header.new.headers ≡ c.loop-item.headers ++ p ∷ []) c.in_err-push_header.field-0.0 c.from_residual.result (search rules) c.in_err-push_header.ensures

pub loop-item-preserved : goal.loop-item-preserved
loop-item-preserved c =
    headers-more c.args.items.now c.loop-item.item-index c.item-item.result c.loop-item.headers c.push_header.new.headers _ c.loop-item-test.true c.item-item.is c.loop-item.invariant
    c.in_ok-push_header.ensures
