use Rattle.std.proofs.Common.{rules, of_calls}
use Rattle.std.proofs.lemmas.Fn.{always_returns_same}
use Rattle.smithy_serde.proofs.IndexOrder.{is_in_order, place_in, sorted_writes, sorted_defined}
use Rattle.smithy_serde.proofs.value.WriteList.in_index_order.Goals as goal

pub returns-clause-order : goal.returns-clause-order
returns-clause-order c =
    let place = place_in c.args.table.now in
    sorted_writes c.args.table.now c.args.self c.sort_by_key.new.self
    (is_in_order place _ _ (c.in_ok-sort_by_key.ensures.sorted place (always_returns_same _ _ _ (λ a r f k. search (rules, of_calls))))
    (c.in_ok-sort_by_key.ensures.stable place (always_returns_same _ _ _ (λ a r f k. search (rules, of_calls)))))

pub returns-clause-defined : goal.returns-clause-defined
returns-clause-defined c =
    let place = place_in c.args.table.now in
    sorted_defined place c.args.self c.sort_by_key.new.self
    (is_in_order place _ _ (c.in_ok-sort_by_key.ensures.sorted place (always_returns_same _ _ _ (λ a r f k. search (rules, of_calls))))
    (c.in_ok-sort_by_key.ensures.stable place (always_returns_same _ _ _ (λ a r f k. search (rules, of_calls)))))
