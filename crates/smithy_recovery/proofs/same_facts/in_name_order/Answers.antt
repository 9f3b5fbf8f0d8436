use Rattle.std.proofs.Common.{rules, of_calls}
use Rattle.std.proofs.lemmas.Fn.{always_returns_same}
use Rattle.smithy_recovery.proofs.Ordered.{pairs_ordered, name_in}
use Rattle.smithy_recovery.proofs.same_facts.in_name_order.Goals as goal

pub returns : goal.returns
returns c =
    pairs_ordered c.args.pairs.items c.sort_by_key.new.self.items
    (c.in_ok-sort_by_key.ensures.sorted name_in (always_returns_same _ _ _ (λ a r f k. search (rules, of_calls))))
    (c.in_ok-sort_by_key.ensures.stable name_in (always_returns_same _ _ _ (λ a r f k. search (rules, of_calls))))
