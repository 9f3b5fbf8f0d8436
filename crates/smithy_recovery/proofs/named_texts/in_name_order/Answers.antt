use Rattle.std.proofs.Common.{rules, of_calls}
use Rattle.std.proofs.lemmas.Fn.{always_returns_same}
use Rattle.smithy_recovery.proofs.Ordered.{texts_ordered, text_name}
use Rattle.smithy_recovery.proofs.named_texts.in_name_order.Goals as goal

pub returns : goal.returns
returns c =
    texts_ordered c.args.texts.items c.sort_by_key.new.self.items
    (c.in_ok-sort_by_key.ensures.sorted text_name (always_returns_same _ _ _ (λ a r f k. search (rules, of_calls))))
    (c.in_ok-sort_by_key.ensures.stable text_name (always_returns_same _ _ _ (λ a r f k. search (rules, of_calls))))
