use Rattle.std.proofs.Common.{◌≡◌, ◌++◌, codes, map, drop}
use Rattle.serde_json.specs.Find.{get}
use Rattle.smithy_json.specs.JsonView.{view}
use Rattle.smithy_bind.specs.Replying.{lines_of_items}
use Rattle.smithy_bind.specs.views.ReplyView.{AreKnown}
use Rattle.smithy_bind.proofs.responded.lines_of.Given as goal

abbrev pub invariant-loop-item : goal.invariant-loop-item
invariant-loop-item l = record {
  known : AreKnown (get (codes "model") (view l.job)) l.targets.known.items;
  lines : l.text.items ++ lines_of_items (view l.job) (map view (drop l.item-index l.items)) ≡ lines_of_items (view l.job) (map view l.items);
}
