use Rattle.std.proofs.Common.{◌+◌, sym, ap, ◌∙◌, drop, map, Some}
use Rattle.std.specs.Option.{option_or}
use Rattle.std.proofs.lemmas.Map.Text.{btree_map_updates_str}
use Rattle.smithy_types.specs.Texts.{found}
use Rattle.smithy_recovery.specs.views.Kept.{label_seen, text_in_map}
use Rattle.smithy_recovery.proofs.EachText.{drop_at}
use Rattle.smithy_recovery.proofs.Grouped.{label_put, label_skip, none_got, some_got}
use Rattle.smithy_recovery.proofs.path_texts.texts_in_map.Goals.{then-is_none+in_ok-insert, else-is_none}
use Rattle.smithy_recovery.proofs.path_texts.texts_in_map.Goals as goal

pub loop-label-preserved : goal.loop-label-preserved
loop-label-preserved c = λ name.
    let l = c.label-item.result in
    let old = c.loop-label.texts in
    let i = c.loop-label.label-index in
    let rest = map label_seen (drop (i + 1) c.args.labels.now) in
    let here = ap (λ ls. option_or (text_in_map old name) (found name (map label_seen ls))) (sym (drop_at c.args.labels.now i l c.loop-label-test.true c.label-item.is)) ∙ c.loop-label.invariant name in
    elim c.if-is_none.branch [
      | then-is_none+in_ok-insert w ↦ rw w.texts-is
          (label_put old w.insert.new.self l w.as_str.result rest w.as_str.ensures (none_got c.get.result _ c.is_none.result c.is_none.ensures w.if-is_none.true c.get.ensures.value)
          (btree_map_updates_str l.name.now old w.insert.new.self (Some w.as_str.result) w.in_ok-insert.ensures.updates) name ∙ here)
      | else-is_none w ↦ rw w.texts-is
          (let met = some_got c.get.result _ c.is_none.result c.is_none.ensures w.if-is_none.false c.get.ensures.value in label_skip old l met.0 rest met.1 name ∙ here)
    ]
