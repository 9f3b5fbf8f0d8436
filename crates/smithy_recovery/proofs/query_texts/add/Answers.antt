use Rattle.std.proofs.Common.{arith, ap, ◌∙◌, [], ◌∷◌, ◌++◌, Some, string_bytes}
use Rattle.std.specs.BTreeMap.Entry.{map_with_value}
use Rattle.std.proofs.lemmas.Map.Text.{btree_map_updates_text}
use Rattle.smithy_http.specs.Facts.{values_at}
use Rattle.smithy_recovery.specs.views.Pieces.{pieces_under}
use Rattle.smithy_recovery.proofs.Grouped.{group_put}
use Rattle.smithy_recovery.proofs.query_texts.add.Goals as goal

pub returns : goal.returns
returns c = λ name.
    let old = c.args.pieces.now in
    let key = string_bytes c.in_ok-name.name in
    let after = c.push.new.self in
    let new = map_with_value c.in_ok-pieces.field-0 after in
    let added = group_put old new key c.args.piece c.new.result c.or_insert-named.result.now after c.new.ensures.items (grind arith) c.in_ok-push.ensures.items
    (btree_map_updates_text key old new (Some after) (c.in_ok-pieces.ensures.update.0 after)) name
    ∙ ap (λ n. pieces_under old name ++ values_at name ((n, c.args.piece.now) ∷ [])) (c.in_ok-name.ensures.ok ∙ c.name_of.ensures) in
    grind (arith, added)
