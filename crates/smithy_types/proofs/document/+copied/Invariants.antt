use Rattle.std.proofs.Common.{◌≡◌, take, map}
use Rattle.smithy_types.specs.Documents.{put_all}
use Rattle.smithy_types.specs.views.DocumentView.{view, pair_view, members_view}
use Rattle.smithy_types.proofs.document.+copied.Given as goal

abbrev pub invariant-Documents::copy-loop-item : goal.invariant-Documents::copy-loop-item
invariant-Documents::copy-loop-item l = map view l.items.items ≡ map view (take l.item-index l.item-items)

-- what is still to come, put into what was copied, is the whole
abbrev pub invariant-Members::copy-loop-name : goal.invariant-Members::copy-loop-name
invariant-Members::copy-loop-name l = put_all (map pair_view l.name-iterator) (members_view l.found) ≡ members_view l.self
