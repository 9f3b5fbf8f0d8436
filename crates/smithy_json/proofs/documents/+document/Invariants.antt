use Rattle.std.proofs.Common.{◌≡◌, drop, option_map}
use Rattle.smithy_json.specs.views.JsonView.{items_view, members_view}
use Rattle.smithy_types.specs.Documents.{members_of}
use Rattle.smithy_types.specs.DocumentView.{items_view as documents_view, members_view as fields_view}
use Rattle.smithy_json.specs.FromData.{items_of_data, pairs_of_data}
use Rattle.smithy_json.proofs.DocumentLemmas.{and_items, put_rest}
use Rattle.smithy_json.proofs.documents.+document.Given as goal

abbrev pub invariant-documents_of-loop-item : goal.invariant-documents_of-loop-item
invariant-documents_of-loop-item l = option_map (and_items (documents_view l.found)) (items_of_data (items_view (drop l.item-index l.items.items))) ≡ items_of_data (items_view l.items.items)

abbrev pub invariant-fields_of-loop-member : goal.invariant-fields_of-loop-member
invariant-fields_of-loop-member l = put_rest (fields_view l.found) (pairs_of_data (members_view (drop l.member-index l.members.items))) ≡ option_map members_of (pairs_of_data (members_view l.members.items))
