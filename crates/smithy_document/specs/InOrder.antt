-- Documents whose objects have their names in byte order.
use Rattle.std.specs.Prelude.{Bool, true, ◌&&◌}
use Rattle.smithy_document.specs.Words.{Document, Items, Members, is_canonical, is_before}
use Rattle.smithy_types.specs.Documents as doc

-- in each object each name stands before the next
abbrev mutual
  pub is_in_order : Document → Bool
  is_in_order doc.null = true
  is_in_order (doc.boolean b) = true
  is_in_order (doc.number n) = true
  is_in_order (doc.string s) = true
  is_in_order (doc.array ds) = are_items_in_order ds
  is_in_order (doc.object ms) = are_members_in_order ms

  pub are_items_in_order : Items → Bool
  are_items_in_order doc.no_items = true
  are_items_in_order (doc.item d ds) = is_in_order d && are_items_in_order ds

  pub are_members_in_order : Members → Bool
  are_members_in_order doc.no_members = true
  are_members_in_order (doc.member k d ms) = is_before k ms && is_in_order d && are_members_in_order ms

-- a document that a text is read as: canonical, and in order
abbrev pub is_read : Document → Bool
is_read d = is_canonical d && is_in_order d
