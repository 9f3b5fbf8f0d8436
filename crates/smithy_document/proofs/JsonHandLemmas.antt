-- A reader of JSON, as it is seen: that of a document, or one that refuses.
use Rattle.smithy_document.proofs.Common.{◌≡◌, ℕ, List, true, Ok, Err, refl, ap, SerdeError, AtHand, Answered, refusing, hand_of, tree_view, reading, document_at, opened_along, opened_by, path_end, tree_seen}
use Rattle.smithy_document.specs.declared.json_tree.JsonTree.{JsonTree}
use Rattle.smithy_document.specs.declared.json_tree_cursor.TreeCursor.{TreeCursor}
use Rattle.smithy_document.specs.views.JsonHand.{Body}
use Rattle.smithy_document.proofs.HandLemmas.{answered, refused_answered}

pub over : (P : AtHand → AtHand → Type 0) (b : Body) (t : JsonTree) (c d : TreeCursor) → b ≡ Ok t → P (tree_seen (tree_view t) c) (tree_seen (tree_view t) d) → P (hand_of b c) (hand_of b d)
over P b t c d is p = rw is p

pub over_none : (P : AtHand → AtHand → Type 0) (b : Body) (text : List ℕ) (c d : TreeCursor) → b ≡ Err text → P (refusing text) (refusing text) → P (hand_of b c) (hand_of b d)
over_none P b text c d is p = rw is p

pub json_answered : (b : Body) (c : TreeCursor) (refusal : SerdeError) → Answered refusal (hand_of b c) (hand_of b c) refusal
json_answered (Err text) c refusal = refused_answered text refusal
json_answered (Ok t) c refusal = answered true (document_at (tree_view t) c) (opened_by (tree_view t) c) refusal

pub hand_alike : (b : Body) (old new : TreeCursor) → new.spots.items ≡ old.spots.items → hand_of b new ≡ hand_of b old
hand_alike (Err text) old new same = refl
hand_alike (Ok t) old new same = ap (λ ps. reading true (path_end (tree_view t) ps) (opened_along (tree_view t) ps)) same
