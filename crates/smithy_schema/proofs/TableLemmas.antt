-- What stands at the places of a table that is kept.
use Rattle.std.proofs.Common.{◌≡◌, refl, sym, ap, ◌∙◌, ℕ, suc, true, ◌&&◌, ◌||◌, List, [], ◌∷◌, ◌++◌, length, option_map, Option, Some, None}
use Rattle.std.specs.List.{slice_get}
use Rattle.std.specs.Option.{option_flatten, is_some, is_none}
use Rattle.std.proofs.lemmas.Bool.{and_parts}
use Rattle.std.proofs.lemmas.Option.{slice_get-map}
use Rattle.smithy_schema.specs.declared.stored.StoredNode.{StoredNode}
use Rattle.smithy_ids.specs.ShapeIds.{has_hash, parts_in}
use Rattle.smithy_schema.specs.Nodes.{Node, Table, node_at}
use Rattle.smithy_schema.specs.views.Stored.{node_stored, table_stored}
use Rattle.smithy_schema.specs.Defining.{IsSound}
use Rattle.smithy_schema.specs.WellMade.{has_utf8_texts, is_whole}

-- what stands at a place of the kept nodes
pub node_at-table_stored : (nodes : List (Option StoredNode)) (place : ℕ) → node_at (table_stored nodes) place ≡ option_map node_stored (option_flatten (slice_get nodes place))
node_at-table_stored nodes place = ap (λ (o : Option (Option Node)). option_flatten o) (slice_get-map (option_map node_stored) nodes place) ∙ go (slice_get nodes place)
  where
    go : (o : Option (Option StoredNode)) → option_flatten (option_map (option_map node_stored) o) ≡ option_map node_stored (option_flatten o)
    go None = refl
    go (Some None) = refl
    go (Some (Some n)) = refl

pub length-table_stored : (nodes : List (Option StoredNode)) → length (table_stored nodes) ≡ length nodes
length-table_stored [] = refl
length-table_stored (o ∷ nodes) = ap suc (length-table_stored nodes)

pub table_stored-push : (nodes : List (Option StoredNode)) (o : Option StoredNode) → table_stored (nodes ++ o ∷ []) ≡ table_stored nodes ++ option_map node_stored o ∷ []
table_stored-push [] o = refl
table_stored-push (p ∷ nodes) o = ap (λ (t : Table). option_map node_stored p ∷ t) (table_stored-push nodes o)

-- a whole node has each part of the test
named_of_whole : (node : Node) → is_whole node ≡ true → (has_hash node.full_name && (is_some node.member_name || is_none node.member_index)) ≡ true
named_of_whole node whole = (and_parts (has_hash node.full_name && (is_some node.member_name || is_none node.member_index)) (has_utf8_texts node) whole).0

pub name_of_whole : (node : Node) → is_whole node ≡ true → (is_some node.member_name || is_none node.member_index) ≡ true
name_of_whole node whole = (and_parts (has_hash node.full_name) (is_some node.member_name || is_none node.member_index) (named_of_whole node whole)).1

pub hash_of_whole : (node : Node) → is_whole node ≡ true → has_hash node.full_name ≡ true
hash_of_whole node whole =
    (and_parts (has_hash node.full_name) (is_some node.member_name || is_none node.member_index) (named_of_whole node whole)).0

-- a whole node's full name has parts
pub whole-parts : (node : Node) (name : List ℕ) → name ≡ node.full_name → is_whole node ≡ true → None ≡ parts_in name → ⊥
whole-parts node name same whole none =
    let hash = hash_of_whole node whole in
    let hash' : has_hash name ≡ true = rw same hash in
    let bad = rw hash' at none in cc bad

-- a node that a sound table keeps is whole
pub whole_at : (nodes seen : List (Option StoredNode)) (place : ℕ) (node : Node) → IsSound (table_stored nodes) → seen ≡ nodes → Some node ≡ node_at (table_stored seen) place → is_whole node ≡ true
whole_at nodes seen place node sound same at =
    let here : node_at (table_stored nodes) place ≡ Some node = rw (← same) (sym at) in sound.whole place node here
