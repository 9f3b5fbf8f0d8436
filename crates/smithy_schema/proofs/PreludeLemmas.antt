-- The prelude's nodes, inserted one by one.
use Rattle.std.proofs.Common.{◌≡◌, sym, ap, ◌∙◌, ℕ, ◌+◌, ◌<◌, List, [], ◌∷◌, ◌++◌, length, get_or, take, map, append_assoc, Some}
use Rattle.std.proofs.lemmas.List.{get_or-map, length-map, map-append, take_more}
use Rattle.smithy_ids.specs.declared.shape_type.ShapeType.{ShapeType}
use Rattle.smithy_schema.specs.Nodes.{Node, Table}
use Rattle.smithy_schema.specs.PreludeNodes.{prelude_node, prelude_kinds, prelude_nodes}

grown : (old : Table) (kinds : List ShapeType) (i : ℕ) (d : ShapeType) → i < length kinds
    → (old ++ map Some (take i (map prelude_node kinds))) ++ Some (prelude_node (get_or kinds i d)) ∷ [] ≡ old ++ map Some (take (i + 1) (map prelude_node kinds))
grown old kinds i d h =
    let nodes = map prelude_node kinds in
    let within : i < length (map prelude_node kinds) = rw length-map h in
    let next = take_more nodes i (prelude_node d) within ∙ ap (λ (n : Node). take i (map prelude_node kinds) ++ n ∷ []) (get_or-map prelude_node kinds i d (prelude_node d) h) in
    append_assoc old (map Some (take i nodes)) (Some (prelude_node (get_or kinds i d)) ∷ [])
    ∙ ap (λ (t : Table). old ++ t) (sym (map-append Some (take i nodes) (prelude_node (get_or kinds i d) ∷ [])) ∙ ap (map Some) (sym next))

-- one more node of the prelude
pub prelude_grown : (old now next : Table) (i : ℕ) (d : ShapeType) → i < 14 → now ≡ old ++ map Some (take i prelude_nodes) → next ≡ now ++ Some (prelude_node (get_or prelude_kinds i d)) ∷ [] → next ≡ old ++ map Some (take (i + 1) prelude_nodes)
prelude_grown old now next i d h so_far step = step ∙ ap (λ (t : Table). t ++ Some (prelude_node (get_or prelude_kinds i d)) ∷ []) so_far ∙ grown old prelude_kinds i d h
