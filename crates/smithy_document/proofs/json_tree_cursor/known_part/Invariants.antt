use Rattle.smithy_document.proofs.Common.{◌≡◌, ◌≤◌, ◌-◌, drop, flat_map, schema_of, known, node_view, parts_of}
use Rattle.smithy_document.proofs.json_tree_cursor.known_part.Given as goal

abbrev pub invariant-parts : goal.invariant-parts
invariant-parts l =
    let parts = parts_of (node_view l.tree.texts l.container) in
    (l.from ≤ l.position) × (flat_map (known (schema_of l.schema)) (drop l.from parts) ≡ flat_map (known (schema_of l.schema)) (drop l.position parts))

abbrev pub decreases-parts : goal.decreases-parts
decreases-parts l = l.count - l.position
