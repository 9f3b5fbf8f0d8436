-- Tables of shapes, and the schemas that stand in them.
use Rattle.std.proofs.Common.{◌≡◌, Vec, Global, refl, sym, ap, ◌∙◌, subst, cond, ℕ, zero, suc, ◌+◌, Bool, true, false, List, [], ◌∷◌, ◌++◌, append_assoc, length, length-append, map, find, arith, Option, Some, None, option_map, option_and_then, Result, Err}
use Rattle.std.proofs.lemmas.List.{append-nil, length-map}
use Rattle.smithy_types.specs.Results.{each}
use Rattle.smithy_schema.specs.Nodes.{Node, Table, Schema, node_at, at_place}
use Rattle.smithy_model.specs.Names.{is}
use Rattle.smithy_model.specs.Shapes.{Shape}
use Rattle.smithy_model.specs.Nodes.{Spot, Errors, spots, spots_from, spot_named, member_count, member_nodes, shape_node, nodes_of, schema_with, natural_node, schema_of, index_named, schema_named, errors_of}
use Rattle.smithy_model.specs.views.NodeView.{filled, IsFilledBy, IsFilled}
use Rattle.smithy_model.specs.views.PlacedView.{IsPlacedAt, StandAt, PlacesErrors}
use Rattle.smithy_model.specs.Reads.{Reads}
use Rattle.smithy_model.specs.declared.error.JobError.{JobError}
use Rattle.smithy_model.specs.declared.error.JobError.TheVariants.{NoJob, OutOfMemory}
use Rattle.smithy_schema.specs.Places.{places_of}
use Rattle.smithy_schema.specs.declared.parts.SchemaIndex.{SchemaIndex}
use Rattle.smithy_model.specs.declared.table.ModelTable.{ModelTable}
use Rattle.smithy_model.specs.declared.table.PlacedErrors.{PlacedErrors}
use Rattle.smithy_model.proofs.FilledLemmas.{filled-both}
use Rattle.smithy_model.proofs.SpotLemmas.{spots-length}
use Rattle.smithy_model.proofs.NodeLemmas.{all-nodes-length}

-- the nodes of these shapes with indexes that are only declared, where there are such nodes
abbrev pub made : List Shape → ℕ → Option Table
made xs further = option_map (λ ns. filled ns further) (nodes_of xs)

-- members and shapes fill a table
pub table-filled : (xs : List Shape) (ss : List Spot) (count index further : ℕ) (t0 t1 t2 : Table) → ss ≡ spots xs → count ≡ member_count xs → index ≡ count + length xs → t0 ≡ filled [] (index + further)
    → IsFilled 0 t0 t1 (member_nodes ss xs) → IsFilledBy count (map (shape_node ss) ss) t1 t2 → made xs further ≡ Some t2
table-filled xs ss count index further t0 t1 t2 are c q start members k = go (member_nodes (spots xs) xs) refl (rw are at members)
  where
    go : (o : Option (List Node)) → member_nodes (spots xs) xs ≡ o → IsFilled 0 t0 t1 o → made xs further ≡ Some t2
    go None f none = absurd none
    go (Some ms) f some =
        let ns = map (shape_node (spots xs)) (spots xs) in
        let long : length ms ≡ count = all-nodes-length (spots xs) xs ms f ∙ sym c in
        let many : length ns ≡ length xs = length-map (spots xs) (shape_node (spots xs)) ∙ spots-length 0 (member_count xs) xs in
        let both = filled-both 0 count ms ns t0 t1 t2 (omega (arith, long)) some (rw are at k) in
        let indexes : index + further ≡ length (ms ++ ns) + further = rw (length-append ms ns) (omega (arith, q, long, many)) in
        rw f (ap (λ (t : Table). Some t) (sym (both [] further refl (start ∙ ap (filled []) indexes))))

-- none where a target is not there
pub table-absent : (xs : List Shape) (ss : List Spot) (further : ℕ) → ss ≡ spots xs → member_nodes ss xs ≡ None → made xs further ≡ None
table-absent xs ss further are e = let none : member_nodes (spots xs) xs ≡ None = rw are at e in rw none refl

pub nodes-absent : (xs : List Shape) (further : ℕ) → made xs further ≡ None → nodes_of xs ≡ None
nodes-absent xs further e = go (nodes_of xs) e
  where
    go : (o : Option (List Node)) → option_map (λ ns. filled ns further) o ≡ None → o ≡ None
    go None h = refl
    go (Some ns) h = absurd (cc h)

-- The nodes of a table: those of members, then those of the shapes.
pub record AreNodes (xs : List Shape) (ns : List Node) : Type 0 where
  pub members : List Node
  pub count : length members ≡ member_count xs
  pub are : ns ≡ members ++ map (shape_node (spots xs)) (spots xs)

pub nodes-are : (xs : List Shape) (ns : List Node) → nodes_of xs ≡ Some ns → AreNodes xs ns
nodes-are xs ns e = go (member_nodes (spots xs) xs) refl e
  where
    go : (o : Option (List Node)) → member_nodes (spots xs) xs ≡ o → option_map (λ ms. ms ++ map (shape_node (spots xs)) (spots xs)) o ≡ Some ns → AreNodes xs ns
    go None f h = absurd (cc h)
    go (Some ms) f h =
        let same : ms ++ map (shape_node (spots xs)) (spots xs) ≡ ns = cc in
        record { members = ms; count = all-nodes-length (spots xs) xs ms f; are = sym same }

-- the nodes of a table that was made
pub record IsMade (xs : List Shape) (further : ℕ) (table : Table) : Type 0 where
  pub nodes : List Node
  pub of : nodes_of xs ≡ Some nodes
  pub filled_so : table ≡ filled nodes further

pub made-so : (xs : List Shape) (further : ℕ) (t : Table) → made xs further ≡ Some t → IsMade xs further t
made-so xs further t e = go (nodes_of xs) refl e
  where
    go : (o : Option (List Node)) → nodes_of xs ≡ o → option_map (λ ns. filled ns further) o ≡ Some t → IsMade xs further t
    go None f h = absurd (cc h)
    go (Some ns) f h = let same : filled ns further ≡ t = cc in record { nodes = ns; of = f; filled_so = sym same }

nodes-count : (xs : List Shape) (ns : List Node) → AreNodes xs ns → length ns ≡ member_count xs + length xs
nodes-count xs ns h =
    let shapes = map (shape_node (spots xs)) (spots xs) in
    let count = h.count in
    let many : length shapes ≡ length xs = length-map (spots xs) (shape_node (spots xs)) ∙ spots-length 0 (member_count xs) xs in
    ap length h.are ∙ length-append h.members shapes ∙ omega (arith, count, many)

-- the node behind some
node_behind : (xs : List Node) (n : Node) (ys : List Node) → node_at (map Some (xs ++ n ∷ ys)) (length xs) ≡ Some n
node_behind [] n ys = refl
node_behind (x ∷ xs) n ys = node_behind xs n ys

-- the node of a spot stands at its index
spot-node : (f : Spot → Node) (before : List Node) (first index : ℕ) (xs : List Shape) (name : List ℕ) (spot : Spot) → length before ≡ index → find (λ s. is s.shape.name name) (spots_from first index xs) ≡ Some spot
    → node_at (map Some (before ++ map f (spots_from first index xs))) spot.index ≡ Some (f spot)
spot-node f before first index [] name spot p e = absurd (cc e)
spot-node f before first index (x ∷ xs) name spot p e =
    go (is x.name name) (spot-node f (before ++ f (record { index = index; first = first; shape = x }) ∷ []) (first + length x.members) (index + 1) xs name spot (length-append before _ ∙ ap (λ n. n + 1) p)) e
  where
    here : Spot
    here = record { index = index; first = first; shape = x }

    rest : List Spot
    rest = spots_from (first + length x.members) (index + 1) xs

    go : (b : Bool) → (find (λ s. is s.shape.name name) rest ≡ Some spot → node_at (map Some ((before ++ f here ∷ []) ++ map f rest)) spot.index ≡ Some (f spot)) → cond b (Some here) (find (λ s. is s.shape.name name) rest) ≡ Some spot → node_at (map Some (before ++ f here ∷ map f rest)) spot.index ≡ Some (f spot)
    go true more h =
        let same : here ≡ spot = cc in
        subst (λ s. node_at (map Some (before ++ f here ∷ map f rest)) s.index ≡ Some (f s)) same (subst (λ i. node_at (map Some (before ++ f here ∷ map f rest)) i ≡ Some (f here)) p (node_behind before (f here) (map f rest)))
    go false more h = subst (λ ns. node_at (map Some ns) spot.index ≡ Some (f spot)) (append_assoc before (f here ∷ []) (map f rest)) (more h)

node_front : (xs ys : List Node) (i : ℕ) (n : Node) → node_at (map Some xs) i ≡ Some n → node_at (map Some (xs ++ ys)) i ≡ Some n
node_front [] ys i n e = absurd (cc e)
node_front (x ∷ xs) ys zero n e = e
node_front (x ∷ xs) ys (suc i) n e = node_front xs ys i n e

-- the node of the shape of this name, in the table of all
shape-there : (xs : List Shape) (ns : List Node) (name : List ℕ) (spot : Spot) → AreNodes xs ns → spot_named (spots xs) name ≡ Some spot → node_at (map Some ns) spot.index ≡ Some (shape_node (spots xs) spot)
unfolding spot_named
shape-there xs ns name spot h f =
    subst (λ zs. node_at (map Some zs) spot.index ≡ Some (shape_node (spots xs) spot)) (sym h.are) (spot-node (shape_node (spots xs)) h.members 0 (member_count xs) xs name spot h.count f)

pub schema-placed : (xs : List Shape) (name : List ℕ) (ss : List Spot) (spot : Spot) (natural : ℕ) (t0 : Table) (p : ModelTable) → ss ≡ spots xs → spot_named ss name ≡ Some spot → natural ≡ member_count xs + length xs → made xs 1 ≡ Some t0
    → IsFilledBy natural (natural_node ∷ []) t0 p.table → p.index.0 ≡ spot.index → p.natural.0 ≡ natural → IsPlacedAt (schema_of xs name) p
unfolding schema_of
schema-placed xs name ss spot natural t0 p are e q m last at behind =
    let table = made-so xs 1 t0 m in
    let ns = table.nodes in
    let all = ns ++ natural_node ∷ [] in
    let nodes = nodes-are xs ns table.of in
    let long : length ns ≡ natural = nodes-count xs ns nodes ∙ sym q in
    let named : spot_named (spots xs) name ≡ Some spot = rw are at e in
    let whole : p.table ≡ map Some all = last ns 0 long table.filled_so ∙ append-nil (map Some all) in
    let there : node_at (map Some all) p.index.0 ≡ Some (shape_node (spots xs) spot) =
    subst (λ i. node_at (map Some all) i ≡ Some (shape_node (spots xs) spot)) (sym at) (node_front ns (natural_node ∷ []) spot.index _ (shape-there xs ns name spot nodes named)) in
    let of_values : node_at (map Some all) p.natural.0 ≡ Some natural_node = subst (λ i. node_at (map Some all) i ≡ Some natural_node) (long ∙ sym behind) (node_behind ns natural_node []) in
    rw (table.of, named) (record { nodes = whole; node = rw there refl; natural = of_values })

pub schema-absent : (xs : List Shape) (name : List ℕ) (ss : List Spot) → ss ≡ spots xs → spot_named ss name ≡ None → schema_of xs name ≡ None
unfolding schema_of
schema-absent xs name ss are e = let none : spot_named (spots xs) name ≡ None = rw are at e in rw none (go (nodes_of xs))
  where
    none : Option Schema
    none = None

    go : (o : Option (List Node)) → option_and_then (λ ns. none) o ≡ None
    go None = refl
    go (Some ns) = refl

pub schema-without : (xs : List Shape) (name : List ℕ) → nodes_of xs ≡ None → schema_of xs name ≡ None
unfolding schema_of
schema-without xs name none = rw none refl

-- the schemas of these names stand at these indexes
pub record AreThere (ns : List Node) (ss : List Spot) (names : List (List ℕ)) (indexes : List ℕ) : Type 0 where
  pub schemas : List Schema
  pub named : each (schema_named ns ss) names ≡ Some schemas
  pub there : map (at_place (map Some ns)) indexes ≡ map Some schemas

there-first : (xs : List Shape) (ns : List Node) → AreNodes xs ns → (names : List (List ℕ)) (indexes : List ℕ) → each (index_named (spots xs)) names ≡ Some indexes → AreThere ns (spots xs) names indexes
there-first xs ns h [] indexes e = let none : [] ≡ indexes = cc in subst (λ ps. AreThere ns (spots xs) [] ps) none (record { schemas = []; named = refl; there = refl })
there-first xs ns h (name ∷ names) indexes e = go (spot_named (spots xs) name) refl (each (index_named (spots xs)) names) (there-first xs ns h names) e
  where
    go : (o : Option Spot) → spot_named (spots xs) name ≡ o → (p : Option (List ℕ)) → ((ps : List ℕ) → p ≡ Some ps → AreThere ns (spots xs) names ps)
        → option_and_then (λ i. option_map (λ ps. i ∷ ps) p) (option_map (λ s. s.index) o) ≡ Some indexes → AreThere ns (spots xs) (name ∷ names) indexes
    go None f p k g = absurd (cc g)
    go (Some spot) f None k g = absurd (cc g)
    go (Some spot) f (Some ps) k g =
        let more = k ps refl in
        let all : spot.index ∷ ps ≡ indexes = cc in
        let node = shape-there xs ns name spot h f in
        subst (λ qs. AreThere ns (spots xs) (name ∷ names) qs) all (record {
          schemas = schema_with ns (shape_node (spots xs) spot) ∷ more.schemas;
          named = rw (f, more.named) refl;
          there = rw (node, more.there) refl;
        })

pub are-there : (xs : List Shape) (ns : List Node) (names : List (List ℕ)) (indexes : List ℕ) → nodes_of xs ≡ Some ns → each (index_named (spots xs)) names ≡ Some indexes → AreThere ns (spots xs) names indexes
are-there xs ns names indexes e f = there-first xs ns (nodes-are xs ns e) names indexes f

-- without a index there is no schema
not-there : (ns : List Node) (ss : List Spot) (names : List (List ℕ)) → each (index_named ss) names ≡ None → each (schema_named ns ss) names ≡ None
not-there ns ss [] e = absurd (cc e)
not-there ns ss (name ∷ names) e = go (spot_named ss name) (each (index_named ss) names) (not-there ns ss names) e
  where
    go : (o : Option Spot) (p : Option (List ℕ)) → (p ≡ None → each (schema_named ns ss) names ≡ None) → option_and_then (λ i. option_map (λ ps. i ∷ ps) p) (option_map (λ s. s.index) o) ≡ None
        → option_and_then (λ s. option_map (λ more. s ∷ more) (each (schema_named ns ss) names)) (option_map (λ spot. schema_with ns (shape_node ss spot)) o) ≡ None
    go None p k e = refl
    go (Some spot) None k e = rw (k refl) refl
    go (Some spot) (Some ps) k e = absurd (cc e)

pub errors-without : (xs : List Shape) (operation service : List (List ℕ)) → nodes_of xs ≡ None → errors_of xs operation service ≡ None
unfolding errors_of
errors-without xs operation service e = rw e refl

pub first-absent : (xs : List Shape) (ns : List Node) (operation service : List (List ℕ)) → nodes_of xs ≡ Some ns → each (index_named (spots xs)) operation ≡ None → errors_of xs operation service ≡ None
unfolding errors_of
first-absent xs ns operation service e f = rw (e, not-there ns (spots xs) operation f) refl

pub second-absent : (xs : List Shape) (ns : List Node) (operation service : List (List ℕ)) → nodes_of xs ≡ Some ns → each (index_named (spots xs)) service ≡ None → errors_of xs operation service ≡ None
unfolding errors_of
second-absent xs ns operation service e f = rw (e, not-there ns (spots xs) service f) (go (each (schema_named ns (spots xs)) operation))
  where
    none : Option Errors
    none = None

    go : (o : Option (List Schema)) → option_and_then (λ os. none) o ≡ None
    go None = refl
    go (Some os) = refl

pub errors-are : (xs : List Shape) (ns : List Node) (operation service : List (List ℕ)) (os ss : List Schema) → nodes_of xs ≡ Some ns → each (schema_named ns (spots xs)) operation ≡ Some os
    → each (schema_named ns (spots xs)) service ≡ Some ss → errors_of xs operation service ≡ Some (record { operation = os; service = ss })
unfolding errors_of
errors-are xs ns operation service os ss e f g = rw (e, f, g) refl

-- a refusal that is passed on
pub errors-refused : (part : Option (List ℕ)) (whole : Option Errors) (e : JobError) (r : Result PlacedErrors JobError) → r ≡ Err e → (part ≡ None → whole ≡ None) → Reads {A = Vec SchemaIndex Global} (λ v. places_of v.items) part (Err e)
    → PlacesErrors whole r
errors-refused part whole NoJob r is h k = rw is (h k)
errors-refused part whole OutOfMemory r is h k = rw is tt

-- the schemas that stand at indexes of a table without further indexes
pub stand-there : (t : Table) (ns : List Node) (indexes : List SchemaIndex) (schemas : List Schema) → t ≡ filled ns 0 → map (at_place (map Some ns)) (places_of indexes) ≡ map Some schemas → StandAt t indexes schemas
stand-there t ns indexes schemas e h = rw (e, append-nil) (all indexes ∙ h)
  where
    all : (indexes : List SchemaIndex) → map (λ p. at_place (map Some ns) p.0) indexes ≡ map (at_place (map Some ns)) (places_of indexes)
    all [] = refl
    all (p ∷ ps) = ap (λ (o : List (Option Schema)). at_place (map Some ns) p.0 ∷ o) (all ps)
