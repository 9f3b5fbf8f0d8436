-- Which values a member in the headers, the query or a label takes.
use Rattle.smithy_binding.proofs.Common.{◌≡◌, refl, ap, sym, ◌∙◌, ℕ, Bool, true, false, not, ◌&&◌, ◌||◌, List, ◌++◌, Option, Some, None, is_none, is_some, and_parts, append-nil, ShapeType, same_kind, is_scalar, Schema, key_of, value_of, Binding, to_query_map, to_body, binding_at, binding_of, is_outside_body, is_bound, fits, fits_member, is_null, kind_takes, Value, list, Writes, pairs_at, query_names, is_header_kind, has_element, has_label_kind, has_query_kind, has_header_kind, has_bound_kind, is_plain_string, is_plain_list, has_map_kind, is_placed_at, Gathered, has_placed_kind, is_text_binding, is_list_binding, takes_map, placed_first, IsSingle, queries}
use Rattle.smithy_ids.specs.declared.shape_type.ShapeType.TheVariants as kind
use Rattle.smithy_serde.specs.Values as value
use Rattle.smithy_binding.proofs.FittingKinds.{fits-some}

only-first : (a b : Bool) → b ≡ false → (a || b) ≡ true → a ≡ true
only-first true b off e = refl
only-first false b off e = let q : false ≡ true = sym off ∙ e in absurd (cc q)

list_from_takes : (k : ShapeType) → kind_takes k kind.List ≡ true → k ≡ kind.List
list_from_takes kind.List e = refl
list_from_takes _ e = absurd (cc e)

map_from_takes : (k : ShapeType) → kind_takes k kind.Map ≡ true → k ≡ kind.Map
map_from_takes kind.Map e = refl
map_from_takes _ e = absurd (cc e)

map_from_test : (k : ShapeType) → same_kind k kind.Map ≡ true → k ≡ kind.Map
map_from_test kind.Map e = refl
map_from_test _ e = absurd (cc e)

-- what a member is asked for by each trait

label-kind : (m : Schema) → has_placed_kind m ≡ true → has_label_kind m ≡ true
label-kind m e = (and_parts (has_label_kind m) (has_query_kind m) (and_parts (has_label_kind m && has_query_kind m) (has_header_kind m) (and_parts (has_bound_kind m) (has_map_kind m) e).0).0).0

query-kind : (m : Schema) → has_placed_kind m ≡ true → has_query_kind m ≡ true
query-kind m e = (and_parts (has_label_kind m) (has_query_kind m) (and_parts (has_label_kind m && has_query_kind m) (has_header_kind m) (and_parts (has_bound_kind m) (has_map_kind m) e).0).0).1

header-kind : (m : Schema) → has_placed_kind m ≡ true → has_header_kind m ≡ true
header-kind m e = (and_parts (has_label_kind m && has_query_kind m) (has_header_kind m) (and_parts (has_bound_kind m) (has_map_kind m) e).0).1

-- a map stands in the headers or the query
abbrev has_map : Schema → Bool
has_map m = is_some m.node.traits.http_prefix_headers || m.node.traits.http_query_params

map-kind : (m : Schema) → has_placed_kind m ≡ true → has_map m ≡ true → m.node.kind ≡ kind.Map
map-kind m e takes =
    map_from_test m.node.kind (either (is_some m.node.traits.http_prefix_headers) m.node.traits.http_query_params (same_kind m.node.kind kind.Map) (is_plain_string (key_of m))
    (is_plain_string (value_of m)) (is_plain_string (value_of m) || is_plain_list (value_of m)) (and_parts (has_bound_kind m) (has_map_kind m) e).1 takes)
  where
    either : (prefix query is_map keys texts lists : Bool) → ((not prefix || (is_map && keys && texts)) && (not query || (is_map && keys && lists))) ≡ true → (prefix || query) ≡ true → is_map ≡ true
    either prefix query true keys texts lists e takes = refl
    either true query false keys texts lists e takes = absurd (cc e)
    either false true false keys texts lists e takes = absurd (cc e)
    either false false false keys texts lists e takes = absurd (cc takes)

list-at : (header prefix query : Option (List ℕ)) (query_map label payload : Bool) → is_placed_at (binding_at header prefix query query_map label payload) ≡ true → not label ≡ true
    → not (is_some prefix || query_map) ≡ true → is_list_binding (binding_at header prefix query query_map label payload) ≡ true
list-at (Some h) prefix query query_map label payload p l n = refl
list-at None (Some prefix) query query_map label payload p l n = absurd (cc n)
list-at None None (Some q) query_map label payload p l n = refl
list-at None None None true label payload p l n = absurd (cc n)
list-at None None None false true payload p l n = absurd (cc l)
list-at None None None false false true p l n = absurd (cc p)
list-at None None None false false false p l n = absurd (cc p)

single-at : (header prefix query : Option (List ℕ)) (query_map label payload : Bool) → is_placed_at (binding_at header prefix query query_map label payload) ≡ true
    → not (is_some prefix || query_map) ≡ true → is_text_binding (binding_at header prefix query query_map label payload) ≡ true
single-at (Some h) prefix query query_map label payload p n = refl
single-at None (Some prefix) query query_map label payload p n = absurd (cc n)
single-at None None (Some q) query_map label payload p n = refl
single-at None None None true label payload p n = absurd (cc n)
single-at None None None false true payload p n = refl
single-at None None None false false true p n = absurd (cc p)
single-at None None None false false false p n = absurd (cc p)

map-at : (header prefix query : Option (List ℕ)) (query_map label payload : Bool) → is_placed_at (binding_at header prefix query query_map label payload) ≡ true → is_none header ≡ true
    → is_none query ≡ true → not label ≡ true → takes_map (binding_at header prefix query query_map label payload) ≡ true
map-at (Some h) prefix query query_map label payload p no_header no_query l = absurd (cc no_header)
map-at None (Some prefix) query query_map label payload p no_header no_query l = refl
map-at None None (Some q) query_map label payload p no_header no_query l = absurd (cc no_query)
map-at None None None true label payload p no_header no_query l = refl
map-at None None None false true payload p no_header no_query l = absurd (cc l)
map-at None None None false false true p no_header no_query l = absurd (cc p)
map-at None None None false false false p no_header no_query l = absurd (cc p)

-- a list fits a member in a header or the query
pub list-fits : (m : Schema) (ws : Writes) → is_placed_at (binding_of m) ≡ true → has_placed_kind m ≡ true → fits_member m (list ws) ≡ true → is_list_binding (binding_of m) ≡ true
list-fits m ws placed kinds fit =
    let t = m.node.traits in
    let is : m.node.kind ≡ kind.List = list_from_takes m.node.kind (sym (fits-some m (list ws) kind.List refl) ∙ fit) in
    list-at t.http_header t.http_prefix_headers t.http_query t.http_query_params t.http_label t.http_payload placed
    (only-first (not t.http_label) (is_scalar m.node.kind) (ap is_scalar is) (label-kind m kinds))
    (go (has_map m) refl is)
  where
    go : (b : Bool) → has_map m ≡ b → m.node.kind ≡ kind.List → not b ≡ true
    go false e is = refl
    go true e is = let q : kind.List ≡ kind.Map = sym is ∙ map-kind m kinds e in absurd (cc q)

-- a map fits one with a map's binding
pub map-fits : (m : Schema) (ws : Writes) → is_placed_at (binding_of m) ≡ true → has_placed_kind m ≡ true → fits_member m (value.map ws) ≡ true → takes_map (binding_of m) ≡ true
map-fits m ws placed kinds fit =
    let t = m.node.traits in
    let is : m.node.kind ≡ kind.Map = map_from_takes m.node.kind (sym (fits-some m (value.map ws) kind.Map refl) ∙ fit) in
    let no_headers : has_element is_header_kind m ≡ false = rw is refl in
    let no_scalars : has_element is_scalar m ≡ false = rw is refl in
    map-at t.http_header t.http_prefix_headers t.http_query t.http_query_params t.http_label t.http_payload placed
    (only-first (is_none t.http_header) (is_header_kind m.node.kind) (ap is_header_kind is)
    (only-first (is_none t.http_header || is_header_kind m.node.kind) (has_element is_header_kind m) no_headers (header-kind m kinds)))
    (only-first (is_none t.http_query) (is_scalar m.node.kind) (ap is_scalar is)
    (only-first (is_none t.http_query || is_scalar m.node.kind) (has_element is_scalar m) no_scalars (query-kind m kinds)))
    (only-first (not t.http_label) (is_scalar m.node.kind) (ap is_scalar is) (label-kind m kinds))

placed-bound : (b : Binding) → is_placed_at b ≡ true → is_outside_body b ≡ true
placed-bound to_body e = absurd (cc e)
placed-bound _ e = refl

single-unfit : (v : Value) → IsSingle v → (fits kind.Map v || (is_null v && false)) ≡ false
single-unfit (list ws) p = absurd p
single-unfit (value.map ws) p = absurd p
single-unfit (value.scalar (value.whole value.byte z)) p = refl
single-unfit (value.scalar (value.whole value.short z)) p = refl
single-unfit (value.scalar (value.whole value.integer z)) p = refl
single-unfit (value.scalar (value.whole value.long z)) p = refl
single-unfit _ p = refl

-- a value that is no list and no map fits one in a header, the query or a label by itself
pub single-fits : (m : Schema) (v : Value) → IsSingle v → is_placed_at (binding_of m) ≡ true → has_placed_kind m ≡ true → fits_member m v ≡ true → is_text_binding (binding_of m) ≡ true
single-fits m v single placed kinds fit =
    let t = m.node.traits in
    single-at t.http_header t.http_prefix_headers t.http_query t.http_query_params t.http_label t.http_payload placed (go (has_map m) refl)
  where
    go : (b : Bool) → has_map m ≡ b → not b ≡ true
    go false e = refl
    go true e =
        let is : m.node.kind ≡ kind.Map = map-kind m kinds e in
        let bound : is_bound m ≡ true = placed-bound (binding_of m) placed in
        let unfit : fits_member m v ≡ false = rw (is, bound) (single-unfit v single) in
        let q : true ≡ false = sym fit ∙ unfit in
        absurd (cc q)

-- the query map puts nothing but pairs
pub placed-query_map : (schema m : Schema) (v : Value) (s : Gathered) (query : List ℕ) → to_query_map ≡ binding_of m
    → ((n : Schema) → query ≡ s.query ++ queries (pairs_at to_query_map (query_names schema) n v)) → record s { query = query } ≡ placed_first schema m v s
placed-query_map schema m v s query e put = rw (← e, append-nil s.labels, put m) refl
