-- Nodes of members and shapes, one after another.
use Rattle.std.proofs.Common.{◌≡◌, refl, sym, ap, ◌∙◌, subst, ℕ, zero, suc, ◌+◌, true, ◌&&◌, if◌then◌else◌, ◌<◌, List, [], ◌∷◌, ◌++◌, length, length-append, get_or, map, drop, arith, Option, Some, None, option_map, option_and_then}
use Rattle.std.specs.List.{range_with_len}
use Rattle.std.proofs.lemmas.List.{drop_more, length-map}
use Rattle.smithy_ids.specs.declared.shape_type.ShapeType.{ShapeType}
use Rattle.smithy_ids.specs.declared.shape_type.ShapeType.TheVariants as kind
use Rattle.smithy_ids.specs.declared.payload_hint.PayloadHint.TheVariants.{Unknown}
use Rattle.smithy_schema.specs.Nodes.{Node, Table, bare_node}
use Rattle.smithy_model.specs.Shapes as shapes
use Rattle.smithy_model.specs.Nodes.{Spot, element_at, key_at, value_at, is_structure, members_at, are_outside, hint_of, spot_named, member_count, member_id, member_node, member_nodes_from, member_nodes, shape_node}
use Rattle.smithy_model.specs.views.ModelView.{member_view, shape_view}
use Rattle.smithy_model.specs.views.SpotView.{spot_view}
use Rattle.smithy_model.specs.views.NodeView.{IsFilledBy, IsFilled}
use Rattle.smithy_model.specs.declared.shape.Member.{Member}
use Rattle.smithy_model.specs.declared.shape.Shape.{Shape}
use Rattle.smithy_model.specs.declared.spots.Spot as declared
use Rattle.smithy_model.proofs.FilledLemmas.{Filled, filled-more}

-- a member of a shape
pub member-more : (ss : List Spot) (shape : List ℕ) (first index : ℕ) (ms : List Member) (i : ℕ) (m : Member) (spot : Spot) (t u v : Table) (all : Option (List Node)) → i < length ms → m ≡ get_or ms i m
    → Some spot ≡ spot_named ss m.target.now → index ≡ first + i → IsFilledBy index (member_node ss (member_id shape m.name.now) i (member_view m) spot ∷ []) u v
    → Filled first (first + i) t u (member_nodes_from ss shape i (map member_view (drop i ms))) all
    → Filled first (first + (i + 1)) t v (member_nodes_from ss shape (i + 1) (map member_view (drop (i + 1) ms))) all
member-more ss shape first index ms i m spot t u v all l is e p k h =
    let node = member_node ss (member_id shape m.name.now) i (member_view m) spot in
    filled-more first (first + i) (first + (i + 1)) (node ∷ []) t u v _ all (omega arith) (subst (λ q. IsFilledBy q (node ∷ []) u v) p k) (rw (drop_more ms i m l, ← is, ← e) at h)

-- as many nodes as there are members
pub nodes-length : (ss : List Spot) (shape : List ℕ) (i : ℕ) (ms : List shapes.Member) (ns : List Node) → member_nodes_from ss shape i ms ≡ Some ns → length ns ≡ length ms
nodes-length ss shape i [] ns e = let none : [] ≡ ns = cc in rw (← none) refl
nodes-length ss shape i (m ∷ ms) ns e = go (spot_named ss m.target) (member_nodes_from ss shape (i + 1) ms) (nodes-length ss shape (i + 1) ms) e
  where
    go : (s : Option Spot) (o : Option (List Node)) → ((ns : List Node) → o ≡ Some ns → length ns ≡ length ms)
        → option_and_then (λ spot. option_map (λ nodes. member_node ss (member_id shape m.name) i m spot ∷ nodes) o) s ≡ Some ns → length ns ≡ suc (length ms)
    go None o h e = absurd (cc e)
    go (Some s) None h e = absurd (cc e)
    go (Some s) (Some more) h e = let all : member_node ss (member_id shape m.name) i m s ∷ more ≡ ns = cc in rw (← all) (ap suc (h more refl))

pub all-nodes-length : (ss : List Spot) (xs : List shapes.Shape) (ns : List Node) → member_nodes ss xs ≡ Some ns → length ns ≡ member_count xs
all-nodes-length ss [] ns e = let none : [] ≡ ns = cc in rw (← none) refl
all-nodes-length ss (x ∷ xs) ns e = go (member_nodes_from ss x.name 0 x.members) (member_nodes ss xs) (nodes-length ss x.name 0 x.members) (all-nodes-length ss xs) e
  where
    go : (o p : Option (List Node)) → ((ns : List Node) → o ≡ Some ns → length ns ≡ length x.members) → ((ns : List Node) → p ≡ Some ns → length ns ≡ member_count xs)
        → option_and_then (λ nodes. option_map (λ others. nodes ++ others) p) o ≡ Some ns → length ns ≡ length x.members + member_count xs
    go None p h k e = absurd (cc e)
    go (Some ms) None h k e = absurd (cc e)
    go (Some ms) (Some others) h k e =
        let all : ms ++ others ≡ ns = cc in
        let here = h ms refl in
        let more = k others refl in
        rw (← all) (length-append ms others ∙ omega (arith, here, more))

-- the members of a shape
pub shape-more : (ss : List Spot) (xs : List Shape) (i : ℕ) (x : Shape) (ms : List Member) (next after : ℕ) (t u v : Table) (all : Option (List Node)) → i < length xs → x ≡ get_or xs i x
    → ms ≡ x.members.items → after ≡ next + length ms → IsFilled next u v (member_nodes_from ss x.name.now 0 (map member_view ms))
    → Filled 0 next t u (member_nodes ss (map shape_view (drop i xs))) all
    → Filled 0 after t v (member_nodes ss (map shape_view (drop (i + 1) xs))) all
shape-more ss xs i x ms next after t u v all l is m a k h =
    go (member_nodes_from ss x.name.now 0 (map member_view x.members.items)) refl (subst (λ ys. IsFilled next u v (member_nodes_from ss x.name.now 0 (map member_view ys))) m k)
  where
    go : (o : Option (List Node)) → member_nodes_from ss x.name.now 0 (map member_view x.members.items) ≡ o → IsFilled next u v o
        → Filled 0 after t v (member_nodes ss (map shape_view (drop (i + 1) xs))) all
    go None e none = absurd none
    go (Some ns) e some =
        let count : length ns ≡ length ms = nodes-length ss x.name.now 0 (map member_view x.members.items) ns e ∙ length-map x.members.items member_view ∙ ap length (sym m) in
        filled-more 0 next after ns t u v _ all (omega (arith, count, a)) some (rw (drop_more xs i x l, ← is, e) at h)

-- the shapes themselves
pub spot-more : (ss : List Spot) (first index : ℕ) (xs : List declared.Spot) (i : ℕ) (x : declared.Spot) (t u v : Table) (all : Option (List Node)) → i < length xs → x ≡ get_or xs i x
    → index ≡ first + i → IsFilledBy index (shape_node ss (spot_view x) ∷ []) u v
    → Filled first (first + i) t u (Some (map (shape_node ss) (map spot_view (drop i xs)))) all
    → Filled first (first + (i + 1)) t v (Some (map (shape_node ss) (map spot_view (drop (i + 1) xs)))) all
spot-more ss first index xs i x t u v all l is p k h =
    let node = shape_node ss (spot_view x) in
    filled-more first (first + i) (first + (i + 1)) (node ∷ []) t u v _ all (omega arith) (subst (λ q. IsFilledBy q (node ∷ []) u v) p k) (rw (drop_more xs i x l, ← is) at h)

-- one more index
pub range-more : (a n : ℕ) → range_with_len a (n + 1) ≡ range_with_len a n ++ (a + n) ∷ []
range-more a zero = let here : a + 0 ≡ a = omega arith in rw here refl
range-more a (suc n) =
    let next : suc n + 1 ≡ suc (n + 1) = omega arith in
    let here : a + suc n ≡ a + 1 + n = omega arith in
    rw (next, here) (ap (λ xs. a ∷ xs) (range-more (a + 1) n))

-- the node of a structure or a union
pub structure-node : (ss : List Spot) (spot : Spot) → is_structure spot.shape.kind ≡ true
    → shape_node ss spot ≡ record (bare_node spot.shape.name spot.shape.kind) {
      members = range_with_len spot.first (length spot.shape.members);
      traits = spot.shape.traits;
      has_no_body_members = are_outside spot.shape.members;
      hint = hint_of ss spot.shape.members;
    }
structure-node ss spot e = go spot.shape.kind e
  where
    go : (k : ShapeType) → is_structure k ≡ true
        → record (bare_node spot.shape.name k) {
          element = element_at k spot.first;
          key = key_at k spot.first;
          value = value_at k spot.first;
          members = members_at k spot.first (length spot.shape.members);
          traits = spot.shape.traits;
          has_no_body_members = is_structure k && are_outside spot.shape.members;
          hint = if is_structure k then hint_of ss spot.shape.members else Unknown;
        }
        ≡ record (bare_node spot.shape.name k) {
          members = range_with_len spot.first (length spot.shape.members);
          traits = spot.shape.traits;
          has_no_body_members = are_outside spot.shape.members;
          hint = hint_of ss spot.shape.members;
        }
    go kind.Structure h = refl
    go kind.Union h = refl
    go kind.Boolean h = absurd (cc h)
    go kind.Byte h = absurd (cc h)
    go kind.Short h = absurd (cc h)
    go kind.Integer h = absurd (cc h)
    go kind.Long h = absurd (cc h)
    go kind.Float h = absurd (cc h)
    go kind.Double h = absurd (cc h)
    go kind.BigInteger h = absurd (cc h)
    go kind.BigDecimal h = absurd (cc h)
    go kind.String h = absurd (cc h)
    go kind.Blob h = absurd (cc h)
    go kind.Timestamp h = absurd (cc h)
    go kind.Document h = absurd (cc h)
    go kind.List h = absurd (cc h)
    go kind.Map h = absurd (cc h)
    go kind.Member h = absurd (cc h)
