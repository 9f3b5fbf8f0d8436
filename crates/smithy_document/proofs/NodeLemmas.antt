-- A tree of JSON beside the document that it is, a level at a time.
use Rattle.smithy_document.proofs.Common.{◌≡◌, ℕ, min, List, [], ◌∷◌, length, map, slice_get, Option, Some, None, option_map, Vec, Global, refl, sym, ap, ◌∙◌, rules, option_map_or, length-map, slice_get-map, Document, list_of_members, Node, the_lemmas, text_at, node_view, nodes_view, fields_view, part_name, Part, nameless, parts_of}
use Rattle.smithy_types.specs.Documents as doc
use Rattle.smithy_document.specs.declared.json_tree.Node.TheVariants.{Text, Array, Object}
use Rattle.smithy_document.specs.Sizes.{container_size}
use Rattle.smithy_document.proofs.ValueLemmas.{map_twice}

pub view-Text : (texts : List (List ℕ)) (position : ℕ) → node_view texts (Text position) ≡ doc.string (text_at texts position)
view-Text texts position = search (rules, the_lemmas)

pub view-Array : (texts : List (List ℕ)) (v : Vec Node Global) → node_view texts (Array v) ≡ doc.array (nodes_view texts v.items)
view-Array texts v = search (rules, the_lemmas)

pub view-Object : (texts : List (List ℕ)) (v : Vec (ℕ × Node) Global) → node_view texts (Object v) ≡ doc.object (fields_view texts v.items)
view-Object texts v = search (rules, the_lemmas)

-- ---- the parts of an array and of an object

abbrev Field : Type 0
Field = ℕ × Node

parts-Array : (texts : List (List ℕ)) (ns : List Node) → nameless (nodes_view texts ns) ≡ map (λ n. ([], node_view texts n)) ns
parts-Array texts [] = refl
parts-Array texts (n ∷ ns) = ap (λ ps. ([], node_view texts n) ∷ ps) (parts-Array texts ns)

parts-Object : (texts : List (List ℕ)) (fs : List Field) → list_of_members (fields_view texts fs) ≡ map (λ f. (text_at texts f.0, node_view texts f.1)) fs
parts-Object texts [] = refl
parts-Object texts (f ∷ fs) = ap (λ ps. (text_at texts f.0, node_view texts f.1) ∷ ps) (parts-Object texts fs)

pub array_parts : (texts : List (List ℕ)) (n : Node) (v : Vec Node Global) → n ≡ Array v → parts_of (node_view texts n) ≡ map (λ x. ([], node_view texts x)) v.items
array_parts texts n v is = ap (λ x. parts_of (node_view texts x)) is ∙ ap parts_of (view-Array texts v) ∙ parts-Array texts v.items

pub object_parts : (texts : List (List ℕ)) (n : Node) (v : Vec Field Global) → n ≡ Object v → parts_of (node_view texts n) ≡ map (λ f. (text_at texts f.0, node_view texts f.1)) v.items
object_parts texts n v is = ap (λ x. parts_of (node_view texts x)) is ∙ ap parts_of (view-Object texts v) ∙ parts-Object texts v.items

-- how many parts there are
pub counted : {X : Type 0} (see : X → Part) (xs : List X) (ps : List Part) → ps ≡ map see xs → length xs ≡ length ps
counted see xs ps is = sym (ap length is ∙ length-map xs see)

pub sized-Array : (texts : List (List ℕ)) (n : Node) (v : Vec Node Global) → n ≡ Array v → Some (min (length v.items) 10000) ≡ container_size (node_view texts n)
sized-Array texts n v is =
    ap (λ l. Some (min l 10000)) (counted _ _ _ (array_parts texts (Array v) v refl) ∙ ap (λ d. length (parts_of d)) (view-Array texts v))
    ∙ ap container_size (sym (ap (node_view texts) is ∙ view-Array texts v))

pub sized-Object : (texts : List (List ℕ)) (n : Node) (v : Vec Field Global) → n ≡ Object v → Some (min (length v.items) 10000) ≡ container_size (node_view texts n)
sized-Object texts n v is =
    ap (λ l. Some (min l 10000)) (counted _ _ _ (object_parts texts (Object v) v refl) ∙ ap (λ d. length (parts_of d)) (view-Object texts v))
    ∙ ap container_size (sym (ap (node_view texts) is ∙ view-Object texts v))

-- the document of the part at a position
pub part_seen : {X : Type 0} (see : X → Part) (xs : List X) (ps : List Part) (i : ℕ) → ps ≡ map see xs → slice_get (map (λ x. (see x).1) xs) i ≡ option_map (λ p. p.1) (slice_get ps i)
part_seen see xs ps i is = ap (λ ys. slice_get ys i) (sym (map_twice see (λ p. p.1) xs)) ∙ slice_get-map (λ p. p.1) (map see xs) i ∙ ap (λ ys. option_map (λ p. p.1) (slice_get ys i)) (sym is)

-- the name of the part at a position
pub name_seen : {X : Type 0} (see : X → Part) (xs : List X) (d : Document) (i : ℕ) → parts_of d ≡ map see xs → option_map_or (λ p. p.0) (slice_get (map see xs) i) [] ≡ part_name d i
name_seen see xs d i is = ap (λ ys. option_map_or (λ p. p.0) (slice_get ys i) []) (sym is)

abbrev as_nameless : {X : Type 0} → (X → Document) → X → Part
as_nameless f x = ([], f x)

nameless_at : {X : Type 0} (f : X → Document) (o : Option X) → option_map_or {T = Part} (λ p. p.0) (option_map (as_nameless f) o) [] ≡ []
nameless_at f None = refl
nameless_at f (Some x) = refl

pub no_name : (texts : List (List ℕ)) (n : Node) (v : Vec Node Global) (i : ℕ) → n ≡ Array v → [] ≡ part_name (node_view texts n) i
no_name texts n v i is =
    sym (ap (λ (o : Option Part). option_map_or (λ p. p.0) o []) (slice_get-map (as_nameless (node_view texts)) v.items i) ∙ nameless_at (node_view texts) (slice_get v.items i)) ∙ name_seen _ v.items _ i (array_parts texts n v is)
