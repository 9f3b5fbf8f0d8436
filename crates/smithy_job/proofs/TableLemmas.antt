-- Tables that grow, and the nodes in them.
use Rattle.std.proofs.Common.{◌≡◌, refl, sym, ap, ◌∙◌, ℕ, zero, suc, ◌+◌, length, length-append, List, [], ◌∷◌, ◌++◌, append_assoc, map, Option, Some, None, IfSome, option_map, option_and_then, unwrap_or}
use Rattle.std.proofs.lemmas.List.{map-append, length-map}
use Rattle.std.specs.Borrow.{Bor}
use Rattle.std.specs.List.{slice_get}
use Rattle.smithy_schema.specs.Nodes.{Node, Table, Schema, node_at, cited, shape, member_at, position_of_name, element_of, key_of, value_of}
use Rattle.smithy_serde.specs.Values.{Label, label_of}
use Rattle.smithy_job.specs.Values as values
use Rattle.smithy_job.specs.Values.{further_label}
use Rattle.smithy_job.specs.views.Tables.{Keeps, HasLabel, StandsIn, MayStandIn, further_node, nodes_with}

abbrev with_table : Table → Node → Schema
with_table t n = record { table = t; node = n }

pub keeps-all : (t : Table) → Keeps t t
keeps-all t = record { keeps = λ index node e. e }

pub keeps-both : (a b c : Table) → Keeps a b → Keeps b c → Keeps a c
keeps-both a b c h k = record { keeps = λ index node e. k.keeps index node (h.keeps index node e) }

node_at-front : (t u : Table) (p : ℕ) (n : Node) → node_at t p ≡ Some n → node_at (t ++ u) p ≡ Some n
node_at-front [] u p n e = absurd (cc e)
node_at-front (o ∷ t) u zero n e = e
node_at-front (o ∷ t) u (suc p) n e = node_at-front t u p n e

keeps-front : (t u : Table) → Keeps t (t ++ u)
keeps-front t u = record { keeps = node_at-front t u }

pub model-kept : (t : Table) (names : List (Bor (List ℕ))) → Keeps t (nodes_with t names)
model-kept t names = keeps-front t _

pub label-kept : (a b : Table) (p : ℕ) (l : Label) → Keeps a b → HasLabel a p l → HasLabel b p l
label-kept a b p l k h = go (node_at a p) refl h
  where
    go : (o : Option Node) → node_at a p ≡ o → option_map label_of (option_map (with_table a) o) ≡ Some l → HasLabel b p l
    go None e h = absurd (cc h)
    go (Some n) e h = rw (k.keeps p n e) h

-- a label in a model's table stands in each one that has more names
pub model-label : (t : Table) (names : List (Bor (List ℕ))) (p : ℕ) (l : Label) → HasLabel t p l → HasLabel (nodes_with t names) p l
model-label t names p l h = label-kept t (nodes_with t names) p l (model-kept t names) h

-- the same, whatever names there were before
pub any-label : (t : Table) (earlier names : List (Bor (List ℕ))) (p : ℕ) (l : Label) → HasLabel t p l → HasLabel (nodes_with (nodes_with t earlier) names) p l
any-label t earlier names p l h = model-label (nodes_with t earlier) names p l (model-label t earlier p l h)

cited-stands : (t : Table) (s : Schema) (o : Option ℕ) → StandsIn t s → MayStandIn t (cited s o)
cited-stands t s None h = tt
cited-stands t s (Some p) h = go (node_at s.table p) refl
  where
    go : (o : Option Node) → node_at s.table p ≡ o → IfSome (option_map (with_table s.table) o) (StandsIn t)
    go None e = tt
    go (Some n) e = record { table = h.table; index = (p, rw e refl) }

shape-stands : (t : Table) (s : Schema) → StandsIn t s → StandsIn t (shape s)
shape-stands t s h = go (cited s s.node.target) (cited-stands t s s.node.target h)
  where
    go : (o : Option Schema) → MayStandIn t o → StandsIn t (unwrap_or o s)
    go None k = h
    go (Some target) k = k

pub element-stands : (t : Table) (here : Option Schema) → MayStandIn t here → MayStandIn t (option_and_then element_of here)
element-stands t None h = tt
element-stands t (Some s) h = cited-stands t s s.node.element h

pub key-stands : (t : Table) (here : Option Schema) → MayStandIn t here → MayStandIn t (option_and_then key_of here)
key-stands t None h = tt
key-stands t (Some s) h = cited-stands t s s.node.key h

pub value-stands : (t : Table) (here : Option Schema) → MayStandIn t here → MayStandIn t (option_and_then value_of here)
value-stands t None h = tt
value-stands t (Some s) h = cited-stands t s s.node.value h

named-stands : (t : Table) (s : Schema) (o : Option ℕ) → StandsIn t s → MayStandIn t (option_and_then (member_at s) o)
named-stands t s None h = tt
named-stands t s (Some i) h = cited-stands t s (slice_get s.node.members i) h

pub member-stands : (t : Table) (here : Option Schema) (name : List ℕ) → MayStandIn t here → MayStandIn t (values.member_at here name)
member-stands t None name h = tt
member-stands t (Some s) name h = named-stands t (shape s) (position_of_name (shape s) name) (shape-stands t s h)

abbrev further : Bor (List ℕ) → Option Node
further n = Some (further_node n.now)

-- names behind others
pub nodes_with-both : (t : Table) (xs ys : List (Bor (List ℕ))) → nodes_with (nodes_with t xs) ys ≡ nodes_with t (xs ++ ys)
nodes_with-both t xs ys = append_assoc t (map further xs) (map further ys) ∙ ap (λ ns. t ++ ns) (sym (map-append further xs ys))

-- one more name

node_at-last : (t : Table) (x : Option Node) → node_at (t ++ x ∷ []) (length t) ≡ x
node_at-last [] x = refl
node_at-last (o ∷ t) x = node_at-last t x

nodes_with-more : (t : Table) (xs : List (Bor (List ℕ))) (x : Bor (List ℕ)) → nodes_with t (xs ++ x ∷ []) ≡ nodes_with t xs ++ further x ∷ []
nodes_with-more t xs x = ap (λ ns. t ++ ns) (map-append further xs (x ∷ [])) ∙ sym (append_assoc t (map further xs) (further x ∷ []))

pub name-kept : (t : Table) (xs ys : List (Bor (List ℕ))) (x : Bor (List ℕ)) → ys ≡ xs ++ x ∷ [] → Keeps (nodes_with t xs) (nodes_with t ys)
name-kept t xs ys x e = rw (e, nodes_with-more t xs x) (keeps-front (nodes_with t xs) (further x ∷ []))

pub length-nodes_with : (t : Table) (xs : List (Bor (List ℕ))) → length (nodes_with t xs) ≡ length t + length xs
length-nodes_with t xs = length-append t (map further xs) ∙ ap (λ n. length t + n) (length-map xs further)

pub name-labelled : (t : Table) (xs ys : List (Bor (List ℕ))) (x : Bor (List ℕ)) (p : ℕ) → ys ≡ xs ++ x ∷ [] → p ≡ length t + length xs → HasLabel (nodes_with t ys) p (further_label x.now)
name-labelled t xs ys x p e at =
    let index : p ≡ length (nodes_with t xs) = at ∙ sym (length-nodes_with t xs) in
    rw (e, nodes_with-more t xs x, index, node_at-last (nodes_with t xs) (further x)) refl
