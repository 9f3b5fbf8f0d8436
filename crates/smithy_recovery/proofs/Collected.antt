-- Values that are read one after another into a list of writes.
use Rattle.std.proofs.Common.{◌≡◌, refl, sym, ◌∙◌, ap, ℕ, ℤ, List, [], ◌∷◌, map, Option, Some, None, option_map, option_and_then, unwrap_or, is_some}
use Rattle.smithy_schema.specs.Nodes.{Table, Schema, at_place}
use Rattle.smithy_serde.specs.StoredValues.{label_at, no_label, HasNode}
use Rattle.smithy_serde.specs.Told.{appended, one_write}
use Rattle.smithy_serde.specs.ValueRead.{write_by}
use Rattle.smithy_serde.specs.Values as value
use Rattle.smithy_serde.specs.Values.{Label, Value, Writes, no_writes, write, writes_of, label_of}
use Rattle.smithy_serde.proofs.WritesLemmas.{appended-no_writes, appended_assoc}
use Rattle.smithy_recovery.specs.HeaderParts.{list_value}

-- the label at the place of a node
pub placed_label : (t : Table) (place : ℕ) (e : Schema) → at_place t place ≡ Some e → label_at t place ≡ label_of e
placed_label t place e is = ap (λ o. unwrap_or (option_map label_of o) no_label) is

-- and that place has a node
pub placed_node : (t : Table) (place : ℕ) (e : Schema) → at_place t place ≡ Some e → HasNode t place
placed_node t place e is = ap is_some is

-- values as writes with the node of the elements
abbrev pub made : Schema → List Value → Writes
made e vs = writes_of (map (write_by e) vs)

-- what was written, and what is still to be read behind it
abbrev pub so_far : Schema → Writes → Option (List Value) → Option Writes
so_far e ws o = option_map (λ vs. appended ws (made e vs)) o

pub started : (e : Schema) (ws : Writes) (o : Option (List Value)) → ws ≡ no_writes → so_far e ws o ≡ option_map (made e) o
started e ws o none = ap (λ w. so_far e w o) none

-- one value further
pub one_more : (t : Table) (place : ℕ) (e : Schema) (old new : Writes) (v : Value) (r : Option Value) (o : Option (List Value)) → at_place t place ≡ Some e → r ≡ Some v
    → new ≡ appended old (one_write (label_at t place) v) → so_far e new o ≡ so_far e old (option_and_then (λ y. option_map (λ ys. y ∷ ys) o) r)
one_more t place e old new v r o is read more =
    ap (λ w. so_far e w o) (more ∙ ap (λ l. appended old (one_write l v)) (placed_label t place e is)) ∙ go o ∙ ap (λ x. so_far e old (option_and_then (λ y. option_map (λ ys. y ∷ ys) o) x)) (sym read)
  where
    go : (o : Option (List Value)) → so_far e (appended old (one_write (label_of e) v)) o ≡ so_far e old (option_map (λ ys. v ∷ ys) o)
    go None = refl
    go (Some vs) = ap Some (appended_assoc old (one_write (label_of e) v) (made e vs))

-- all were read
pub all_made : (e : Schema) (ws : Writes) (o : Option (List Value)) → so_far e ws (Some []) ≡ option_map (made e) o → option_map (list_value e) o ≡ Some (value.list ws)
all_made e ws (Some vs) same = let is : appended ws no_writes ≡ made e vs = cc same in ap (λ w. Some (value.list w)) (sym is ∙ appended-no_writes ws)
all_made e ws None same = absurd (cc same)

-- one was none
pub none_made : (e : Schema) (ws : Writes) (o : Option (List Value)) → so_far e ws None ≡ option_map (made e) o → option_map (list_value e) o ≡ None
none_made e ws (Some vs) same = absurd (cc same)
none_made e ws None same = refl

-- all values of a list are written
pub whole_made : (e : Schema) (ws : Writes) (vs all : List Value) → vs ≡ [] → appended ws (made e vs) ≡ made e all → value.list ws ≡ list_value e all
whole_made e ws vs all none same = ap value.list (sym (appended-no_writes ws) ∙ ap (λ us. appended ws (made e us)) (sym none) ∙ same)

-- one point in time further
pub time_more : (t : Table) (place : ℕ) (e : Schema) (old new : Writes) (v : Value) (z : ℤ) (zs rest : List ℤ) → at_place t place ≡ Some e → v ≡ value.scalar (value.timestamp z) → zs ≡ z ∷ rest
    → new ≡ appended old (one_write (label_at t place) v)
    → appended new (made e (map (λ z. value.scalar (value.timestamp z)) rest)) ≡ appended old (made e (map (λ z. value.scalar (value.timestamp z)) zs))
time_more t place e old new v z zs rest is told steps more =
    ap (λ w. appended w (made e (map (λ z. value.scalar (value.timestamp z)) rest))) (more ∙ (λ i. appended old (one_write (placed_label t place e is i) (told i))))
    ∙ appended_assoc old (one_write (label_of e) (value.scalar (value.timestamp z))) (made e (map (λ z. value.scalar (value.timestamp z)) rest))
    ∙ ap (λ xs. appended old (made e (map (λ z. value.scalar (value.timestamp z)) xs))) (sym steps)

-- one text further
pub text_more : (t : Table) (place : ℕ) (e : Schema) (old new : Writes) (v : Value) (x : List ℕ) (xs rest : List (List ℕ)) → at_place t place ≡ Some e → v ≡ value.scalar (value.text x) → xs ≡ x ∷ rest
    → new ≡ appended old (one_write (label_at t place) v)
    → appended new (made e (map (λ x. value.scalar (value.text x)) rest)) ≡ appended old (made e (map (λ x. value.scalar (value.text x)) xs))
text_more t place e old new v x xs rest is told steps more =
    ap (λ w. appended w (made e (map (λ x. value.scalar (value.text x)) rest))) (more ∙ (λ i. appended old (one_write (placed_label t place e is i) (told i))))
    ∙ appended_assoc old (one_write (label_of e) (value.scalar (value.text x))) (made e (map (λ x. value.scalar (value.text x)) rest))
    ∙ ap (λ ys. appended old (made e (map (λ x. value.scalar (value.text x)) ys))) (sym steps)
