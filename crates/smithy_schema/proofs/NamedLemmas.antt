-- The first position of each name, found by going along the members.
use Rattle.std.proofs.Common.{◌≡◌, refl, sym, ap, ◌∙◌, ℕ, suc, ◌+◌, ◌<◌, arith, Bool, true, false, cond, List, [], ◌∷◌, ◌++◌, length, take, string_bytes, String, option_map, Option, Some, None}
use Rattle.std.specs.Global.{Global}
use Rattle.std.specs.List.{position, slice_get}
use Rattle.std.specs.Option.{option_map_or, option_or, unwrap_or}
use Rattle.std.specs.Str.{bytes_eq}
use Rattle.std.specs.String.{string_cmp}
use Rattle.std.specs.BTreeMap.{BTreeMap, Updates, get_by_text}
use Rattle.std.proofs.lemmas.List.{get_or-map, length-map, take_more, length-take-le}
use Rattle.std.proofs.lemmas.Slice.Eq.{bytes_eq-Decides}
use Rattle.std.proofs.lemmas.Map.Text.{btree_map_updates_text}
use Rattle.smithy_types.specs.Texts.{same_text}
use Rattle.smithy_types.proofs.Positions.{one_more, position-cons}
use Rattle.smithy_schema.specs.declared.parts.SchemaIndex.{SchemaIndex}
use Rattle.smithy_schema.specs.Nodes.{Node, Table, node_at, has_name}
use Rattle.smithy_schema.specs.views.Places.{places_of}
use Rattle.smithy_schema.specs.views.MemberNames.{is_named_at, name_held, position_if, position_for, HasPositions, HasOneMore}
use Rattle.smithy_schema.proofs.PlaceLemmas.{place_at}

-- one more element at the end
position-push : {X : Type 0} (p : X → Bool) (xs : List X) (y : X) → position p (xs ++ y ∷ []) ≡ option_or (position p xs) (position_if (p y) (length xs))
position-push p [] y = position-cons p y [] ∙ go (p y)
  where
    go : (b : Bool) → cond b (Some 0) None ≡ position_if b 0
    go true = refl
    go false = refl
position-push p (x ∷ xs) y =
    position-cons p x (xs ++ y ∷ [])
    ∙ ap (λ (o : Option ℕ). cond (p x) (Some 0) (option_map one_more o)) (position-push p xs y)
    ∙ go (p x) (position p xs) (p y)
    ∙ ap (λ (o : Option ℕ). option_or o (position_if (p y) (suc (length xs)))) (sym (position-cons p x xs))
  where
    go : (here : Bool) (o : Option ℕ) (last : Bool) → cond here (Some 0) (option_map one_more (option_or o (position_if last (length xs)))) ≡ option_or (cond here (Some 0) (option_map one_more o)) (position_if last (suc (length xs)))
    go true o last = refl
    go false (Some k) last = refl
    go false None true = ap (λ (k : ℕ). Some k) (omega arith)
    go false None false = refl

-- tests that agree on each element find the same position
pub position-same : {X : Type 0} (p q : X → Bool) (xs : List X) → ((i : ℕ) (x : X) → slice_get xs i ≡ Some x → p x ≡ q x) → position p xs ≡ position q xs
position-same p q [] same = refl
position-same p q (x ∷ xs) same =
    position-cons p x xs
    ∙ ap (λ (b : Bool). cond b (Some 0) (option_map one_more (position p xs))) (same 0 x refl)
    ∙ ap (λ (o : Option ℕ). cond (q x) (Some 0) (option_map one_more o)) (position-same p q xs (λ i z at. same (suc i) z at))
    ∙ sym (position-cons q x xs)

-- a place is named as the node there is
pub named_as_held : (table : Table) (name : List ℕ) (place : ℕ) → is_named_at table name place ≡ option_map_or (same_text name) (name_held (node_at table place)) false
named_as_held table name place = go (node_at table place)
  where
    go : (o : Option Node) → option_map_or (has_name name) (option_map (λ n. record { table = table; node = n }) o) false ≡ option_map_or (same_text name) (name_held o) false
    go None = refl
    go (Some n) = refl

-- one more member of those at the places, with the name that stands there
pub one_more_named : (table : Table) (xs : List SchemaIndex) (i : ℕ) (old new : BTreeMap (String Global) ℕ) (own : Option (List ℕ)) → i < length xs → own ≡ name_held (node_at table (place_at xs i)) → HasOneMore old own i new
    → ((name : List ℕ) → get_by_text old name ≡ position (is_named_at table name) (take i (places_of xs))) → (name : List ℕ) → get_by_text new name ≡ position (is_named_at table name) (take (i + 1) (places_of xs))
one_more_named table xs i old new own within held more before name =
    let p = is_named_at table name in
    let n : length (places_of xs) ≡ length xs = length-map xs (λ (s : SchemaIndex). s.0) in
    let below : i < length (places_of xs) = rw n within in
    let taken : take (i + 1) (places_of xs) ≡ take i (places_of xs) ++ place_at xs i ∷ [] =
    take_more (places_of xs) i 0 below ∙ ap (λ (place : ℕ). take i (places_of xs) ++ place ∷ []) (get_or-map (λ (s : SchemaIndex). s.0) xs i (record { 0 = 0 }) 0 within) in
    let long : length (take i (places_of xs)) ≡ i = length-take-le i (places_of xs) (omega arith) in
    let named : option_map_or (same_text name) own false ≡ p (place_at xs i) = ap (λ (o : Option (List ℕ)). option_map_or (same_text name) o false) held ∙ sym (named_as_held table name (place_at xs i)) in
    more name
    ∙ ap (λ (o : Option ℕ). option_or o (position_for name own i)) (before name)
    ∙ ap (λ (b : Bool). option_or (position p (take i (places_of xs))) (position_if b i)) named
    ∙ ap (λ (k : ℕ). option_or (position p (take i (places_of xs))) (position_if (p (place_at xs i)) k)) (sym long)
    ∙ sym (position-push p (take i (places_of xs)) (place_at xs i))
    ∙ ap (λ (places : List ℕ). position p places) (sym taken)

or_none : (o : Option ℕ) → o ≡ option_or o None
or_none None = refl
or_none (Some k) = refl

or_some : (o : Option ℕ) (position : ℕ) → Some (unwrap_or o position) ≡ option_or o (Some position)
or_some None position = refl
or_some (Some k) position = refl

-- a name that stands keeps its position, a new one has this
pub put_once : (m n : BTreeMap (String Global) ℕ) (key : String Global) (own : List ℕ) (position put : ℕ) → string_bytes key ≡ own → put ≡ unwrap_or (get_by_text m own) position → Updates string_cmp m n key (Some put) → HasOneMore m (Some own) position n
put_once m n key own position put is first updates name =
    btree_map_updates_text (string_bytes key) m n (Some put) updates name ∙ ap (λ (t : List ℕ). cond (bytes_eq t name) (Some put) (get_by_text m name)) is ∙ go (bytes_eq own name) refl (same_text name own) refl
  where
    go : (b : Bool) → bytes_eq own name ≡ b → (t : Bool) → same_text name own ≡ t → cond b (Some put) (get_by_text m name) ≡ option_or (get_by_text m name) (position_if t position)
    go true e true f =
        let same : own ≡ name = (bytes_eq-Decides own name).0 e in
        ap (λ (k : ℕ). Some k) first ∙ ap (λ (t : List ℕ). Some (unwrap_or (get_by_text m t) position)) same ∙ or_some (get_by_text m name) position
    go false e false f = or_none (get_by_text m name)
    go true e false f =
        let bad : false ≡ true = sym f ∙ (bytes_eq-Decides name own).1 (sym ((bytes_eq-Decides own name).0 e)) in
        absurd (cc bad)
    go false e true f =
        let bad : false ≡ true = sym e ∙ (bytes_eq-Decides own name).1 (sym ((bytes_eq-Decides name own).0 f)) in
        absurd (cc bad)

-- the positions of a node's members stay where the table keeps what stands at their places
pub HasPositions-same : (old new : Table) (places : List ℕ) (m : BTreeMap (String Global) ℕ) → ((position member : ℕ) → slice_get places position ≡ Some member → node_at new member ≡ node_at old member) → HasPositions old places m → HasPositions new places m
HasPositions-same old new places m same has = record {
  at = λ name. has.at name ∙ position-same (is_named_at old name) (is_named_at new name) places (λ i member at. agrees name member (same i member at));
}
  where
    agrees : (name : List ℕ) (member : ℕ) → node_at new member ≡ node_at old member → is_named_at old name member ≡ is_named_at new name member
    agrees name member e =
        named_as_held old name member ∙ ap (λ (o : Option Node). option_map_or (same_text name) (name_held o) false) (sym e) ∙ sym (named_as_held new name member)
