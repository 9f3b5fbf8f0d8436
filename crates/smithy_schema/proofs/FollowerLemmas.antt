-- The followers: each is the first position of its member's name.
use Rattle.std.proofs.Common.{◌≡◌, refl, sym, ap, subst, ◌∙◌, ℕ, ◌<◌, length, true, false, List, ◌∷◌, arith, string_bytes, String, option_map, Option, Some, None}
use Rattle.std.specs.Global.{Global}
use Rattle.std.specs.BTreeMap.{BTreeMap, IsOrdered, get_by_text, keys, values}
use Rattle.std.specs.Cmp.{eq_by_cmp_equiv}
use Rattle.std.specs.List.{position, slice_get}
use Rattle.std.specs.Option.{option_map_or}
use Rattle.std.specs.Prelude.{IfSome}
use Rattle.std.specs.String.{string_cmp, string_cmp_total}
use Rattle.std.proofs.lemmas.List.Elements.{All-get_or, All-tail}
use Rattle.std.proofs.lemmas.List.Quantifiers.{position-Some}
use Rattle.std.proofs.lemmas.Map.Keys.{IsDistinct-from_sorted}
use Rattle.std.proofs.lemmas.Map.Views.{All-values_from_lookup}
use Rattle.std.proofs.lemmas.Option.{get_or_from_slice_get, slice_get-map, slice_get_within}
use Rattle.std.proofs.lemmas.Slice.Eq.{bytes_eq-Decides}
use Rattle.smithy_types.specs.Texts.{same_text}
use Rattle.smithy_schema.specs.declared.parts.SchemaIndex.{SchemaIndex}
use Rattle.smithy_schema.specs.declared.stored.FullDetails.{FullDetails}
use Rattle.smithy_schema.specs.declared.stored.StoredNode.{StoredNode}
use Rattle.smithy_schema.specs.declared.member_names.MemberNames.{MemberNames}
use Rattle.smithy_schema.specs.declared.member_names.MemberNames.TheVariants.{Ascending, Mapped}
use Rattle.smithy_schema.specs.declared.schema_ref.SchemaRef.{SchemaRef}
use Rattle.smithy_schema.specs.views.References.{schema_of}
use Rattle.smithy_schema.specs.Nodes.{Node, Table, Schema, at_place, has_name}
use Rattle.smithy_schema.specs.views.Places.{places_of}
use Rattle.smithy_schema.specs.views.Details.{Details}
use Rattle.smithy_schema.specs.views.Stored.{node_stored, details_full, details_stored}
use Rattle.smithy_schema.specs.views.MemberNames.{is_named_at, IsOfName, AreOfNames, IsFirstOfName, FindsNames, IsLead}
use Rattle.smithy_schema.specs.views.Kept.{KeepsMembers, IsFollower}
use Rattle.smithy_schema.proofs.AscendLemmas.{first_of_its_name}

-- each value of the map is some name's
pub values_of_names : (m : BTreeMap (String Global) ℕ) → IsOrdered string_cmp m → AreOfNames m (values m)
values_of_names m ordered =
    All-values_from_lookup (eq_by_cmp_equiv string_cmp_total) (IsOfName m) m.entries (IsDistinct-from_sorted string_cmp (keys m) ordered) (λ q. found (string_bytes q) (get_by_text m (string_bytes q)) refl)
  where
    found : (name : List ℕ) (o : Option ℕ) → get_by_text m name ≡ o → IfSome o (IsOfName m)
    found name None e = tt
    found name (Some p) e = (name, e)

-- the first one of those that are left, and the others
pub head_of_names : (m : BTreeMap (String Global) ℕ) (all rest : List ℕ) (p : ℕ) → AreOfNames m all → all ≡ p ∷ rest → IsOfName m p
head_of_names m all rest p named is = (subst (AreOfNames m) is named) 0 p (omega arith)

pub left_of_names : (m : BTreeMap (String Global) ℕ) (all rest : List ℕ) (p : ℕ) → AreOfNames m all → all ≡ p ∷ rest → AreOfNames m rest
left_of_names m all rest p named is = All-tail (IsOfName m) p rest (subst (AreOfNames m) is named)

-- the name that a follower is the position of
followed : (positions : BTreeMap (String Global) ℕ) (followers : List ℕ) (before p : ℕ) → slice_get followers before ≡ Some p → AreOfNames positions followers → IsOfName positions p
followed positions followers before p follows all =
    subst (IsOfName positions) (get_or_from_slice_get followers before p p follows) (All-get_or (IsOfName positions) followers before p (slice_get_within followers before p follows) all)

-- what stands at the first position of a name has it
named_there : (table : Table) (name : List ℕ) (places : List ℕ) (p place : ℕ) (member : Schema) → position (is_named_at table name) places ≡ Some p → slice_get places p ≡ Some place → at_place table place ≡ Some member → has_name name member ≡ true
named_there table name places p place member first here at =
    let passes : is_named_at table name place ≡ true = ap (is_named_at table name) (sym (get_or_from_slice_get places p place 0 here)) ∙ (position-Some (is_named_at table name) places p 0 first).1 in
    rw at at passes

-- a member has one name
one_name : (a b : List ℕ) (member : Schema) → has_name a member ≡ true → has_name b member ≡ true → a ≡ b
one_name a b member has_a has_b = go member.node.member_name has_a has_b
  where
    go : (own : Option (List ℕ)) → option_map_or (same_text a) own false ≡ true → option_map_or (same_text b) own false ≡ true → a ≡ b
    go None x y = absurd (cc x)
    go (Some t) x y = (bytes_eq-Decides a t).0 x ∙ sym ((bytes_eq-Decides b t).0 y)

-- a position that a name is looked for at first is the first one of some name
first_of_some : (table : Table) (xs : List SchemaIndex) (names : MemberNames) (p : ℕ) → FindsNames table (places_of xs) names → IsLead names p → p < length xs → (name : List ℕ) × (position (is_named_at table name) (places_of xs) ≡ Some p)
first_of_some table xs Ascending p up lead within = (_, first_of_its_name table xs p up within)
first_of_some table xs (Mapped m) p has lead within =
    let known : IsOfName m.value.positions p = followed m.value.positions m.value.followers.items lead.0 p lead.1 has.followers in
    (known.0, sym (has.positions.at known.0) ∙ known.1)

-- the member at such a position is the first one of its name
pub first_kept : (table : Table) (n : StoredNode) (full : FullDetails) (node : Node) (place : SchemaIndex) (member : Schema) → details_stored n.details ≡ details_full full → KeepsMembers table full → node_stored n ≡ node → IsFollower full place → at_place table place.0 ≡ Some member
    → IsFirstOfName (record { table = table; node = node }) member
first_kept table n full node place member is has same follower at name named =
    let p = follower.0 in
    let places = places_of full.members.items in
    let here : slice_get places p ≡ Some place.0 = slice_get-map (λ (i : SchemaIndex). i.0) full.members.items p ∙ ap (option_map (λ (i : SchemaIndex). i.0)) follower.2 in
    let known = first_of_some table full.members.items full.names p has.names follower.1 (slice_get_within full.members.items p place follower.2) in
    let first : position (is_named_at table known.0) places ≡ Some p = known.1 in
    let own : has_name known.0 member ≡ true = named_there table known.0 places p place.0 member first here at in
    let one : known.0 ≡ name = one_name known.0 name member own named in
    let members : node.members ≡ places = ap (λ (m : Node). m.members) (sym same) ∙ ap (λ (d : Details). d.members) is in
    rw (members, ← one, first, here) at

-- so is the one that a look-up of its place gives
pub first_given : (table : Table) (n : StoredNode) (full : FullDetails) (node : Node) (place : SchemaIndex) (given : Option SchemaRef) → details_stored n.details ≡ details_full full → KeepsMembers table full → node_stored n ≡ node → IsFollower full place → option_map schema_of given ≡ at_place table place.0
    → IfSome given (λ m. IsFirstOfName (record { table = table; node = node }) (schema_of m))
first_given table n full node place None is has same follower at = tt
first_given table n full node place (Some m) is has same follower at = first_kept table n full node place (schema_of m) is has same follower (sym at)
