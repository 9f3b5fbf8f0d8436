-- The members of a schema that a program holds: each has its position for its index and a name of its own.
use Rattle.smithy_unambiguity.proofs.Common.{◌≡◌, refl, sym, ◌∙◌, ap, subst, ℕ, suc, Bool, true, false, ◌==◌, List, [], ◌∷◌, filter, filter_map, slice_get, Option, Some, None, option_map, option_and_then, unwrap_or, is_some, AllByRecursion, cons_option, option_map_or, and_parts, eqb-true, Node, Schema, node_at, at_place, member_at, members_of, name_of, is_member, is_well_made, Stands}
use Rattle.smithy_unambiguity.proofs.Lists.{all_filter}
use Rattle.smithy_unambiguity.proofs.Positions.{HasOwnNames, members_by_position, apart_at}
use Rattle.smithy_unambiguity.proofs.WellMadeNodes.{HasTexts, has_texts, well_made_stands}

-- two members with one name are one
abbrev pub HasApartNames : Schema → Type 0
HasApartNames schema = (i j : ℕ) (m n : Schema) → member_at schema i ≡ Some m → member_at schema j ≡ Some n → name_of m ≡ name_of n → i ≡ j

-- a member of a well-made schema, at its position
pub record IsMemberInPlace (i : ℕ) (m : Schema) : Type 0 where
  pub stands : Stands m
  pub texts : HasTexts m.node
  pub index : m.node.member_index ≡ Some i
  pub own_name : List ℕ
  pub name : m.node.member_name ≡ Some own_name

named_some : (o : Option (List ℕ)) → is_some o ≡ true → (n : List ℕ) × (o ≡ Some n)
named_some None e = absurd (cc e)
named_some (Some n) e = (n, refl)

index_some : (o : Option ℕ) (i : ℕ) → option_map_or (λ k. k == i) o false ≡ true → o ≡ Some i
index_some None i e = absurd (cc e)
index_some (Some k) i e = ap Some (eqb-true k i e)

pub member_in_place : (schema : Schema) (i : ℕ) (m : Schema) → is_well_made schema ≡ true → member_at schema i ≡ Some m → IsMemberInPlace i m
member_in_place schema i m well_made at = go (slice_get schema.node.members i) refl at
  where
    stands : Stands schema
    stands = well_made_stands schema well_made

    go : (o : Option ℕ) → slice_get schema.node.members i ≡ o → option_and_then (at_place schema.table) o ≡ Some m → IsMemberInPlace i m
    go None is e = absurd (cc e)
    go (Some p) is e = by (node_at schema.table p) refl (stands.members i p is) e
      where
        by : (o : Option Node) → node_at schema.table p ≡ o → is_member o i ≡ true → option_map (λ n. record { table = schema.table; node = n }) o ≡ Some m → IsMemberInPlace i m
        by None q there h = absurd (cc h)
        by (Some n) q there h =
            let same : record { table = schema.table; node = n } ≡ m = cc h in
            let x = and_parts (option_map_or (λ k. k == i) n.member_index false) (is_some n.member_name) there in
            let name = named_some n.member_name x.1 in
            subst (IsMemberInPlace i) same (record {
              stands = record { table = stands.table; members = stands.table.members p n q };
              texts = has_texts n (stands.table.whole p n q);
              index = index_some n.member_index i x.0;
              own_name = name.0;
              name = name.1;
            })

pub names_apart : (schema : Schema) → HasOwnNames schema → is_well_made schema ≡ true → HasApartNames schema
names_apart schema named well_made i j m n at_i at_j same =
    let x = member_in_place schema i m well_made at_i in
    let y = member_in_place schema j n well_made at_j in
    let names : x.own_name ≡ y.own_name = ap (λ (o : Option (List ℕ)). unwrap_or o []) (sym x.name) ∙ same ∙ ap (λ (o : Option (List ℕ)). unwrap_or o []) y.name in
    apart_at (λ k. k.node.member_name) (members_of schema) named.names i j m n x.own_name
    (members_by_position schema named.cited i ∙ at_i) (members_by_position schema named.cited j ∙ at_j) x.name (y.name ∙ ap Some (sym names))

-- so each label member has a name
pub all_have_names : (test : Schema → Bool) (schema : Schema) → is_well_made schema ≡ true → AllByRecursion (λ m. is_some m.node.member_name ≡ true) (filter test (members_of schema))
all_have_names test schema well_made =
    all_filter (λ m. is_some m.node.member_name ≡ true) test (members_of schema)
    (named schema.node.members (λ position place at. has_name (node_at schema.table place) position ((well_made_stands schema well_made).members position place at)))
  where
    has_name : (o : Option Node) (i : ℕ) → is_member o i ≡ true → option_map_or (λ (n : Node). is_some n.member_name) o false ≡ true
    has_name None i e = e
    has_name (Some n) i e = (and_parts (option_map_or (λ k. k == i) n.member_index false) (is_some n.member_name) e).1

    named : (places : List ℕ) → ((position place : ℕ) → slice_get places position ≡ Some place → option_map_or (λ (n : Node). is_some n.member_name) (node_at schema.table place) false ≡ true)
        → AllByRecursion (λ m. is_some m.node.member_name ≡ true) (filter_map (at_place schema.table) places)
    named [] each = tt
    named (p ∷ places) each = go (node_at schema.table p) (each 0 p refl) (named places (λ position place at. each (suc position) place at))
      where
        go : (o : Option Node) → option_map_or (λ (n : Node). is_some n.member_name) o false ≡ true → AllByRecursion (λ m. is_some m.node.member_name ≡ true) (filter_map (at_place schema.table) places)
            → AllByRecursion (λ m. is_some m.node.member_name ≡ true) (cons_option (option_map (λ n. record { table = schema.table; node = n }) o) (filter_map (at_place schema.table) places))
        go None h rest = rest
        go (Some n) h rest = (h, rest)
