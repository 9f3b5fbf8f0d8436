-- Fields and their names in JSON change places, and back.
use Rattle.std.proofs.Common.{is_some}
use Rattle.smithy_wire.proofs.Common.{◌≡◌, refl, sym, ap, ◌∙◌, subst, ℕ, Bool, true, false, cond, not, ◌||◌, if◌then◌else◌, ◌⊎◌, inl, inr, List, [], ◌∷◌, ◌++◌, ◌&&◌, find, filter, flat_map, Option, Some, None, and_parts}
use Rattle.std.specs.List.{list_all}
use Rattle.std.specs.Str.{is_utf8}
use Rattle.std.specs.Option.{option_map_or, unwrap_or}
use Rattle.std.specs.Cmp.Lexicographic.{same_text as same_from_test}
use Rattle.smithy_types.specs.Texts.{same_text, is_one_of, are_distinct}
use Rattle.smithy_json.proofs.OrderedPairs.{same_self}
use Rattle.smithy_schema.specs.Nodes.{Schema, has_name, member_named, members_of, name_of}
use Rattle.smithy_serde.specs.Shaped.{is_named}
use Rattle.smithy_document.proofs.StandingNodes.{named_found}
use Rattle.smithy_wire.specs.declared.side.Side.{Side}
use Rattle.smithy_wire.specs.WireNames.{json_name, names_of, is_field, if_field, fields_of, field_named, field_in_json, field_names, is_found, names_stand, swapped}

pub same_from : (a b : List ℕ) → same_text a b ≡ true → a ≡ b
same_from a b e = same_from_test a b (sym e)

-- ---- members of a list

abbrev pub Among : Schema → List Schema → Type 0
Among m [] = ⊥
Among m (n ∷ ns) = (m ≡ n) ⊎ Among m ns

some_same : {A : Type 0} {x y : A} → Some x ≡ Some y → x ≡ y
some_same e = cc e

pub found_among : (p : Schema → Bool) (ms : List Schema) (m : Schema) → find p ms ≡ Some m → (p m ≡ true) × Among m ms
found_among p [] m e = absurd (cc e)
found_among p (n ∷ ns) m e = go (p n) refl e (found_among p ns m)
  where
    go : (b : Bool) → p n ≡ b → cond b (Some n) (find p ns) ≡ Some m → (find p ns ≡ Some m → (p m ≡ true) × Among m ns) → (p m ≡ true) × Among m (n ∷ ns)
    go true is e rest = let same : n ≡ m = some_same e in (ap p (sym same) ∙ is, inl (sym same))
    go false is e rest = let later = rest e in (later.0, inr later.1)

found_where : (p : Schema → Bool) (ms : List Schema) (m : Schema) → Among m ms → p m ≡ true → (n : Schema) × (find p ms ≡ Some n)
found_where p [] m here is = absurd here
found_where p (n ∷ ns) m here is = go (p n) refl here (λ later. found_where p ns m later is)
  where
    go : (b : Bool) → p n ≡ b → Among m (n ∷ ns) → (Among m ns → (o : Schema) × (find p ns ≡ Some o)) → (o : Schema) × (cond b (Some n) (find p ns) ≡ Some o)
    go true at here rest = (n, refl)
    go false at (inl same) rest = let both : false ≡ true = sym at ∙ ap p (sym same) ∙ is in absurd (cc both)
    go false at (inr later) rest = rest later

filtered : (p : Schema → Bool) (ms : List Schema) (m : Schema) → Among m (filter p ms) → (p m ≡ true) × Among m ms
filtered p [] m here = absurd here
filtered p (n ∷ ns) m here = go (p n) refl here (filtered p ns m)
  where
    go : (b : Bool) → p n ≡ b → Among m (cond b (n ∷ filter p ns) (filter p ns)) → (Among m (filter p ns) → (p m ≡ true) × Among m ns) → (p m ≡ true) × Among m (n ∷ ns)
    go true is (inl same) rest = (ap p same ∙ is, inl same)
    go true is (inr later) rest = let r = rest later in (r.0, inr r.1)
    go false is later rest = let r = rest later in (r.0, inr r.1)

kept : (p : Schema → Bool) (ms : List Schema) (m : Schema) → Among m ms → p m ≡ true → Among m (filter p ms)
kept p [] m here is = absurd here
kept p (n ∷ ns) m here is = go (p n) refl here (λ later. kept p ns m later is)
  where
    go : (b : Bool) → p n ≡ b → Among m (n ∷ ns) → (Among m ns → Among m (filter p ns)) → Among m (cond b (n ∷ filter p ns) (filter p ns))
    go true at (inl same) rest = inl same
    go true at (inr later) rest = inr (rest later)
    go false at (inl same) rest = let both : false ≡ true = sym at ∙ ap p (sym same) ∙ is in absurd (cc both)
    go false at (inr later) rest = rest later

pub among_all : (p : Schema → Bool) (ms : List Schema) (m : Schema) → Among m ms → list_all p ms ≡ true → p m ≡ true
among_all p [] m here e = absurd here
among_all p (n ∷ ns) m (inl same) e = ap p same ∙ (and_parts (p n) (list_all p ns) e).0
among_all p (n ∷ ns) m (inr later) e = among_all p ns m later (and_parts (p n) (list_all p ns) e).1

-- ---- a name is one member's

one_of_front : (x : List ℕ) (xs ys : List (List ℕ)) → is_one_of x xs ≡ true → is_one_of x (xs ++ ys) ≡ true
one_of_front x [] ys e = absurd (cc e)
one_of_front x (z ∷ xs) ys e = go (same_text x z) e (one_of_front x xs ys)
  where
    go : (b : Bool) → (b || is_one_of x xs) ≡ true → (is_one_of x xs ≡ true → is_one_of x (xs ++ ys) ≡ true) → (b || is_one_of x (xs ++ ys)) ≡ true
    go true e rest = refl
    go false e rest = rest e

one_of_back : (x : List ℕ) (xs ys : List (List ℕ)) → is_one_of x ys ≡ true → is_one_of x (xs ++ ys) ≡ true
one_of_back x [] ys e = e
one_of_back x (z ∷ xs) ys e = go (same_text x z) (one_of_back x xs ys e)
  where
    go : (b : Bool) → is_one_of x (xs ++ ys) ≡ true → (b || is_one_of x (xs ++ ys)) ≡ true
    go true rest = refl
    go false rest = rest

pub one_of_members : (x : List ℕ) (ms : List Schema) (m : Schema) → Among m ms → is_one_of x (names_of m) ≡ true → is_one_of x (flat_map names_of ms) ≡ true
one_of_members x [] m here e = absurd here
one_of_members x (n ∷ ns) m (inl same) e = one_of_front x (names_of n) (flat_map names_of ns) (ap (λ c. is_one_of x (names_of c)) (sym same) ∙ e)
one_of_members x (n ∷ ns) m (inr later) e = one_of_back x (names_of n) (flat_map names_of ns) (one_of_members x ns m later e)

-- of distinct texts, those behind are distinct, and none of those before is one of them
distinct_back : (xs ys : List (List ℕ)) → are_distinct (xs ++ ys) ≡ true → are_distinct ys ≡ true
distinct_back [] ys e = e
distinct_back (x ∷ xs) ys e = distinct_back xs ys (and_parts (not (is_one_of x (xs ++ ys))) (are_distinct (xs ++ ys)) e).1

distinct_front : (x : List ℕ) (xs ys : List (List ℕ)) → are_distinct (xs ++ ys) ≡ true → is_one_of x xs ≡ true → is_one_of x ys ≡ true → ⊥
distinct_front x [] ys e here there = absurd (cc here)
distinct_front x (z ∷ xs) ys e here there =
    let parts = and_parts (not (is_one_of z (xs ++ ys))) (are_distinct (xs ++ ys)) e in
    go (same_text x z) refl here parts.0 (distinct_front x xs ys parts.1)
  where
    go : (b : Bool) → same_text x z ≡ b → (b || is_one_of x xs) ≡ true → not (is_one_of z (xs ++ ys)) ≡ true → (is_one_of x xs ≡ true → is_one_of x ys ≡ true → ⊥) → ⊥
    go true is here apart rest =
        let same : x ≡ z = same_from x z is in
        let behind : is_one_of z (xs ++ ys) ≡ true = one_of_back z xs ys (ap (λ t. is_one_of t ys) (sym same) ∙ there) in
        cc (behind, apart)
    go false is here apart rest = rest here there

pub only_one : (x : List ℕ) (ms : List Schema) (m n : Schema) → are_distinct (flat_map names_of ms) ≡ true → Among m ms → Among n ms
    → is_one_of x (names_of m) ≡ true → is_one_of x (names_of n) ≡ true → m ≡ n
only_one x [] m n apart here there one other = absurd here
only_one x (c ∷ cs) m n apart (inl here) (inl there) one other = here ∙ sym there
only_one x (c ∷ cs) m n apart (inl here) (inr there) one other =
    absurd (distinct_front x (names_of c) (flat_map names_of cs) apart (ap (λ d. is_one_of x (names_of d)) (sym here) ∙ one) (one_of_members x cs n there other))
only_one x (c ∷ cs) m n apart (inr here) (inl there) one other =
    absurd (distinct_front x (names_of c) (flat_map names_of cs) apart (ap (λ d. is_one_of x (names_of d)) (sym there) ∙ other) (one_of_members x cs m here one))
only_one x (c ∷ cs) m n apart (inr here) (inr there) one other =
    only_one x cs m n (distinct_back (names_of c) (flat_map names_of cs) apart) here there one other

-- both of a member's names are its names
pub own_name : (m : Schema) → is_one_of (name_of m) (names_of m) ≡ true
own_name m = go (same_text (json_name m) (name_of m))
  where
    go : (b : Bool) → is_one_of (name_of m) (if b then name_of m ∷ [] else name_of m ∷ json_name m ∷ []) ≡ true
    go true = ap (λ t. t || false) (same_self (name_of m))
    go false = ap (λ t. t || is_one_of (name_of m) (json_name m ∷ [])) (same_self (name_of m))

pub own_json_name : (m : Schema) → is_one_of (json_name m) (names_of m) ≡ true
own_json_name m = go (same_text (json_name m) (name_of m)) refl
  where
    go : (b : Bool) → same_text (json_name m) (name_of m) ≡ b → is_one_of (json_name m) (if b then name_of m ∷ [] else name_of m ∷ json_name m ∷ []) ≡ true
    go true is = ap (λ t. t || false) is
    go false is = ap (λ t. t || (same_text (json_name m) (json_name m) || false)) is ∙ ap (λ t. t || false) (same_self (json_name m))

-- ---- fields

-- a member of this name is one
abbrev pub IsFieldOf : Option Side → Schema → Schema → Type 0
IsFieldOf side s m = (is_field side m ≡ true) × Among m (members_of s)

name_is : (x : List ℕ) (m : Schema) → has_name x m ≡ true → name_of m ≡ x
name_is x m e = go m.node.member_name e
  where
    go : (o : Option (List ℕ)) → option_map_or (same_text x) o false ≡ true → unwrap_or o [] ≡ x
    go None e = absurd (cc e)
    go (Some n) e = sym (same_from x n e)

has_own_name : (side : Option Side) (m : Schema) → is_field side m ≡ true → has_name (name_of m) m ≡ true
has_own_name side m e = go m.node.member_name (and_parts (is_some m.node.member_name) _ e).0
  where
    go : (o : Option (List ℕ)) → is_some o ≡ true → option_map_or (same_text (unwrap_or o [])) o false ≡ true
    go None e = absurd (cc e)
    go (Some n) e = same_self n

pub named_field : (side : Option Side) (s : Schema) (x : List ℕ) (m : Schema) → field_named side s x ≡ Some m → (name_of m ≡ x) × IsFieldOf side s m
named_field side s x m e = go (member_named s x) (named_found s x) e
  where
    by : (n : Schema) (b : Bool) → is_field side n ≡ b → find (is_named (Some x)) (members_of s) ≡ Some n → (if b then Some n else None) ≡ Some m → (name_of m ≡ x) × IsFieldOf side s m
    by n true is at e =
        let same : n ≡ m = some_same e in
        let found = found_among (is_named (Some x)) (members_of s) n at in
        subst (λ c. (name_of c ≡ x) × IsFieldOf side s c) same (name_is x n found.0, (is, found.1))
    by n false is at e = absurd (cc e)

    go : (o : Option Schema) → o ≡ find (is_named (Some x)) (members_of s) → option_map_or (if_field side) o None ≡ Some m → (name_of m ≡ x) × IsFieldOf side s m
    go None at e = absurd (cc e)
    go (Some n) at e = by n (is_field side n) refl (sym at) e

pub a_field : (side : Option Side) (s : Schema) (m : Schema) → IsFieldOf side s m → Among m (fields_of side s)
a_field side s m field = kept (is_field side) (members_of s) m field.1 field.0

-- ---- names that stand

-- what the test of names says
pub record NamesStand (side : Option Side) (s : Schema) : Type 0 where
  pub apart : are_distinct (field_names side s) ≡ true
  pub utf8 : list_all is_utf8 (field_names side s) ≡ true
  pub found : list_all (is_found side s) (fields_of side s) ≡ true

pub stand_by : (side : Option Side) (s : Schema) → names_stand side s ≡ true → NamesStand side s
stand_by side s e =
    let all = and_parts (are_distinct (field_names side s) && list_all is_utf8 (field_names side s)) (list_all (is_found side s) (fields_of side s)) e in
    let names = and_parts (are_distinct (field_names side s)) (list_all is_utf8 (field_names side s)) all.0 in
    record { apart = names.0; utf8 = names.1; found = all.1 }

-- a name is one field's
pub only_field : (side : Option Side) (s : Schema) (x : List ℕ) (m n : Schema) → NamesStand side s → IsFieldOf side s m → IsFieldOf side s n
    → is_one_of x (names_of m) ≡ true → is_one_of x (names_of n) ≡ true → m ≡ n
only_field side s x m n stand here there one other = only_one x (fields_of side s) m n stand.apart (a_field side s m here) (a_field side s n there) one other

pub field_at : (side : Option Side) (s : Schema) (m : Schema) → NamesStand side s → IsFieldOf side s m → field_named side s (name_of m) ≡ Some m
field_at side s m stand field = go (field_named side s (name_of m)) refl (among_all (is_found side s) (fields_of side s) m (a_field side s m field) stand.found)
  where
    go : (o : Option Schema) → field_named side s (name_of m) ≡ o → is_some o ≡ true → field_named side s (name_of m) ≡ Some m
    go None is some = absurd (cc some)
    go (Some n) is some =
        let own = named_field side s (name_of m) n is in
        let same : n ≡ m = only_field side s (name_of m) n m stand own.1 field (ap (λ t. is_one_of t (names_of n)) (sym own.0) ∙ own_name n) (own_name m) in
        is ∙ ap (λ c. Some c) same

pub json_field : (side : Option Side) (s : Schema) (x : List ℕ) (m : Schema) → field_in_json side s x ≡ Some m → (json_name m ≡ x) × IsFieldOf side s m
json_field side s x m e =
    let found = found_among (λ n. same_text (json_name n) x) (filter (is_field side) (members_of s)) m e in
    let field = filtered (is_field side) (members_of s) m found.1 in
    (same_from (json_name m) x found.0, (field.0, field.1))

pub json_at : (side : Option Side) (s : Schema) (m : Schema) → NamesStand side s → IsFieldOf side s m → field_in_json side s (json_name m) ≡ Some m
json_at side s m stand field =
    let test = λ (n : Schema). same_text (json_name n) (json_name m) in
    let found = found_where test (fields_of side s) m (a_field side s m field) (same_self (json_name m)) in
    let is = json_field side s (json_name m) found.0 found.1 in
    let same : found.0 ≡ m = only_field side s (json_name m) found.0 m stand is.1 field (ap (λ t. is_one_of t (names_of found.0)) (sym is.0) ∙ own_json_name found.0) (own_json_name m) in
    found.1 ∙ ap Some same

-- ---- the swap

pub swapped_back : (side : Option Side) (s : Schema) (x : List ℕ) → NamesStand side s → swapped side s (swapped side s x) ≡ x
swapped_back side s x stand = go (field_named side s x) refl (field_in_json side s x) refl
  where
    there : (m : Schema) (o : Option Schema) → name_of m ≡ x → IsFieldOf side s m → field_named side s (json_name m) ≡ o
        → option_map_or json_name o (option_map_or name_of (field_in_json side s (json_name m)) (json_name m)) ≡ x
    there m None named field none = ap (λ o. option_map_or name_of o (json_name m)) (json_at side s m stand field) ∙ named
    there m (Some n) named field some =
        let is = named_field side s (json_name m) n some in
        let same : n ≡ m = only_field side s (json_name m) n m stand is.1 field (ap (λ t. is_one_of t (names_of n)) (sym is.0) ∙ own_name n) (own_json_name m) in
        ap json_name same ∙ sym is.0 ∙ ap name_of same ∙ named

    go : (o : Option Schema) → field_named side s x ≡ o → (p : Option Schema) → field_in_json side s x ≡ p
        → swapped side s (option_map_or json_name o (option_map_or name_of p x)) ≡ x
    go (Some m) is p other = let field = named_field side s x m is in there m (field_named side s (json_name m)) field.0 field.1 refl
    go None is (Some m) other =
        let field = json_field side s x m other in
        ap (λ o. option_map_or json_name o (option_map_or name_of (field_in_json side s (name_of m)) (name_of m))) (field_at side s m stand field.1) ∙ field.0
    go None is None other = ap (λ o. option_map_or json_name o (option_map_or name_of (field_in_json side s x) x)) is ∙ ap (λ o. option_map_or name_of o x) other
