-- Fields that are found by what is told of the names of their structure.
use Rattle.smithy_wire.proofs.Common.{◌≡◌, refl, sym, ap, ◌∙◌, ℕ, zero, suc, ◌+◌, ◌≤◌, Bool, true, false, ◌&&◌, ◌||◌, if◌then◌else◌, inl, inr, List, [], ◌∷◌, length, map, Option, Some, None, option_and_then, cond, and_parts}
use Rattle.std.proofs.lemmas.Map.Text.{btree_map_updates_text}
use Rattle.std.specs.BTreeMap.{BTreeMap, Updates, get_by_text}
use Rattle.std.specs.Global.{Global}
use Rattle.std.specs.List.{cons_option, filter_map, list_all, slice_get}
use Rattle.std.specs.Option.{is_some, option_map_or}
use Rattle.std.specs.Prelude.{String, string_bytes}
use Rattle.std.specs.Str.{bytes_eq}
use Rattle.std.specs.String.{string_cmp}
use Rattle.smithy_types.specs.Texts.{is_one_of, same_text}
use Rattle.smithy_json.proofs.OrderedPairs.{same_self}
use Rattle.smithy_schema.specs.Nodes.{Schema, at_place, member_at, members_of, name_of}
use Rattle.smithy_strings.proofs.DistinctTexts.{same_text-sym}
use Rattle.smithy_wire.specs.declared.side.Side.{Side}
use Rattle.smithy_wire.specs.Forms.{fields, form_of, form_or_free, part_form}
use Rattle.smithy_wire.specs.WireNames.{json_name, named_in_json, names_of, names_stand, is_field, field_named, field_in_json, swapped}
use Rattle.smithy_wire.specs.views.FieldNames.{are_own, has, is_own, is_own_at, HasJsonNames, HasName, HasNameOf}
use Rattle.smithy_wire.specs.views.MemberSteps.{if_in_json, json_field_at, members_from}
use Rattle.smithy_wire.proofs.MemberLemmas.{all_from-more, all_from-end, before, members_from-more, members_from-end}
use Rattle.smithy_wire.proofs.NameLaws.{Among, IsFieldOf, among_all, field_at, json_at, json_field, named_field, only_field, own_json_name, own_name, same_from, stand_by}

abbrev Names : Type 0
Names = BTreeMap (String Global) ℕ

-- ---- one member after another

pub own_from-more : (s : Schema) (i : ℕ) → list_all is_own (members_from s i) ≡ (is_own_at s i && list_all is_own (members_from s (i + 1)))
own_from-more s i = all_from-more is_own s i

pub own_from-end : (s : Schema) (i : ℕ) → length s.node.members ≤ i → list_all is_own (members_from s i) ≡ true
own_from-end s i past = all_from-end is_own s i past

-- a name is a member's, if it is in the map or that of a member behind
abbrev pub IsAdding : Schema → ℕ → Names → Type 0
IsAdding s i names = (name : List ℕ) → is_one_of name (map json_name (members_of s)) ≡ (has names name || is_one_of name (map json_name (members_from s i)))

pub named : (old new : Names) (key : String Global) (own : List ℕ) (place : ℕ) → string_bytes key ≡ own → Updates string_cmp old new key (Some place) → HasName own old new
named old new key own place is updates name =
    ap is_some (btree_map_updates_text (string_bytes key) old new (Some place) updates name ∙ ap (λ t. cond (bytes_eq t name) (Some place) (get_by_text old name)) is) ∙ go (same_text own name)
  where
    go : (b : Bool) → is_some (cond b (Some place) (get_by_text old name)) ≡ (b || has old name)
    go true = refl
    go false = refl

moved : (a b c : Bool) → (b || (a || c)) ≡ ((a || b) || c)
moved true true c = refl
moved true false c = refl
moved false b c = refl

pub adding-more : (s : Schema) (i : ℕ) (old new : Names) → HasNameOf (member_at s i) old new → IsAdding s i old → IsAdding s (i + 1) new
adding-more s i old new added h name =
    h name ∙ ap (λ ms. has old name || is_one_of name (map json_name ms)) (members_from-more s i) ∙ go (member_at s i) added
  where
    go : (o : Option Schema) → HasNameOf o old new
        → (has old name || is_one_of name (map json_name (before o (members_from s (i + 1))))) ≡ (has new name || is_one_of name (map json_name (members_from s (i + 1))))
    go None added = ap (λ b. b || is_one_of name (map json_name (members_from s (i + 1)))) (sym (added name))
    go (Some m) added =
        ap (λ b. has old name || (b || is_one_of name (map json_name (members_from s (i + 1))))) (same_text-sym name (json_name m))
        ∙ moved (same_text (json_name m) name) (has old name) (is_one_of name (map json_name (members_from s (i + 1))))
        ∙ ap (λ b. b || is_one_of name (map json_name (members_from s (i + 1)))) (sym (added name))

or_none : (b : Bool) → (b || false) ≡ b
or_none true = refl
or_none false = refl

pub adding-end : (s : Schema) (i : ℕ) (names : Names) → length s.node.members ≤ i → IsAdding s i names → HasJsonNames s names
adding-end s i names past h name =
    sym (h name ∙ ap (λ ms. has names name || is_one_of name (map json_name ms)) (members_from-end s i past) ∙ or_none (has names name))

-- ---- members among those of a structure

among_named : (ms : List Schema) (m : Schema) (name : List ℕ) → Among m ms → json_name m ≡ name → is_one_of name (map json_name ms) ≡ true
among_named [] m name here is = absurd here
among_named (n ∷ ns) m name (inl same) is =
    ap (λ t. same_text t (json_name n) || is_one_of name (map json_name ns)) (sym is ∙ ap json_name same)
    ∙ ap (λ b. b || is_one_of name (map json_name ns)) (same_self (json_name n))
among_named (n ∷ ns) m name (inr later) is = go (same_text name (json_name n)) (among_named ns m name later is)
  where
    go : (b : Bool) → is_one_of name (map json_name ns) ≡ true → (b || is_one_of name (map json_name ns)) ≡ true
    go true e = refl
    go false e = e

among_at : (s : Schema) (i : ℕ) (m : Schema) → member_at s i ≡ Some m → Among m (members_of s)
among_at s i m at = go s.node.members i at
  where
    front : (o : Option Schema) (ms : List Schema) → o ≡ Some m → Among m (cons_option o ms)
    front None ms at = absurd (cc at)
    front (Some n) ms at = let same : n ≡ m = cc at in inl (sym same)

    back : (o : Option Schema) (ms : List Schema) → Among m ms → Among m (cons_option o ms)
    back None ms here = here
    back (Some n) ms here = inr here

    go : (ps : List ℕ) (i : ℕ) → option_and_then (at_place s.table) (slice_get ps i) ≡ Some m → Among m (filter_map (at_place s.table) ps)
    go [] i at = absurd (cc at)
    go (p ∷ ps) zero at = front (at_place s.table p) (filter_map (at_place s.table) ps) at
    go (p ∷ ps) (suc i) at = back (at_place s.table p) (filter_map (at_place s.table) ps) (go ps i at)

-- ---- fields

-- a name that no member has in JSON is no field's
pub not_found : (side : Option Side) (s : Schema) (name : List ℕ) → is_one_of name (map json_name (members_of s)) ≡ false → None ≡ field_in_json side s name
not_found side s name none = go (field_in_json side s name) refl
  where
    go : (o : Option Schema) → field_in_json side s name ≡ o → None ≡ o
    go None is = refl
    go (Some m) is =
        let field = json_field side s name m is in
        let both : true ≡ false = sym (among_named (members_of s) m name field.1.1 field.0) ∙ none in
        absurd (cc both)

pub missing : (names : Names) (side : Option Side) (s : Schema) (name : List ℕ) → HasJsonNames s names → None ≡ get_by_text names name → None ≡ field_in_json side s name
missing names side s name told none = not_found side s name (sym (told name) ∙ ap is_some (sym none))

-- the field at a position that has the name is the first one
pub found_at : (side : Option Side) (s : Schema) (i : ℕ) (name : List ℕ) (m : Schema) → names_stand side s ≡ true
    → Some m ≡ json_field_at side name s i → Some m ≡ field_in_json side s name
found_at side s i name m stand at = go (member_at s i) refl at
  where
    by : (n : Schema) (b : Bool) → (is_field side n && same_text (json_name n) name) ≡ b → member_at s i ≡ Some n → Some m ≡ (if b then Some n else None)
        → Some m ≡ field_in_json side s name
    by n true is at same =
        let one : m ≡ n = cc same in
        let parts = and_parts (is_field side n) (same_text (json_name n) name) is in
        let named : json_name n ≡ name = same_from (json_name n) name parts.1 in
        ap (λ c. Some c) one ∙ sym (json_at side s n (stand_by side s stand) (parts.0, among_at s i n at)) ∙ ap (field_in_json side s) named
    by n false is at same = absurd (cc same)

    go : (o : Option Schema) → member_at s i ≡ o → Some m ≡ if_in_json side name o → Some m ≡ field_in_json side s name
    go None at same = absurd (cc same)
    go (Some n) at same = by n (is_field side n && same_text (json_name n) name) refl at same

-- where each member is named in JSON as it is, names stay
pub own_stays : (side : Option Side) (s : Schema) (name : List ℕ) → are_own s ≡ true → swapped side s name ≡ name
own_stays side s name own = go (field_named side s name) refl (field_in_json side s name) refl
  where
    go : (o : Option Schema) → field_named side s name ≡ o → (p : Option Schema) → field_in_json side s name ≡ p → option_map_or json_name o (option_map_or name_of p name) ≡ name
    go (Some m) is p at =
        let field = named_field side s name m is in
        same_from (json_name m) (name_of m) (among_all is_own (members_of s) m field.1.1 own) ∙ field.0
    go None is (Some m) at =
        let field = json_field side s name m at in
        sym (same_from (json_name m) (name_of m) (among_all is_own (members_of s) m field.1.1 own)) ∙ field.0
    go None is None at = refl

-- the name of a field in JSON is exchanged for its own
pub read_back : (side : Option Side) (s : Schema) (name : List ℕ) (m : Schema) → names_stand side s ≡ true → field_in_json side s name ≡ Some m → swapped side s name ≡ name_of m
read_back side s name m stand at = go (field_named side s name) refl (json_field side s name m at)
  where
    go : (o : Option Schema) → field_named side s name ≡ o → (json_name m ≡ name) × IsFieldOf side s m
        → option_map_or json_name o (option_map_or name_of (field_in_json side s name) name) ≡ name_of m
    go None none is = ap (λ o. option_map_or name_of o name) at
    go (Some n) found is =
        let own = named_field side s name n found in
        let same : n ≡ m =
        only_field side s name n m (stand_by side s stand) own.1 is.1 (ap (λ t. is_one_of t (names_of n)) (sym own.0) ∙ own_name n)
        (ap (λ t. is_one_of t (names_of m)) (sym is.0) ∙ own_json_name m) in
        ap json_name same ∙ is.0 ∙ sym own.0 ∙ ap name_of same

-- a field is found by its own name
pub form_back : (side : Option Side) (s : Schema) (name : List ℕ) (m : Schema) → names_stand side s ≡ true → field_in_json side s name ≡ Some m → form_of m ≡ part_form (fields side s) (name_of m)
form_back side s name m stand at =
    let is = json_field side s name m at in
    ap form_or_free (sym (field_at side s m (stand_by side s stand) is.1))

-- what no field has as its name in JSON
pub read_other : (side : Option Side) (s : Schema) (name : List ℕ) → field_in_json side s name ≡ None → named_in_json side s name ≡ swapped side s name
read_other side s name none = ap (λ o. option_map_or json_name (field_named side s name) (option_map_or name_of o name)) (sym none)
