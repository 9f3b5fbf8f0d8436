-- Members by position, and names that tell positions apart.
use Rattle.smithy_unambiguity.proofs.Common.{◌≡◌, ◌≢◌, refl, ◌∙◌, ap, subst, ℕ, zero, suc, Bool, List, [], ◌∷◌, filter_map, slice_get, Option, Some, None, option_and_then, is_some, AllByRecursion, list_all, cons_option, and_parts, same_text, are_distinct, AreDistinct, Schema, at_place, members_of, member_at, query_names, AreDistinct-from_test, same_text_self, IsCheckedInput, IsTrue, has_cited_nodes, member_names, list_any, enumerate_from, arith, or_right, true, is_one_of, ◌||◌, sym, ◌+◌, has_sound_headers, has_at_most_one, has_sound_payload}
use Rattle.smithy_unambiguity.proofs.Lists.{all_placed}
use Rattle.smithy_unambiguity.proofs.SoundMaps.{sound_maps}

-- two members with one query name are one
abbrev pub HasApartQueries : Schema → Type 0
HasApartQueries schema = (i j : ℕ) (m n : Schema) (name : List ℕ) → member_at schema i ≡ Some m → member_at schema j ≡ Some n
    → m.node.traits.http_query ≡ Some name → n.node.traits.http_query ≡ Some name → i ≡ j

pub slice_get-filter_map : {X Y : Type 0} (f : X → Option Y) (xs : List X) (i : ℕ) → list_all (λ x. is_some (f x)) xs ≡ true → slice_get (filter_map f xs) i ≡ option_and_then f (slice_get xs i)
slice_get-filter_map {Y = Y} f [] i all = refl
slice_get-filter_map {Y = Y} f (x ∷ xs) zero all = go (f x) (and_parts (is_some (f x)) _ all).0
  where
    go : (o : Option Y) → is_some o ≡ true → slice_get (cons_option o (filter_map f xs)) 0 ≡ o
    go None e = absurd (cc e)
    go (Some y) e = refl
slice_get-filter_map {Y = Y} f (x ∷ xs) (suc i) all = go (f x) (and_parts (is_some (f x)) (list_all (λ z. is_some (f z)) xs) all).0 (slice_get-filter_map f xs i (and_parts (is_some (f x)) (list_all (λ z. is_some (f z)) xs) all).1)
  where
    go : (o : Option Y) → is_some o ≡ true → slice_get (filter_map f xs) i ≡ option_and_then f (slice_get xs i) → slice_get (cons_option o (filter_map f xs)) (suc i) ≡ option_and_then f (slice_get xs i)
    go None e rest = absurd (cc e)
    go (Some y) e rest = rest

-- what every checked schema has, of an input or an output: members at their places, under names of their own
pub record HasOwnNames (schema : Schema) : Type 0 where
  pub cited : IsTrue (has_cited_nodes schema)
  pub names : AreDistinct (member_names schema)

pub own_names : (schema : Schema) → IsCheckedInput schema → HasOwnNames schema
own_names schema checked = record { cited = checked.cited; names = checked.names }

-- the members of a schema whose cited nodes are there, by position
pub members_by_position : (schema : Schema) → IsTrue (has_cited_nodes schema) → (i : ℕ) → slice_get (members_of schema) i ≡ member_at schema i
members_by_position schema cited i =
    slice_get-filter_map (at_place schema.table) schema.node.members i (and_parts (list_all (λ p. is_some (at_place schema.table p)) schema.node.members) _ cited).0

-- What a checked schema says of the headers and the body of its messages: of an input that of its requests, of an output that of its
-- responses, by the schema as these have it.
pub record IsSoundMessage (schema : Schema) : Type 0 where
  pub by_position : (i : ℕ) → slice_get (members_of schema) i ≡ member_at schema i
  pub headers : IsTrue (has_sound_headers schema)
  pub one_prefix_map : IsTrue (has_at_most_one (λ t. is_some t.http_prefix_headers) schema)
  pub payload : IsTrue (has_sound_payload schema)

pub sound_input : (schema : Schema) → IsCheckedInput schema → IsSoundMessage schema
sound_input schema checked = record {
  by_position = members_by_position schema checked.cited;
  headers = (and_parts (has_sound_headers schema) (are_distinct (query_names schema)) checked.unlike_names).0;
  one_prefix_map = (sound_maps schema checked).one_prefix_map;
  payload = checked.payload;
}

-- each member stands at its place
pub members_placed : (schema : Schema) → IsCheckedInput schema → AllByRecursion (λ p. member_at schema p.0 ≡ Some p.1) (enumerate_from 0 (members_of schema))
members_placed schema checked =
    all_placed (λ p. member_at schema p.0 ≡ Some p.1) 0 (members_of schema)
    (λ j m at. let none_more : 0 + j ≡ j = omega arith in ap (member_at schema) none_more ∙ sym (members_by_position schema checked.cited j) ∙ at)

-- what holds of each name holds of a member's
pub at_name : (P : List ℕ → Type 0) (h : Schema → Option (List ℕ)) (ms : List Schema) (j : ℕ) (n : Schema) (name : List ℕ) → AllByRecursion P (filter_map h ms) → slice_get ms j ≡ Some n → h n ≡ Some name → P name
at_name P h [] j n name all e is = absurd (cc e)
at_name P h (x ∷ ms) zero n name all e is = let same : x ≡ n = cc e in go (h x) (ap h same ∙ is) all
  where
    go : (o : Option (List ℕ)) → o ≡ Some name → AllByRecursion P (cons_option o (filter_map h ms)) → P name
    go None q rest = absurd (cc q)
    go (Some y) q rest = let names : y ≡ name = cc q in subst P names rest.0
at_name P h (x ∷ ms) (suc j) n name all e is = at_name P h ms j n name (go (h x) all) e is
  where
    go : (o : Option (List ℕ)) → AllByRecursion P (cons_option o (filter_map h ms)) → AllByRecursion P (filter_map h ms)
    go None rest = rest
    go (Some y) rest = rest.1

-- a later member has another name
unlike_later : (h : Schema → Option (List ℕ)) (ms : List Schema) (x : Schema) (j : ℕ) (n : Schema) (name : List ℕ) → AreDistinct (cons_option (h x) (filter_map h ms))
    → h x ≡ Some name → slice_get ms j ≡ Some n → h n ≡ Some name → ⊥
unlike_later h ms x j n name distinct is at is_n =
    let apart : AreDistinct (name ∷ filter_map h ms) = subst (λ o. AreDistinct (cons_option o (filter_map h ms))) is distinct in at_name (λ other. name ≢ other) h ms j n name apart.0 at is_n refl

-- names that are distinct tell positions apart: of members, headers and queries alike
pub apart_at : (h : Schema → Option (List ℕ)) (ms : List Schema) → AreDistinct (filter_map h ms) → (i j : ℕ) (m n : Schema) (name : List ℕ)
    → slice_get ms i ≡ Some m → slice_get ms j ≡ Some n → h m ≡ Some name → h n ≡ Some name → i ≡ j
apart_at h [] distinct i j m n name at_i at_j is_m is_n = absurd (cc at_i)
apart_at h (x ∷ ms) distinct zero zero m n name at_i at_j is_m is_n = refl
apart_at h (x ∷ ms) distinct zero (suc j) m n name at_i at_j is_m is_n = let same : x ≡ m = cc at_i in absurd (unlike_later h ms x j n name distinct (ap h same ∙ is_m) at_j is_n)
apart_at h (x ∷ ms) distinct (suc i) zero m n name at_i at_j is_m is_n = let same : x ≡ n = cc at_j in absurd (unlike_later h ms x i m name distinct (ap h same ∙ is_n) at_i is_m)
apart_at h (x ∷ ms) distinct (suc i) (suc j) m n name at_i at_j is_m is_n = ap suc (apart_at h ms (go (h x) distinct) i j m n name at_i at_j is_m is_n)
  where
    go : (o : Option (List ℕ)) → AreDistinct (cons_option o (filter_map h ms)) → AreDistinct (filter_map h ms)
    go None rest = rest
    go (Some y) rest = rest.1

pub queries_apart : (schema : Schema) → IsCheckedInput schema → HasApartQueries schema
queries_apart schema checked i j m n name at_i at_j is_m is_n =
    let distinct = AreDistinct-from_test (query_names schema) (and_parts _ (are_distinct (query_names schema)) checked.unlike_names).1 in
    apart_at (λ k. k.node.traits.http_query) (members_of schema) distinct i j m n name
    (members_by_position schema checked.cited i ∙ at_i) (members_by_position schema checked.cited j ∙ at_j) is_m is_n

-- a test that a member's name passes
pub any_at : (p : List ℕ → Bool) (h : Schema → Option (List ℕ)) (ms : List Schema) (j : ℕ) (n : Schema) (name : List ℕ) → slice_get ms j ≡ Some n → h n ≡ Some name → p name ≡ true → list_any p (filter_map h ms) ≡ true
any_at p h [] j n name e is pass = absurd (cc e)
any_at p h (x ∷ ms) zero n name e is pass =
    let same : x ≡ n = cc e in ap (λ o. list_any p (cons_option o (filter_map h ms))) (ap h same ∙ is) ∙ ap (λ t. t || list_any p (filter_map h ms)) pass
any_at p h (x ∷ ms) (suc j) n name e is pass = go (h x) (any_at p h ms j n name e is pass)
  where
    go : (o : Option (List ℕ)) → list_any p (filter_map h ms) ≡ true → list_any p (cons_option o (filter_map h ms)) ≡ true
    go None rest = rest
    go (Some y) rest = or_right (p y) (list_any p (filter_map h ms)) rest

pub query_name_found : (schema : Schema) → IsCheckedInput schema → (i : ℕ) (m : Schema) (name : List ℕ) → member_at schema i ≡ Some m → m.node.traits.http_query ≡ Some name → is_one_of name (query_names schema) ≡ true
query_name_found schema checked i m name at is =
    any_at (same_text name) (λ k. k.node.traits.http_query) (members_of schema) i m name (members_by_position schema checked.cited i ∙ at) is (same_text_self name)
