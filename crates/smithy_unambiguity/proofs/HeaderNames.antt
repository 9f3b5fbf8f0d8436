-- Which member gives a header of a name: names in lower case tell positions apart, and no prefix begins one.
use Rattle.smithy_unambiguity.proofs.Common.{◌≡◌, ◌≢◌, refl, sym, ◌∙◌, ap, ℕ, ◌≤◌, nat_eq, true, false, not, ◌&&◌, ◌||◌, ◌==◌, List, [], ◌∷◌, ◌++◌, length, map, filter, slice_get, Option, Some, None, option_map, is_some, eq-eqb, list_all, list_any, starts_with, cons_option, str_to_ascii_lowercase, and_parts, leb-true, map-append, are_distinct, AreDistinct, is_token, Schema, member_at, members_of, lower_header_names, prefixes, is_sound_prefix, AreDistinct-from_test, AllByRecursion, filter_map}
use Rattle.smithy_unambiguity.proofs.Positions.{IsSoundMessage, apart_at, at_name, any_at}
use Rattle.smithy_unambiguity.proofs.Lists.{all_from_test}
use Rattle.smithy_unambiguity.proofs.Singles.{single}

-- the name of a header member in lower case
abbrev pub lower_name : Schema → Option (List ℕ)
lower_name m = option_map str_to_ascii_lowercase m.node.traits.http_header

lower_names : (ms : List Schema) → map str_to_ascii_lowercase (filter_map (λ m. m.node.traits.http_header) ms) ≡ filter_map lower_name ms
lower_names [] = refl
lower_names (m ∷ ms) = go m.node.traits.http_header (lower_names ms)
  where
    go : (o : Option (List ℕ)) → map str_to_ascii_lowercase (filter_map (λ m. m.node.traits.http_header) ms) ≡ filter_map lower_name ms
        → map str_to_ascii_lowercase (cons_option o (filter_map (λ m. m.node.traits.http_header) ms)) ≡ cons_option (option_map str_to_ascii_lowercase o) (filter_map lower_name ms)
    go None rest = rest
    go (Some n) rest = ap (λ ns. str_to_ascii_lowercase n ∷ ns) rest

pub starts-self : (a b : List ℕ) → starts_with nat_eq (a ++ b) a ≡ true
starts-self [] b = refl
starts-self (x ∷ a) b = ap (λ t. t && starts_with nat_eq (a ++ b) a) (eq-eqb x x refl) ∙ starts-self a b

-- what that says of the headers
pub record HasApartHeaders (schema : Schema) : Type 0 where
  pub apart : (i j : ℕ) (m n : Schema) (name : List ℕ) → member_at schema i ≡ Some m → member_at schema j ≡ Some n → lower_name m ≡ Some name → lower_name n ≡ Some name → i ≡ j
  pub unlike_prefix : (i j : ℕ) (m n : Schema) (name prefix key : List ℕ) → member_at schema i ≡ Some m → member_at schema j ≡ Some n → lower_name m ≡ Some name
      → n.node.traits.http_prefix_headers ≡ Some prefix → str_to_ascii_lowercase (prefix ++ key) ≢ name
  pub one_prefix : (i j : ℕ) (m n : Schema) → member_at schema i ≡ Some m → member_at schema j ≡ Some n → is_some m.node.traits.http_prefix_headers ≡ true → is_some n.node.traits.http_prefix_headers ≡ true → i ≡ j

pub headers_apart : (schema : Schema) → IsSoundMessage schema → HasApartHeaders schema
headers_apart schema message =
    let at : (i : ℕ) (m : Schema) → member_at schema i ≡ Some m → slice_get (members_of schema) i ≡ Some m = λ i m e. message.by_position i ∙ e in
    record {
      apart = λ i j m n name at_i at_j is_m is_n. apart_at lower_name (members_of schema) distinct i j m n name (at i m at_i) (at j n at_j) is_m is_n;
      unlike_prefix = λ i j m n name prefix key at_i at_j is_m is_n same.
          let sound = at_name (λ p. is_sound_prefix schema p ≡ true) (λ m. m.node.traits.http_prefix_headers) (members_of schema) j n prefix sound_prefixes (at j n at_j) is_n in
          let outside = (and_parts ((length prefix == 0) || is_token prefix) (not (list_any (λ name. starts_with nat_eq name (str_to_ascii_lowercase prefix)) (lower_header_names schema))) sound).1 in
          let begins : starts_with nat_eq name (str_to_ascii_lowercase prefix) ≡ true =
          ap (λ t. starts_with nat_eq t (str_to_ascii_lowercase prefix)) (sym same ∙ map-append _ prefix key) ∙ starts-self (str_to_ascii_lowercase prefix) (str_to_ascii_lowercase key) in
          let inside : list_any (λ name. starts_with nat_eq name (str_to_ascii_lowercase prefix)) (lower_header_names schema) ≡ true =
          ap (list_any (λ name. starts_with nat_eq name (str_to_ascii_lowercase prefix))) (lower_names (members_of schema))
          ∙ any_at (λ name. starts_with nat_eq name (str_to_ascii_lowercase prefix)) lower_name (members_of schema) i m name (at i m at_i) is_m begins in
          let q : false ≡ true = sym (ap not inside) ∙ outside in cc q;
      one_prefix = λ i j m n at_i at_j is_m is_n.
          single (λ m. is_some m.node.traits.http_prefix_headers) (members_of schema) one i j m n (at i m at_i) (at j n at_j) is_m is_n;
    }
  where
    tests : ((list_all is_token (lower_header_names schema) && are_distinct (lower_header_names schema)) ≡ true) × (list_all (is_sound_prefix schema) (prefixes schema) ≡ true)
    tests = and_parts (list_all is_token (lower_header_names schema) && are_distinct (lower_header_names schema)) (list_all (is_sound_prefix schema) (prefixes schema)) message.headers

    sound_prefixes : AllByRecursion (λ p. is_sound_prefix schema p ≡ true) (prefixes schema)
    sound_prefixes = all_from_test (is_sound_prefix schema) (prefixes schema) tests.1

    distinct : AreDistinct (filter_map lower_name (members_of schema))
    distinct = AreDistinct-from_test (filter_map lower_name (members_of schema)) (ap are_distinct (sym (lower_names (members_of schema))) ∙ (and_parts (list_all is_token (lower_header_names schema)) (are_distinct (lower_header_names schema)) tests.0).1)

    one : length (filter (λ m. is_some m.node.traits.http_prefix_headers) (members_of schema)) ≤ 1
    one = leb-true (length (filter (λ m. is_some m.node.traits.http_prefix_headers) (members_of schema))) 1 message.one_prefix_map
