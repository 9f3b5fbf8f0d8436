-- What stands at a header's name is what its member's first write gives.
use Rattle.smithy_unambiguity.proofs.Common.{◌≡◌, ◌≢◌, refl, sym, ◌∙◌, ap, ℕ, Bool, true, false, cond, List, [], ◌∷◌, ◌++◌, map, flat_map, Option, Some, None, option_map, option_to_list, is_some, AllByRecursion, option_map_or, str_to_ascii_lowercase, map-append, append_cancel_left, same_text, Schema, member_at, Binding, to_header, to_prefix, binding_of, Value, Write, text_of_key, Resolved, firsts, values_at, headers, inserted, inserted_at, texts, header_texts, map_entries, same_text_self, false_from_ne_true}
use Rattle.std.specs.Cmp.Lexicographic.{same_text as same_from_test}
use Rattle.smithy_unambiguity.proofs.LastTexts.{last_value, last_at, lowered}
use Rattle.smithy_unambiguity.proofs.ByName.{values_at-flat_map, under_name, each_once_at, nothing_at}
use Rattle.smithy_unambiguity.proofs.ByMember.{at_member, first_value, only_member}
use Rattle.smithy_unambiguity.proofs.HeaderNames.{lower_name, HasApartHeaders}
use Rattle.smithy_unambiguity.proofs.PairLemmas.{valued}
use Rattle.smithy_unambiguity.proofs.Queries.{onto, values_at-cons, same_tests}
use Rattle.smithy_unambiguity.proofs.Traits.{trait_of}

-- the entries of a prefix map, each under its name
abbrev pub prefixed : List ℕ → List (List ℕ × List ℕ) → List (List ℕ × List ℕ)
prefixed prefix ps = map (λ e. (str_to_ascii_lowercase (prefix ++ e.0), e.1)) ps

-- the keys of a map with the texts of their values
abbrev pub map_pairs : Value → List (List ℕ × List ℕ)
map_pairs v = valued text_of_key (map_entries v)

-- what a write of a prefix map inserts
pub inserted_entries : (prefix : List ℕ) (m : Schema) (v : Value) → inserted_at (to_prefix prefix) m v ≡ prefixed prefix (map_pairs v)
inserted_entries prefix m v = go (map_entries v)
  where
    go : (es : List (List ℕ × Value)) → map (λ (e : List ℕ × Value). (str_to_ascii_lowercase (prefix ++ e.0), text_of_key e.1)) es ≡ prefixed prefix (valued text_of_key es)
    go [] = refl
    go (e ∷ es) = ap (λ ps. (str_to_ascii_lowercase (prefix ++ e.0), text_of_key e.1) ∷ ps) (go es)

-- none of them stands at a name that is none of theirs
pub none_prefixed : (prefix name : List ℕ) (ps : List (List ℕ × List ℕ)) → ((key : List ℕ) → str_to_ascii_lowercase (prefix ++ key) ≢ name) → values_at name (prefixed prefix ps) ≡ []
none_prefixed prefix name ps unlike = nothing_at name (prefixed prefix ps) (all ps)
  where
    all : (ps : List (List ℕ × List ℕ)) → AllByRecursion (λ p. p.0 ≢ name) (prefixed prefix ps)
    all [] = tt
    all (p ∷ ps) = (unlike p.0, all ps)

-- what a write inserts at a name
abbrev pub given : List ℕ → Resolved → List (List ℕ)
given name r = values_at name (inserted r)

-- the headers at a name, from what each first write inserts
pub headers_at : (schema : Schema) (ws : List Write) (name : List ℕ) → values_at name (headers schema ws) ≡ option_to_list (last_value (flat_map (given name) (firsts schema ws)))
unfolding headers
headers_at schema ws name =
    each_once_at name (flat_map inserted (firsts schema ws)) ∙ ap (λ vs. option_to_list (last_value vs)) (values_at-flat_map name inserted (firsts schema ws))

-- the texts of a header member's value
abbrev pub header_values : Schema → Value → List (List ℕ)
header_values m v = option_map_or (header_texts m v) (texts m v) []

-- what a write inserts at a name, by the binding
abbrev given_at : List ℕ → Binding → Schema → Value → List (List ℕ)
given_at name (to_header n) m v = cond (same_text (str_to_ascii_lowercase n) name) (header_values m v) []
given_at name (to_prefix prefix) m v = values_at name (prefixed prefix (map_pairs v))
given_at name _ m v = []

pub given_is : (name : List ℕ) (b : Binding) (m : Schema) (v : Value) → values_at name (inserted_at b m v) ≡ given_at name b m v
given_is name (to_header n) m v = under_name name (str_to_ascii_lowercase n) (same_text (str_to_ascii_lowercase n) name) (header_values m v) refl
given_is name (to_prefix prefix) m v = ap (values_at name) (inserted_entries prefix m v)
given_is name _ m v = refl

abbrev pub named_header : List ℕ → Binding → Bool
named_header name (to_header n) = same_text (str_to_ascii_lowercase n) name
named_header name _ = false

abbrev pub is_prefix : Binding → Bool
is_prefix (to_prefix prefix) = true
is_prefix _ = false

pub nothing_inserted : (name : List ℕ) (r : Resolved) → named_header name (binding_of r.member) ≡ false → ((prefix : List ℕ) → binding_of r.member ≡ to_prefix prefix → (key : List ℕ) → str_to_ascii_lowercase (prefix ++ key) ≢ name) → given name r ≡ []
nothing_inserted name r unnamed unlike = given_is name (binding_of r.member) r.member r.value ∙ go (binding_of r.member) refl unnamed
  where
    go : (b : Binding) → binding_of r.member ≡ b → named_header name b ≡ false → given_at name b r.member r.value ≡ []
    go (to_header n) e a = ap (λ t. cond t (header_values r.member r.value) []) a
    go (to_prefix prefix) e a = none_prefixed prefix name (map_pairs r.value) (unlike prefix e)
    go _ e a = refl

-- another member's header has another name
other_named : (schema : Schema) (i : ℕ) (m : Schema) (name : List ℕ) → HasApartHeaders schema → member_at schema i ≡ Some m → lower_name m ≡ Some name
    → (r : Resolved) → member_at schema r.position ≡ Some r.member → r.position ≢ i → named_header name (binding_of r.member) ≡ false
other_named schema i m name is at lower r at_r other = go (binding_of r.member) refl
  where
    go : (b : Binding) → binding_of r.member ≡ b → named_header name b ≡ false
    go (to_header n) e =
        false_from_ne_true (same_text (str_to_ascii_lowercase n) name)
        (λ et. other (is.apart r.position i r.member m name at_r at (ap (option_map str_to_ascii_lowercase) (trait_of r.member (to_header n) e) ∙ ap Some (same_from_test (str_to_ascii_lowercase n) name (sym et))) lower))
    go _ e = refl

-- at a header member's name stand the texts of its first write: the last, where there are several
pub headers_of_member : (schema : Schema) (ws : List Write) (i : ℕ) (m : Schema) (name : List ℕ) → HasApartHeaders schema → member_at schema i ≡ Some m → binding_of m ≡ to_header name
    → values_at (str_to_ascii_lowercase name) (headers schema ws) ≡ option_to_list (last_value (option_map_or (header_values m) (first_value schema ws i) []))
headers_of_member schema ws i m name is at header =
    headers_at schema ws (str_to_ascii_lowercase name)
    ∙ ap (λ vs. option_to_list (last_value vs)) (only_member (given (str_to_ascii_lowercase name)) schema ws i m at (λ r at_r other. nothing_inserted (str_to_ascii_lowercase name) r (other_named schema i m (str_to_ascii_lowercase name) is at lower r at_r other)
    (λ prefix e key. is.unlike_prefix i r.position m r.member (str_to_ascii_lowercase name) prefix key at at_r lower (trait_of r.member (to_prefix prefix) e))) ∙ go (first_value schema ws i))
  where
    lower : lower_name m ≡ Some (str_to_ascii_lowercase name)
    lower = ap (option_map str_to_ascii_lowercase) (trait_of m (to_header name) header)

    go : (o : Option Value) → option_map_or (λ v. given (str_to_ascii_lowercase name) (at_member i m v)) o [] ≡ option_map_or (header_values m) o []
    go None = refl
    go (Some v) =
        ap (λ b. values_at (str_to_ascii_lowercase name) (inserted_at b m v)) header
        ∙ given_is (str_to_ascii_lowercase name) (to_header name) m v ∙ ap (λ t. cond t (header_values m v) []) (same_text_self (str_to_ascii_lowercase name))

-- at a name with the prefix of another member's map
other_prefix : (schema : Schema) (i : ℕ) (m : Schema) (prefix key : List ℕ) → HasApartHeaders schema → member_at schema i ≡ Some m → m.node.traits.http_prefix_headers ≡ Some prefix
    → (r : Resolved) → member_at schema r.position ≡ Some r.member → r.position ≢ i → given (str_to_ascii_lowercase (prefix ++ key)) r ≡ []
other_prefix schema i m prefix key is at begins r at_r other =
    nothing_inserted (str_to_ascii_lowercase (prefix ++ key)) r (go (binding_of r.member) refl)
    (λ p e. absurd (other (is.one_prefix r.position i r.member m at_r at (ap is_some (trait_of r.member (to_prefix p) e)) (ap is_some begins))))
  where
    go : (b : Binding) → binding_of r.member ≡ b → named_header (str_to_ascii_lowercase (prefix ++ key)) b ≡ false
    go (to_header n) e =
        false_from_ne_true (same_text (str_to_ascii_lowercase n) (str_to_ascii_lowercase (prefix ++ key)))
        (λ et. is.unlike_prefix r.position i r.member m (str_to_ascii_lowercase n) prefix key at_r at (ap (option_map str_to_ascii_lowercase) (trait_of r.member (to_header n) e)) begins
        (sym (same_from_test (str_to_ascii_lowercase n) (str_to_ascii_lowercase (prefix ++ key)) (sym et))))
    go _ e = refl

-- under a name with the prefix stands what stands under the key, in lower case
pub under_front : (prefix key : List ℕ) (ps : List (List ℕ × List ℕ)) → values_at (str_to_ascii_lowercase prefix ++ key) (prefixed prefix ps) ≡ values_at key (lowered ps)
under_front prefix key [] = refl
under_front prefix key (p ∷ ps) =
    values_at-cons (str_to_ascii_lowercase prefix ++ key) (str_to_ascii_lowercase (prefix ++ p.0), p.1) (prefixed prefix ps)
    ∙ (λ i. onto (alike i) p (under_front prefix key ps i)) ∙ sym (values_at-cons key (str_to_ascii_lowercase p.0, p.1) (lowered ps))
  where
    split : str_to_ascii_lowercase (prefix ++ p.0) ≡ str_to_ascii_lowercase prefix ++ str_to_ascii_lowercase p.0
    split = map-append _ prefix p.0

    alike : same_text (str_to_ascii_lowercase (prefix ++ p.0)) (str_to_ascii_lowercase prefix ++ key) ≡ same_text (str_to_ascii_lowercase p.0) key
    alike =
        same_tests (str_to_ascii_lowercase (prefix ++ p.0)) (str_to_ascii_lowercase prefix ++ key) (str_to_ascii_lowercase p.0) key
        (λ e. append_cancel_left (str_to_ascii_lowercase prefix) (str_to_ascii_lowercase p.0) key (sym split ∙ e)) (λ e. split ∙ ap (λ k. str_to_ascii_lowercase prefix ++ k) e)

-- an entry's name tells its key in lower case
pub under_prefix : (prefix key : List ℕ) (ps : List (List ℕ × List ℕ)) → values_at (str_to_ascii_lowercase (prefix ++ key)) (prefixed prefix ps) ≡ values_at (str_to_ascii_lowercase key) (lowered ps)
under_prefix prefix key ps = ap (λ n. values_at n (prefixed prefix ps)) (map-append _ prefix key) ∙ under_front prefix (str_to_ascii_lowercase key) ps

-- at a name with the prefix stands the last entry of the map's first write that has the key without case
pub headers_of_prefix : (schema : Schema) (ws : List Write) (i : ℕ) (m : Schema) (prefix key : List ℕ) → HasApartHeaders schema → member_at schema i ≡ Some m → binding_of m ≡ to_prefix prefix
    → values_at (str_to_ascii_lowercase (prefix ++ key)) (headers schema ws) ≡ option_map_or (λ v. last_at (str_to_ascii_lowercase key) (lowered (map_pairs v))) (first_value schema ws i) []
headers_of_prefix schema ws i m prefix key is at begins =
    headers_at schema ws (str_to_ascii_lowercase (prefix ++ key))
    ∙ ap (λ vs. option_to_list (last_value vs)) (only_member (given (str_to_ascii_lowercase (prefix ++ key))) schema ws i m at (other_prefix schema i m prefix key is at (trait_of m (to_prefix prefix) begins)))
    ∙ go (first_value schema ws i)
  where
    go : (o : Option Value) → option_to_list (last_value (option_map_or (λ v. given (str_to_ascii_lowercase (prefix ++ key)) (at_member i m v)) o [])) ≡ option_map_or (λ v. last_at (str_to_ascii_lowercase key) (lowered (map_pairs v))) o []
    go None = refl
    go (Some v) =
        ap (λ b. option_to_list (last_value (values_at (str_to_ascii_lowercase (prefix ++ key)) (inserted_at b m v)))) begins
        ∙ ap (λ vs. option_to_list (last_value vs)) (ap (values_at (str_to_ascii_lowercase (prefix ++ key))) (inserted_entries prefix m v) ∙ under_prefix prefix key (map_pairs v))
