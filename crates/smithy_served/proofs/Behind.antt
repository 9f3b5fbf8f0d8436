-- The keys that stand behind a prefix in the names of headers, each once.
use Rattle.smithy_served.proofs.Common.{behind_lower, keys_behind_lower, with_key, with_new, known, AllByRecursion, Bool, List, None, Option, Some, [], ap, cond, cons_option, drop, each, false, false_from_ne_true, filter_map, is_one_of, length, map, nat_eq, option_map_or, option_or, or_right, refl, same_text, starts_with, sym, take, texts, true, values_at, ℕ, ◌++◌, ◌||◌, ◌∙◌, ◌∷◌, ◌≡◌, starts-self, last_value, take-append-drop}
use Rattle.std.specs.Cmp.Lexicographic.{same_text as same_from_test}
use Rattle.std.proofs.lemmas.List.Folds.{list_any-append}
use Rattle.std.proofs.Math.Bool.{or-false, or_assoc}
use Rattle.std.proofs.Math.Seq.{drop-append_seam}
use Rattle.smithy_binding.proofs.DistinctNames.{same_text-sym}
use Rattle.smithy_strings.proofs.UnescapeLaws.{same_self}
use Rattle.smithy_unambiguity.proofs.Queries.{onto, same_tests, values_at-cons}

-- a key stands behind the front in the name that is made of both, and in no other
behind_test : (low name key : List ℕ) → option_map_or (same_text key) (behind_lower low name) false ≡ same_text name (low ++ key)
behind_test low name key = go (starts_with nat_eq name low) refl
  where
    go : (t : Bool) → starts_with nat_eq name low ≡ t → option_map_or (same_text key) (cond t (Some (drop (length low) name)) None) false ≡ same_text name (low ++ key)
    go false is = sym (false_from_ne_true (same_text name (low ++ key)) (λ e. let q : false ≡ true = sym is ∙ ap (λ n. starts_with nat_eq n low) (same_from_test name (low ++ key) (sym e)) ∙ starts-self low key in cc q))
    go true is =
        let whole : name ≡ low ++ drop (length low) name = sym (take-append-drop (length low) name) ∙ ap (λ x. x ++ drop (length low) name) (sym (same_from_test low (take (length low) name) (sym is))) in
        same_tests key (drop (length low) name) name (low ++ key) (λ e. whole ∙ ap (λ x. low ++ x) (sym e)) (λ e. sym (ap (drop (length low)) e ∙ drop-append_seam low key))

-- there is a value
abbrev pub has_value : List (List ℕ) → Bool
has_value [] = false
has_value (v ∷ vs) = true

-- a key stands behind the front of some name exactly where that name has a value
behind_any : (low name : List ℕ) (ps : List (List ℕ × List ℕ)) → is_one_of name (filter_map (λ p. behind_lower low p.0) ps) ≡ has_value (values_at (low ++ name) ps)
behind_any low name [] = refl
behind_any low name (p ∷ ps) =
    found (behind_lower low p.0) ∙ (λ i. behind_test low p.0 name i || behind_any low name ps i) ∙ here (same_text p.0 (low ++ name)) (values_at (low ++ name) ps) ∙ ap has_value (sym (values_at-cons (low ++ name) p ps))
  where
    found : (o : Option (List ℕ)) → is_one_of name (cons_option o (filter_map (λ p. behind_lower low p.0) ps)) ≡ (option_map_or (same_text name) o false || is_one_of name (filter_map (λ p. behind_lower low p.0) ps))
    found None = refl
    found (Some k) = refl

    here : (t : Bool) (vs : List (List ℕ)) → (t || has_value vs) ≡ has_value (onto t p vs)
    here true vs = refl
    here false vs = refl

-- Each text once.

with_key-any : (key : List ℕ) (known : List (List ℕ)) (text : List ℕ) → is_one_of key (with_key known text) ≡ (is_one_of key known || same_text key text)
with_key-any key known text = go (is_one_of text known) refl
  where
    kept : (a b : Bool) → (b ≡ true → a ≡ true) → a ≡ (a || b)
    kept true b h = refl
    kept false true h = h refl
    kept false false h = refl

    go : (t : Bool) → is_one_of text known ≡ t → is_one_of key (cond t known (known ++ text ∷ [])) ≡ (is_one_of key known || same_text key text)
    go true e = kept (is_one_of key known) (same_text key text) (λ h. ap (λ k. is_one_of k known) (same_from_test key text (sym h)) ∙ e)
    go false e = list_any-append (same_text key) known (text ∷ []) ∙ ap (λ b. is_one_of key known || b) (or-false (same_text key text))

with_new-any : (key : List ℕ) (known texts : List (List ℕ)) → is_one_of key (with_new known texts) ≡ (is_one_of key known || is_one_of key texts)
with_new-any key known [] = sym (or-false (is_one_of key known))
with_new-any key known (text ∷ texts) =
    with_new-any key (with_key known text) texts ∙ ap (λ b. b || is_one_of key texts) (with_key-any key known text) ∙ or_assoc (is_one_of key known) (same_text key text) (is_one_of key texts)

pub is_behind : (low key : List ℕ) (ps : List (List ℕ × List ℕ)) → is_one_of key (keys_behind_lower low ps) ≡ has_value (values_at (low ++ key) ps)
is_behind low key ps = with_new-any key [] (filter_map (λ p. behind_lower low p.0) ps) ∙ behind_any low key ps

-- What is made of each key.

pub all_of : (P : List ℕ → Type 0) (keys : List (List ℕ)) → ((k : List ℕ) → is_one_of k keys ≡ true → P k) → AllByRecursion P keys
all_of P [] each = tt
all_of P (k ∷ keys) each = (each k (ap (λ b. b || is_one_of k keys) (same_self k)), all_of P keys (λ j e. each j (or_right (same_text j k) (is_one_of j keys) e)))

pub last_keyed : (text : List ℕ → List ℕ) (keys : List (List ℕ)) (name : List ℕ) → last_value (values_at name (map (λ k. (k, text k)) keys)) ≡ cond (is_one_of name keys) (Some (text name)) None
last_keyed text [] name = refl
last_keyed text (k ∷ keys) name =
    ap last_value (values_at-cons name (k, text k) (map (λ k. (k, text k)) keys)) ∙ go (same_text k name) refl (last_keyed text keys name)
    ∙ ap (λ b. cond (b || is_one_of name keys) (Some (text name)) None) (same_text-sym k name)
  where
    last : (b : Bool) → text k ≡ text name → option_or (cond b (Some (text name)) None) (Some (text k)) ≡ Some (text name)
    last true e = refl
    last false e = ap Some e

    go : (t : Bool) → same_text k name ≡ t → last_value (values_at name (map (λ k. (k, text k)) keys)) ≡ cond (is_one_of name keys) (Some (text name)) None
        → last_value (onto t (k, text k) (values_at name (map (λ k. (k, text k)) keys))) ≡ cond (t || is_one_of name keys) (Some (text name)) None
    go true e rest = ap (λ o. option_or o (Some (text k))) rest ∙ last (is_one_of name keys) (ap text (same_from_test k name (sym e)))
    go false e rest = rest
