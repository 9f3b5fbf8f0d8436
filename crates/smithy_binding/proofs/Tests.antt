-- Tests of kinds and of distinct texts, and what they say.
use Rattle.smithy_binding.proofs.Common.{◌≡◌, ◌≢◌, refl, ap, sym, ◌∙◌, ℕ, Bool, true, false, not, ◌||◌, ◌==◌, List, [], ◌∷◌, eq-eqb, AllByRecursion, and_parts, and_from, or_parts, not-true, same_text, is_one_of, are_distinct, AreDistinct, ShapeType, same_kind}
use Rattle.std.specs.Cmp.Lexicographic.{same_text as same_from_test}
use Rattle.smithy_ids.specs.declared.shape_type.ShapeType.TheVariants as kind

-- a kind with the number of Structure is Structure
pub structure_from_test : (k : ShapeType) → same_kind k kind.Structure ≡ true → k ≡ kind.Structure
structure_from_test kind.Structure e = refl
structure_from_test _ e = absurd (cc e)

pub structure_test : (k : ShapeType) → k ≡ kind.Structure → same_kind k kind.Structure ≡ true
structure_test k e = ap (λ x. same_kind x kind.Structure) e

pub same_text_self : (text : List ℕ) → same_text text text ≡ true
same_text_self [] = refl
same_text_self (b ∷ text) = and_from (b == b) (same_text text text) (eq-eqb b b refl) (same_text_self text)

pub same_text_back : (a b : List ℕ) → same_text a b ≡ true → same_text b a ≡ true
same_text_back a b e = ap (same_text b) (same_from_test a b (sym e)) ∙ same_text_self b

none_same : (name : List ℕ) (names : List (List ℕ)) → is_one_of name names ≡ false → AllByRecursion (λ other. name ≢ other) names
none_same name [] e = tt
none_same name (other ∷ names) e =
    let parts = or_parts (same_text name other) (is_one_of name names) e in
    ((λ h. let q : true ≡ false = sym (same_text_self name) ∙ ap (same_text name) h ∙ parts.0 in cc q), none_same name names parts.1)

pub AreDistinct-from_test : (names : List (List ℕ)) → are_distinct names ≡ true → AreDistinct names
AreDistinct-from_test [] e = tt
AreDistinct-from_test (name ∷ names) e =
    let parts = and_parts (not (is_one_of name names)) (are_distinct names) e in
    (none_same name names (not-true (is_one_of name names) parts.0), AreDistinct-from_test names parts.1)

is_one_of-from_facts : (name : List ℕ) (names : List (List ℕ)) → AllByRecursion (λ other. name ≢ other) names → is_one_of name names ≡ false
is_one_of-from_facts name [] facts = refl
is_one_of-from_facts name (other ∷ names) facts = go (same_text name other) refl (is_one_of-from_facts name names facts.1)
  where
    go : (same : Bool) → same_text name other ≡ same → is_one_of name names ≡ false → (same || is_one_of name names) ≡ false
    go true e rest = absurd (facts.0 (same_from_test name other (sym e)))
    go false e rest = rest

pub are_distinct-from_facts : (names : List (List ℕ)) → AreDistinct names → are_distinct names ≡ true
are_distinct-from_facts [] facts = refl
are_distinct-from_facts (name ∷ names) facts =
    and_from _ _ (ap not (is_one_of-from_facts name names facts.0)) (are_distinct-from_facts names facts.1)
