-- The parts of an identifier are those that its full name is cut into.
use Rattle.std.proofs.Common.{◌≡◌, refl, sym, ap, ◌∙◌, ℕ, Bool, true, false, ◌||◌, ◌==◌, List, [], ◌∷◌, ◌++◌, Option, Some, None, eq-eqb, if◌then◌else◌}
use Rattle.std.specs.List.{list_any, before_first, after_first}
use Rattle.std.proofs.lemmas.List.{append-nil}
use Rattle.smithy_ids.specs.ShapeIds.{Parts, AreParts, has_hash, has_dollar, is_hash, is_dollar, member_in, member_text, parts_in}
use Rattle.smithy_ids.proofs.NameLemmas.{before_first-joined, after_first-joined, before_first-none}

joined-has : (c : ℕ) (xs ys : List ℕ) → list_any (λ b. b == c) (xs ++ c ∷ ys) ≡ true
joined-has c [] ys = rw (eq-eqb c c refl) refl
joined-has c (x ∷ xs) ys = go (x == c) (joined-has c xs ys)
  where
    go : (b : Bool) → list_any (λ b. b == c) (xs ++ c ∷ ys) ≡ true → (b || list_any (λ b. b == c) (xs ++ c ∷ ys)) ≡ true
    go true e = refl
    go false e = e

shape-joined : (shape : List ℕ) (member : Option (List ℕ)) → has_dollar shape ≡ false → before_first is_dollar (shape ++ member_text member) ≡ shape
shape-joined shape None lacks = rw (append-nil shape) (before_first-none is_dollar shape lacks)
shape-joined shape (Some name) lacks = before_first-joined 36 shape name lacks

member-joined : (shape : List ℕ) (member : Option (List ℕ)) → has_dollar shape ≡ false → member_in (shape ++ member_text member) ≡ member
member-joined shape None lacks = rw (append-nil shape) (ap (λ (b : Bool). if b then Some (after_first is_dollar shape) else None) lacks)
member-joined shape (Some name) lacks =
    ap (λ (b : Bool). if b then Some (after_first is_dollar (shape ++ 36 ∷ name)) else None) (joined-has 36 shape name)
    ∙ ap (λ (t : List ℕ). Some t) (after_first-joined 36 shape name lacks)

pub parts_in-joined : (parts : Parts) → AreParts parts → parts_in parts.full_name ≡ Some parts
parts_in-joined parts are =
    let has : has_hash parts.full_name ≡ true = rw are.spelled (joined-has 35 parts.namespace (parts.shape_name ++ member_text parts.member_name)) in
    let front : before_first is_hash parts.full_name ≡ parts.namespace = rw are.spelled (before_first-joined 35 parts.namespace (parts.shape_name ++ member_text parts.member_name) are.no_hash) in
    let behind : after_first is_hash parts.full_name ≡ parts.shape_name ++ member_text parts.member_name = rw are.spelled (after_first-joined 35 parts.namespace (parts.shape_name ++ member_text parts.member_name) are.no_hash) in
    rw (has, front, behind, shape-joined parts.shape_name parts.member_name are.no_dollar, member-joined parts.shape_name parts.member_name are.no_dollar) refl

pub names_tell_parts : (a b : Parts) → AreParts a → AreParts b → a.full_name ≡ b.full_name → a ≡ b
names_tell_parts a b x y same =
    let e : Some a ≡ Some b = sym (parts_in-joined a x) ∙ ap parts_in same ∙ parts_in-joined b y in cc e
