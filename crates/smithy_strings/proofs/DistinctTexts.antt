-- Texts that are distinct, from the last one on.
use Rattle.std.proofs.Common.{◌≡◌, refl, ap, sym, ◌∙◌, ℕ, suc, zero, Bool, true, false, not, cond, ◌||◌, List, [], ◌∷◌, drop, map, Option, Some, None, ◌==◌, eq-eqb}
use Rattle.std.proofs.lemmas.Bool.{and_parts, and_from}
use Rattle.std.specs.Borrow.{Bor}
use Rattle.std.specs.Cmp.Lexicographic.{same_text as same_from_test}
use Rattle.std.specs.Option.{is_some, option_copied}
use Rattle.std.specs.Str.{bytes_eq}
use Rattle.smithy_types.specs.Texts.{are_distinct, is_one_of, same_text}

same_text_self : (text : List ℕ) → same_text text text ≡ true
same_text_self [] = refl
same_text_self (b ∷ text) = and_from (b == b) (same_text text text) (eq-eqb b b refl) (same_text_self text)

same_text_back : (a b : List ℕ) → same_text a b ≡ true → same_text b a ≡ true
same_text_back a b e = ap (same_text b) (same_from_test a b (sym e)) ∙ same_text_self b

pub same_text-sym : (a b : List ℕ) → same_text a b ≡ same_text b a
same_text-sym a b = go (same_text a b) (same_text b a) refl refl
  where
    go : (x y : Bool) → same_text a b ≡ x → same_text b a ≡ y → x ≡ y
    go true true e f = refl
    go false false e f = refl
    go true false e f = let t : true ≡ false = sym (same_text_back a b e) ∙ f in absurd (cc t)
    go false true e f = let t : true ≡ false = sym (same_text_back b a f) ∙ e in absurd (cc t)

-- one more text is kept
pub later-more : (rest : List (List ℕ)) (n : List ℕ) (k : ℕ) (before after : List ℕ → Option ℕ) → ((q : List ℕ) → is_some (before q) ≡ is_one_of q rest)
    → ((q : List ℕ) → after q ≡ cond (bytes_eq n q) (Some k) (before q)) → (q : List ℕ) → is_some (after q) ≡ is_one_of q (n ∷ rest)
later-more rest n k before after old new q = ap is_some (new q) ∙ go (same_text n q) refl
  where
    go : (b : Bool) → same_text n q ≡ b → is_some (cond b (Some k) (before q)) ≡ (same_text q n || is_one_of q rest)
    go true e = rw (same_text-sym q n ∙ e) refl
    go false e = rw (same_text-sym q n ∙ e) (old q)

pub distinct-more : (rest : List (List ℕ)) (n : List ℕ) → is_one_of n rest ≡ false → are_distinct rest ≡ true → are_distinct (n ∷ rest) ≡ true
distinct-more rest n e d = rw (e, d) refl

distinct-drop : {X : Type 0} (f : X → List ℕ) (xs : List X) (i : ℕ) → are_distinct (map f xs) ≡ true → are_distinct (map f (drop i xs)) ≡ true
distinct-drop f [] zero e = e
distinct-drop f [] (suc i) e = e
distinct-drop f (x ∷ xs) zero e = e
distinct-drop f (x ∷ xs) (suc i) e = distinct-drop f xs i (and_parts (not (is_one_of (f x) (map f xs))) _ e).1

-- a text that stands again
pub distinct-again : {X : Type 0} (f : X → List ℕ) (xs : List X) (i : ℕ) (n : List ℕ) (rest : List (List ℕ)) → map f (drop i xs) ≡ n ∷ rest → is_one_of n rest ≡ true → false ≡ are_distinct (map f xs)
distinct-again f xs i n rest e again = go (are_distinct (map f xs)) refl
  where
    go : (b : Bool) → are_distinct (map f xs) ≡ b → false ≡ b
    go false d = refl
    go true d =
        let all : are_distinct (n ∷ rest) ≡ true = rw e at (distinct-drop f xs i d) in
        let t : true ≡ false = sym (and_parts (not (is_one_of n rest)) (are_distinct rest) all).0 ∙ ap not again in
        absurd (cc t)

pub is_some-copied : {X : Type 0} (o : Option (Bor X)) → is_some (option_copied o) ≡ is_some o
is_some-copied None = refl
is_some-copied (Some x) = refl
