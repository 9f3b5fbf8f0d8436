-- Names that differ.
use Rattle.std.proofs.Common.{◌≡◌, refl, sym, ap, ◌∙◌, cond, ℕ, List, [], ◌∷◌, find, Bool, true, false, is_some, Some, None}
use Rattle.std.specs.List.{list_all}
use Rattle.std.proofs.lemmas.Bool.{and_parts}
use Rattle.std.proofs.lemmas.Slice.Eq.{bytes_eq-Decides}
use Rattle.smithy_model.specs.Names.{is}

-- the name is none of these
abbrev pub Apart : {A : Type 0} → List ℕ → List (List ℕ × A) → Type 0
Apart name [] = Unit {0}
Apart name (p ∷ ps) = (name ≡ p.0 → ⊥) × Apart name ps

pub none_named : {A : Type 0} (ps : List (List ℕ × A)) (name : List ℕ) → Apart name ps → find (λ p. is p.0 name) ps ≡ None
none_named [] name h = refl
none_named (p ∷ ps) name h = go (is p.0 name) refl (none_named ps name h.1)
  where
    go : (b : Bool) → is p.0 name ≡ b → find (λ q. is q.0 name) ps ≡ None → cond b (Some p) (find (λ q. is q.0 name) ps) ≡ None
    go true e rest = absurd (h.0 (sym ((bytes_eq-Decides p.0 name).0 e)))
    go false e rest = rest

-- what holds of each name of a table holds of a name that it has
pub named_so : {A : Type 0} (p : List ℕ → Bool) (es : List (List ℕ × A)) (name : List ℕ) → list_all (λ e. p e.0) es ≡ true → is_some (find (λ e. is e.0 name) es) ≡ true → p name ≡ true
named_so p [] name all found = absurd (cc found)
named_so p (e ∷ es) name all found = go (is e.0 name) refl found (named_so p es name both.1)
  where
    both : (p e.0 ≡ true) × (list_all (λ e. p e.0) es ≡ true)
    both = and_parts (p e.0) (list_all (λ e. p e.0) es) all

    go : (b : Bool) → is e.0 name ≡ b → is_some (cond b (Some e) (find (λ q. is q.0 name) es)) ≡ true → (is_some (find (λ q. is q.0 name) es) ≡ true → p name ≡ true) → p name ≡ true
    go true same h rest = ap p (sym ((bytes_eq-Decides e.0 name).0 same)) ∙ both.0
    go false same h rest = rest h
