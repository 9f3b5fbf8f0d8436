-- The last of the texts under a name.
use Rattle.smithy_unambiguity.proofs.Common.{ℕ, List, [], ◌∷◌, map, Option, Some, None, option_to_list, option_or, str_to_ascii_lowercase, values_at, ◌≡◌, refl, Bool, true, false, cond, filter, AllByRecursion, same_text}

-- the last of a list
abbrev pub last_value : List (List ℕ) → Option (List ℕ)
last_value [] = None
last_value (x ∷ xs) = option_or (last_value xs) (Some x)

-- the last of the values at a name, as a list
abbrev pub last_at : List ℕ → List (List ℕ × List ℕ) → List (List ℕ)
last_at name ps = option_to_list (last_value (values_at name ps))

-- the pairs under lower-case names
abbrev pub lowered : List (List ℕ × List ℕ) → List (List ℕ × List ℕ)
lowered ps = map (λ p. (str_to_ascii_lowercase p.0, p.1)) ps

-- of what is there at most once, the last is the one
pub last_of_list : (o : Option (List ℕ)) → last_value (option_to_list o) ≡ o
last_of_list None = refl
last_of_list (Some x) = refl

-- what holds of each value holds of those under a name
pub values_all : (P : List ℕ → Type 0) (k : List ℕ) (ps : List (List ℕ × List ℕ)) → AllByRecursion (λ p. P p.1) ps → AllByRecursion P (values_at k ps)
values_all P k [] all = tt
values_all P k (p ∷ ps) all = go (same_text p.0 k) (values_all P k ps all.1)
  where
    go : (t : Bool) → AllByRecursion P (values_at k ps) → AllByRecursion P (map (λ (q : List ℕ × List ℕ). q.1) (cond t (p ∷ filter (λ q. same_text q.0 k) ps) (filter (λ q. same_text q.0 k) ps)))
    go true rest = (all.0, rest)
    go false rest = rest
