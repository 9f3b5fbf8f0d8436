-- What stands behind the first `&` of a query.
use Rattle.smithy_binding.proofs.Common.{◌≡◌, ◌≢◌, refl, ap, ℕ, Bool, true, false, ◌==◌, List, [], ◌∷◌, ◌++◌, if◌then◌else◌, Option, Some, None, MatchOption, eqb-true, Bor, has_byte, separator, target_behind}

abbrev pub IsBehindFirst : List ℕ → List ℕ → Option (Bor (List ℕ)) → Type 0
IsBehindFirst path query r =
    MatchOption r (target_behind path query ≡ path) (λ q. target_behind path query ≡ path ++ (separator (has_byte 63 path) ++ q.now))

pub behind_first-cut : (query : List ℕ) (r : Option (Bor (List ℕ))) → MatchOption r ((rest : List ℕ) → query ≢ 38 ∷ rest) (λ x. query ≡ 38 ∷ x.now)
    → (path : List ℕ) → IsBehindFirst path query r
behind_first-cut query (Some x) e path = rw e refl
behind_first-cut [] None h path = refl
behind_first-cut (b ∷ query) None h path = go (b == 38) refl
  where
    go : (same : Bool) → (b == 38) ≡ same → (if same then path ++ (separator (has_byte 63 path) ++ query) else path) ≡ path
    go true e = absurd (h query (ap (λ c. c ∷ query) (eqb-true b 38 e)))
    go false e = refl
