-- First writes.
use Rattle.smithy_unambiguity.proofs.Common.{◌≡◌, ◌≢◌, refl, sym, ◌∙◌, ap, subst, ℕ, Bool, true, false, cond, ◌==◌, ◌||◌, if◌then◌else◌, List, [], ◌∷◌, ◌++◌, find, flat_map, Some, eq-eqb, AllByRecursion, option_map_or, eqb-true, append-nil, Resolved, is_of, has_seen, firsts_from, seen_next, cond_both}

pub seen_same : (seen : List ℕ) (p i : ℕ) → (p == i) ≡ true → has_seen seen p ≡ has_seen seen i
seen_same seen p i e = ap (has_seen seen) (eqb-true p i e)

all_behind : (P : Resolved → Type 0) (seen : List ℕ) (rs : List Resolved) → AllByRecursion P rs → AllByRecursion P (firsts_from seen rs)
all_behind P seen [] all = tt
all_behind P seen (r ∷ rs) all =
    let rest = all_behind P (seen ++ r.position ∷ []) rs all.1 in
    cond_both (has_seen seen r.position) (firsts_from (seen ++ r.position ∷ []) rs) (r ∷ firsts_from (seen ++ r.position ∷ []) rs) (AllByRecursion P) (λ e. rest) (λ e. (all.0, rest))

pub all_firsts : (P : Resolved → Type 0) (rs : List Resolved) → AllByRecursion P rs → AllByRecursion P (firsts_from [] rs)
all_firsts P rs all = all_behind P [] rs all

finds_behind : (i : ℕ) (seen : List ℕ) (rs : List Resolved) → has_seen seen i ≡ false → find (is_of i) (firsts_from seen rs) ≡ find (is_of i) rs
finds_behind i seen [] unseen = refl
finds_behind i seen (r ∷ rs) unseen =
    go (has_seen seen r.position) (r.position == i) refl refl (λ other. finds_behind i (seen ++ r.position ∷ []) rs (seen_next seen r.position i ∙ (λ j. unseen j || (other j || false))))
  where
    go : (s t : Bool) → has_seen seen r.position ≡ s → (r.position == i) ≡ t → ((r.position == i) ≡ false → find (is_of i) (firsts_from (seen ++ r.position ∷ []) rs) ≡ find (is_of i) rs)
        → find (is_of i) (if s then firsts_from (seen ++ r.position ∷ []) rs else r ∷ firsts_from (seen ++ r.position ∷ []) rs) ≡ cond t (Some r) (find (is_of i) rs)
    go true true es et rest = let q : true ≡ false = sym es ∙ seen_same seen r.position i et ∙ unseen in absurd (cc q)
    go true false es et rest = rest et
    go false true es et rest = rw et refl
    go false false es et rest = rw et (rest et)

-- the first write of a position is found among the first writes
pub first_finds : (i : ℕ) (rs : List Resolved) → find (is_of i) (firsts_from [] rs) ≡ find (is_of i) rs
first_finds i rs = finds_behind i [] rs refl

-- what is found has the position, and what holds of each write
pub find_has : (P : Resolved → Type 0) (i : ℕ) (rs : List Resolved) (r : Resolved) → AllByRecursion P rs → find (is_of i) rs ≡ Some r → P r × (r.position ≡ i)
find_has P i [] r all e = absurd (cc e)
find_has P i (x ∷ rs) r all e = go (x.position == i) refl (find_has P i rs r all.1) e
  where
    go : (t : Bool) → (x.position == i) ≡ t → (find (is_of i) rs ≡ Some r → P r × (r.position ≡ i)) → cond t (Some x) (find (is_of i) rs) ≡ Some r → P r × (r.position ≡ i)
    go true et rest h = let same : x ≡ r = cc h in (subst P same all.0, ap (λ y. y.position) (sym same) ∙ eqb-true x.position i et)
    go false et rest h = rest h

gives_behind : {X : Type 0} (g : Resolved → List X) (i : ℕ) (seen : List ℕ) (rs : List Resolved) → AllByRecursion (λ r. r.position ≢ i → g r ≡ []) rs
    → flat_map g (firsts_from seen rs) ≡ (if has_seen seen i then [] else option_map_or g (find (is_of i) rs) [])
gives_behind {X = X} g i seen [] nothing = cond_both (has_seen seen i) [] [] (λ (xs : List X). [] ≡ xs) (λ e. refl) (λ e. refl)
gives_behind g i seen (r ∷ rs) nothing =
    go (has_seen seen r.position) (r.position == i) (has_seen seen i) refl refl refl
    (gives_behind g i (seen ++ r.position ∷ []) rs nothing.1 ∙ ap (λ u. if u then [] else option_map_or g (find (is_of i) rs) []) (seen_next seen r.position i))
  where
    none : (r.position == i) ≡ false → g r ≡ []
    none et = nothing.0 (λ h. let q : true ≡ false = sym (eq-eqb r.position i h) ∙ et in cc q)

    go : (s t u : Bool) → has_seen seen r.position ≡ s → (r.position == i) ≡ t → has_seen seen i ≡ u
        → flat_map g (firsts_from (seen ++ r.position ∷ []) rs) ≡ (if has_seen seen i || ((r.position == i) || false) then [] else option_map_or g (find (is_of i) rs) [])
        → flat_map g (if s then firsts_from (seen ++ r.position ∷ []) rs else r ∷ firsts_from (seen ++ r.position ∷ []) rs) ≡ (if u then [] else option_map_or g (cond t (Some r) (find (is_of i) rs)) [])
    go true t true es et eu rest = rw eu at rest
    go false true false es et eu rest = (rw (eu, et) at (ap (λ xs. g r ++ xs) rest)) ∙ append-nil (g r)
    go true false false es et eu rest = rw (eu, et) at rest
    go false false true es et eu rest = ap (λ xs. xs ++ flat_map g (firsts_from (seen ++ r.position ∷ []) rs)) (none et) ∙ (rw eu at rest)
    go false false false es et eu rest = ap (λ xs. xs ++ flat_map g (firsts_from (seen ++ r.position ∷ []) rs)) (none et) ∙ (rw (eu, et) at rest)
    go true true false es et eu rest = let q : true ≡ false = sym es ∙ seen_same seen r.position i et ∙ eu in absurd (cc q)
    go false true true es et eu rest = let q : false ≡ true = sym es ∙ seen_same seen r.position i et ∙ eu in absurd (cc q)

-- Where the writes of other positions give nothing, all that is given is what the first write of the position gives.
pub only_one_gives : {X : Type 0} (g : Resolved → List X) (i : ℕ) (rs : List Resolved) → AllByRecursion (λ r. r.position ≢ i → g r ≡ []) rs
    → flat_map g (firsts_from [] rs) ≡ option_map_or g (find (is_of i) rs) []
only_one_gives g i rs nothing = gives_behind g i [] rs nothing
