-- Of a list, at most one entry beats each other one that matches.
use Rattle.smithy_router.proofs.Common.{◌≡◌, refl, sym, ◌∙◌, subst, ℕ, List, [], ◌∷◌, ◌++◌, IsTrue, AllByRecursion, matches, Beats, Entry, BestIsOne}

pub all_append : {X : Type 0} (P : X → Type 0) (xs ys : List X) → AllByRecursion P xs → AllByRecursion P ys → AllByRecursion P (xs ++ ys)
all_append P [] ys hx hy = hy
all_append P (x ∷ xs) ys hx hy = (hx.0, all_append P xs ys hx.1 hy)

pub all_parts : {X : Type 0} (P : X → Type 0) (xs ys : List X) → AllByRecursion P (xs ++ ys) → AllByRecursion P xs × AllByRecursion P ys
all_parts P [] ys h = (tt, h)
all_parts P (x ∷ xs) ys h = let rest = all_parts P xs ys h.1 in ((h.0, rest.0), rest.1)

-- two entries of one list that each beat the others stand at one place
one_place : (method target : List ℕ) (b c a g : List Entry) (d e : Entry) → b ++ d ∷ a ≡ c ++ e ∷ g
    → IsTrue (matches d.route method target) → IsTrue (matches e.route method target)
    → AllByRecursion (λ o. IsTrue (matches o.route method target) → Beats d.route o.route) (b ++ a)
    → AllByRecursion (λ o. IsTrue (matches o.route method target) → Beats e.route o.route) (c ++ g) → (b ≡ c) × (d ≡ e)
one_place method target [] [] a g d e same md me hd he = (refl, cc same)
one_place method target [] (x ∷ c) a g d e same md me hd he =
    let head : d ≡ x = cc same in
    let tail : a ≡ c ++ e ∷ g = cc same in
    let rest = all_parts (λ (o : Entry). IsTrue (matches o.route method target) → Beats d.route o.route) c (e ∷ g) (subst (AllByRecursion (λ (o : Entry). IsTrue (matches o.route method target) → Beats d.route o.route)) tail hd) in
    let de : Beats d.route e.route = rest.1.0 me in
    let ed : Beats e.route d.route = subst (λ (o : Entry). Beats e.route o.route) (sym head) (he.0 (subst (λ (o : Entry). IsTrue (matches o.route method target)) head md)) in
    absurd (de.not_back ed.within)
one_place method target (x ∷ b) [] a g d e same md me hd he =
    let head : x ≡ e = cc same in
    let tail : b ++ d ∷ a ≡ g = cc same in
    let rest = all_parts (λ (o : Entry). IsTrue (matches o.route method target) → Beats e.route o.route) b (d ∷ a) (subst (AllByRecursion (λ (o : Entry). IsTrue (matches o.route method target) → Beats e.route o.route)) (sym tail) he) in
    let ed : Beats e.route d.route = rest.1.0 md in
    let de : Beats d.route e.route = subst (λ (o : Entry). Beats d.route o.route) head (hd.0 (subst (λ (o : Entry). IsTrue (matches o.route method target)) (sym head) me)) in
    absurd (ed.not_back de.within)
one_place method target (x ∷ b) (y ∷ c) a g d e same md me hd he =
    let head : x ≡ y = cc same in
    let tail : b ++ d ∷ a ≡ c ++ e ∷ g = cc same in
    let rest = one_place method target b c a g d e tail md me hd.1 he.1 in
    ((λ i. head i ∷ rest.0 i), rest.1)

pub best_is_one : BestIsOne
best_is_one method target entries d e first second =
    one_place method target first.before second.before first.after second.after d e (sym first.stands ∙ second.stands) first.matched second.matched first.beats_others second.beats_others
