-- Tests that are asked together.
use Rattle.smithy_binding.proofs.Common.{◌≡◌, refl, ap, Bool, true, false, not, cond, ◌&&◌, ◌||◌, List, [], ◌∷◌, filter, list_all, and_parts}

pub both : (a b : Bool) → a ≡ true → b ≡ true → (a && b) ≡ true
both true b p q = q
both false b p q = absurd (cc p)

pub all-both : {X : Type 0} (f g : X → Bool) (xs : List X) → list_all f xs ≡ true → list_all g xs ≡ true → list_all (λ x. f x && g x) xs ≡ true
all-both f g [] p q = refl
all-both f g (x ∷ xs) p q =
    let a = and_parts (f x) (list_all f xs) p in
    let b = and_parts (g x) (list_all g xs) q in
    both _ _ (both _ _ a.0 b.0) (all-both f g xs a.1 b.1)

pub all-parts : {X : Type 0} (f g : X → Bool) (xs : List X) → list_all (λ x. f x && g x) xs ≡ true → (list_all f xs ≡ true) × (list_all g xs ≡ true)
all-parts f g [] e = (refl, refl)
all-parts f g (x ∷ xs) e =
    let p = and_parts (f x && g x) _ e in
    let q = and_parts (f x) (g x) p.0 in
    let r = all-parts f g xs p.1 in
    (both _ _ q.0 r.0, both _ _ q.1 r.1)

-- what is asked of those that another test chooses
pub all-filter : {X : Type 0} (f g : X → Bool) (xs : List X) → list_all f (filter g xs) ≡ list_all (λ x. not (g x) || f x) xs
all-filter f g [] = refl
all-filter f g (x ∷ xs) = go (g x) (all-filter f g xs)
  where
    go : (b : Bool) → list_all f (filter g xs) ≡ list_all (λ x. not (g x) || f x) xs
        → list_all f (cond b (x ∷ filter g xs) (filter g xs)) ≡ ((not b || f x) && list_all (λ x. not (g x) || f x) xs)
    go true e = ap (λ b. f x && b) e
    go false e = e

-- three tests in order
pub second_fails : (a b c : Bool) → a ≡ true → b ≡ false → false ≡ (a && b && c)
second_fails true b c e f = rw f refl
second_fails false b c e f = absurd (cc e)

pub first_fails : (a b c : Bool) → a ≡ false → false ≡ (a && b && c)
first_fails false b c e = refl
first_fails true b c e = absurd (cc e)

pub third_decides : (a b c : Bool) → a ≡ true → b ≡ true → c ≡ (a && b && c)
third_decides a b c e f = rw (e, f) refl

-- a test that decides by itself, and one that leaves it to the others
pub first_decides : (a b c : Bool) → a ≡ false → (a && b) ≡ c → false ≡ c
first_decides false b c e f = f
first_decides true b c e f = absurd (cc e)

pub others_decide : (a b c : Bool) → a ≡ true → (a && b) ≡ c → b ≡ c
others_decide true b c e f = f
others_decide false b c e f = absurd (cc e)
