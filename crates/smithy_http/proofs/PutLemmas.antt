-- Putting a pair at the first place of its name.
use Rattle.std.proofs.Common.{◌≡◌, refl, ap, sym, ◌∙◌, ℕ, suc, ◌+◌, ◌<◌, ◌≤◌, nat_lt, arith, Bool, true, false, not, cond, List, [], ◌∷◌, ◌++◌, map, length, insert, position, string_bytes, Option, Some, None, subst, if◌then◌else◌}
use Rattle.std.specs.List.{position_or_len}
use Rattle.std.specs.Option.{option_map_or}
use Rattle.std.proofs.lemmas.Bool.{ltb-true, ltb-false}
use Rattle.std.proofs.lemmas.List.{map-append}
use Rattle.std.proofs.lemmas.Slice.Eq.{bytes_eq-Decides}
use Rattle.smithy_http.specs.declared.pairs.Pair.{Pair}
use Rattle.smithy_http.specs.Headers.{put, without}
use Rattle.smithy_http.specs.views.Pairs.{pair_of, is_named, named_otherwise}

one_more : (k : ℕ) → 1 + k ≡ suc k
one_more k = omega arith

-- what a position says
pub position_some : {X : Type 0} (p : X → Bool) (xs : List X) (i : ℕ) → position p xs ≡ Some i → (position_or_len p xs ≡ i) × (position_or_len p xs < length xs)
position_some p xs i e = go (nat_lt (position_or_len p xs) (length xs)) refl e
  where
    go : (b : Bool) → nat_lt (position_or_len p xs) (length xs) ≡ b → cond b (Some (position_or_len p xs)) None ≡ Some i → (position_or_len p xs ≡ i) × (position_or_len p xs < length xs)
    go true h e = (ap (λ (o : Option ℕ). option_map_or (λ x. x) o 0) e, ltb-true _ _ h)
    go false h e = absurd (cc e)

position_none : {X : Type 0} (p : X → Bool) (xs : List X) → position p xs ≡ None → length xs ≤ position_or_len p xs
position_none p xs e = go (nat_lt (position_or_len p xs) (length xs)) refl e
  where
    go : (b : Bool) → nat_lt (position_or_len p xs) (length xs) ≡ b → cond b (Some (position_or_len p xs)) None ≡ None → length xs ≤ position_or_len p xs
    go true h e = absurd (cc e)
    go false h e = ltb-false _ _ h

fewer_otherwise : (name : List ℕ) (xs : List Pair) → length (named_otherwise name xs) ≤ length xs
fewer_otherwise name [] = omega arith
fewer_otherwise name (x ∷ xs) = go (is_named name x) (fewer_otherwise name xs)
  where
    go : (b : Bool) → length (named_otherwise name xs) ≤ length xs → length (cond (not b) (x ∷ named_otherwise name xs) (named_otherwise name xs)) ≤ suc (length xs)
    go true few = omega arith
    go false few = omega arith

pub named_otherwise-pairs : (name : List ℕ) (xs : List Pair) → map pair_of (named_otherwise name xs) ≡ without name (map pair_of xs)
named_otherwise-pairs name [] = refl
named_otherwise-pairs name (x ∷ xs) = go (is_named name x) (named_otherwise-pairs name xs)
  where
    go : (b : Bool) → map pair_of (named_otherwise name xs) ≡ without name (map pair_of xs) → map pair_of (cond (not b) (x ∷ named_otherwise name xs) (named_otherwise name xs)) ≡ cond (not b) (pair_of x ∷ without name (map pair_of xs)) (without name (map pair_of xs))
    go true e = e
    go false e = ap (λ ps. pair_of x ∷ ps) e

-- p, inserted at this place among the others of xs, is put in its place
pub record IsPutAt (xs : List Pair) (p : Pair) (place : ℕ) (rest : List Pair) (pairs : List (List ℕ × List ℕ)) : Type 0 where
  pub within : place ≤ length rest
  pub fewer : length rest < length xs
  pub put : map pair_of (insert rest place p) ≡ pairs

abbrev IsPut : List Pair → Pair → Type 0
IsPut xs p = IsPutAt xs p (position_or_len (is_named (string_bytes p.name)) xs) (named_otherwise (string_bytes p.name) xs) (put (map pair_of xs) (pair_of p))

put-at : (xs : List Pair) (p : Pair) → position_or_len (is_named (string_bytes p.name)) xs < length xs → IsPut xs p
put-at [] p l = absurd (omega arith)
put-at (x ∷ xs) p l = go (is_named (string_bytes p.name) x) refl l (λ l. put-at xs p l)
  where
    go : (b : Bool) → is_named (string_bytes p.name) x ≡ b → cond (not b) (1 + position_or_len (is_named (string_bytes p.name)) xs) 0 < length (x ∷ xs)
        → (position_or_len (is_named (string_bytes p.name)) xs < length xs → IsPut xs p)
        → IsPutAt (x ∷ xs) p (cond (not b) (1 + position_or_len (is_named (string_bytes p.name)) xs) 0) (cond (not b) (x ∷ named_otherwise (string_bytes p.name) xs) (named_otherwise (string_bytes p.name) xs))
        (if b then (string_bytes x.name, p.value) ∷ without (string_bytes p.name) (map pair_of xs) else pair_of x ∷ put (map pair_of xs) (pair_of p))
    go true e l rest =
        let same : string_bytes x.name ≡ string_bytes p.name = (bytes_eq-Decides (string_bytes x.name) (string_bytes p.name)).0 e in
        record { within = omega arith; fewer = omega (arith, fewer_otherwise (string_bytes p.name) xs); put = λ i. (sym same i, p.value) ∷ named_otherwise-pairs (string_bytes p.name) xs i }
    go false e l rest =
        let r = rest (omega arith) in
        record {
          within = omega (arith, r.within);
          fewer = omega (arith, r.fewer);
          put = rw (one_more (position_or_len (is_named (string_bytes p.name)) xs)) (ap (λ ps. pair_of x ∷ ps) r.put);
        }

pub put-found : (xs : List Pair) (p : Pair) (i : ℕ) → position (is_named (string_bytes p.name)) xs ≡ Some i → IsPutAt xs p i (named_otherwise (string_bytes p.name) xs) (put (map pair_of xs) (pair_of p))
put-found xs p i e =
    let at = position_some (is_named (string_bytes p.name)) xs i e in
    subst (λ (k : ℕ). IsPutAt xs p k (named_otherwise (string_bytes p.name) xs) (put (map pair_of xs) (pair_of p))) at.0 (put-at xs p at.1)

-- a new name goes last
put-past : (xs : List Pair) (name value : List ℕ) → length xs ≤ position_or_len (is_named name) xs → put (map pair_of xs) (name, value) ≡ map pair_of xs ++ (name, value) ∷ []
put-past [] name value e = refl
put-past (x ∷ xs) name value e = go (is_named name x) e (λ e. put-past xs name value e)
  where
    go : (b : Bool) → suc (length xs) ≤ cond (not b) (1 + position_or_len (is_named name) xs) 0
        → (length xs ≤ position_or_len (is_named name) xs → put (map pair_of xs) (name, value) ≡ map pair_of xs ++ (name, value) ∷ [])
        → (if b then (string_bytes x.name, value) ∷ without name (map pair_of xs) else pair_of x ∷ put (map pair_of xs) (name, value)) ≡ pair_of x ∷ (map pair_of xs ++ (name, value) ∷ [])
    go true e rest = absurd (omega arith)
    go false e rest = ap (λ ps. pair_of x ∷ ps) (rest (omega arith))

pub put-none : (xs : List Pair) (p : Pair) → position (is_named (string_bytes p.name)) xs ≡ None → map pair_of (xs ++ p ∷ []) ≡ put (map pair_of xs) (pair_of p)
put-none xs p e = map-append pair_of xs (p ∷ []) ∙ sym (put-past xs (string_bytes p.name) p.value (position_none (is_named (string_bytes p.name)) xs e))

pub ruleset putting = (put-none)

pub ruleset removing = (named_otherwise-pairs)
