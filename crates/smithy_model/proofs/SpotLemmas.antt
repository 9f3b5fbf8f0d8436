-- Spots by name.
use Rattle.std.proofs.Common.{◌≡◌, refl, sym, ap, ◌∙◌, cond, ℕ, zero, suc, ◌+◌, ◌<◌, get_or, Bool, true, false, ◌&&◌, List, [], ◌∷◌, length, map, find, arith, Option, Some, None, option_map, option_and_then}
use Rattle.std.specs.List.{slice_get, list_all}
use Rattle.std.proofs.lemmas.List.Folds.{list_all_at}
use Rattle.smithy_ids.specs.ShapeIds.{has_hash}
use Rattle.smithy_model.specs.Names.{is}
use Rattle.smithy_model.specs.Shapes.{Shape}
use Rattle.smithy_model.specs.Reached.{names_of}
use Rattle.smithy_model.specs.Nodes.{Spot, spots_from, spot_named}
use Rattle.smithy_model.specs.views.SpotView.{names_at, spot_view}
use Rattle.smithy_model.specs.declared.spots.Spot as declared
use Rattle.smithy_model.specs.views.NameView.{position_from, position_in}

position-next : (p : ℕ) (ns : List (List ℕ)) (n : List ℕ) → position_from (p + 1) ns n ≡ option_map (λ i. i + 1) (position_from p ns n)
position-next p [] n = refl
position-next p (m ∷ ns) n = go (is m n) (position-next (p + 1) ns n)
  where
    go : (b : Bool) → position_from (p + 1 + 1) ns n ≡ option_map (λ i. i + 1) (position_from (p + 1) ns n)
        → cond b (Some (p + 1)) (position_from (p + 1 + 1) ns n) ≡ option_map (λ i. i + 1) (cond b (Some p) (position_from (p + 1) ns n))
    go true h = refl
    go false h = h

one_behind : (s : Spot) (ss : List Spot) (o : Option ℕ) → option_and_then (slice_get (s ∷ ss)) (option_map (λ i. i + 1) o) ≡ option_and_then (slice_get ss) o
one_behind s ss None = refl
one_behind s ss (Some i) = let next : i + 1 ≡ suc i = omega arith in rw next refl

got-map : (xs : List declared.Spot) (i : ℕ) → slice_get (map spot_view xs) i ≡ option_map spot_view (slice_get xs i)
got-map [] i = refl
got-map (x ∷ xs) zero = refl
got-map (x ∷ xs) (suc i) = got-map xs i

-- the position of a name is that of its spot
pub spot_at_name : (ss : List Spot) (name : List ℕ) → option_and_then (slice_get ss) (position_in (names_at ss) name) ≡ spot_named ss name
unfolding spot_named
spot_at_name [] name = refl
spot_at_name (s ∷ ss) name = go (is s.shape.name name) (spot_at_name ss name)
  where
    go : (b : Bool) → option_and_then (slice_get ss) (position_in (names_at ss) name) ≡ find (λ x. is x.shape.name name) ss
        → option_and_then (slice_get (s ∷ ss)) (cond b (Some 0) (position_from (0 + 1) (names_at ss) name)) ≡ cond b (Some s) (find (λ x. is x.shape.name name) ss)
    go true h = refl
    go false h = rw (position-next 0 (names_at ss) name) (one_behind s ss (position_from 0 (names_at ss) name) ∙ h)

pub spots-length : (first index : ℕ) (ss : List Shape) → length (spots_from first index ss) ≡ length ss
spots-length first index [] = refl
spots-length first index (s ∷ ss) = ap suc (spots-length (first + length s.members) (index + 1) ss)

pub spots-names : (first index : ℕ) (ss : List Shape) → names_at (spots_from first index ss) ≡ names_of ss
spots-names first index [] = refl
spots-names first index (s ∷ ss) = ap (λ ns. s.name ∷ ns) (spots-names (first + length s.members) (index + 1) ss)

pub spots-hashes : (first index : ℕ) (ss : List Shape) → list_all (λ s. has_hash s.shape.name) (spots_from first index ss) ≡ list_all (λ s. has_hash s.name) ss
spots-hashes first index [] = refl
spots-hashes first index (s ∷ ss) = ap (λ b. has_hash s.name && b) (spots-hashes (first + length s.members) (index + 1) ss)

pub spot_found : (xs : List declared.Spot) (name : List ℕ) (i : ℕ) (o : Option declared.Spot) → Some i ≡ position_in (names_at (map spot_view xs)) name → o ≡ slice_get xs i → option_map spot_view o ≡ spot_named (map spot_view xs) name
spot_found xs name i o p e =
    ap (option_map spot_view) e ∙ sym (got-map xs i) ∙ ap (option_and_then (slice_get (map spot_view xs))) p ∙ spot_at_name (map spot_view xs) name

pub spot_none : (ss : List Spot) (name : List ℕ) → None ≡ position_in (names_at ss) name → None ≡ spot_named ss name
spot_none ss name p = ap (option_and_then (slice_get ss)) p ∙ spot_at_name ss name

both-true : (a b : Bool) → a && b ≡ true → (a ≡ true) × (b ≡ true)
both-true true b e = (refl, e)
both-true false b e = absurd (cc e)

-- a spot that is found has a full name, where all have
pub found-hash : (ss : List Spot) (name : List ℕ) (s : Spot) → Some s ≡ spot_named ss name → list_all (λ x. has_hash x.shape.name) ss ≡ true → has_hash s.shape.name ≡ true
unfolding spot_named
found-hash [] name s e h = absurd (cc e)
found-hash (x ∷ ss) name s e h = go (is x.shape.name name) (both-true _ _ h) (found-hash ss name s) e
  where
    go : (b : Bool) → (has_hash x.shape.name ≡ true) × (list_all (λ y. has_hash y.shape.name) ss ≡ true) → (Some s ≡ find (λ y. is y.shape.name name) ss → list_all (λ y. has_hash y.shape.name) ss ≡ true → has_hash s.shape.name ≡ true)
        → Some s ≡ cond b (Some x) (find (λ y. is y.shape.name name) ss) → has_hash s.shape.name ≡ true
    go true h k f = let same : s ≡ x = cc in ap (λ (y : Spot). has_hash y.shape.name) same ∙ h.0
    go false h k f = k f h.1

-- what passes for each passes for the one at a position
pub pass-at : {X : Type 0} (p : X → Bool) (xs : List X) (i : ℕ) (x : X) → i < length xs → x ≡ get_or xs i x → list_all p xs ≡ true → p x ≡ true
pass-at p xs i x l e h = go (p x) refl
  where
    go : (b : Bool) → p x ≡ b → b ≡ true
    go true f = refl
    go false f = let none = list_all_at p xs i x l (ap p (sym e) ∙ f) in cc
