-- Shapes whose floats are decimals.
use Rattle.std.proofs.Common.{◌≡◌, refl, ap, ◌∙◌, sym, ℕ, zero, suc, ◌+◌, ◌<◌, List, [], ◌∷◌, ◌++◌, length, map, take, drop, set, get_or, ◌&&◌, arith}
use Rattle.std.specs.List.{list_all}
use Rattle.std.proofs.lemmas.List.{map-set, length-map, get_or-map}
use Rattle.smithy_ids.specs.ShapeIds.{has_hash}
use Rattle.smithy_model.specs.Floats.{decimal_shape}
use Rattle.smithy_model.specs.Reached.{names_of}
use Rattle.smithy_model.specs.Shapes.{Shape}
use Rattle.smithy_model.specs.views.ModelView.{shape_view}
use Rattle.smithy_model.specs.declared.shape.Shape.{Shape as Stored}

-- a shape keeps its name

pub decimal_names : (ss : List Shape) → names_of (map decimal_shape ss) ≡ names_of ss
decimal_names [] = refl
decimal_names (s ∷ ss) = ap (λ ns. s.name ∷ ns) (decimal_names ss)

pub decimal_named : (ss : List Shape) → list_all (λ s. has_hash s.name) (map decimal_shape ss) ≡ list_all (λ s. has_hash s.name) ss
decimal_named [] = refl
decimal_named (s ∷ ss) = ap (λ b. has_hash s.name && b) (decimal_named ss)

same_length : {A : Type 0} (f : A → A) (i : ℕ) (all : List A) → length (map f (take i all) ++ drop i all) ≡ length all
same_length f zero all = refl
same_length f (suc i) [] = refl
same_length f (suc i) (x ∷ all) = ap (λ n. suc n) (same_length f i all)

-- the first of the others follows those that were gone over
one_more : {A : Type 0} (f : A → A) (all : List A) (i : ℕ) (a : A) → i < length all → get_or (map f (take i all) ++ drop i all) i a ≡ a
    → set (map f (take i all) ++ drop i all) i (f a) ≡ map f (take (suc i) all) ++ drop (suc i) all
one_more f [] i a l is = absurd (omega (arith, l))
one_more f (x ∷ all) zero a l is = ap (λ y. f y ∷ all) (sym is)
one_more f (x ∷ all) (suc i) a l is = ap (λ ys. f x ∷ ys) (one_more f all i a (omega (arith, l)) is)

pub next_decimal : (first now : List Stored) (i : ℕ) (old new : Stored) → i < length first → old ≡ get_or now i old → shape_view new ≡ decimal_shape (shape_view old)
    → map shape_view now ≡ map decimal_shape (take i (map shape_view first)) ++ drop i (map shape_view first)
    → map shape_view (set now i new) ≡ map decimal_shape (take (i + 1) (map shape_view first)) ++ drop (i + 1) (map shape_view first)
next_decimal first now i old new l at is h =
    let all = map shape_view first in
    let next : i + 1 ≡ suc i = omega arith in
    let long : i < length all = rw (length-map first shape_view) l in
    let same : length now ≡ length all = sym (length-map now shape_view) ∙ ap length h ∙ same_length decimal_shape i all in
    let below : i < length now = rw same long in
    let there : get_or (map shape_view now) i (shape_view old) ≡ shape_view old = get_or-map shape_view now i old (shape_view old) below ∙ ap shape_view (sym at) in
    rw next (map-set shape_view now i new ∙ ap (set (map shape_view now) i) is ∙ ap (λ ss. set ss i (decimal_shape (shape_view old))) h
    ∙ one_more decimal_shape all i (shape_view old) long (rw h at there))
