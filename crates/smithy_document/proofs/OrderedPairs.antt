-- Two lists of pairs, put in byte order of the names.
use Rattle.smithy_document.proofs.Common.{◌≡◌, refl, sym, ap, ◌∙◌, subst, ℕ, Bool, true, false, cond, List, [], ◌∷◌, Option, Some, None, option_or, nat_cmp, match_ordering, Ordering, Less, Equal, Greater, slice_cmp, with_value, same_text}
use Rattle.std.specs.Cmp.Lexicographic.{same_text as same_from_test}
pub use Rattle.smithy_json.proofs.OrderedPairs.{same_name, Pairs, looked, last_of, all_put, Behind, Ascends, or_none, look_ordered, all_ascend, absent, up_tail, known_by_names, last_ascending}

-- the same names, and what stands under each is related
abbrev pub Beside : Type 0 → Type 0 → Type 1
Beside X Y = List ℕ → X → Y → Type 0

abbrev pub Aligned : {X Y : Type 0} → Beside X Y → Pairs X → Pairs Y → Type 0
Aligned R [] [] = Unit {0}
Aligned R [] (f ∷ fs) = ⊥
Aligned R (e ∷ es) [] = ⊥
Aligned R (e ∷ es) (f ∷ fs) = (e.0 ≡ f.0) × R e.0 e.1 f.1 × Aligned R es fs

put_aligned : {X Y : Type 0} (R : Beside X Y) (k : List ℕ) (x : X) (y : Y) (es : Pairs X) (fs : Pairs Y) → R k x y → Aligned R es fs → Aligned R (with_value k x es) (with_value k y fs)
put_aligned R k x y [] [] has aligned = (refl, has, tt)
put_aligned R k x y [] (f ∷ fs) has aligned = absurd aligned
put_aligned R k x y (e ∷ es) [] has aligned = absurd aligned
put_aligned R k x y (e ∷ es) (f ∷ fs) has aligned =
    subst (λ c. Aligned R (match_ordering c ((k, x) ∷ e ∷ es) ((e.0, x) ∷ es) (e ∷ with_value k x es)) (with_value k y (f ∷ fs))) (ap (slice_cmp nat_cmp k) (sym aligned.0))
    (go (slice_cmp nat_cmp k f.0) refl (put_aligned R k x y es fs has aligned.2))
  where
    go : (o : Ordering) → slice_cmp nat_cmp k f.0 ≡ o → Aligned R (with_value k x es) (with_value k y fs)
        → Aligned R (match_ordering o ((k, x) ∷ e ∷ es) ((e.0, x) ∷ es) (e ∷ with_value k x es)) (match_ordering o ((k, y) ∷ f ∷ fs) ((f.0, y) ∷ fs) (f ∷ with_value k y fs))
    go Less is rest = (refl, has, aligned)
    go Equal is rest = (aligned.0, subst (λ n. R n x y) (same_name k f.0 is ∙ sym aligned.0) has, aligned.2)
    go Greater is rest = (aligned.0, aligned.1, rest)

pub all_aligned : {X Y : Type 0} (R : Beside X Y) (es : Pairs X) (fs : Pairs Y) (up : Pairs X) (down : Pairs Y) → Aligned R es fs → Aligned R up down → Aligned R (all_put es up) (all_put fs down)
all_aligned R [] [] up down paired aligned = aligned
all_aligned R [] (f ∷ fs) up down paired aligned = absurd paired
all_aligned R (e ∷ es) [] up down paired aligned = absurd paired
all_aligned R (e ∷ es) (f ∷ fs) up down paired aligned =
    all_aligned R es fs (with_value e.0 e.1 up) (with_value f.0 f.1 down) paired.2
    (subst (λ n. Aligned R (with_value e.0 e.1 up) (with_value n f.1 down)) paired.0 (put_aligned R e.0 e.1 f.1 up down paired.1 aligned))

-- both are there and related, or none is
abbrev pub Related : {X Y : Type 0} → Beside X Y → List ℕ → Option X → Option Y → Type 0
Related R name None None = Unit {0}
Related R name None (Some y) = ⊥
Related R name (Some x) None = ⊥
Related R name (Some x) (Some y) = R name x y

pub last_related : {X Y : Type 0} (R : Beside X Y) (name : List ℕ) (es : Pairs X) (fs : Pairs Y) → Aligned R es fs → Related R name (last_of name es) (last_of name fs)
last_related R name [] [] aligned = tt
last_related R name [] (f ∷ fs) aligned = absurd aligned
last_related R name (e ∷ es) [] aligned = absurd aligned
last_related {X = X} {Y = Y} R name (e ∷ es) (f ∷ fs) aligned =
    go (last_of name es) (last_of name fs) (same_text e.0 name) (same_text f.0 name) refl (ap (λ n. same_text n name) aligned.0) (last_related R name es fs aligned.2)
  where
    go : (x : Option X) (y : Option Y) (s t : Bool) → same_text e.0 name ≡ s → s ≡ t → Related R name x y → Related R name (option_or x (cond s (Some e.1) None)) (option_or y (cond t (Some f.1) None))
    go (Some v) (Some d) s t is h related = related
    go (Some v) None s t is h related = absurd related
    go None (Some d) s t is h related = absurd related
    go None None true true is h related = subst (λ n. R n e.1 f.1) (same_from_test e.0 name (sym is)) aligned.1
    go None None false false is h related = tt
    go None None true false is h related = absurd (cc h)
    go None None false true is h related = absurd (cc h)
