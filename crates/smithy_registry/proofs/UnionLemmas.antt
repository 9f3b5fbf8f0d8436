-- Two registries made one: what stands under each name.
use Rattle.std.proofs.Common.{◌≡◌, refl, sym, ap, ◌∙◌, subst, ℕ, Bool, true, false, cond, List, [], ◌∷◌, Option, Some, None, nat_cmp, Ordering, Less, Equal, Greater}
use Rattle.std.specs.Cmp.Lexicographic.{slice_cmp}
use Rattle.std.specs.List.{AllByRecursion}
use Rattle.std.specs.List.Sorted.{IsStrictlySortedBy}
use Rattle.std.specs.Map.{keys_of}
use Rattle.std.specs.Option.{option_or}
use Rattle.std.specs.Ordering.{is_eq, match_ordering}
use Rattle.std.proofs.lemmas.Map.Text.{is_eq-slice_cmp}
use Rattle.std.proofs.lemmas.Slice.Eq.{bytes_eq-Decides}
use Rattle.smithy_types.specs.Maps.{with_value, IsOrdered}
use Rattle.smithy_types.specs.Texts.{same_text}
use Rattle.smithy_registry.specs.Registries.{by_name, composed}
use Rattle.smithy_registry.proofs.KeptLemmas.{same_if_equal}

module _ {X : Type 0} where
  -- under a name that was put stands what was put, under each other what stood there
  put_found : (name own : List ℕ) (x : X) (es : List (List ℕ × X)) → by_name name (with_value own x es) ≡ cond (same_text name own) (Some x) (by_name name es)
  put_found name own x [] = refl
  put_found name own x (e ∷ es) = go (put_found name own x es) (slice_cmp nat_cmp own e.0) refl
    where
      replaced : (b : Bool) → cond b (Some x) (by_name name es) ≡ cond b (Some x) (cond b (Some e.1) (by_name name es))
      replaced true = refl
      replaced false = refl

      behind_other : slice_cmp nat_cmp own e.0 ≡ Greater → (b c : Bool) → same_text name e.0 ≡ b → same_text name own ≡ c
          → cond b (Some e.1) (cond c (Some x) (by_name name es)) ≡ cond c (Some x) (cond b (Some e.1) (by_name name es))
      behind_other h true true p q =
          let same : own ≡ e.0 = sym ((bytes_eq-Decides name own).0 q) ∙ (bytes_eq-Decides name e.0).0 p in
          absurd (let lie : true ≡ false = sym ((bytes_eq-Decides own e.0).1 same) ∙ sym (is_eq-slice_cmp own e.0) ∙ ap is_eq h in cc lie)
      behind_other h true false p q = refl
      behind_other h false c p q = refl

      go : by_name name (with_value own x es) ≡ cond (same_text name own) (Some x) (by_name name es) → (o : Ordering) → slice_cmp nat_cmp own e.0 ≡ o
          → by_name name (match_ordering o ((own, x) ∷ e ∷ es) ((e.0, x) ∷ es) (e ∷ with_value own x es)) ≡ cond (same_text name own) (Some x) (by_name name (e ∷ es))
      go behind Less h = refl
      go behind Equal h = subst (λ (n : List ℕ). by_name name ((e.0, x) ∷ es) ≡ cond (same_text name n) (Some x) (by_name name (e ∷ es))) (sym (same_if_equal own e.0 h)) (replaced (same_text name e.0))
      go behind Greater h = ap (cond (same_text name e.0) (Some e.1)) behind ∙ behind_other h (same_text name e.0) (same_text name own) refl refl

  -- nothing stands under a name below all others
  absent_below : (name : List ℕ) (es : List (List ℕ × X)) → AllByRecursion (λ y. slice_cmp nat_cmp name y ≡ Less) (keys_of es) → by_name name es ≡ None
  absent_below name [] all = refl
  absent_below name (e ∷ es) all = ap (λ b. cond b (Some e.1) (by_name name es)) (sym (is_eq-slice_cmp name e.0) ∙ ap is_eq all.0) ∙ absent_below name es all.1

  -- under each name of both stands what the second has, else what the first has
  pub union : (name : List ℕ) (ours theirs : List (List ℕ × X)) → IsOrdered theirs → by_name name (composed ours theirs) ≡ option_or (by_name name theirs) (by_name name ours)
  unfolding IsStrictlySortedBy
  union name ours [] ordered = refl
  union name ours (e ∷ es) ordered =
      union name (with_value e.0 e.1 ours) es ordered.1 ∙ ap (option_or (by_name name es)) (put_found name e.0 e.1 ours) ∙ go (same_text name e.0) refl
    where
      go : (b : Bool) → same_text name e.0 ≡ b → option_or (by_name name es) (cond b (Some e.1) (by_name name ours)) ≡ option_or (cond b (Some e.1) (by_name name es)) (by_name name ours)
      go false p = refl
      go true p =
          let none : by_name name es ≡ None = ap (λ (n : List ℕ). by_name n es) ((bytes_eq-Decides name e.0).0 p) ∙ absent_below e.0 es ordered.0 in
          ap (λ (o : Option X). option_or o (Some e.1)) none
