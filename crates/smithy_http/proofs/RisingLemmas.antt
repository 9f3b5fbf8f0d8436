-- Names that rise: each stands once, a search that halves them finds it, and one that stands behind the last is new.
use Rattle.std.proofs.Common.{◌≡◌, refl, sym, ap, ◌∙◌, subst, ℕ, zero, suc, ◌+◌, ◌-◌, ◌<◌, ◌≤◌, arith, Bool, true, false, cond, List, [], ◌∷◌, ◌++◌, length, take, drop, get_or, map, position, Option, Some, None, option_map, Result, Ok, Err, MatchResult, ⊎_elim, Ordering, Less, Equal, Greater, nat_cmp}
use Rattle.std.specs.List.{AllByRecursion}
use Rattle.std.specs.List.Sorted.{IsStrictlySortedBy, IsSearchInRange, IsBinarySearchResult, IsNonDecreasingBy}
use Rattle.std.specs.Ordering.{ordering_reverse, ordering_index, is_eq, is_lt}
use Rattle.std.specs.Cmp.Lexicographic.{slice_cmp}
use Rattle.std.proofs.lemmas.Bool.{cases_lt}
use Rattle.std.proofs.lemmas.Cmp.{nat_list_cmp_total}
use Rattle.std.proofs.lemmas.List.{length-append, length-map, map-append, take_more, length-take-le, take-append-drop, take-append-le, take-map}
use Rattle.std.proofs.Math.Seq.{take-length}
use Rattle.std.proofs.lemmas.List.Sorted.{searchable_from_sorted}
use Rattle.std.proofs.lemmas.Map.Text.{is_eq-slice_cmp}
use Rattle.smithy_types.specs.Texts.{same_text}
use Rattle.smithy_types.proofs.Positions.{one_more, position-cons}
use Rattle.smithy_http.specs.declared.pairs.Pair.{Pair}
use Rattle.smithy_http.specs.views.Pairs.{name_of, is_named, place_of, AreApart, IsBehind, Rise, RiseTo, GetsPlace}
use Rattle.smithy_http.proofs.PlaceLemmas.{none-cons, position-map, AreApart-push}

abbrev compare : List ℕ → List ℕ → Ordering
compare = slice_cmp nat_cmp

flip-less : (a b : List ℕ) → compare a b ≡ Less → compare b a ≡ Greater
flip-less a b e = nat_list_cmp_total.antisymm b a ∙ ap ordering_reverse e

pub less-is : (o : Ordering) → is_lt o ≡ true → o ≡ Less
less-is Less e = refl
less-is Equal e = absurd (cc e)
less-is Greater e = absurd (cc e)

equal-same : (a b : List ℕ) → compare a b ≡ Equal → same_text a b ≡ true
equal-same a b e = sym (is_eq-slice_cmp a b) ∙ ap is_eq e

less-other : (a b : List ℕ) → compare a b ≡ Less → same_text a b ≡ false
less-other a b e = sym (is_eq-slice_cmp a b) ∙ ap is_eq e

more-other : (a b : List ℕ) → compare a b ≡ Less → same_text b a ≡ false
more-other a b e = sym (is_eq-slice_cmp b a) ∙ ap is_eq (flip-less a b e)

not_equal-other : (a b : List ℕ) → (compare a b ≡ Equal → ⊥) → same_text a b ≡ false
not_equal-other a b differ = sym (is_eq-slice_cmp a b) ∙ go (compare a b) refl
  where
    go : (o : Ordering) → compare a b ≡ o → is_eq o ≡ false
    go Less e = refl
    go Equal e = absurd (differ e)
    go Greater e = refl

-- one step of a position
passed : {X : Type 0} (p : X → Bool) (x : X) (xs : List X) → p x ≡ true → position p (x ∷ xs) ≡ Some 0
passed p x xs e = position-cons p x xs ∙ ap (λ (b : Bool). cond b (Some 0) (option_map one_more (position p xs))) e

failed : {X : Type 0} (p : X → Bool) (x : X) (xs : List X) → p x ≡ false → position p (x ∷ xs) ≡ option_map one_more (position p xs)
failed p x xs e = position-cons p x xs ∙ ap (λ (b : Bool). cond b (Some 0) (option_map one_more (position p xs))) e

-- a name stands in none of those behind it
absent : (name : List ℕ) (names : List (List ℕ)) → AllByRecursion (λ n. compare name n ≡ Less) names → place_of name names ≡ None
absent name [] all = refl
absent name (n ∷ names) all = failed (λ m. same_text m name) n names (more-other name n all.0) ∙ ap (λ (o : Option ℕ). option_map one_more o) (absent name names all.1)

-- names that rise stand once each
pub apart : (names : List (List ℕ)) → Rise names → AreApart names
unfolding IsStrictlySortedBy
apart [] rise = tt
apart (n ∷ names) rise = (absent n names rise.0, apart names rise.1)

-- a name behind all is new
pub new-behind : (name : List ℕ) (names : List (List ℕ)) → IsBehind name names → place_of name names ≡ None
new-behind name [] behind = refl
new-behind name (n ∷ names) behind = failed (λ m. same_text m name) n names (less-other n name behind.0) ∙ ap (λ (o : Option ℕ). option_map one_more o) (new-behind name names behind.1)

-- one more name behind all
one-behind : (n name : List ℕ) (names : List (List ℕ)) → AllByRecursion (λ m. compare n m ≡ Less) names → compare n name ≡ Less → AllByRecursion (λ m. compare n m ≡ Less) (names ++ name ∷ [])
one-behind n name [] all less = (less, tt)
one-behind n name (m ∷ names) all less = (all.0, one-behind n name names all.1 less)

pub rise-push : (name : List ℕ) (names : List (List ℕ)) → Rise names → IsBehind name names → Rise (names ++ name ∷ [])
unfolding IsStrictlySortedBy
rise-push name [] rise behind = (tt, tt)
rise-push name (n ∷ names) rise behind = (one-behind n name names rise.0 behind.0, rise-push name names rise.1 behind.1)

-- what stands behind the last stands behind all
pub behind-last : (name : List ℕ) (xs : List Pair) (last : Pair) (i : ℕ) → Rise (map name_of xs) → length xs ≡ suc i → last ≡ get_or xs i last → compare (name_of last) name ≡ Less → IsBehind name (map name_of xs)
unfolding IsStrictlySortedBy
behind-last name [] last i rise count is less = tt
behind-last name (x ∷ []) last zero rise count is less = (ap (λ (p : Pair). compare (name_of p) name) (sym is) ∙ less, tt)
behind-last name (x ∷ []) last (suc i) rise count is less = absurd (omega (arith, count))
behind-last name (x ∷ y ∷ xs) last zero rise count is less = absurd (omega (arith, count))
behind-last name (x ∷ y ∷ xs) last (suc i) rise count is less =
    let rest = behind-last name (y ∷ xs) last i rise.1 (omega (arith, count)) is less in
    (nat_list_cmp_total.trans (name_of x) (name_of y) name rise.0.0 rest.0, rest)

-- a search that halves names that rise
module _ (name : List ℕ) where
  below_at : (low : List ℕ) (xs : List Pair) (j : ℕ) (d : Pair) → AllByRecursion (λ n. compare low n ≡ Less) (map name_of xs) → j < length xs → compare low (name_of (get_or xs j d)) ≡ Less
  below_at low [] j d all l = absurd (omega (arith, l))
  below_at low (x ∷ xs) zero d all l = all.0
  below_at low (x ∷ xs) (suc j) d all l = below_at low xs j d all.1 (omega (arith, l))

  less_at : (xs : List Pair) (k : ℕ) (d : Pair) → Rise (map name_of xs) → k + 1 < length xs → compare (name_of (get_or xs k d)) (name_of (get_or xs (k + 1) d)) ≡ Less
  unfolding IsStrictlySortedBy
  less_at [] k d rise l = absurd (omega (arith, l))
  less_at (x ∷ xs) zero d rise l = below_at (name_of x) xs 0 d rise.0 (omega (arith, l))
  less_at (x ∷ xs) (suc k) d rise l =
      let next : suc k + 1 ≡ suc (k + 1) = omega arith in
      rw next (less_at xs k d rise.1 (omega (arith, l)))

  halved : (xs : List Pair) → Rise (map name_of xs) → IsNonDecreasingBy (λ p. ordering_index (compare (name_of p) name)) xs
  halved xs rise =
      searchable_from_sorted nat_list_cmp_total name_of xs name (λ k d z l. ap is_lt (flip-less (name_of (get_or xs k d)) (name_of (get_or xs (k + 1) d)) (less_at xs k d rise l)))

  low_before : (a b c : List ℕ) → compare a b ≡ Less → compare b c ≡ Equal → compare a c ≡ Less
  low_before a b c less equal =
      let greater : compare c a ≡ Greater = sym (nat_list_cmp_total.congr b c a equal) ∙ flip-less a b less in
      nat_list_cmp_total.antisymm a c ∙ ap ordering_reverse greater

  here : (xs : List Pair) (i : ℕ) (d : Pair) → Rise (map name_of xs) → i < length xs → compare (name_of (get_or xs i d)) name ≡ Equal → position (is_named name) xs ≡ Some i
  unfolding IsStrictlySortedBy
  here [] i d rise l e = absurd (omega (arith, l))
  here (x ∷ xs) zero d rise l e = passed (is_named name) x xs (equal-same (name_of x) name e)
  here (x ∷ xs) (suc i) d rise l e =
      let inside : i < length xs = omega (arith, l) in
      let less = low_before (name_of x) (name_of (get_or xs i d)) name (below_at (name_of x) xs i d rise.0 inside) e in
      failed (is_named name) x xs (less-other (name_of x) name less) ∙ ap (λ (o : Option ℕ). option_map one_more o) (here xs i d rise.1 inside e) ∙ ap (λ (k : ℕ). Some k) (omega arith)

  nowhere : (xs : List Pair) → ((k : ℕ) (d : Pair) → k < length xs → compare (name_of (get_or xs k d)) name ≡ Equal → ⊥) → position (is_named name) xs ≡ None
  nowhere [] none = refl
  nowhere (x ∷ xs) none =
      failed (is_named name) x xs (not_equal-other (name_of x) name (none 0 x (omega arith)))
      ∙ ap (λ (o : Option ℕ). option_map one_more o) (nowhere xs (λ k d l e. none (suc k) d (omega (arith, l)) e))

  differ : (a : Ordering) → a ≡ Equal → (a ≡ Less → ⊥) × (a ≡ Greater → ⊥)
  differ a e = (λ less. absurd (cc (e, less)), λ greater. absurd (cc (e, greater)))

  -- what it finds
  pub found-halved : (xs : List Pair) (r : Result ℕ ℕ) → Rise (map name_of xs) → IsSearchInRange r (length xs) → IsBinarySearchResult (λ p. compare (name_of p) name) xs r
      → MatchResult r (λ i. Some i ≡ position (is_named name) xs) (λ i. None ≡ position (is_named name) xs)
  found-halved [] (Ok i) rise range equal = absurd (omega (arith, range))
  found-halved (x ∷ xs) (Ok i) rise range equal = sym (here (x ∷ xs) i x rise range (equal x))
  found-halved xs (Err i) rise range parted =
      let parts = parted (halved xs rise) in
      sym (nowhere xs (λ k d l e. ⊎_elim (λ before. (differ _ e).0 (parts.0 k d (omega arith) before)) (λ later. (differ _ e).1 (parts.1 k d later l)) (cases_lt k i)))

-- a position in a list that is cut
module _ {X : Type 0} (p : X → Bool) where
  append-some : (xs ys : List X) (i : ℕ) → position p xs ≡ Some i → position p (xs ++ ys) ≡ Some i
  append-some [] ys i e = absurd (cc e)
  append-some (x ∷ xs) ys i e = go (p x) refl (position p xs) (sym (position-cons p x xs) ∙ e) (λ k at. append-some xs ys k at)
    where
      go : (b : Bool) → p x ≡ b → (o : Option ℕ) → cond b (Some 0) (option_map one_more o) ≡ Some i → ((k : ℕ) → o ≡ Some k → position p (xs ++ ys) ≡ Some k) → position p (x ∷ (xs ++ ys)) ≡ Some i
      go true is o f rest = passed p x (xs ++ ys) is ∙ f
      go false is None f rest = absurd (cc f)
      go false is (Some k) f rest = failed p x (xs ++ ys) is ∙ ap (λ (o : Option ℕ). option_map one_more o) (rest k refl) ∙ f

  append-none : (xs ys : List X) → position p xs ≡ None → position p (xs ++ ys) ≡ option_map (λ k. length xs + k) (position p ys)
  append-none [] ys e = zero_more (position p ys)
    where
      zero_more : (o : Option ℕ) → o ≡ option_map (λ k. 0 + k) o
      zero_more None = refl
      zero_more (Some k) = ap (λ (n : ℕ). Some n) (omega arith)
  append-none (x ∷ xs) ys e =
      let parts = none-cons p x xs e in
      failed p x (xs ++ ys) parts.0 ∙ ap (λ (o : Option ℕ). option_map one_more o) (append-none xs ys parts.1) ∙ more (position p ys)
    where
      more : (o : Option ℕ) → option_map one_more (option_map (λ k. length xs + k) o) ≡ option_map (λ k. suc (length xs) + k) o
      more None = refl
      more (Some k) = ap (λ (n : ℕ). Some n) (omega arith)

  front-some : (xs : List X) (n i : ℕ) → position p (take n xs) ≡ Some i → position p xs ≡ Some i
  front-some xs n i e = ap (position p) (sym (take-append-drop n xs)) ∙ append-some (take n xs) (drop n xs) i e

  front-none : (xs : List X) (n : ℕ) → length (take n xs) ≡ n → position p (take n xs) ≡ None → position p xs ≡ option_map (λ k. n + k) (position p (drop n xs))
  front-none xs n is e =
      ap (position p) (sym (take-append-drop n xs)) ∙ append-none (take n xs) (drop n xs) e ∙ ap (λ (m : ℕ). option_map (λ k. m + k) (position p (drop n xs))) is

-- the place of a name where so many names rise
pub front-rises : (xs : List Pair) (count : ℕ) → RiseTo count (map name_of xs) → Rise (map name_of (take count xs))
front-rises xs count rise = subst Rise (take-map name_of count xs) rise.rise

within-pairs : (xs : List Pair) (count : ℕ) → RiseTo count (map name_of xs) → count ≤ length xs
within-pairs xs count rise = omega (arith, rise.within, length-map xs name_of)

pub in-front : (name : List ℕ) (xs : List Pair) (count place : ℕ) → Some place ≡ position (is_named name) (take count xs) → Some place ≡ position (is_named name) xs
in-front name xs count place found = sym (front-some (is_named name) xs count place (sym found))

pub behind-front : (name : List ℕ) (xs : List Pair) (count : ℕ) (r : Option ℕ) → RiseTo count (map name_of xs) → None ≡ position (is_named name) (take count xs) → r ≡ position (is_named name) (drop count xs) → option_map (λ k. count + k) r ≡ position (is_named name) xs
behind-front name xs count r rise none found =
    ap (option_map (λ k. count + k)) found ∙ sym (front-none (is_named name) xs count (length-take-le count xs (within-pairs xs count rise)) (sym none))

-- all names rise
pub all-risen : (xs : List Pair) → Rise (map name_of xs) → RiseTo (length xs) (map name_of xs)
all-risen xs rise =
    let same = length-map xs name_of in
    record {
      within = omega (arith, same);
      rise = subst Rise (sym (take-map name_of (length xs) xs ∙ ap (map name_of) (take-length xs))) rise;
      apart = apart (map name_of xs) rise;
    }

-- a name behind all is one more that rises
pub one-risen : (name : List ℕ) (xs : List Pair) (count : ℕ) → count ≡ length xs → RiseTo count (map name_of xs) → IsBehind name (map name_of xs)
    → (position (is_named name) xs ≡ None) × RiseTo (length xs + 1) (map name_of xs ++ name ∷ [])
one-risen name xs count all rise behind =
    let names = map name_of xs in
    let same : length names ≡ length xs = length-map xs name_of in
    let rises : Rise names = subst Rise (ap (λ (n : ℕ). take n names) (all ∙ sym same) ∙ take-length names) rise.rise in
    let none = new-behind name names behind in
    let longer : length (names ++ name ∷ []) ≡ length xs + 1 = length-append names (name ∷ []) ∙ omega (arith, same) in (
      sym (position-map (λ n. same_text n name) name_of xs) ∙ none,
      record {
        within = omega (arith, longer);
        rise = subst Rise (sym (ap (λ (n : ℕ). take n (names ++ name ∷ [])) (sym longer) ∙ take-length (names ++ name ∷ []))) (rise-push name names rises behind);
        apart = AreApart-push names name rise.apart none;
      },
    )

-- another name is found, or is one of those that are searched
pub other-risen : (name : List ℕ) (xs : List Pair) (count : ℕ) (r : Option ℕ) → RiseTo count (map name_of xs) → r ≡ position (is_named name) xs → GetsPlace name xs (RiseTo count) r
other-risen name xs count None rise found =
    let names = map name_of xs in
    let none : place_of name names ≡ None = position-map (λ n. same_text n name) name_of xs ∙ sym found in (
      sym found,
      record {
        within = omega (arith, rise.within, length-append names (name ∷ []));
        rise = subst Rise (sym (take-append-le count names (name ∷ []) rise.within)) rise.rise;
        apart = AreApart-push names name rise.apart none;
      },
    )
other-risen name xs count (Some place) rise found = (sym found, rise)

-- one more of names that rise
pub more-risen : (xs : List Pair) (i : ℕ) (x : Pair) → i < length xs → x ≡ get_or xs i x → Rise (map name_of (take i xs)) → IsBehind (name_of x) (map name_of (take i xs)) → Rise (map name_of (take (i + 1) xs))
more-risen xs i x within is rise behind =
    let one : take (i + 1) xs ≡ take i xs ++ x ∷ [] = take_more xs i x within ∙ ap (λ (y : Pair). take i xs ++ y ∷ []) (sym is) in
    let names : map name_of (take (i + 1) xs) ≡ map name_of (take i xs) ++ name_of x ∷ [] = ap (map name_of) one ∙ map-append name_of (take i xs) (x ∷ []) in
    subst Rise (sym names) (rise-push (name_of x) (map name_of (take i xs)) rise behind)

-- the last of some
pub behind-end : (name : List ℕ) (xs : List Pair) (last : Pair) → Rise (map name_of xs) → last ≡ get_or xs (length xs - 1) last → compare (name_of last) name ≡ Less → IsBehind name (map name_of xs)
behind-end name [] last rise is less = tt
behind-end name (x ∷ xs) last rise is less =
    let at : length (x ∷ xs) - 1 ≡ length xs = omega arith in
    behind-last name (x ∷ xs) last (length xs) rise refl (is ∙ ap (λ (n : ℕ). get_or (x ∷ xs) n last) at) less
