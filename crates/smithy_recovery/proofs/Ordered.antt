-- Pairs in order of their names are known by the values of each name.
use Rattle.std.proofs.Common.{◌≡◌, refl, sym, ◌∙◌, ap, ap₂, subst, cond, ℕ, zero, suc, ◌+◌, ◌<◌, ◌≤◌, Bool, true, false, not, ◌&&◌, ◌||◌, arith, List, [], ◌∷◌, ◌++◌, length, get_or, drop, map, filter, Option, Some, None, option_map}
use Rattle.std.specs.Borrow.{Bor}
use Rattle.std.specs.Cmp.Lexicographic.{slice_cmp, same_text as same_from_test}
use Rattle.std.specs.List.{cons_option}
use Rattle.std.specs.List.Sorted.{IsSortedByKey, IsStableByKey}
use Rattle.std.specs.Ordering.{nat_cmp, is_lt, is_eq, ordering_reverse}
use Rattle.std.specs.declared.cmp.Ordering.{Ordering}
use Rattle.std.specs.declared.cmp.Ordering.TheVariants.{Less, Equal, Greater}
use Rattle.std.proofs.Math.ListN.{drop_of_length-le}
use Rattle.std.proofs.lemmas.Bool.{and_parts, and_from}
use Rattle.std.proofs.lemmas.List.{drop_more}
use Rattle.std.proofs.lemmas.Cmp.{nat_list_cmp_total}
use Rattle.std.proofs.lemmas.List.MinMax.{ranks_by}
use Rattle.std.proofs.lemmas.List.Sorted.{sorted_far}
use Rattle.std.proofs.lemmas.Map.Text.{is_eq-slice_cmp}
use Rattle.smithy_types.specs.Texts.{same_text, is_one_of, are_distinct}
use Rattle.smithy_http.specs.Facts.{values_at}
use Rattle.smithy_strings.proofs.UnescapeLaws.{same_self}
use Rattle.smithy_recovery.specs.views.NameOrder.{named_seen, text_seen, header_seen, left_seen, has_same_first, IsLow, Rises, IsInOrder, same_pairs, first_below, rise}
use Rattle.smithy_recovery.specs.declared.named_texts.NamedText.{NamedText}
use Rattle.smithy_recovery.specs.declared.same_facts.Left.{Left}
use Rattle.smithy_recovery.specs.declared.same_facts.Named.{Named}
use Rattle.smithy_recovery.specs.SameFacts.{has_same_values}
use Rattle.smithy_recovery.proofs.FactsTested.{values_from_test, test_from_values}

abbrev Pairs : Type 0
Pairs = List (List ℕ × List ℕ)

abbrev pub order : List ℕ → List ℕ → Ordering
order a b = slice_cmp nat_cmp a b

pub turned : (a b : List ℕ) → order b a ≡ ordering_reverse (order a b)
turned a b = nat_list_cmp_total.antisymm b a

-- neither is less: the same name
equal_of : (o : Ordering) (a b : List ℕ) → order a b ≡ o → is_lt o ≡ false → is_lt (ordering_reverse o) ≡ false → is_eq (order a b) ≡ true
equal_of Less a b is e f = absurd (cc e)
equal_of Equal a b is e f = ap is_eq is
equal_of Greater a b is e f = absurd (cc f)

same_of : (a b : List ℕ) → is_lt (order a b) ≡ false → is_lt (order b a) ≡ false → same_text a b ≡ true
same_of a b e f = sym (is_eq-slice_cmp a b) ∙ equal_of (order a b) a b refl e (sym (ap is_lt (turned a b)) ∙ f)

-- what is less than one that is less
less_past : (a b c : List ℕ) → is_lt (order a b) ≡ true → is_lt (order b c) ≡ true → is_lt (order a c) ≡ true
less_past a b c e f = ap is_lt (nat_list_cmp_total.trans a b c (less_is (order a b) e) (less_is (order b c) f))
  where
    less_is : (o : Ordering) → is_lt o ≡ true → o ≡ Less
    less_is Less e = refl
    less_is Equal e = absurd (cc e)
    less_is Greater e = absurd (cc e)

or_false : (a b : Bool) → a ≡ false → b ≡ false → (a || b) ≡ false
or_false a b e f = rw (e, f) refl

-- one that is less is another
less_apart : (a b : List ℕ) → is_lt (order a b) ≡ true → same_text b a ≡ false
less_apart a b less = go (order a b) refl less
  where
    go : (o : Ordering) → order a b ≡ o → is_lt o ≡ true → same_text b a ≡ false
    go Less is e = sym (is_eq-slice_cmp b a) ∙ ap is_eq (turned a b ∙ ap ordering_reverse is)
    go Equal is e = absurd (cc e)
    go Greater is e = absurd (cc e)

pub not_same : (a b : List ℕ) → is_lt (order a b) ≡ true → same_text a b ≡ false
not_same a b less = go (same_text a b) refl
  where
    go : (t : Bool) → same_text a b ≡ t → same_text a b ≡ false
    go false e = e
    go true e =
        let same : a ≡ b = same_from_test a b (sym e) in
        let bad : true ≡ false = sym (same_self b) ∙ ap (same_text b) (sym same) ∙ less_apart a b less in
        absurd (cc bad)

-- a name below all of these stands nowhere
pub absent : (k m : List ℕ) (ps : Pairs) → is_lt (order k m) ≡ true → IsLow m ps → values_at k ps ≡ []
absent k m [] less low = refl
absent k m (p ∷ ps) less low = go (same_text p.0 k) refl (absent k m ps less low.1)
  where
    go : (t : Bool) → same_text p.0 k ≡ t → values_at k ps ≡ [] → map (λ (q : List ℕ × List ℕ). q.1) (cond t (p ∷ filter (λ q. same_text q.0 k) ps) (filter (λ q. same_text q.0 k) ps)) ≡ []
    go true e rest =
        let same : p.0 ≡ k = same_from_test p.0 k (sym e) in
        let bad : false ≡ true = sym low.0 ∙ ap (λ n. is_lt (order n m)) same ∙ less in absurd (cc bad)
    go false e rest = rest

first_value : (p : List ℕ × List ℕ) (ps : Pairs) → values_at p.0 (p ∷ ps) ≡ p.1 ∷ values_at p.0 ps
first_value p ps = rw (same_self p.0) refl

no_cons : {X : Type 0} (x : X) (xs l : List X) → l ≡ x ∷ xs → l ≡ [] → ⊥
no_cons x xs l e none = let bad : x ∷ xs ≡ [] = sym e ∙ none in cc bad

rest_same : (b : Bool) (x : List ℕ) (xs ys : List (List ℕ)) → cond b (x ∷ xs) xs ≡ cond b (x ∷ ys) ys → xs ≡ ys
rest_same true x xs ys e = cc e
rest_same false x xs ys e = e

pub values_cons : (k : List ℕ) (p : List ℕ × List ℕ) (ps : Pairs) → values_at k (p ∷ ps) ≡ cond (same_text p.0 k) (p.1 ∷ values_at k ps) (values_at k ps)
values_cons k p ps = go (same_text p.0 k)
  where
    go : (t : Bool) → map (λ (q : List ℕ × List ℕ). q.1) (cond t (p ∷ filter (λ q. same_text q.0 k) ps) (filter (λ q. same_text q.0 k) ps)) ≡ cond t (p.1 ∷ values_at k ps) (values_at k ps)
    go true = refl
    go false = refl

-- the first names are the same
first_names : (p q : List ℕ × List ℕ) (ps qs : Pairs) → IsLow p.0 ps → IsLow q.0 qs → ((k : List ℕ) → values_at k (p ∷ ps) ≡ values_at k (q ∷ qs)) → p.0 ≡ q.0
first_names p q ps qs low low_2 same = go (is_lt (order p.0 q.0)) refl (is_lt (order q.0 p.0)) refl
  where
    never : (k : List ℕ) → is_lt (order k k) ≡ true → ⊥
    never k less = let bad : true ≡ false = sym (same_self k) ∙ less_apart k k less in cc bad

    self_low : (a : List ℕ × List ℕ) (us : Pairs) → IsLow a.0 us → IsLow a.0 (a ∷ us)
    self_low a us l = (self_test (is_lt (order a.0 a.0)) refl, l)
      where
        self_test : (t : Bool) → is_lt (order a.0 a.0) ≡ t → is_lt (order a.0 a.0) ≡ false
        self_test true e = absurd (never a.0 e)
        self_test false e = e

    go : (a : Bool) → is_lt (order p.0 q.0) ≡ a → (b : Bool) → is_lt (order q.0 p.0) ≡ b → p.0 ≡ q.0
    go true e b f = absurd (no_cons p.1 (values_at p.0 ps) (values_at p.0 (q ∷ qs)) (sym (same p.0) ∙ first_value p ps) (absent p.0 q.0 (q ∷ qs) e (self_low q qs low_2)))
    go false e true f = absurd (no_cons q.1 (values_at q.0 qs) (values_at q.0 (p ∷ ps)) (same q.0 ∙ first_value q qs) (absent q.0 p.0 (p ∷ ps) f (self_low p ps low)))
    go false e false f = same_from_test p.0 q.0 (sym (same_of p.0 q.0 e f))

first_values : (p q : List ℕ × List ℕ) (ps qs : Pairs) → p.0 ≡ q.0 → ((k : List ℕ) → values_at k (p ∷ ps) ≡ values_at k (q ∷ qs)) → p.1 ≡ q.1
first_values p q ps qs e same =
    let both : p.1 ∷ values_at p.0 ps ≡ q.1 ∷ values_at q.0 qs = sym (first_value p ps) ∙ same p.0 ∙ ap (λ k. values_at k (q ∷ qs)) e ∙ first_value q qs in cc both

pub known_by_values : (ps qs : Pairs) → Rises ps → Rises qs → ((k : List ℕ) → values_at k ps ≡ values_at k qs) → ps ≡ qs
known_by_values [] [] up up_2 same = refl
known_by_values [] (q ∷ qs) up up_2 same = absurd (no_cons q.1 (values_at q.0 qs) [] (same q.0 ∙ first_value q qs) refl)
known_by_values (p ∷ ps) [] up up_2 same = absurd (no_cons p.1 (values_at p.0 ps) [] (sym (same p.0) ∙ first_value p ps) refl)
known_by_values (p ∷ ps) (q ∷ qs) up up_2 same =
    let names : p.0 ≡ q.0 = first_names p q ps qs up.0 up_2.0 same in
    let values : p.1 ≡ q.1 = first_values p q ps qs names same in
    let firsts : p ≡ q = λ i. (names i, values i) in
    ap₂ (λ a us. a ∷ us) firsts
    (known_by_values ps qs up.1 up_2.1
    (λ k. rest_same (same_text p.0 k) p.1 (values_at k ps) (values_at k qs)
    (sym (values_cons k p ps) ∙ same k ∙ values_cons k q qs ∙ sym (λ i. cond (same_text (names i) k) (values i ∷ values_at k qs) (values_at k qs)))))

-- the test of the same pairs

pairs_from_test : (ps qs : Pairs) → same_pairs ps qs ≡ true → ps ≡ qs
pairs_from_test [] [] e = refl
pairs_from_test [] (q ∷ qs) e = absurd (cc e)
pairs_from_test (p ∷ ps) [] e = absurd (cc e)
pairs_from_test (p ∷ ps) (q ∷ qs) e =
    let a = and_parts (same_text p.0 q.0) _ e in
    let b = and_parts (same_text p.1 q.1) _ a.1 in
    λ i. (same_from_test p.0 q.0 (sym a.0) i, same_from_test p.1 q.1 (sym b.0) i) ∷ pairs_from_test ps qs b.1 i

same_pairs_self : (ps : Pairs) → same_pairs ps ps ≡ true
same_pairs_self [] = refl
same_pairs_self (p ∷ ps) = and_from (same_text p.0 p.0) _ (same_self p.0) (and_from (same_text p.1 p.1) _ (same_self p.1) (same_pairs_self ps))

-- what the comparison of ordered pairs says
pub ordered_same : (ps qs us vs : Pairs) → IsInOrder ps us → IsInOrder qs vs → same_pairs us vs ≡ has_same_values ps qs
ordered_same ps qs us vs a b = go (same_pairs us vs) refl (has_same_values ps qs) refl
  where
    go : (s : Bool) → same_pairs us vs ≡ s → (t : Bool) → has_same_values ps qs ≡ t → s ≡ t
    go true e true f = refl
    go false e false f = refl
    go true e false f =
        let pairs = pairs_from_test us vs e in
        let test = test_from_values ps qs (λ k. sym (a.same k) ∙ ap (values_at k) pairs ∙ b.same k) in
        let bad : true ≡ false = sym test ∙ f in absurd (cc bad)
    go false e true f =
        let pairs = known_by_values us vs a.rises b.rises (λ k. a.same k ∙ values_from_test ps qs f k ∙ sym (b.same k)) in
        let test : same_pairs us vs ≡ true = ap (same_pairs us) (sym pairs) ∙ same_pairs_self us in
        let bad : false ≡ true = sym e ∙ test in absurd (cc bad)

-- what both begin with is left out

one_same : (p : List ℕ × List ℕ) (ps qs : Pairs) → has_same_values ps qs ≡ has_same_values (p ∷ ps) (p ∷ qs)
one_same p ps qs = go (has_same_values ps qs) refl (has_same_values (p ∷ ps) (p ∷ qs)) refl
  where
    further : ((k : List ℕ) → values_at k ps ≡ values_at k qs) → (k : List ℕ) → values_at k (p ∷ ps) ≡ values_at k (p ∷ qs)
    further same k = values_cons k p ps ∙ ap (λ vs. cond (same_text p.0 k) (p.1 ∷ vs) vs) (same k) ∙ sym (values_cons k p qs)

    behind : ((k : List ℕ) → values_at k (p ∷ ps) ≡ values_at k (p ∷ qs)) → (k : List ℕ) → values_at k ps ≡ values_at k qs
    behind same k = rest_same (same_text p.0 k) p.1 (values_at k ps) (values_at k qs) (sym (values_cons k p ps) ∙ same k ∙ values_cons k p qs)

    go : (s : Bool) → has_same_values ps qs ≡ s → (t : Bool) → has_same_values (p ∷ ps) (p ∷ qs) ≡ t → s ≡ t
    go true e true f = refl
    go false e false f = refl
    go true e false f =
        let bad : true ≡ false = sym (test_from_values (p ∷ ps) (p ∷ qs) (further (values_from_test ps qs e))) ∙ f in absurd (cc bad)
    go false e true f =
        let bad : false ≡ true = sym e ∙ test_from_values ps qs (behind (values_from_test (p ∷ ps) (p ∷ qs) f)) in absurd (cc bad)

pub first_same : (l o : Left) → has_same_first l.first o.first ≡ true → has_same_values l.behind o.behind ≡ has_same_values (left_seen l) (left_seen o)
first_same l o e = go l.first o.first e
  where
    go : (f g : Option (Bor (List ℕ) × Bor (List ℕ))) → has_same_first f g ≡ true
        → has_same_values l.behind o.behind ≡ has_same_values (cons_option (option_map header_seen f) l.behind) (cons_option (option_map header_seen g) o.behind)
    go None g e = absurd (cc e)
    go (Some f) None e = absurd (cc e)
    go (Some f) (Some g) e =
        let parts = and_parts (same_text f.0.now g.0.now) (same_text f.1.now g.1.now) e in
        one_same (header_seen f) l.behind o.behind
        ∙ (λ i. has_same_values (header_seen f ∷ l.behind) ((same_from_test f.0.now g.0.now (sym parts.0) i, same_from_test f.1.now g.1.now (sym parts.1) i) ∷ o.behind))

pub first_left : (o : Option (List ℕ × List ℕ)) (ps : Pairs) → cons_option o [] ++ ps ≡ cons_option o ps
first_left None ps = refl
first_left (Some p) ps = refl

-- Two lists of pairs, item by item.

no_named : Named
no_named = record { name = record { ref_ptr = (0, 0); now = [] }; value = record { ref_ptr = (0, 0); now = [] } }

-- the second ends first, or the first
pub pairs_short : (xs ys : List Named) (i : ℕ) → i < length xs → length ys ≤ i → false ≡ same_pairs (map named_seen (drop i xs)) (map named_seen (drop i ys))
pairs_short xs ys i l le = sym (λ j. same_pairs (map named_seen (drop_more xs i no_named l j)) (map named_seen (drop_of_length-le ys le j)))

-- those that tie with a name have it
tie_is : (a b : List ℕ) → (not (is_lt (order a b)) && not (is_lt (order b a))) ≡ same_text b a
tie_is a b = go (is_lt (order a b)) refl (is_lt (order b a)) refl
  where
    go : (s : Bool) → is_lt (order a b) ≡ s → (t : Bool) → is_lt (order b a) ≡ t → (not s && not t) ≡ same_text b a
    go true e t f = sym (less_apart a b e)
    go false e true f = sym (not_same b a f)
    go false e false f = sym (same_of b a f e)

-- What a stable sort gives, of elements with a name and a value. There is one of each name.

abbrev pub name_order : Bor (List ℕ) → Bor (List ℕ) → Ordering
name_order a b = slice_cmp nat_cmp a.now b.now

abbrev pub name_in : Named → Bor (List ℕ)
name_in n = n.name

abbrev pub text_name : NamedText → Bor (List ℕ)
text_name t = t.name

abbrev lent : List ℕ → Bor (List ℕ)
lent text = record { ref_ptr = (0, 0); now = text }

module _ {A : Type 0} (name_of : A → Bor (List ℕ)) (value_of : A → List ℕ) (with_name : List ℕ → A) (is_named : (name : List ℕ) → (name_of (with_name name)).now ≡ name) where
  abbrev seen_by : A → List ℕ × List ℕ
  seen_by x = ((name_of x).now, value_of x)

  low_of : (name : List ℕ) (ys : List A) → ((j : ℕ) (d : A) → j < length ys → is_lt (order (name_of (get_or ys j d)).now name) ≡ false) → IsLow name (map seen_by ys)
  low_of name [] h = tt
  low_of name (y ∷ ys) h = (h zero y (omega arith), low_of name ys (λ j d lt. h (suc j) d (omega (arith, lt))))

  rises_of : (ys : List A) → ((i j : ℕ) (d : A) → i ≤ j → j < length ys → is_lt (order (name_of (get_or ys j d)).now (name_of (get_or ys i d)).now) ≡ false) → Rises (map seen_by ys)
  rises_of [] h = tt
  rises_of (y ∷ ys) h = (low_of (name_of y).now ys (λ j d lt. h zero (suc j) d (omega arith) (omega (arith, lt))), rises_of ys (λ i j d le lt. h (suc i) (suc j) d (omega (arith, le)) (omega (arith, lt))))

  abbrev ties : A → A → Bool
  ties x y = not (is_lt (name_order (name_of x) (name_of y))) && not (is_lt (name_order (name_of y) (name_of x)))

  values_of_ties : (x : A) (ys : List A) → map value_of (filter (ties x) ys) ≡ values_at (name_of x).now (map seen_by ys)
  values_of_ties x [] = refl
  values_of_ties x (y ∷ ys) =
      ap (λ t. map value_of (cond t (y ∷ filter (ties x) ys) (filter (ties x) ys))) (tie_is (name_of x).now (name_of y).now)
      ∙ go (same_text (name_of y).now (name_of x).now) (values_of_ties x ys)
    where
      go : (t : Bool) → map value_of (filter (ties x) ys) ≡ values_at (name_of x).now (map seen_by ys)
          → map value_of (cond t (y ∷ filter (ties x) ys) (filter (ties x) ys))
          ≡ map (λ (q : List ℕ × List ℕ). q.1) (cond t (seen_by y ∷ filter (λ q. same_text q.0 (name_of x).now) (map seen_by ys)) (filter (λ q. same_text q.0 (name_of x).now) (map seen_by ys)))
      go true rest = ap (λ vs. value_of y ∷ vs) rest
      go false rest = rest

  pub sorted_up : (ys : List A) → IsSortedByKey name_of name_order ys → (i j : ℕ) (d : A) → i ≤ j → j < length ys → is_lt (name_order (name_of (get_or ys j d)) (name_of (get_or ys i d))) ≡ false
  sorted_up ys up = sorted_far (λ (x y : A). is_lt (name_order (name_of x) (name_of y))) (ranks_by nat_list_cmp_total (λ (x : A). (name_of x).now)) ys up

  pub is_in_order : (xs ys : List A) → ((i j : ℕ) (d : A) → i ≤ j → j < length ys → is_lt (name_order (name_of (get_or ys j d)) (name_of (get_or ys i d))) ≡ false) → IsStableByKey name_of name_order xs ys
      → IsInOrder (map seen_by xs) (map seen_by ys)
  is_in_order xs ys up stable =
      record {
        rises = rises_of ys up;
        same = λ name.
            let x = with_name name in
            let stays : values_at (name_of x).now (map seen_by ys) ≡ values_at (name_of x).now (map seen_by xs) = sym (values_of_ties x ys) ∙ ap (map value_of) (stable x) ∙ values_of_ties x xs in
            subst (λ n. values_at n (map seen_by ys) ≡ values_at n (map seen_by xs)) (is_named name) stays;
      }

-- of the two kinds of elements that are sorted
pub pairs_ordered : (xs ys : List Named) → IsSortedByKey name_in name_order ys → IsStableByKey name_in name_order xs ys → IsInOrder (map named_seen xs) (map named_seen ys)
pairs_ordered xs ys up stable =
    let with_name : List ℕ → Named = λ name. record { name = lent name; value = lent [] } in
    is_in_order name_in (λ (n : Named). n.value.now) with_name (λ name. refl) xs ys (sorted_up name_in (λ (n : Named). n.value.now) with_name (λ name. refl) ys up) stable

pub texts_ordered : (xs ys : List NamedText) → IsSortedByKey text_name name_order ys → IsStableByKey text_name name_order xs ys → IsInOrder (map text_seen xs) (map text_seen ys)
texts_ordered xs ys up stable =
    let with_name : List ℕ → NamedText = λ name. record { name = lent name; text = lent [] } in
    is_in_order text_name (λ (t : NamedText). t.text.now) with_name (λ name. refl) xs ys (sorted_up text_name (λ (t : NamedText). t.text.now) with_name (λ name. refl) ys up) stable

-- ---- names that rise

-- a name that is lower than the first is none of those behind it
rise_past : (name first : List ℕ) (names : List (List ℕ)) → is_lt (order name first) ≡ true → rise (first ∷ names) ≡ true → is_one_of name names ≡ false
rise_past name first [] less up = refl
rise_past name first (next ∷ names) less up =
    let parts = and_parts (is_lt (order first next)) (rise (next ∷ names)) up in
    let lower = less_past name first next less parts.0 in
    or_false (same_text name next) (is_one_of name names) (not_same name next lower) (rise_past name next names lower parts.1)

distinct_up : (name : List ℕ) (names : List (List ℕ)) → rise (name ∷ names) ≡ true → are_distinct (name ∷ names) ≡ true
distinct_up name [] up = refl
distinct_up name (next ∷ names) up =
    let parts = and_parts (is_lt (order name next)) (rise (next ∷ names)) up in
    and_from (not (is_one_of name (next ∷ names))) (are_distinct (next ∷ names))
    (ap not (or_false (same_text name next) (is_one_of name names) (not_same name next parts.0) (rise_past name next names parts.0 parts.1)))
    (distinct_up next names parts.1)

pub distinct_rise : (names : List (List ℕ)) → rise names ≡ true → are_distinct names ≡ true
distinct_rise [] up = refl
distinct_rise (name ∷ names) up = distinct_up name names up

-- name by name

abbrev pub shown : List (Bor (List ℕ)) → List (List ℕ)
shown names = map (λ n. n.now) names

no_name : Bor (List ℕ)
no_name = record { ref_ptr = (0, 0); now = [] }

module _ (names : List (Bor (List ℕ))) (i : ℕ) where
  rise_at : (b : Bool) → i < length names → first_below (shown (drop i names)) ≡ b → rise (shown (drop i names)) ≡ (b && rise (shown (drop (i + 1) names)))
  rise_at b within e =
      let at = drop_more names i no_name within in
      ap (λ ns. rise (shown ns)) at ∙ ap (λ t. t && rise (shown (drop (i + 1) names))) (sym (ap (λ ns. first_below (shown ns)) at) ∙ e)

  pub rise_more : i < length names → first_below (shown (drop i names)) ≡ true → rise (shown (drop (i + 1) names)) ≡ rise (shown (drop i names))
  rise_more within e = sym (rise_at true within e)

  pub rise_stop : i < length names → first_below (shown (drop i names)) ≡ false → false ≡ rise (shown (drop i names))
  rise_stop within e = sym (rise_at false within e)

  pub rise_end : length names ≤ i → true ≡ rise (shown (drop i names))
  rise_end past = sym (ap (λ ns. rise (shown ns)) (drop_of_length-le names past))
