-- Pairs of a name and a value: in the order of the names, with other values, those that pass a test, and each name once.
use Rattle.smithy_unambiguity.proofs.Common.{◌≡◌, refl, sym, ◌∙◌, ap, subst, ℕ, Bool, true, false, not, cond, ◌||◌, List, [], ◌∷◌, map, filter, Option, Some, None, option_and_then, if◌then◌else◌, AllByRecursion, option_or, slice_cmp, and_from, same_text, is_one_of, are_distinct, Pairs, looked, all_put, Behind, Ascends, all_ascend, absent, up_tail, cond_both, same_text-sym}
use Rattle.std.specs.Ordering.{nat_cmp, match_ordering}
use Rattle.std.specs.declared.cmp.Ordering.{Ordering}
use Rattle.std.specs.declared.cmp.Ordering.TheVariants.{Less, Equal, Greater}
use Rattle.std.specs.Cmp.Lexicographic.{same_text as same_from_test}
use Rattle.std.proofs.lemmas.Cmp.{nat_list_cmp_total}
use Rattle.smithy_types.specs.Maps.{with_value}
use Rattle.smithy_document.proofs.OrderedPairs.{last_of}

-- Other values.

-- the pairs with their values changed
abbrev pub valued : {X Y : Type 0} → (X → Y) → Pairs X → Pairs Y
valued {X = X} g ps = map (λ (p : List ℕ × X). (p.0, g p.1)) ps

put_valued : {X Y : Type 0} (g : X → Y) (k : List ℕ) (x : X) (ps : Pairs X) → with_value k (g x) (valued g ps) ≡ valued g (with_value k x ps)
put_valued g k x [] = refl
put_valued {X = X} {Y = Y} g k x (p ∷ ps) = go (slice_cmp nat_cmp k p.0) (put_valued g k x ps)
  where
    go : (o : Ordering) → with_value k (g x) (valued g ps) ≡ valued g (with_value k x ps)
        → match_ordering o ((k, g x) ∷ (p.0, g p.1) ∷ valued g ps) ((p.0, g x) ∷ valued g ps) ((p.0, g p.1) ∷ with_value k (g x) (valued g ps))
        ≡ valued g (match_ordering o ((k, x) ∷ p ∷ ps) ((p.0, x) ∷ ps) (p ∷ with_value k x ps))
    go Less rest = refl
    go Equal rest = refl
    go Greater rest = ap (λ qs. (p.0, g p.1) ∷ qs) rest

all_put_valued : {X Y : Type 0} (g : X → Y) (ps sorted : Pairs X) → all_put (valued g ps) (valued g sorted) ≡ valued g (all_put ps sorted)
all_put_valued g [] sorted = refl
all_put_valued g (p ∷ ps) sorted = ap (all_put (valued g ps)) (put_valued g p.0 p.1 sorted) ∙ all_put_valued g ps (with_value p.0 p.1 sorted)

pub ordered_valued : {X Y : Type 0} (g : X → Y) (ps : Pairs X) → all_put (valued g ps) [] ≡ valued g (all_put ps [])
ordered_valued g ps = all_put_valued g ps []

-- a test of the changed values is one of the values
pub filter_valued : {X Y : Type 0} (g : X → Y) (test : List ℕ × Y → Bool) (own : List ℕ × X → Bool) → ((p : List ℕ × X) → test (p.0, g p.1) ≡ own p) → (ps : Pairs X) → filter test (valued g ps) ≡ valued g (filter own ps)
filter_valued g test own same [] = refl
filter_valued {X = X} g test own same (p ∷ ps) = ap (λ t. cond t ((p.0, g p.1) ∷ filter test (valued g ps)) (filter test (valued g ps))) (same p) ∙ go (own p) (filter_valued g test own same ps)
  where
    go : (t : Bool) → filter test (valued g ps) ≡ valued g (filter own ps)
        → cond t ((p.0, g p.1) ∷ filter test (valued g ps)) (filter test (valued g ps)) ≡ valued g (cond t (p ∷ filter own ps) (filter own ps))
    go true rest = ap (λ qs. (p.0, g p.1) ∷ qs) rest
    go false rest = rest

-- What holds of each name and of each value.

abbrev pub AllPairs : {X : Type 0} → (List ℕ → Type 0) → (X → Type 0) → Pairs X → Type 0
AllPairs {X = X} A B ps = AllByRecursion (λ (p : List ℕ × X). A p.0 × B p.1) ps

put_all_pairs : {X : Type 0} (A : List ℕ → Type 0) (B : X → Type 0) (k : List ℕ) (x : X) (ps : Pairs X) → A k → B x → AllPairs A B ps → AllPairs A B (with_value k x ps)
put_all_pairs A B k x [] a b all = ((a, b), tt)
put_all_pairs A B k x (p ∷ ps) a b all = go (slice_cmp nat_cmp k p.0) (put_all_pairs A B k x ps a b all.1)
  where
    go : (o : Ordering) → AllPairs A B (with_value k x ps) → AllPairs A B (match_ordering o ((k, x) ∷ p ∷ ps) ((p.0, x) ∷ ps) (p ∷ with_value k x ps))
    go Less rest = ((a, b), all)
    go Equal rest = ((all.0.0, b), all.1)
    go Greater rest = (all.0, rest)

all_put_pairs : {X : Type 0} (A : List ℕ → Type 0) (B : X → Type 0) (ps sorted : Pairs X) → AllPairs A B ps → AllPairs A B sorted → AllPairs A B (all_put ps sorted)
all_put_pairs A B [] sorted all done = done
all_put_pairs A B (p ∷ ps) sorted all done = all_put_pairs A B ps (with_value p.0 p.1 sorted) all.1 (put_all_pairs A B p.0 p.1 sorted all.0.0 all.0.1 done)

pub ordered_all : {X : Type 0} (A : List ℕ → Type 0) (B : X → Type 0) (ps : Pairs X) → AllPairs A B ps → AllPairs A B (all_put ps [])
ordered_all A B ps all = all_put_pairs A B ps [] all tt

pub valued_all : {X Y : Type 0} (P : List ℕ × X → Type 0) (A : List ℕ → Type 0) (B : Y → Type 0) (g : X → Y) → ((p : List ℕ × X) → P p → A p.0 × B (g p.1)) → (ps : Pairs X) → AllByRecursion P ps → AllPairs A B (valued g ps)
valued_all P A B g f [] all = tt
valued_all P A B g f (p ∷ ps) all = (f p all.0, valued_all P A B g f ps all.1)

-- Those that pass a test.

behind_lower : {X : Type 0} (low k : List ℕ) (ps : Pairs X) → slice_cmp nat_cmp low k ≡ Less → Behind k ps → Behind low ps
behind_lower low k [] less behind = tt
behind_lower low k (p ∷ ps) less behind = (nat_list_cmp_total.trans low k p.0 less behind.0, behind.1)

filter_behind : {X : Type 0} (test : List ℕ × X → Bool) (low : List ℕ) (ps : Pairs X) → Behind low ps → Behind low (filter test ps)
filter_behind test low [] behind = tt
filter_behind test low (p ∷ ps) behind =
    let rest = filter_behind test p.0 ps behind.1 in
    cond_both (test p) (p ∷ filter test ps) (filter test ps) (Behind low) (λ e. (behind.0, rest)) (λ e. behind_lower low p.0 (filter test ps) behind.0 rest)

pub filter_ascends : {X : Type 0} (test : List ℕ × X → Bool) (ps : Pairs X) → Ascends ps → Ascends (filter test ps)
filter_ascends test [] up = tt
filter_ascends test (p ∷ ps) up =
    let rest = filter_behind test p.0 ps up in
    cond_both (test p) (p ∷ filter test ps) (filter test ps) Ascends (λ e. rest) (λ e. up_tail p.0 (filter test ps) rest)

-- a value under a name, if they pass
abbrev pub passing : {X : Type 0} → (List ℕ × X → Bool) → List ℕ → Option X → Option X
passing test name o = option_and_then (λ x. if test (name, x) then Some x else None) o

pub looked_filter : {X : Type 0} (test : List ℕ × X → Bool) (name : List ℕ) (ps : Pairs X) → Ascends ps → looked name (filter test ps) ≡ passing test name (looked name ps)
looked_filter test name [] up = refl
looked_filter {X = X} test name (p ∷ ps) up = go (test p) (same_text p.0 name) refl refl (looked_filter test name ps (up_tail p.0 ps up))
  where
    go : (s t : Bool) → test p ≡ s → same_text p.0 name ≡ t → looked name (filter test ps) ≡ passing test name (looked name ps)
        → looked name (cond (test p) (p ∷ filter test ps) (filter test ps)) ≡ passing test name (cond (same_text p.0 name) (Some p.1) (looked name ps))
    go true false is other rest = rw (is, other) rest
    go false false is other rest = rw (is, other) rest
    go true true is here rest =
        let own : test (name, p.1) ≡ true = ap (λ n. test (n, p.1)) (sym (same_from_test p.0 name (sym here))) ∙ is in
        rw (is, here, own) refl
    go false true is here rest =
        let own : test (name, p.1) ≡ false = ap (λ n. test (n, p.1)) (sym (same_from_test p.0 name (sym here))) ∙ is in
        let none : looked name ps ≡ None = absent name ps (subst (λ n. Behind n ps) (same_from_test p.0 name (sym here)) up) in
        rw (is, here, own) (rest ∙ ap (passing test name) none)

-- Each name once.

abbrev pub names : {X : Type 0} → Pairs X → List (List ℕ)
names {X = X} ps = map (λ (p : List ℕ × X). p.0) ps

pub names-valued : {X Y : Type 0} (g : X → Y) (ps : Pairs X) → names (valued g ps) ≡ names ps
names-valued g [] = refl
names-valued g (p ∷ ps) = ap (λ ns. p.0 ∷ ns) (names-valued g ps)

-- nothing stands under a name that is none of the names
pub unnamed : {X : Type 0} (name : List ℕ) (ps : Pairs X) → is_one_of name (names ps) ≡ false → last_of name ps ≡ None
unnamed name [] e = refl
unnamed {X = X} name (p ∷ ps) e = go (same_text name p.0) refl e (λ h. unnamed name ps h)
  where
    go : (t : Bool) → same_text name p.0 ≡ t → (t || is_one_of name (names ps)) ≡ false → (is_one_of name (names ps) ≡ false → last_of name ps ≡ None)
        → option_or (last_of name ps) (cond (same_text p.0 name) (Some p.1) None) ≡ None
    go true is h rest = absurd (cc h)
    go false is h rest = rw (same_text-sym p.0 name ∙ is) (ap (λ o. option_or o None) (rest h))

not_looked : {X : Type 0} (name : List ℕ) (ps : Pairs X) → looked name ps ≡ None → is_one_of name (names ps) ≡ false
not_looked name [] e = refl
not_looked {X = X} name (p ∷ ps) e = go (same_text p.0 name) refl e (λ h. not_looked name ps h)
  where
    go : (t : Bool) → same_text p.0 name ≡ t → cond t (Some p.1) (looked name ps) ≡ None → (looked name ps ≡ None → is_one_of name (names ps) ≡ false)
        → (same_text name p.0 || is_one_of name (names ps)) ≡ false
    go true is h rest = absurd (cc h)
    go false is h rest = ap (λ t. t || is_one_of name (names ps)) (same_text-sym name p.0 ∙ is) ∙ rest h

pub ascending_distinct : {X : Type 0} (ps : Pairs X) → Ascends ps → are_distinct (names ps) ≡ true
ascending_distinct [] up = refl
ascending_distinct (p ∷ ps) up =
    and_from (not (is_one_of p.0 (names ps))) (are_distinct (names ps)) (ap not (not_looked p.0 ps (absent p.0 ps up))) (ascending_distinct ps (up_tail p.0 ps up))

pub ordered_ascends : {X : Type 0} (ps : Pairs X) → Ascends (all_put ps [])
ordered_ascends ps = all_ascend ps [] tt
