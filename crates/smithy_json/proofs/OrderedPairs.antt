-- Pairs of names with what stands under them: put in byte order of the names, each in place of one with its name.
use Rattle.std.proofs.Common.{◌≡◌, refl, sym, ap, ◌∙◌, subst, ℕ, Bool, true, false, cond, ◌&&◌, eq-eqb, List, [], ◌∷◌, Option, Some, None}
use Rattle.std.specs.List.{AllByRecursion}
use Rattle.std.specs.List.Sorted.{IsStrictlySortedBy}
use Rattle.std.specs.Map.{keys_of}
use Rattle.std.specs.Option.{option_or}
use Rattle.std.specs.Ordering.{nat_cmp, match_ordering, is_eq, ordering_reverse}
use Rattle.std.specs.declared.cmp.Ordering.{Ordering}
use Rattle.std.specs.declared.cmp.Ordering.TheVariants.{Less, Equal, Greater}
use Rattle.std.specs.Cmp.Lexicographic.{slice_cmp, same_text as same_from_test}
use Rattle.std.proofs.lemmas.Cmp.{nat_list_cmp_total}
use Rattle.std.proofs.lemmas.Map.Text.{is_eq-slice_cmp}
use Rattle.smithy_types.specs.Maps.{with_value, IsOrdered}
pub use Rattle.smithy_types.specs.Maps.{all_put, last_named as last_of}
use Rattle.smithy_types.specs.Texts.{same_text}

-- ---- names in order

pub same_self : (text : List ℕ) → same_text text text ≡ true
same_self [] = refl
same_self (b ∷ text) = λ i. eq-eqb b b refl i && same_self text i

pub same_name : (k l : List ℕ) → slice_cmp nat_cmp k l ≡ Equal → k ≡ l
same_name k l e = same_from_test k l (sym (ap is_eq e) ∙ is_eq-slice_cmp k l)

pub above : (k l : List ℕ) → slice_cmp nat_cmp k l ≡ Greater → slice_cmp nat_cmp l k ≡ Less
above k l e = nat_list_cmp_total.antisymm l k ∙ ap ordering_reverse e

unlike : (k l : List ℕ) → slice_cmp nat_cmp k l ≡ Less → same_text l k ≡ false
unlike k l less = sym (is_eq-slice_cmp l k) ∙ ap is_eq (nat_list_cmp_total.antisymm l k ∙ ap ordering_reverse less)

apart : (o : Ordering) (k l name : List ℕ) → slice_cmp nat_cmp k l ≡ o → is_eq o ≡ false → same_text k name ≡ true → same_text l name ≡ true → ⊥
apart o k l name is other one two =
    let same : k ≡ l = same_from_test k name (sym one) ∙ sym (same_from_test l name (sym two)) in
    let equal : is_eq o ≡ true = sym (ap is_eq is) ∙ is_eq-slice_cmp k l ∙ ap (same_text k) (sym same) ∙ same_self k in
    cc (other, equal)

-- ---- one list of pairs

abbrev pub Pairs : Type 0 → Type 0
Pairs X = List (List ℕ × X)

-- the first under a name
abbrev pub looked : {X : Type 0} → List ℕ → Pairs X → Option X
looked name [] = None
looked name (e ∷ es) = cond (same_text e.0 name) (Some e.1) (looked name es)

abbrev pub Behind : {X : Type 0} → List ℕ → Pairs X → Type 0
Behind name [] = Unit {0}
Behind name (e ∷ es) = (slice_cmp nat_cmp name e.0 ≡ Less) × Behind e.0 es

abbrev pub Ascends : {X : Type 0} → Pairs X → Type 0
Ascends [] = Unit {0}
Ascends (e ∷ es) = Behind e.0 es

pub or_none : {X : Type 0} (o : Option X) → option_or o None ≡ o
or_none None = refl
or_none (Some x) = refl

absorbed : {X : Type 0} (s : Bool) (a b c : Option X) → cond s a c ≡ cond s a (cond s b c)
absorbed true a b c = refl
absorbed false a b c = refl

turned : {X : Type 0} (s t : Bool) (a b c : Option X) → (s ≡ true → t ≡ true → ⊥) → cond t a (cond s b c) ≡ cond s b (cond t a c)
turned true true a b c other = absurd (other refl refl)
turned true false a b c other = refl
turned false t a b c other = refl

look_put : {X : Type 0} (k name : List ℕ) (x : X) (es : Pairs X) → looked name (with_value k x es) ≡ cond (same_text k name) (Some x) (looked name es)
look_put k name x [] = refl
look_put {X = X} k name x (e ∷ es) = go (slice_cmp nat_cmp k e.0) refl (look_put k name x es)
  where
    go : (o : Ordering) → slice_cmp nat_cmp k e.0 ≡ o → looked name (with_value k x es) ≡ cond (same_text k name) (Some x) (looked name es)
        → looked name (match_ordering o ((k, x) ∷ e ∷ es) ((e.0, x) ∷ es) (e ∷ with_value k x es)) ≡ cond (same_text k name) (Some x) (cond (same_text e.0 name) (Some e.1) (looked name es))
    go Less is rest = refl
    go Equal is rest =
        absorbed (same_text e.0 name) (Some x) (Some e.1) (looked name es)
        ∙ ap (λ n. cond (same_text n name) (Some x) (cond (same_text e.0 name) (Some e.1) (looked name es))) (sym (same_name k e.0 is))
    go Greater is rest =
        ap (cond (same_text e.0 name) (Some e.1)) rest
        ∙ turned (same_text k name) (same_text e.0 name) (Some e.1) (Some x) (looked name es) (apart Greater k e.0 name is refl)

or_cond : {X : Type 0} (o : Option X) (t : Bool) (x : X) (p : Option X) → option_or o (cond t (Some x) p) ≡ option_or (option_or o (cond t (Some x) None)) p
or_cond None true x p = refl
or_cond None false x p = refl
or_cond (Some y) t x p = refl

look_all : {X : Type 0} (name : List ℕ) (es sorted : Pairs X) → looked name (all_put es sorted) ≡ option_or (last_of name es) (looked name sorted)
look_all name [] sorted = refl
look_all name (e ∷ es) sorted =
    look_all name es (with_value e.0 e.1 sorted) ∙ ap (option_or (last_of name es)) (look_put e.0 name e.1 sorted)
    ∙ or_cond (last_of name es) (same_text e.0 name) e.1 (looked name sorted)

-- what is put in order has the last of each name
pub look_ordered : {X : Type 0} (name : List ℕ) (es : Pairs X) → looked name (all_put es []) ≡ last_of name es
look_ordered name es = look_all name es [] ∙ or_none (last_of name es)

pub put_behind : {X : Type 0} (low k : List ℕ) (x : X) (es : Pairs X) → slice_cmp nat_cmp low k ≡ Less → Behind low es → Behind low (with_value k x es)
put_behind low k x [] h behind = (h, tt)
put_behind low k x (e ∷ es) h behind = go (slice_cmp nat_cmp k e.0) refl (λ less. put_behind e.0 k x es less behind.1)
  where
    go : (o : Ordering) → slice_cmp nat_cmp k e.0 ≡ o → (slice_cmp nat_cmp e.0 k ≡ Less → Behind e.0 (with_value k x es))
        → Behind low (match_ordering o ((k, x) ∷ e ∷ es) ((e.0, x) ∷ es) (e ∷ with_value k x es))
    go Less is rest = (h, (is, behind.1))
    go Equal is rest = behind
    go Greater is rest = (behind.0, rest (above k e.0 is))

pub put_ascends : {X : Type 0} (k : List ℕ) (x : X) (es : Pairs X) → Ascends es → Ascends (with_value k x es)
put_ascends k x [] up = tt
put_ascends k x (e ∷ es) up = go (slice_cmp nat_cmp k e.0) refl
  where
    go : (o : Ordering) → slice_cmp nat_cmp k e.0 ≡ o → Ascends (match_ordering o ((k, x) ∷ e ∷ es) ((e.0, x) ∷ es) (e ∷ with_value k x es))
    go Less is = (is, up)
    go Equal is = up
    go Greater is = put_behind e.0 k x es (above k e.0 is) up

pub all_ascend : {X : Type 0} (es sorted : Pairs X) → Ascends sorted → Ascends (all_put es sorted)
all_ascend [] sorted up = up
all_ascend (e ∷ es) sorted up = all_ascend es (with_value e.0 e.1 sorted) (put_ascends e.0 e.1 sorted up)

behind_lower : {X : Type 0} (low k : List ℕ) (es : Pairs X) → slice_cmp nat_cmp low k ≡ Less → Behind k es → Behind low es
behind_lower low k [] less behind = tt
behind_lower low k (e ∷ es) less behind = (nat_list_cmp_total.trans low k e.0 less behind.0, behind.1)

pub absent : {X : Type 0} (name : List ℕ) (es : Pairs X) → Behind name es → looked name es ≡ None
absent name [] behind = refl
absent name (e ∷ es) behind = ap (λ t. cond t (Some e.1) (looked name es)) (unlike name e.0 behind.0) ∙ absent name es (behind_lower name e.0 es behind.0 behind.1)

pub up_tail : {X : Type 0} (k : List ℕ) (es : Pairs X) → Behind k es → Ascends es
up_tail k [] behind = tt
up_tail k (e ∷ es) behind = behind.1

here_looked : {X : Type 0} (e : List ℕ × X) (es : Pairs X) → looked e.0 (e ∷ es) ≡ Some e.1
here_looked e es = ap (λ t. cond t (Some e.1) (looked e.0 es)) (same_self e.0)

-- pairs whose names ascend are known by what stands under each name
pub known_by_names : {X : Type 0} (es fs : Pairs X) → Ascends es → Ascends fs → ((name : List ℕ) → looked name es ≡ looked name fs) → es ≡ fs
known_by_names [] [] a b same = refl
known_by_names [] (f ∷ fs) a b same = let q : None ≡ Some f.1 = same f.0 ∙ here_looked f fs in absurd (cc q)
known_by_names (e ∷ es) [] a b same = let q : Some e.1 ≡ None = sym (here_looked e es) ∙ same e.0 in absurd (cc q)
known_by_names (e ∷ es) (f ∷ fs) a b same =
    go (slice_cmp nat_cmp e.0 f.0) refl (known_by_names es fs (up_tail e.0 es a) (up_tail f.0 fs b))
  where
    go : (o : Ordering) → slice_cmp nat_cmp e.0 f.0 ≡ o → (((name : List ℕ) → looked name es ≡ looked name fs) → es ≡ fs) → (e ∷ es) ≡ (f ∷ fs)
    go Less is rest = let q : Some e.1 ≡ None = sym (here_looked e es) ∙ same e.0 ∙ absent e.0 (f ∷ fs) (is, b) in absurd (cc q)
    go Greater is rest = let q : None ≡ Some f.1 = sym (absent f.0 (e ∷ es) (above e.0 f.0 is, a)) ∙ same f.0 ∙ here_looked f fs in absurd (cc q)
    go Equal is rest =
        let names = same_name e.0 f.0 is in
        let both : Some e.1 ≡ Some f.1 = sym (here_looked e es) ∙ same e.0 ∙ ap (λ n. looked n (f ∷ fs)) names ∙ here_looked f fs in
        let one : e.1 ≡ f.1 = cc both in
        let tails = rest (λ name. by name (same_text e.0 name) refl (ap (λ n. same_text n name) names)) in
        λ i. (names i, one i) ∷ tails i
      where
        by : (name : List ℕ) (t : Bool) → same_text e.0 name ≡ t → same_text e.0 name ≡ same_text f.0 name → looked name es ≡ looked name fs
        by name true et h =
            let one = same_from_test e.0 name (sym et) in
            let two = same_from_test f.0 name (sym (sym h ∙ et)) in
            absent name es (subst (λ n. Behind n es) one a) ∙ sym (absent name fs (subst (λ n. Behind n fs) two b))
        by name false et h =
            sym (ap (λ t. cond t (Some e.1) (looked name es)) et) ∙ same name ∙ ap (λ t. cond t (Some f.1) (looked name fs)) (sym h ∙ et)

-- where no name stands twice, the first is the last
pub last_ascending : {X : Type 0} (name : List ℕ) (es : Pairs X) → Ascends es → last_of name es ≡ looked name es
last_ascending name [] up = refl
last_ascending name (e ∷ es) up = ap (λ o. option_or o (cond (same_text e.0 name) (Some e.1) None)) (last_ascending name es (up_tail e.0 es up)) ∙ go (same_text e.0 name) refl
  where
    go : (t : Bool) → same_text e.0 name ≡ t → option_or (looked name es) (cond t (Some e.1) None) ≡ cond t (Some e.1) (looked name es)
    go true is = ap (λ o. option_or o (Some e.1)) (absent name es (subst (λ n. Behind n es) (same_from_test e.0 name (sym is)) up))
    go false is = or_none (looked name es)

-- pairs whose names ascend are put as they stand
pub put_as_they_stand : {X : Type 0} (es : Pairs X) → Ascends es → all_put es [] ≡ es
put_as_they_stand es up = known_by_names (all_put es []) es (all_ascend es [] tt) up (λ name. look_ordered name es ∙ last_ascending name es up)

-- ---- the keys of a map

below_all : {X : Type 0} (name : List ℕ) (es : Pairs X) → Behind name es → AllByRecursion (λ y. slice_cmp nat_cmp name y ≡ Less) (keys_of es)
below_all name [] behind = tt
below_all name (e ∷ es) behind = (behind.0, below_all name es (behind_lower name e.0 es behind.0 behind.1))

pub ordered_up : {X : Type 0} (es : Pairs X) → Ascends es → IsOrdered es
unfolding IsStrictlySortedBy
ordered_up [] up = tt
ordered_up (e ∷ es) up = (below_all e.0 es up, ordered_up es (up_tail e.0 es up))

pub up_ordered : {X : Type 0} (es : Pairs X) → IsOrdered es → Ascends es
unfolding IsStrictlySortedBy
up_ordered [] h = tt
up_ordered {X = X} (e ∷ es) h = behind e.0 es h
  where
    behind : (low : List ℕ) (fs : Pairs X) → IsStrictlySortedBy (slice_cmp nat_cmp) (low ∷ keys_of fs) → Behind low fs
    behind low [] k = tt
    behind low (f ∷ fs) k = (k.0.0, behind f.0 fs k.1)
