-- A stable sort by a number gives the order of the definition.
use Rattle.std.proofs.Common.{◌≡◌, ℕ, zero, suc, ◌<◌, ◌≤◌, Bool, true, false, cond, not, ◌&&◌, ltb, List, [], ◌∷◌, length, get_or, map, filter, refl, sym, ap, ap₂, subst, ◌∙◌, arith, ltb-true, ltb-false, lt-ltb, le-ltb, Vec, Global}
use Rattle.std.specs.Prelude.{if◌then◌else◌}
use Rattle.std.specs.Cmp.{nat_cmp_is}
use Rattle.std.specs.Ordering.{nat_cmp, is_lt}
use Rattle.std.specs.declared.cmp.Ordering.TheVariants.{Less, Equal, Greater}
use Rattle.std.proofs.lemmas.List.Sorted.{IsNonDecreasingBy-from_sort}
use Rattle.std.specs.List.Sorted.{IsNonDecreasingBy, IsSortedByKey, IsStableByKey}
use Rattle.smithy_schema.specs.Nodes.{Table}
use Rattle.smithy_serde.specs.IndexOrder.{put_by, in_order_by, position_of, in_index_order}
use Rattle.smithy_serde.specs.StoredValues.{label_at, value_in, writes_in, listed, kept_writes, HasNode, IsDefined, AreDefined, AreListedDefined}
use Rattle.smithy_serde.specs.Values.{Write, write, list_of, writes_of}
use Rattle.smithy_serde.specs.declared.value.OneWrite.{OneWrite}
use Rattle.smithy_serde.specs.declared.value.WriteList.{WriteList, roll-WriteList}
use Rattle.smithy_serde.proofs.StoredLemmas.{writes_listed, rolled_writes, rolled_defined, AreDefined-listed}

-- by the test of a choice
if_told : {Y : Type 0} (P : Y → Type 0) (p q : Y) (b : Bool) → (b ≡ true → P p) → (b ≡ false → P q) → P (if b then p else q)
if_told P p q true f g = f refl
if_told P p q false f g = g refl

-- the order of numbers as a test
less_by : (x y : ℕ) (b d : Bool) → ltb x y ≡ b → ltb y x ≡ d → is_lt (nat_cmp x y) ≡ b
less_by x y true d e f = sym (ap is_lt (nat_cmp_is x y Less (ltb-true x y e)))
less_by x y false true e f = sym (ap is_lt (nat_cmp_is x y Greater (ltb-true y x f)))
less_by x y false false e f = sym (ap is_lt (nat_cmp_is x y Equal (omega (arith, ltb-false x y e, ltb-false y x f))))

is_less : (x y : ℕ) → is_lt (nat_cmp x y) ≡ ltb x y
is_less x y = less_by x y _ _ refl refl

module _ {X : Type 0} (n : X → ℕ) where
  abbrev AtLeast : ℕ → List X → Type 0
  AtLeast m [] = Unit {0}
  AtLeast m (y ∷ ys) = (m ≤ n y) × AtLeast m ys

  -- the number does not fall
  abbrev Rises : List X → Type 0
  Rises [] = Unit {0}
  Rises (x ∷ xs) = AtLeast (n x) xs × Rises xs

  -- of this number
  abbrev tied : ℕ → X → Bool
  tied k y = not (ltb k (n y)) && not (ltb (n y) k)

  tied_same : (k : ℕ) (y : X) → k ≡ n y → tied k y ≡ true
  tied_same k y e = rw (le-ltb k (n y) (omega (arith, e)), le-ltb (n y) k (omega (arith, e))) refl

  tied_below : (k : ℕ) (y : X) → k < n y → tied k y ≡ false
  tied_below k y lt = rw (lt-ltb k (n y) lt) refl

  tied_above : (k : ℕ) (y : X) → n y < k → tied k y ≡ false
  tied_above k y lt = rw (le-ltb k (n y) (omega (arith, lt)), lt-ltb (n y) k lt) refl

  less : (k m : ℕ) (ys : List X) → k ≤ m → AtLeast m ys → AtLeast k ys
  less k m [] le a = tt
  less k m (y ∷ ys) le a = (omega (arith, le, a.0), less k m ys le a.1)

  none_tied : (k m : ℕ) (ys : List X) → k < m → AtLeast m ys → filter (tied k) ys ≡ []
  none_tied k m [] lt a = refl
  none_tied k m (y ∷ ys) lt a = rw (tied_below k y (omega (arith, lt, a.0))) (none_tied k m ys lt a.1)

  first_tied : (x : X) (xs : List X) → filter (tied (n x)) (x ∷ xs) ≡ x ∷ filter (tied (n x)) xs
  first_tied x xs = rw (tied_same (n x) x refl) refl

  no_cons : (x : X) (xs l : List X) → l ≡ x ∷ xs → l ≡ [] → ⊥
  no_cons x xs l e none = let bad : x ∷ xs ≡ [] = sym e ∙ none in cc

  heads_by : (x y : X) (xs ys : List X) (a b : Bool) → ltb (n x) (n y) ≡ a → ltb (n y) (n x) ≡ b → AtLeast (n x) xs → AtLeast (n y) ys
      → ((z : X) → filter (tied (n z)) (x ∷ xs) ≡ filter (tied (n z)) (y ∷ ys)) → n x ≡ n y
  heads_by x y xs ys true b e d up up_2 same =
      absurd (no_cons x (filter (tied (n x)) xs) (filter (tied (n x)) (y ∷ ys)) (sym (same x) ∙ first_tied x xs) (none_tied (n x) (n y) (y ∷ ys) (ltb-true (n x) (n y) e) (omega arith, up_2)))
  heads_by x y xs ys false true e d up up_2 same =
      absurd (no_cons y (filter (tied (n y)) ys) (filter (tied (n y)) (x ∷ xs)) (same y ∙ first_tied y ys) (none_tied (n y) (n x) (x ∷ xs) (ltb-true (n y) (n x) d) (omega arith, up)))
  heads_by x y xs ys false false e d up up_2 same = omega (arith, ltb-false (n x) (n y) e, ltb-false (n y) (n x) d)

  heads : (x y : X) (xs ys : List X) → n x ≡ n y → ((z : X) → filter (tied (n z)) (x ∷ xs) ≡ filter (tied (n z)) (y ∷ ys)) → x ≡ y
  heads x y xs ys e same =
      let both : x ∷ filter (tied (n x)) xs ≡ y ∷ filter (tied (n x)) ys = sym (first_tied x xs) ∙ same x ∙ rw (tied_same (n x) y e) refl in cc

  rest_same : (b : Bool) (x : X) (xs ys : List X) → cond b (x ∷ xs) xs ≡ cond b (x ∷ ys) ys → xs ≡ ys
  rest_same true x xs ys e = cc
  rest_same false x xs ys e = e

  -- a list that rises is known by what it has of each number
  unique : (xs ys : List X) → Rises xs → Rises ys → ((z : X) → filter (tied (n z)) xs ≡ filter (tied (n z)) ys) → xs ≡ ys
  unique [] [] r s same = refl
  unique [] (y ∷ ys) r s same = absurd (no_cons y (filter (tied (n y)) ys) [] (same y ∙ first_tied y ys) refl)
  unique (x ∷ xs) [] r s same = absurd (no_cons x (filter (tied (n x)) xs) [] (sym (same x) ∙ first_tied x xs) refl)
  unique (x ∷ xs) (y ∷ ys) r s same =
      let e : x ≡ y = heads x y xs ys (heads_by x y xs ys _ _ refl refl r.0 s.0 same) same in
      ap₂ (λ a l. a ∷ l) e
      (unique xs ys r.1 s.1 (λ z. rest_same (tied (n z) x) x (filter (tied (n z)) xs) (filter (tied (n z)) ys)
      (subst (λ a. filter (tied (n z)) (x ∷ xs) ≡ cond (tied (n z) a) (a ∷ filter (tied (n z)) ys) (filter (tied (n z)) ys)) (sym e) (same z))))

  at_least_put : (m : ℕ) (x : X) (xs : List X) → m ≤ n x → AtLeast m xs → AtLeast m (put_by n x xs)
  at_least_put m x [] le a = (le, tt)
  at_least_put m x (y ∷ ys) le a = if_told (AtLeast m) _ _ (ltb (n y) (n x)) (λ e. (a.0, at_least_put m x ys le a.1)) (λ e. (le, a))

  rises_put : (x : X) (xs : List X) → Rises xs → Rises (put_by n x xs)
  rises_put x [] r = (tt, tt)
  rises_put x (y ∷ ys) r =
      if_told Rises _ _ (ltb (n y) (n x)) (λ e. (at_least_put (n y) x ys (omega (arith, ltb-true (n y) (n x) e)) r.0, rises_put x ys r.1))
      (λ e. let le : n x ≤ n y = ltb-false (n y) (n x) e in ((le, less (n x) (n y) ys le r.0), r))

  -- two of other numbers change places
  apart : (a b : Bool) (x y : X) (l : List X) → (a ≡ true → b ≡ true → ⊥) → cond a (y ∷ cond b (x ∷ l) l) (cond b (x ∷ l) l) ≡ cond b (x ∷ cond a (y ∷ l) l) (cond a (y ∷ l) l)
  apart true true x y l no_both = absurd (no_both refl refl)
  apart true false x y l no_both = refl
  apart false b x y l no_both = refl

  not_both : (k : ℕ) (x y : X) (b : Bool) → ltb k (n x) ≡ b → n y < n x → tied k y ≡ true → tied k x ≡ true → ⊥
  not_both k x y true e lt p q = let bad : false ≡ true = sym (tied_below k x (ltb-true k (n x) e)) ∙ q in cc
  not_both k x y false e lt p q = let bad : false ≡ true = sym (tied_above k y (omega (arith, ltb-false k (n x) e, lt))) ∙ p in cc

  tied_put : (k : ℕ) (x : X) (xs : List X) → filter (tied k) (put_by n x xs) ≡ filter (tied k) (x ∷ xs)
  tied_put k x [] = refl
  tied_put k x (y ∷ ys) =
      if_told (λ l. filter (tied k) l ≡ filter (tied k) (x ∷ y ∷ ys)) _ _ (ltb (n y) (n x))
      (λ e. ap (λ l. cond (tied k y) (y ∷ l) l) (tied_put k x ys) ∙ apart (tied k y) (tied k x) x y (filter (tied k) ys) (not_both k x y _ refl (ltb-true (n y) (n x) e)))
      (λ e. refl)

  rises_order : (xs : List X) → Rises (in_order_by n xs)
  rises_order [] = tt
  rises_order (x ∷ xs) = rises_put x (in_order_by n xs) (rises_order xs)

  tied_order : (k : ℕ) (xs : List X) → filter (tied k) (in_order_by n xs) ≡ filter (tied k) xs
  tied_order k [] = refl
  tied_order k (x ∷ xs) = tied_put k x (in_order_by n xs) ∙ ap (λ l. cond (tied k x) (x ∷ l) l) (tied_order k xs)

  at_least_of : (m : ℕ) (ys : List X) → ((j : ℕ) (d : X) → j < length ys → m ≤ n (get_or ys j d)) → AtLeast m ys
  at_least_of m [] h = tt
  at_least_of m (y ∷ ys) h = (h zero y (omega arith), at_least_of m ys (λ j d lt. h (suc j) d (omega (arith, lt))))

  rises_of : (xs : List X) → IsNonDecreasingBy n xs → Rises xs
  rises_of [] up = tt
  rises_of (x ∷ xs) up = (at_least_of (n x) xs (λ j d lt. up zero (suc j) d (omega arith) (omega (arith, lt))), rises_of xs (λ i j d le lt. up (suc i) (suc j) d (omega (arith, le)) (omega (arith, lt))))

  -- what a stable sort gives
  pub is_in_order : (xs ys : List X) → IsSortedByKey n nat_cmp ys → IsStableByKey n nat_cmp xs ys → ys ≡ in_order_by n xs
  is_in_order xs ys up stable =
      let same : (z : X) (l : List X) → filter (λ y. not (is_lt (nat_cmp (n z) (n y))) && not (is_lt (nat_cmp (n y) (n z)))) l ≡ filter (tied (n z)) l
      = λ z l i. filter (λ y. not (is_less (n z) (n y) i) && not (is_less (n y) (n z) i)) l in
      unique ys (in_order_by n xs) (rises_of ys (IsNonDecreasingBy-from_sort n ys up)) (rises_order xs) (λ z. sym (same z ys) ∙ stable z ∙ same z xs ∙ sym (tied_order (n z) xs))

-- the order of what a list is made from
map_if : {X Y : Type 0} (f : X → Y) (b : Bool) (p q : List X) → map f (if b then p else q) ≡ (if b then map f p else map f q)
map_if f true p q = refl
map_if f false p q = refl

map_put : {X Y : Type 0} (f : X → Y) (n : Y → ℕ) (x : X) (xs : List X) → map f (put_by (λ a. n (f a)) x xs) ≡ put_by n (f x) (map f xs)
map_put f n x [] = refl
map_put f n x (y ∷ ys) =
    map_if f (ltb (n (f y)) (n (f x))) (y ∷ put_by (λ a. n (f a)) x ys) (x ∷ y ∷ ys)
    ∙ ap (λ l. if ltb (n (f y)) (n (f x)) then f y ∷ l else f x ∷ f y ∷ map f ys) (map_put f n x ys)

map_order : {X Y : Type 0} (f : X → Y) (n : Y → ℕ) (xs : List X) → map f (in_order_by (λ a. n (f a)) xs) ≡ in_order_by n (map f xs)
map_order f n [] = refl
map_order f n (x ∷ xs) = map_put f n x (in_order_by (λ a. n (f a)) xs) ∙ ap (put_by n (f x)) (map_order f n xs)

-- a stored write as a write
abbrev pub as_write : Table → OneWrite → Write
as_write t w = record { label = label_at t w.node.0; value = value_in t w.value }

list_of-listed : (t : Table) (ws : List OneWrite) → list_of (listed t ws) ≡ map (as_write t) ws
list_of-listed t [] = refl
list_of-listed t (w ∷ ws) = ap (λ l. as_write t w ∷ l) (list_of-listed t ws)

writes_of-listed : (t : Table) (ws : List OneWrite) → writes_of (map (as_write t) ws) ≡ listed t ws
writes_of-listed t [] = refl
writes_of-listed t (w ∷ ws) = ap (λ l. write (label_at t w.node.0) (value_in t w.value) l) (writes_of-listed t ws)

-- the number that stored writes are sorted by
abbrev pub place_in : Table → OneWrite → ℕ
place_in t w = position_of (as_write t w)

-- a list made of the sorted writes
pub sorted_writes : (t : Table) (ws : WriteList) (v : Vec OneWrite Global) → v.items ≡ in_order_by (place_in t) (kept_writes ws) → writes_in t (roll-WriteList record { writes = v }) ≡ in_index_order (writes_in t ws)
sorted_writes t ws v e =
    rolled_writes t v ∙ ap (listed t) e ∙ sym (writes_of-listed t (in_order_by (place_in t) (kept_writes ws)))
    ∙ ap writes_of (map_order (as_write t) position_of (kept_writes ws) ∙ ap (in_order_by position_of) (sym (list_of-listed t (kept_writes ws))))
    ∙ ap in_index_order (sym (writes_listed t ws))

defined_put : (t : Table) (n : OneWrite → ℕ) (w : OneWrite) (ws : List OneWrite) → HasNode t w.node.0 → IsDefined t w.value → AreListedDefined t ws → AreListedDefined t (put_by n w ws)
defined_put t n w [] node value d = (node, value, tt)
defined_put t n w (v ∷ vs) node value d = if_told (AreListedDefined t) _ _ (ltb (n v) (n w)) (λ e. (d.0, d.1, defined_put t n w vs node value d.2)) (λ e. (node, value, d))

defined_order : (t : Table) (n : OneWrite → ℕ) (ws : List OneWrite) → AreListedDefined t ws → AreListedDefined t (in_order_by n ws)
defined_order t n [] d = tt
defined_order t n (w ∷ ws) d = defined_put t n w (in_order_by n ws) d.0 d.1 (defined_order t n ws d.2)

pub sorted_defined : (n : OneWrite → ℕ) (ws : WriteList) (v : Vec OneWrite Global) → v.items ≡ in_order_by n (kept_writes ws) → (t : Table) → AreDefined t ws → AreDefined t (roll-WriteList record { writes = v })
sorted_defined n ws v e t d = rolled_defined t v (subst (AreListedDefined t) (sym e) (defined_order t n (kept_writes ws) (AreDefined-listed t ws d)))
