-- A reader of tokens leaves fewer than it was given, so that their count bounds its turns.
use Rattle.std.proofs.Common.{◌≡◌, refl, sym, ap, ◌∙◌, ℕ, zero, suc, ◌<◌, ◌≤◌, arith, List, [], ◌∷◌, length, Option, Some, None, option_and_then}
use Rattle.json.specs.Token.{Token}
use Rattle.json.specs.Json as json
use Rattle.json.specs.Json.{Json, Items, Members, Parse, parse_map, after_end_array, read_key, items_step, members_step, items, members, value_with, value}
use Rattle.json.proofs.Grammar.{after_end_array-shorter, read_key-shorter}

-- fewer than n tokens are left
abbrev pub LeavesFewer : {A : Type 0} → ℕ → Option (A × List Token) → Type 0
LeavesFewer n None = Unit {0}
LeavesFewer n (Some q) = length q.1 < n

abbrev pub Shortens : {A : Type 0} → Parse A → Type 0
Shortens p = (ts : List Token) → LeavesFewer (length ts) (p ts)

pub fewer : {A : Type 0} (m n : ℕ) (o : Option (A × List Token)) → m ≤ n → LeavesFewer m o → LeavesFewer n o
fewer m n None less h = tt
fewer m n (Some q) less h = omega arith

never : {A : Type 0} (o : Option (A × List Token)) → LeavesFewer 0 o → o ≡ None
never None h = refl
never (Some q) h = let no : ⊥ = omega (arith, h) in absurd no

mapped : {A B : Type 0} (f : A → B) (n : ℕ) (o : Option (A × List Token)) → LeavesFewer n o → LeavesFewer n (parse_map f o)
mapped f n None h = tt
mapped f n (Some q) h = h

-- one reader behind another
module _ {A B C : Type 0} (f : A → B → C) (n : ℕ) (more : Parse B) where
  followed : (o : Option (A × List Token)) → LeavesFewer n o → Shortens more → LeavesFewer n (option_and_then (λ q. parse_map (f q.0) (more q.1)) o)
  followed None h shorter = tt
  followed (Some q) h shorter = fewer (length q.1) n (parse_map (f q.0) (more q.1)) (omega (arith, h)) (mapped (f q.0) (length q.1) (more q.1) (shorter q.1))

  -- two readers that agree on fewer tokens
  agree : (other : Parse B) (o : Option (A × List Token)) → LeavesFewer n o → ((ts : List Token) → length ts < n → more ts ≡ other ts)
      → option_and_then (λ q. parse_map (f q.0) (more q.1)) o ≡ option_and_then (λ q. parse_map (f q.0) (other q.1)) o
  agree other None h same = refl
  agree other (Some q) h same = ap (parse_map (f q.0)) (same q.1 h)

module _ (p : Parse Json) (shorter : Shortens p) where
  -- ---- items

  item_shortens : (more : Parse Items) (ts : List Token) → Shortens more → (o : Option (List Token)) → after_end_array ts ≡ o → LeavesFewer (length ts) (items_step p more ts o)
  item_shortens more ts rest (Some r) is = after_end_array-shorter ts r is
  item_shortens more ts rest None is = followed json.item (length ts) more (p ts) (shorter ts) rest

  items_shorten : (n : ℕ) → Shortens (items p n)
  unfolding items
  items_shorten zero ts = tt
  items_shorten (suc n) ts = item_shortens (items p n) ts (items_shorten n) (after_end_array ts) refl

  item_agrees : (more other : Parse Items) (ts : List Token) → ((us : List Token) → length us < length ts → more us ≡ other us) → (o : Option (List Token)) → items_step p more ts o ≡ items_step p other ts o
  item_agrees more other ts same (Some r) = refl
  item_agrees more other ts same None = agree json.item (length ts) more other (p ts) (shorter ts) same

  no_items : (n : ℕ) → items p n [] ≡ None
  unfolding items
  no_items zero = refl
  no_items (suc n) = ap (option_and_then (λ q. parse_map (json.item q.0) (items p n q.1))) (never (p []) (shorter []))

  -- as many turns as there are tokens are enough
  pub items_enough : (n m : ℕ) (ts : List Token) → length ts ≤ n → length ts ≤ m → items p n ts ≡ items p m ts
  unfolding items
  items_enough n m [] few many = no_items n ∙ sym (no_items m)
  items_enough zero m (t ∷ ts) few many = let no : ⊥ = omega arith in absurd no
  items_enough (suc n) zero (t ∷ ts) few many = let no : ⊥ = omega arith in absurd no
  items_enough (suc n) (suc m) (t ∷ ts) few many = item_agrees (items p n) (items p m) (t ∷ ts) (λ us less. items_enough n m us (omega arith) (omega arith)) (after_end_array (t ∷ ts))

  -- ---- members

  named_shortens : (more : Parse Members) (n : ℕ) → Shortens more → (q : Option (List ℕ) × List Token) → length q.1 < n → LeavesFewer n (members_step p more q.0 q.1)
  named_shortens more n rest (None, ts) less = less
  named_shortens more n rest (Some k, ts) less =
      fewer (length ts) n (members_step p more (Some k) ts) (omega (arith, less)) (followed (λ j. json.member k j) (length ts) more (p ts) (shorter ts) rest)

  key_shortens : (more : Parse Members) (ts : List Token) → Shortens more → (o : Option (Option (List ℕ) × List Token)) → read_key ts ≡ o
      → LeavesFewer (length ts) (option_and_then (λ q. members_step p more q.0 q.1) o)
  key_shortens more ts rest None is = tt
  key_shortens more ts rest (Some q) is = named_shortens more (length ts) rest q (read_key-shorter ts q.0 q.1 is)

  members_shorten : (n : ℕ) → Shortens (members p n)
  unfolding members
  members_shorten zero ts = tt
  members_shorten (suc n) ts = key_shortens (members p n) ts (members_shorten n) (read_key ts) refl

  named_agrees : (more other : Parse Members) (q : Option (List ℕ) × List Token) → ((us : List Token) → length us < length q.1 → more us ≡ other us) → members_step p more q.0 q.1 ≡ members_step p other q.0 q.1
  named_agrees more other (None, ts) same = refl
  named_agrees more other (Some k, ts) same = agree (λ j. json.member k j) (length ts) more other (p ts) (shorter ts) same

  key_agrees : (more other : Parse Members) (ts : List Token) → ((us : List Token) → length us < length ts → more us ≡ other us) → (o : Option (Option (List ℕ) × List Token)) → read_key ts ≡ o
      → option_and_then (λ q. members_step p more q.0 q.1) o ≡ option_and_then (λ q. members_step p other q.0 q.1) o
  key_agrees more other ts same None is = refl
  key_agrees more other ts same (Some q) is = named_agrees more other q (λ us less. same us (omega (arith, less, read_key-shorter ts q.0 q.1 is)))

  no_members : (n : ℕ) → members p n [] ≡ None
  unfolding members
  no_members zero = refl
  no_members (suc n) = refl

  pub members_enough : (n m : ℕ) (ts : List Token) → length ts ≤ n → length ts ≤ m → members p n ts ≡ members p m ts
  unfolding members
  members_enough n m [] few many = no_members n ∙ sym (no_members m)
  members_enough zero m (t ∷ ts) few many = let no : ⊥ = omega arith in absurd no
  members_enough (suc n) zero (t ∷ ts) few many = let no : ⊥ = omega arith in absurd no
  members_enough (suc n) (suc m) (t ∷ ts) few many =
      key_agrees (members p n) (members p m) (t ∷ ts) (λ us less. members_enough n m us (omega arith) (omega arith)) (read_key (t ∷ ts)) refl

-- ---- values

first_shortens : (a : Parse Items) (o : Parse Members) → Shortens a → Shortens o → Shortens (value_with a o)
first_shortens a o items members [] = tt
first_shortens a o items members (Token.begin_object ∷ ts) = fewer (length ts) _ (parse_map json.object (o ts)) (omega arith) (mapped json.object (length ts) (o ts) (members ts))
first_shortens a o items members (Token.end_object ∷ ts) = tt
first_shortens a o items members (Token.begin_array ∷ ts) = fewer (length ts) _ (parse_map json.array (a ts)) (omega arith) (mapped json.array (length ts) (a ts) (items ts))
first_shortens a o items members (Token.end_array ∷ ts) = tt
first_shortens a o items members (Token.key s ∷ ts) = tt
first_shortens a o items members (Token.string s ∷ ts) = omega arith
first_shortens a o items members (Token.number s ∷ ts) = omega arith
first_shortens a o items members (Token.boolean b ∷ ts) = omega arith
first_shortens a o items members (Token.null ∷ ts) = omega arith
first_shortens a o items members (Token.bad ∷ ts) = tt

pub value_shortens : (depth : ℕ) → Shortens (value depth)
unfolding value
value_shortens zero ts = first_shortens (λ us. None) (λ us. None) (λ us. tt) (λ us. tt) ts
value_shortens (suc depth) ts =
    first_shortens (λ us. items (value depth) (length us) us) (λ us. members (value depth) (length us) us)
    (λ us. items_shorten (value depth) (value_shortens depth) (length us) us) (λ us. members_shorten (value depth) (value_shortens depth) (length us) us) ts
