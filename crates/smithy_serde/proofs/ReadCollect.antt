-- What a consumer builds of the items that it is handed, where it adds up what it reads.
use Rattle.std.proofs.Common.{◌≡◌, List, [], ◌∷◌, map, Option, Some, None, Result, Ok, Err, ◌⊎◌, inl, inr, refl, ap, subst, ◌∙◌}
use Rattle.std.specs.Prelude.{MatchResult, IfOk, IfSome, option_map}
use Rattle.smithy_types.specs.Results.{then_try, then_give}
use Rattle.smithy_serde.specs.declared.error.SerdeError.{SerdeError}
use Rattle.smithy_serde.specs.declared.error.SerdeError.TheVariants.{OutOfMemory}
use Rattle.smithy_serde.specs.declared.scalar.Group.{Group}
use Rattle.smithy_serde.specs.declared.scalar.Group.TheVariants as group
use Rattle.smithy_serde.specs.Collecting.{Collects, Built, all_added}
use Rattle.smithy_schema.specs.Nodes.{Schema}
use Rattle.smithy_serde.specs.Values.{Scalar}
use Rattle.smithy_serde.specs.declared.read_scalar.ScalarKind.{ScalarKind}
use Rattle.smithy_serde.specs.views.Handing.{HandsOut, AllHanded, settled_by, settled_in}
use Rattle.smithy_serde.specs.HeldReads.{read_scalar}
use Rattle.smithy_serde.specs.ListReads.{prelude_of}
use Rattle.smithy_serde.specs.ReadCalls.{AtHand, Gives, read_at, type_of}
use Rattle.smithy_serde.specs.Held.{Held, Answer}
use Rattle.smithy_serde.specs.Listings.{Slot, as_it_is, listing_of, contents}
use Rattle.smithy_serde.specs.ValueRead.{all_read}
use Rattle.smithy_serde.proofs.ReadLevels.{Each}

pub built_memory : {B V : Type 0} (add : V → B → V) (r : Result (List B) SerdeError) (old new : V) (answer : Answer) → answer ≡ Err OutOfMemory → Built add r old new answer
built_memory add (Ok bs) old new answer m = inr m
built_memory add (Err e) old new answer m = inr m

pub one_more : {B V : Type 0} (add : V → B → V) (b : B) (r : Result (List B) SerdeError) (old mid new : V) (answer : Answer) → mid ≡ add old b → Built add r mid new answer
    → Built add (then_give r (λ bs. b ∷ bs)) old new answer
one_more add b (Ok bs) old mid new answer e (inl built) = inl (built.0, built.1 ∙ ap (λ v. all_added add v bs) e)
one_more add b (Ok bs) old mid new answer e (inr m) = inr m
one_more add b (Err x) old mid new answer e built = built

module _ {S A B V : Type 0} (takes : S → Slot → Held → S → Answer → Type 0) (P : S → Type 0) (Q : A → Type 0) (seen : S → V) (add : V → B → V) (named : A → Slot × Held) (read : A → Result B SerdeError)
    (step : (s : S) (x : A) (t : S) (a : Answer) → Q x → P s → takes s (named x).0 (named x).1 t a → P t × Collects add (read x) (seen s) (seen t) a) where
  -- the first item was taken, and then the rest
  one_taken : (xs : List A) (r : Result B SerdeError) (given answer : Answer) (slot : Slot) (s mid t : S) → Collects add r (seen s) (seen mid) given
      → (HandsOut takes as_it_is None (map {B = Slot × Held} named xs) mid t answer → Built add (all_read read xs) (seen mid) (seen t) answer)
      → ((t ≡ mid) × (answer ≡ Err OutOfMemory))
      ⊎ MatchResult (settled_by (as_it_is slot) given) (λ _. HandsOut takes as_it_is None (map {B = Slot × Held} named xs) mid t answer) (λ e. (t ≡ mid) × (answer ≡ Err e))
      → Built add (then_try r (λ y. then_give (all_read read xs) (λ ys. y ∷ ys))) (seen s) (seen t) answer
  one_taken xs r given answer slot s mid t a rest (inl m) = built_memory add (then_try r (λ y. then_give (all_read read xs) (λ ys. y ∷ ys))) (seen s) (seen t) answer m.1
  one_taken xs (Ok b) (Ok u) answer slot s mid t (inl a) rest (inr k) = one_more add b (all_read read xs) (seen s) (seen mid) (seen t) answer a.1 (rest k)
  one_taken xs (Ok b) (Ok u) answer slot s mid t (inr bad) rest (inr k) = cc
  one_taken xs (Ok b) (Err e) answer slot s mid t (inl a) rest (inr k) = let bad : Err e ≡ Ok tt = a.0 in cc
  one_taken xs (Ok b) (Err e) answer slot s mid t (inr m) rest (inr k) =
      built_memory add (then_give (all_read read xs) (λ ys. b ∷ ys)) (seen s) (seen t) answer (k.1 ∙ m)
  one_taken xs (Err x) (Ok u) answer slot s mid t (inl bad) rest (inr k) = cc
  one_taken xs (Err x) (Ok u) answer slot s mid t (inr bad) rest (inr k) = cc
  one_taken xs (Err x) (Err e) answer slot s mid t (inl same) rest (inr k) = inl (k.1 ∙ same)
  one_taken xs (Err x) (Err e) answer slot s mid t (inr m) rest (inr k) = inr (k.1 ∙ m)

  all_built : (xs : List A) (s t : S) (answer : Answer) → Each Q xs → P s → HandsOut takes as_it_is None (map {B = Slot × Held} named xs) s t answer → Built add (all_read read xs) (seen s) (seen t) answer
  all_built [] s t answer q p h = elim h.1 [
    | inl e ↦ inl (e, ap seen h.0)
    | inr m ↦ inr m
  ]
  all_built (x ∷ xs) s t answer q p (inl m) = built_memory add (all_read read (x ∷ xs)) (seen s) (seen t) answer m.1
  all_built (x ∷ xs) s t answer q p (inr k) =
      let one = step s x k.0 k.1 q.0 p k.2 in
      one_taken xs (read x) k.1 answer (named x).0 s k.0 t one.1 (all_built xs k.0 t answer q.1 one.0) k.3

  pub handed_built_of : (g : Group) (r : Result (List A) SerdeError) (s t : S) (answer : Answer) → IfOk r (Each Q) → P s
      → HandsOut takes (settled_in g (listing_of named r)) (listing_of named r).ends (listing_of named r).items s t answer
      → Built add (then_try r (all_read read)) (seen s) (seen t) answer
  handed_built_of group.List (Ok xs) s t answer q p h = all_built xs s t answer q p h
  handed_built_of group.Map (Ok xs) s t answer q p h = all_built xs s t answer q p h
  handed_built_of group.Structure (Ok xs) s t answer q p h = all_built xs s t answer q p h
  handed_built_of group.List (Err e) s t answer q p h = h.1
  handed_built_of group.Map (Err e) s t answer q p h = h.1
  handed_built_of group.Structure (Err e) s t answer q p h = h.1

each_any : {A : Type 0} (r : Result (List A) SerdeError) → IfOk r (Each (λ _. Unit {0}))
each_any (Ok xs) = each_of xs
  where
    each_of : {A : Type 0} (xs : List A) → Each (λ _. Unit {0}) xs
    each_of [] = tt
    each_of (x ∷ xs) = (tt, each_of xs)
each_any (Err e) = tt

-- the same, where nothing is asked of the items
pub handed_built : {S A B V : Type 0} (takes : S → Slot → Held → S → Answer → Type 0) (P : S → Type 0) (seen : S → V) (add : V → B → V) (named : A → Slot × Held) (read : A → Result B SerdeError)
    → ((s : S) (x : A) (t : S) (a : Answer) → P s → takes s (named x).0 (named x).1 t a → P t × Collects add (read x) (seen s) (seen t) a)
    → (g : Group) (r : Result (List A) SerdeError) (s t : S) (answer : Answer) → P s
    → HandsOut takes (settled_in g (listing_of named r)) (listing_of named r).ends (listing_of named r).items s t answer
    → Built add (then_try r (all_read read)) (seen s) (seen t) answer
handed_built takes P seen add named read step g r s t answer p h =
    handed_built_of takes P (λ _. Unit {0}) seen add named read (λ b x c a q. step b x c a) g r s t answer (each_any r) p h

-- what was built, as what it is in all
pub given_ok : {A B V W : Type 0} (f : A → V) (add : W → B → W) (total : List B → V) (none : W) (r : Result (List B) SerdeError) (new : W) (a : A)
    → Built add r none new (Ok tt) → ((bs : List B) → new ≡ all_added add none bs → f a ≡ total bs) → Gives f (Some (then_give r total)) (Ok a)
given_ok f add total none (Ok bs) new a (inl b) is = is bs b.1
given_ok f add total none (Ok bs) new a (inr bad) is = cc
given_ok f add total none (Err x) new a (inl bad) is = cc
given_ok f add total none (Err x) new a (inr bad) is = cc

pub given_err : {A B V W : Type 0} (f : A → V) (add : W → B → W) (total : List B → V) (none : W) (r : Result (List B) SerdeError) (new : W) (e : SerdeError)
    → Built add r none new (Err e) → Gives f (Some (then_give r total)) (Err e)
given_err f add total none (Ok bs) new e (inl b) = let bad : Err e ≡ Ok tt = b.0 in cc
given_err f add total none (Ok bs) new e (inr m) = cc
given_err f add total none (Err x) new e (inl same) = inl cc
given_err f add total none (Err x) new e (inr m) = inr cc

-- what is read of the items of the value at hand and added up, from none on
module _ {I B V A : Type 0} (takes : V → Slot → Held → V → Answer → Type 0) (g : Group) (node : Schema) (items : Held → Result (List I) SerdeError) (named : I → Slot × Held) (read : I → Result B SerdeError) (add : V → B → V) (none : V) (seen : A → V)
    (is : (h : Held) → contents g node h ≡ listing_of named (items h)) (step : (s : V) (x : I) (t : V) (a : Answer) → takes s (named x).0 (named x).1 t a → Collects add (read x) s t a) (before : AtHand) where
  abbrev added_up : Held → Result V SerdeError
  added_up h = then_give (then_try (items h) (all_read read)) (all_added add none)

  items_built : (h : Held) (last : V) (answer : Answer) → before.held ≡ Some h → AllHanded takes g (before.listing g node) none last answer → Built add (then_try (items h) (all_read read)) none last answer
  items_built h last answer told all =
      handed_built takes (λ _. Unit {0}) (λ v. v) add named read (λ s x t a p took. (tt, step s x t a took)) g (items h) none last answer tt
      (subst (λ o. AllHanded takes g o none last answer) (before.told g node h told ∙ ap Some (is h)) all)

  ok_at : (held : Option Held) (a : A) → before.held ≡ held → AllHanded takes g (before.listing g node) none (seen a) (Ok tt) → Gives seen (option_map added_up held) (Ok a)
  ok_at None a told all = tt
  ok_at (Some h) a told all = given_ok seen add (all_added add none) none (then_try (items h) (all_read read)) (seen a) a (items_built h (seen a) (Ok tt) told all) (λ bs e. e)

  err_at : (held : Option Held) (last : V) (e : SerdeError) → before.held ≡ held → AllHanded takes g (before.listing g node) none last (Err e) → Gives seen (option_map added_up held) (Err e)
  err_at None last e told all = tt
  err_at (Some h) last e told all = given_err seen add (all_added add none) none (then_try (items h) (all_read read)) last e (items_built h last (Err e) told all)

  pub items_ok : (a : A) → AllHanded takes g (before.listing g node) none (seen a) (Ok tt) → Gives seen (option_map added_up before.held) (Ok a)
  items_ok a all = ok_at before.held a refl all

  pub items_err : (last : V) (e : SerdeError) → AllHanded takes g (before.listing g node) none last (Err e) → Gives seen (option_map added_up before.held) (Err e)
  items_err last e all = err_at before.held last e refl all

-- one item, read and added, refused, or read and dropped
pub one_given : {A B V : Type 0} (add : V → B → V) (f : A → B) (r : Result B SerdeError) (v : V) (a : A) → Gives f (Some r) (Ok a) → Collects add r v (add v (f a)) (Ok tt)
one_given add f (Ok b) v a e = inl (refl, ap (add v) e)
one_given add f (Err x) v a bad = absurd bad

pub one_refused : {A B V : Type 0} (add : V → B → V) (f : A → B) (r : Result B SerdeError) (v : V) (e : SerdeError) → Gives f (Some r) (Err e) → Collects add r v v (Err e)
one_refused add f (Ok b) v e m = inr (ap Err m)
one_refused add f (Err x) v e (inl same) = inl (ap Err same)
one_refused add f (Err x) v e (inr m) = inr (ap Err m)

pub one_dropped : {B V : Type 0} (add : V → B → V) (r : Result B SerdeError) (v : V) (e : SerdeError) → e ≡ OutOfMemory → Collects add r v v (Err e)
one_dropped add (Ok b) v e m = inr (ap Err m)
one_dropped add (Err x) v e m = inr (ap Err m)

pub if_told : (P : Held → Type 0) (held : Option Held) → ((h : Held) → held ≡ Some h → P h) → IfSome held P
if_told P None p = tt
if_told P (Some h) p = p h refl

pub gives_at : {A : Type 0} (f : A → Scalar) (k : ScalarKind) (held : Option Held) (h : Held) (r : Result A SerdeError) → held ≡ Some h → Gives f (read_at k (prelude_of k) held) r → Gives f (Some (read_scalar (type_of k) (prelude_of k) h)) r
gives_at f k held h r is g = subst (λ o. Gives f (read_at k (prelude_of k) o) r) is g
