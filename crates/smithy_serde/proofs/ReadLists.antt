-- A list that is read element by element, over the loop that walks it.
use Rattle.std.proofs.Common.{◌≡◌, Bool, true, List, [], ◌∷◌, ◌++◌, map, Option, Some, None, Result, Ok, Err, refl, ap, sym, subst, ◌∙◌, append_assoc, append-nil}
use Rattle.std.specs.Prelude.{IfSome, option_map}
use Rattle.smithy_types.specs.Results.{then_try, then_give}
use Rattle.smithy_schema.specs.Nodes.{Schema}
use Rattle.smithy_serde.specs.Values.{Scalar}
use Rattle.smithy_serde.specs.declared.error.SerdeError.{SerdeError}
use Rattle.smithy_serde.specs.declared.error.SerdeError.TheVariants.{OutOfMemory}
use Rattle.smithy_serde.specs.declared.scalar.Group.TheVariants as group
use Rattle.smithy_serde.specs.declared.read_scalar.ScalarKind.{ScalarKind}
use Rattle.smithy_serde.specs.Collecting.{all_added}
use Rattle.smithy_serde.specs.views.Handing.{KeepsNone, none_kept, Takes, HandsAll, at_elements}
use Rattle.smithy_serde.specs.Held.{Held}
use Rattle.smithy_serde.specs.HeldReads.{read_scalar, elements}
use Rattle.smithy_serde.specs.Listings.{at_element}
use Rattle.smithy_serde.specs.ListReads.{prelude_of, with_scalar, CollectsScalar, each_at, ReadsEach}
use Rattle.smithy_serde.specs.ReadCalls.{AtHand, Gives, Reads, type_of, Opened, NotOpened, Advanced, Closed, Halted, NextElement}
use Rattle.smithy_serde.specs.ValueRead.{all_read}
use Rattle.smithy_serde.proofs.ReadCollect.{items_ok, items_err, one_given, one_refused, one_dropped, if_told, gives_at}
use Rattle.smithy_serde.proofs.ReadWalk.{Walking, not_opened, begins, halted, ends, taken, stopped}

-- the elements so far were read
abbrev pub ReadingEach : {A : Type 0} → (A → Scalar) → ScalarKind → Schema → List A → AtHand → AtHand → Type 0
ReadingEach f k node xs before now = Walking (at_elements (CollectsScalar k)) KeepsNone group.List node [] (map f xs) before now

all_scalars : (xs ys : List Scalar) → all_added with_scalar xs ys ≡ xs ++ ys
all_scalars xs [] = sym (append-nil xs)
all_scalars xs (y ∷ ys) = all_scalars (xs ++ y ∷ []) ys ∙ append_assoc xs (y ∷ []) ys

all_list : (r : Result (List Scalar) SerdeError) → then_give r (all_added with_scalar []) ≡ r
all_list (Ok xs) = ap Ok (all_scalars [] xs)
all_list (Err e) = refl

each_is : (k : ScalarKind) (node : Schema) (held : Option Held) → option_map (λ h. then_give (then_try (elements node h) (all_read (read_scalar (type_of k) (prelude_of k)))) (all_added with_scalar [])) held ≡ each_at k node held
each_is k node None = refl
each_is k node (Some h) = ap Some (all_list (then_try (elements node h) (all_read (read_scalar (type_of k) (prelude_of k)))))

each_err : {A : Type 0} (f : A → Scalar) (k : ScalarKind) (node : Schema) (last : List Scalar) (old new : AtHand) (e : SerdeError) → HandsAll (at_elements (CollectsScalar k)) KeepsNone group.List node [] last old new (Err e) → ReadsEach f k node old new (Err e)
each_err f k node last old new e all = record {
  gives = subst (λ o. Gives (map f) o (Err e)) (each_is k node old.held) (items_err (at_elements (CollectsScalar k)) group.List node (elements node) (λ x. (at_element, x)) (read_scalar (type_of k) (prelude_of k)) with_scalar [] (map f) (λ h. refl) (λ s x t a took. took) old last e all.handed);
  leaves = all.leaves;
}

map_snoc : {A B : Type 0} (f : A → B) (xs : List A) (x : A) → map f (xs ++ x ∷ []) ≡ map f xs ++ f x ∷ []
map_snoc f [] x = refl
map_snoc f (y ∷ xs) x = ap (λ l. f y ∷ l) (map_snoc f xs x)

-- an element came to hand
handed : (now mid : AtHand) (came : Bool) → came ≡ true → NextElement now mid (Ok came) → Advanced None at_element now mid
handed now mid came is next = subst (λ b. NextElement now mid (Ok b)) is next

module _ {A : Type 0} (f : A → Scalar) (k : ScalarKind) (node : Schema) (before : AtHand) where
  pub each_not_opened : (now : AtHand) (e : SerdeError) → NotOpened group.List node before now e → ReadsEach f k node before now (Err e)
  each_not_opened now e n = each_err f k node [] before now e (not_opened {takes = at_elements (CollectsScalar k)} none_kept [] before now e n)

  pub each_begins : (now : AtHand) → Opened group.List node before now → ReadingEach f k node [] before now
  each_begins now o = begins none_kept [] before now o

  pub each_halted : (xs : List A) (now after : AtHand) (e : SerdeError) → ReadingEach f k node xs before now → Halted None now after e → ReadsEach f k node before after (Err e)
  each_halted xs now after e w h = each_err f k node (map f xs) before after e (halted none_kept [] (map f xs) before now after e w h)

  pub each_ends : (xs : List A) (now after : AtHand) → ReadingEach f k node xs before now → Closed None now after → ReadsEach f k node before after (Ok xs)
  each_ends xs now after w c =
      let all = ends none_kept [] (map f xs) before now after w c in
      record {
        gives = subst (λ o. Gives (map f) o (Ok xs)) (each_is k node before.held) (items_ok (at_elements (CollectsScalar k)) group.List node (elements node) (λ x. (at_element, x)) (read_scalar (type_of k) (prelude_of k)) with_scalar [] (map f) (λ h. refl) (λ s x t a took. took) before xs all.handed);
        leaves = all.leaves;
      }

  each_stopped : (xs : List A) (now mid after : AtHand) (e : SerdeError) → ReadingEach f k node xs before now → Advanced None at_element now mid → Takes (at_elements (CollectsScalar k)) KeepsNone at_element (map f xs) (map f xs) mid after (Err e)
      → ReadsEach f k node before after (Err e)
  each_stopped xs now mid after e w a t = each_err f k node (map f xs) before after e (stopped none_kept [] (map f xs) (map f xs) at_element e before now mid after (λ _. refl) w a t)

  -- it is read by the prelude's node
  read_here : {R : Result A SerdeError} (n : Schema) (mid after : AtHand) → n ≡ prelude_of k → Reads f k n mid after R → Reads f k (prelude_of k) mid after R
  read_here {R} n mid after at r = subst (λ m. Reads f k m mid after R) at r

  -- it was read and added, was refused, or was read and found no room
  pub each_added : (xs ys : List A) (y a : A) (now mid after : AtHand) (came : Bool) (n : Schema) → ReadingEach f k node xs before now → came ≡ true → n ≡ prelude_of k → Reads f k n mid after (Ok a) → NextElement now mid (Ok came)
      → ys ≡ xs ++ y ∷ [] → f y ≡ f a → ReadingEach f k node ys before after
  each_added xs ys y a now mid after came n w is at read next e same =
      let r = read_here n mid after at read in
      taken none_kept [] (map f xs) (map f ys) at_element before now mid after w (handed now mid came is next) record {
        taken = subst (λ l. IfSome mid.held (λ h. CollectsScalar k (map f xs) h l (Ok tt))) (sym (ap (map f) e ∙ map_snoc f xs y ∙ ap (with_scalar (map f xs)) same))
            (if_told (λ h. CollectsScalar k (map f xs) h (with_scalar (map f xs) (f a)) (Ok tt)) mid.held (λ h is. one_given with_scalar f (read_scalar (type_of k) (prelude_of k) h) (map f xs) a (gives_at f k mid.held h (Ok a) is r.gives)));
        kept = tt;
        leaves = r.opened;
      }

  pub each_refused : (xs : List A) (now mid after : AtHand) (came : Bool) (n : Schema) (e : SerdeError) → ReadingEach f k node xs before now → came ≡ true → n ≡ prelude_of k → Reads {A = A} f k n mid after (Err e) → NextElement now mid (Ok came)
      → ReadsEach f k node before after (Err e)
  each_refused xs now mid after came n e w is at read next =
      let r = read_here n mid after at read in
      each_stopped xs now mid after e w (handed now mid came is next) record {
        taken = if_told (λ h. CollectsScalar k (map f xs) h (map f xs) (Err e)) mid.held (λ h is. one_refused with_scalar f (read_scalar (type_of k) (prelude_of k) h) (map f xs) e (gives_at f k mid.held h (Err e) is r.gives));
        kept = tt;
        leaves = ([], r.opened);
      }

  pub each_dropped : (xs : List A) (a : A) (now mid after : AtHand) (came : Bool) (n : Schema) (e : SerdeError) → ReadingEach f k node xs before now → came ≡ true → Reads f k n mid after (Ok a) → NextElement now mid (Ok came)
      → e ≡ OutOfMemory → ReadsEach f k node before after (Err e)
  each_dropped xs a now mid after came n e w is r next m =
      each_stopped xs now mid after e w (handed now mid came is next) record {
        taken = if_told (λ h. CollectsScalar k (map f xs) h (map f xs) (Err e)) mid.held (λ h is. one_dropped with_scalar (read_scalar (type_of k) (prelude_of k) h) (map f xs) e m);
        kept = tt;
        leaves = ([], r.opened);
      }
