-- A route that is added keeps the list without conflicts.
use Rattle.smithy_router.proofs.Common.{◌≡◌, refl, sym, ◌∙◌, ap, subst, ℕ, Bool, true, false, cond, List, [], ◌∷◌, ◌++◌, Option, Some, None, Result, Err, find, AllByRecursion, Route, IsRoute, Conflicts, conflicts, Entry, IsApartFrom, AreApart, ConflictsFirst, IsConflict, TellsConflict, AddsRoute, AddsTemplate, with_last, Gives, RouteError}
use Rattle.smithy_router.specs.declared.error.RouteError.TheVariants as fault
use Rattle.smithy_router.proofs.Ranks.{conflicts_holds, conflicts_found}
use Rattle.smithy_router.proofs.Best.{all_append}

-- each entry has a route
pub routes_of : (es : List Entry) → AreApart es → AllByRecursion (λ e. IsRoute e.route) es
routes_of [] h = tt
routes_of (e ∷ es) h = (h.0, routes_of es h.1.1)

-- no entry was found that conflicts
pub none_conflicts : (r : Route) (es : List Entry) → IsRoute r → AllByRecursion (λ e. IsRoute e.route) es → find (λ e. conflicts e.route r) es ≡ None → IsApartFrom r es
none_conflicts r [] h all e = tt
none_conflicts r (x ∷ es) h all e = go (conflicts x.route r) refl e (none_conflicts r es h all.1)
  where
    go : (t : Bool) → conflicts x.route r ≡ t → cond t (Some x) (find (λ e. conflicts e.route r) es) ≡ None → (find (λ e. conflicts e.route r) es ≡ None → IsApartFrom r es) → IsApartFrom r (x ∷ es)
    go true is e rest = absurd (cc e)
    go false is e rest = ((λ c. (let q : true ≡ false = sym (conflicts_found x.route r all.0 h c) ∙ is in cc q)), rest e)

-- the entry that was found is the first that conflicts
pub first_found : (r : Route) (es : List Entry) (f : Entry) → IsRoute r → AllByRecursion (λ e. IsRoute e.route) es → find (λ e. conflicts e.route r) es ≡ Some f → ConflictsFirst es r f.operation
first_found r [] f h all e = absurd (cc e)
first_found r (x ∷ es) f h all e = go (conflicts x.route r) refl e (first_found r es f h all.1)
  where
    go : (t : Bool) → conflicts x.route r ≡ t → cond t (Some x) (find (λ e. conflicts e.route r) es) ≡ Some f → (find (λ e. conflicts e.route r) es ≡ Some f → ConflictsFirst es r f.operation) → ConflictsFirst (x ∷ es) r f.operation
    go true is e rest =
        let same : x ≡ f = cc e in
        record { before = []; entry = x; after = es; stands = refl; apart = tt; conflict = conflicts_holds x.route r all.0 h is; named = ap (λ (y : Entry). y.operation) same }
    go false is e rest =
        let later = rest e in
        record {
          before = x ∷ later.before;
          entry = later.entry;
          after = later.after;
          stands = ap (λ (ys : List Entry). x ∷ ys) later.stands;
          apart = ((λ c. (let q : true ≡ false = sym (conflicts_found x.route r all.0 h c) ∙ is in cc q)), later.apart);
          conflict = later.conflict;
          named = later.named;
        }

-- a list with one entry more
pub apart_more : (es : List Entry) (e : Entry) → AreApart es → IsRoute e.route → IsApartFrom e.route es → AreApart (es ++ e ∷ [])
apart_more [] e h r a = (r, (tt, tt))
apart_more (x ∷ es) e h r a = (h.0, (all_append (λ (o : Entry). ¬ (Conflicts x.route o.route)) es (e ∷ []) h.1.0 (a.0, tt), apart_more es e h.1.1 r a.1))

-- the refusal of a route that conflicts
pub tells_first : (r : Route) (es : List Entry) (f : Entry) (e : RouteError) → IsRoute r → AreApart es → IsConflict e f.operation → Some f ≡ find (λ x. conflicts x.route r) es → TellsConflict es r e
tells_first r es f fault.Template h all c is = absurd c
tells_first r es f (fault.Conflict other) h all c is = subst (ConflictsFirst es r) (sym c) (first_found r es f h (routes_of es all) (sym is))
tells_first r es f fault.OutOfMemory h all c is = tt

-- what was added
pub added : (r : Route) (operation : List ℕ) (old new : List Entry) → AreApart old → IsRoute r → IsApartFrom r old → new ≡ with_last old r operation → AreApart new
added r operation old new h route apart e = subst AreApart (sym e) (apart_more old (record { route = r; operation = operation }) h route apart)

-- the outcome of a template that has this route
pub adds_route : (old new : List Entry) (o : Option Route) (r : Route) (operation : List ℕ) (result : Result (Unit {0}) RouteError) → o ≡ Some r → AddsRoute old r operation new result → AddsTemplate old o operation new result
adds_route old new o r operation result e h = subst (λ (x : Option Route). AddsTemplate old x operation new result) (sym e) h

-- the outcome of a template whose route is refused
none_added : {A : Type 0} (view : A → Route) (entries : List Entry) (o : Option Route) (operation : List ℕ) (e : RouteError) → Gives view o (Err e) → AddsTemplate entries o operation entries (Err e)
none_added view entries o operation fault.Template none = subst (λ (x : Option Route). AddsTemplate entries x operation entries (Err fault.Template)) (sym none) refl
none_added view entries o operation (fault.Conflict other) none = absurd none
none_added view entries None operation fault.OutOfMemory none = refl
none_added view entries (Some r) operation fault.OutOfMemory none = refl

pub adds_none : {A : Type 0} (view : A → Route) (entries : List Entry) (o : Option Route) (operation : List ℕ) (e : RouteError) (result : Result (Unit {0}) RouteError) → result ≡ Err e → Gives view o (Err e)
    → AddsTemplate entries o operation entries result
adds_none view entries o operation e result is none = subst (λ (r : Result (Unit {0}) RouteError). AddsTemplate entries o operation entries r) (sym is) (none_added view entries o operation e none)

pub ruleset adding = (added)
