-- Lists of routes, as functions: the outcome of adding an operation's, and the best one of a request.
use Rattle.std.proofs.Common.{◌≡◌, refl, sym, ◌∙◌, ap, subst, ℕ, Bool, true, false, not, cond, ◌&&◌, ◌||◌, List, [], ◌∷◌, ◌++◌, Option, Some, None, option_map, find, Result, Ok, Err, IsTrue, codes}
use Rattle.std.specs.List.{AllByRecursion, list_all}
use Rattle.std.specs.Option.{option_map_or}
use Rattle.std.proofs.lemmas.Bool.{and_parts, and_from}
use Rattle.smithy_http.specs.Requests.{Request}
use Rattle.smithy_schema.specs.Nodes.{Http}
use Rattle.smithy_binding.specs.Placing.{endpoint_or_slash, method_of, template_of}
use Rattle.smithy_router.specs.Adding.{ConflictsFirst, IsAdded, AddsTemplate, FindsBest, with_last}
use Rattle.smithy_router.specs.Deciding.{covers, conflicts}
use Rattle.smithy_router.specs.Ranking.{Beats, Covers}
use Rattle.smithy_router.specs.Routes.{Route, IsRoute, matches}
use Rattle.smithy_router.specs.Tables.{Entry, IsApartFrom, AreApart, NoneMatches, IsBest, first_conflict}
use Rattle.smithy_router.specs.Templates.{route_of}
use Rattle.smithy_router.specs.declared.error.RouteError.{RouteError}
use Rattle.smithy_router.specs.declared.error.RouteError.TheVariants as error
use Rattle.smithy_router.proofs.Adding.{routes_of}
use Rattle.smithy_router.proofs.Best.{all_parts}
use Rattle.smithy_router.proofs.Parsed.{route_is}
use Rattle.smithy_router.proofs.Ranks.{covers_holds, covers_found, conflicts_holds, conflicts_found}
use Rattle.smithy_serde.specs.StoredValues.{HasNode}
use Rattle.smithy_serde.specs.declared.header_omit_settings.OmitFlags.{OmitFlags}
use Rattle.smithy_model.specs.declared.error.JobError.{JobError}
use Rattle.smithy_job.specs.Recovering as jobs
use Rattle.smithy_job.specs.RecoveringView.{IsRecovering}
use Rattle.smithy_job.specs.Routing.{Operation, recovering_by}
use Rattle.smithy_job.specs.declared.recovering.Recovering.{Recovering}
use Rattle.smithy_bind.specs.Outcome.{json_reading, json_requests}
use Rattle.smithy_bind.specs.Recovering.{recovered_by}
use Rattle.smithy_bind.specs.Routing.{conflict, is_best, no_template, operation_found, route_in, with_operation, with_route}
use Rattle.smithy_bind.specs.declared.told.Answer.{Answer}
use Rattle.smithy_bind.specs.views.AnswerView.{Gives}
use Rattle.smithy_bind.specs.views.RecoveredView.{TellsInput}
use Rattle.smithy_bind.specs.views.RoutedView.{AddsRouteOf}

-- The first of a list.

find_there : (p : Entry → Bool) (before after : List Entry) (e : Entry) → AllByRecursion (λ x. p x ≡ false) before → p e ≡ true → find p (before ++ e ∷ after) ≡ Some e
find_there p [] after e none here = ap (λ t. cond t (Some e) (find p after)) here
find_there p (x ∷ before) after e none here = ap (λ t. cond t (Some x) (find p (before ++ e ∷ after))) none.0 ∙ find_there p before after e none.1 here

at_entry : (p : Entry → Bool) (before after : List Entry) (e : Entry) → list_all p (before ++ e ∷ after) ≡ true → p e ≡ true
at_entry p [] after e all = (and_parts (p e) (list_all p after) all).0
at_entry p (x ∷ before) after e all = at_entry p before after e (and_parts (p x) (list_all p (before ++ e ∷ after)) all).1

-- Adding.

none_conflicts : (r : Route) (es : List Entry) → IsRoute r → AllByRecursion (λ e. IsRoute e.route) es → IsApartFrom r es → AllByRecursion (λ e. conflicts e.route r ≡ false) es
none_conflicts r [] h routes apart = tt
none_conflicts r (x ∷ es) h routes apart = (go (conflicts x.route r) refl, none_conflicts r es h routes.1 apart.1)
  where
    go : (t : Bool) → conflicts x.route r ≡ t → conflicts x.route r ≡ false
    go true is = absurd (apart.0 (conflicts_holds x.route r routes.0 h is))
    go false is = is

none_first : (p : Entry → Bool) (es : List Entry) → AllByRecursion (λ x. p x ≡ false) es → find p es ≡ None
none_first p [] none = refl
none_first p (x ∷ es) none = ap (λ t. cond t (Some x) (find p es)) none.0 ∙ none_first p es none.1

conflict_first : (r : Route) (es : List Entry) (other : List ℕ) → IsRoute r → AllByRecursion (λ e. IsRoute e.route) es → (c : ConflictsFirst es r other) → first_conflict r es ≡ Some c.entry
conflict_first r es other h routes c =
    let parts = all_parts (λ (e : Entry). IsRoute e.route) c.before (c.entry ∷ c.after) (subst (AllByRecursion (λ (e : Entry). IsRoute e.route)) c.stands routes) in
    ap (first_conflict r) c.stands
    ∙ find_there (λ e. conflicts e.route r) c.before c.after c.entry (none_conflicts r c.before h parts.0 c.apart) (conflicts_found c.entry.route r parts.1.0 h c.conflict)

module _ (o : Operation) (old new : List Entry) (apart : AreApart new) where
  without : route_in o ≡ None → with_operation old o ≡ Err (no_template o.name)
  unfolding with_operation
  without none = ap (λ (r : Option Route). option_map_or (with_route old o.name) r (Err (no_template o.name))) none

  by_route : (r : Route) → route_in o ≡ Some r → with_operation old o ≡ with_route old o.name r
  unfolding with_operation
  by_route r some = ap (λ (r : Option Route). option_map_or (with_route old o.name) r (Err (no_template o.name))) some

  is_route : (r : Route) → route_in o ≡ Some r → IsRoute r
  unfolding route_in
  is_route r some = route_is (method_of o.schema) (template_of o.schema []) r some

  added : (r : Route) → route_in o ≡ Some r → IsAdded old r o.name new → with_operation old o ≡ Ok new
  added r some a =
      let entry : Entry = record { route = r; operation = o.name } in
      let routes = all_parts (λ (e : Entry). IsRoute e.route) old (entry ∷ []) (subst (AllByRecursion (λ (e : Entry). IsRoute e.route)) a.last (routes_of new apart)) in
      let none : first_conflict r old ≡ None = none_first (λ e. conflicts e.route r) old (none_conflicts r old (is_route r some) routes.0 a.apart) in
      by_route r some ∙ ap (λ (f : Option Entry). option_map_or (λ e. Err (conflict o.name e.operation)) f (Ok (with_last old r o.name))) none ∙ ap Ok (sym a.last)

  refused : (r : Route) (other : List ℕ) → route_in o ≡ Some r → ConflictsFirst old r other → new ≡ old → with_operation old o ≡ Err (conflict o.name other)
  refused r other some c same =
      let first = conflict_first r old other (is_route r some) (routes_of old (subst AreApart same apart)) c in
      by_route r some ∙ ap (λ (f : Option Entry). option_map_or (λ e. Err (conflict o.name e.operation)) f (Ok (with_last old r o.name))) first
      ∙ ap (λ (name : List ℕ). Err (conflict o.name name)) c.named

  pub adds : (result : Result (Unit {0}) RouteError) → AddsTemplate old (route_in o) o.name new result → AddsRouteOf old o new result
  adds result h = go (route_in o) refl result h
    where
      go : (r : Option Route) → route_in o ≡ r → (result : Result (Unit {0}) RouteError) → AddsTemplate old r o.name new result → AddsRouteOf old o new result
      go None is (Ok _) h = absurd h
      go None is (Err error.Template) h = without is
      go None is (Err (error.Conflict other)) h = absurd h
      go None is (Err error.OutOfMemory) h = tt
      go (Some r) is (Ok _) h = added r is h
      go (Some r) is (Err error.Template) h = absurd h
      go (Some r) is (Err (error.Conflict other)) h = refused r other is h.0 h.1
      go (Some r) is (Err error.OutOfMemory) h = tt

-- the route of the method and the template of `@http`
route_by_http : (o : Operation) (http : Http) → o.schema.node.traits.http ≡ Some http → route_in o ≡ route_of http.method http.uri
unfolding route_in
route_by_http o http e =
    ap (λ (h : Option Http). route_of (option_map_or (λ x. x.method) h (codes "GET")) (option_map_or (λ x. x.uri) h (endpoint_or_slash []))) e

pub adds_by_http : (o : Operation) (http : Http) (method uri : List ℕ) (old new : List Entry) (result : Result (Unit {0}) RouteError) → o.schema.node.traits.http ≡ Some http → method ≡ http.method → uri ≡ http.uri
    → AddsTemplate old (route_of method uri) o.name new result → AreApart new → AddsRouteOf old o new result
adds_by_http o http method uri old new result e m u h apart =
    adds o old new apart result (subst (λ (r : Option Route). AddsTemplate old r o.name new result) ((λ i. route_of (m i) (u i)) ∙ sym (route_by_http o http e)) h)

-- The best one.

module _ (method target : List ℕ) where
  -- the other one covers it where it matches
  abbrev covers_it : Entry → Entry → Bool
  covers_it e o = not (matches o.route method target) || covers o.route e.route

  none_best : (all es : List Entry) → NoneMatches method target es → AllByRecursion (λ e. is_best method target all e ≡ false) es
  none_best all [] none = tt
  none_best all (x ∷ es) none = (go (matches x.route method target) refl, none_best all es none.1)
    where
      go : (t : Bool) → matches x.route method target ≡ t → (t && list_all (λ o. not (matches o.route method target) || covers o.route x.route) all) ≡ false
      go true is = absurd (none.0 is)
      go false is = refl

  covers_one : (e o : Entry) → IsRoute o.route → IsRoute e.route → (IsTrue (matches o.route method target) → Covers o.route e.route) → (not (matches o.route method target) || covers o.route e.route) ≡ true
  covers_one e o is_o is_e h = go (matches o.route method target) refl
    where
      go : (t : Bool) → matches o.route method target ≡ t → (not t || covers o.route e.route) ≡ true
      go true is = covers_found o.route e.route is_o is_e (h is)
      go false is = refl

  covers_all : (e : Entry) (es : List Entry) → IsRoute e.route → AllByRecursion (λ o. IsRoute o.route) es → AllByRecursion (λ o. IsTrue (matches o.route method target) → Covers o.route e.route) es
      → list_all (λ o. not (matches o.route method target) || covers o.route e.route) es ≡ true
  covers_all e [] is_e routes h = refl
  covers_all e (o ∷ os) is_e routes h = and_from _ _ (covers_one e o routes.0 is_e h.0) (covers_all e os is_e routes.1 h.1)

  with_itself : (e : Entry) (before after : List Entry) → AllByRecursion (λ o. IsTrue (matches o.route method target) → Beats e.route o.route) (before ++ after)
      → AllByRecursion (λ o. IsTrue (matches o.route method target) → Covers o.route e.route) (before ++ e ∷ after)
  with_itself e [] after h = ((λ is m t hit. hit), all after h)
    where
      all : (es : List Entry) → AllByRecursion (λ o. IsTrue (matches o.route method target) → Beats e.route o.route) es → AllByRecursion (λ o. IsTrue (matches o.route method target) → Covers o.route e.route) es
      all [] h = tt
      all (o ∷ os) h = ((λ is. (h.0 is).within), all os h.1)
  with_itself e (x ∷ before) after h = ((λ is. (h.0 is).within), with_itself e before after h.1)

  -- one that the best one beats is not best
  beaten : (e : Entry) (es before after : List Entry) → es ≡ before ++ e ∷ after → IsTrue (matches e.route method target) → (x : Entry) → (IsTrue (matches x.route method target) → Beats e.route x.route) → is_best method target es x ≡ false
  beaten e es before after stands matched x beats = go (is_best method target es x) refl
    where
      go : (t : Bool) → is_best method target es x ≡ t → is_best method target es x ≡ false
      go false is = is
      go true is =
          let parts = and_parts (matches x.route method target) (list_all (λ o. not (matches o.route method target) || covers o.route x.route) es) is in
          let here = at_entry (λ o. not (matches o.route method target) || covers o.route x.route) before after e (subst (λ (all : List Entry). list_all (λ o. not (matches o.route method target) || covers o.route x.route) all ≡ true) stands parts.1) in
          let covering : covers e.route x.route ≡ true = ap (λ t. not t || covers e.route x.route) (sym matched) ∙ here in
          absurd ((beats parts.0).not_back (covers_holds e.route x.route covering))

  all_beaten : (e : Entry) (es before after : List Entry) → es ≡ before ++ e ∷ after → IsTrue (matches e.route method target) → (xs : List Entry)
      → AllByRecursion (λ o. IsTrue (matches o.route method target) → Beats e.route o.route) xs → AllByRecursion (λ x. is_best method target es x ≡ false) xs
  all_beaten e es before after stands matched [] h = tt
  all_beaten e es before after stands matched (x ∷ xs) h = (beaten e es before after stands matched x h.0, all_beaten e es before after stands matched xs h.1)

  best_first : (es : List Entry) (e : Entry) → AreApart es → (b : IsBest method target es e) → find (is_best method target es) es ≡ Some e
  best_first es e apart b =
      let routes = routes_of es apart in
      let parts = all_parts (λ (o : Entry). IsRoute o.route) b.before (e ∷ b.after) (subst (AllByRecursion (λ (o : Entry). IsRoute o.route)) b.stands routes) in
      let covered = subst (AllByRecursion (λ (o : Entry). IsTrue (matches o.route method target) → Covers o.route e.route)) (sym b.stands) (with_itself e b.before b.after b.beats_others) in
      let here : is_best method target es e ≡ true = and_from _ _ b.matched (covers_all e es parts.1.0 routes covered) in
      let others = all_parts (λ (o : Entry). IsTrue (matches o.route method target) → Beats e.route o.route) b.before b.after b.beats_others in
      ap (find (is_best method target es)) b.stands
      ∙ find_there (is_best method target es) b.before b.after e (all_beaten e es b.before b.after b.stands b.matched b.before others.0) here

best_found : (q : Request) (entries : List Entry) (found : Option (List ℕ)) → AreApart entries → FindsBest q.method q.target entries found → found ≡ operation_found q entries
unfolding operation_found
best_found q entries None apart none =
    ap (option_map (λ (e : Entry). e.operation)) (sym (none_first (is_best q.method q.target entries) entries (none_best q.method q.target entries entries none)))
best_found q entries (Some operation) apart (e, best, named) =
    ap Some (sym named) ∙ ap (option_map (λ (x : Entry). x.operation)) (sym (best_first q.method q.target entries e apart best))

-- by the method and the target of the request
pub best_found_by : (q : Request) (entries : List Entry) (found : Option (List ℕ)) (method target : List ℕ) → method ≡ q.method → target ≡ q.target → AreApart entries → FindsBest method target entries found → found ≡ operation_found q entries
best_found_by q entries found method target m t apart h =
    best_found q entries found apart (subst (λ (x : List ℕ). FindsBest x q.target entries found) m (subst (λ (y : List ℕ). FindsBest method y entries found) t h))

-- The input by an operation.

pub node_there : (job : Recovering) (is : jobs.Recovering) → IsRecovering job is → HasNode job.table job.index.0
node_there job is h = rw h.schema refl

pub told_by_operation : (o : Operation) (q : Request) (omit : OmitFlags) (job : Recovering) (r : Result Answer JobError) → IsRecovering job (recovering_by o q omit) → TellsInput job r
    → Gives (recovered_by (json_requests o.schema) omit q) r
told_by_operation o q omit job r is tells =
    subst (λ (e : List ℕ). Gives (recovered_by (json_reading o.schema e) omit q) r) is.endpoint
    (subst (λ (f : OmitFlags). Gives (recovered_by (json_reading o.schema job.endpoint.now) f q) r) is.omit
    (subst (λ (x : Request). Gives (recovered_by (json_reading o.schema job.endpoint.now) job.omit x) r) is.request (tells o.schema is.schema)))
