-- Lists of routes, each with its operation.
use Rattle.std.specs.Prelude.{◌≡◌, ℕ, List, [], ◌∷◌, ◌++◌, Option, Some, None, find, IsTrue, if◌then◌else◌}
use Rattle.std.specs.List.{AllByRecursion}
use Rattle.smithy_router.specs.Routes.{Route, IsRoute, matches}
use Rattle.smithy_router.specs.Ranking.{Beats, Conflicts}
use Rattle.smithy_router.specs.Deciding.{beats, conflicts}

-- a route and the name of its operation
pub record Entry : Type 0 where
  pub route : Route
  pub operation : List ℕ

-- no route of the list conflicts with this one
abbrev pub IsApartFrom : Route → List Entry → Type 0
IsApartFrom route entries = AllByRecursion (λ e. ¬ (Conflicts e.route route)) entries

-- no two routes of the list conflict, and each is a route
abbrev pub AreApart : List Entry → Type 0
AreApart [] = Unit {0}
AreApart (e ∷ es) = IsRoute e.route × (AllByRecursion (λ o. ¬ (Conflicts e.route o.route)) es × AreApart es)

-- no route of the list matches
abbrev pub NoneMatches : List ℕ → List ℕ → List Entry → Type 0
NoneMatches method target entries = AllByRecursion (λ e. ¬ (IsTrue (matches e.route method target))) entries

-- the entry matches, and its route beats each other one that matches
pub record IsBest (method : List ℕ) (target : List ℕ) (entries : List Entry) (entry : Entry) : Type 0 where
  pub before : List Entry
  pub after : List Entry
  pub stands : entries ≡ before ++ entry ∷ after
  pub matched : IsTrue (matches entry.route method target)
  pub beats_others : AllByRecursion (λ o. IsTrue (matches o.route method target) → Beats entry.route o.route) (before ++ after)

-- the first entry that the route conflicts with
abbrev pub first_conflict : Route → List Entry → Option Entry
first_conflict route entries = find (λ e. conflicts e.route route) entries

-- the new entry, where its route matches and there was none before or one that it beats
abbrev pub preferred : Option Entry → Entry → Option Entry
preferred None e = Some e
preferred (Some b) e = if beats e.route b.route then Some e else Some b

abbrev pub better : List ℕ → List ℕ → Option Entry → Entry → Option Entry
better method target best e = if matches e.route method target then preferred best e else best

-- there is no best one exactly where none matches, and the best one is one that beats each other
abbrev pub IsBestOf : List ℕ → List ℕ → List Entry → Option Entry → Type 0
IsBestOf method target entries None = NoneMatches method target entries
IsBestOf method target entries (Some e) = IsBest method target entries e
