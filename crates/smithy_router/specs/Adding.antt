-- What the calls of a list of routes do.
use Rattle.std.specs.Prelude.{◌≡◌, ℕ, List, [], ◌∷◌, ◌++◌, Option, Some, None, Result, Ok, Err}
use Rattle.smithy_router.specs.Routes.{Route}
use Rattle.smithy_router.specs.Ranking.{Conflicts}
use Rattle.smithy_router.specs.Tables.{Entry, IsApartFrom, NoneMatches, IsBest}
use Rattle.smithy_router.specs.declared.error.RouteError.{RouteError}
use Rattle.smithy_router.specs.declared.error.RouteError.TheVariants as fault

-- the first entry of the list that the route conflicts with is one of this operation
pub record ConflictsFirst (entries : List Entry) (route : Route) (operation : List ℕ) : Type 0 where
  pub before : List Entry
  pub entry : Entry
  pub after : List Entry
  pub stands : entries ≡ before ++ entry ∷ after
  pub apart : IsApartFrom route before
  pub conflict : Conflicts entry.route route
  pub named : entry.operation ≡ operation

-- the list with the route as its last one
abbrev pub with_last : List Entry → Route → List ℕ → List Entry
with_last entries route operation = entries ++ record { route = route; operation = operation } ∷ []

-- the route conflicts with none, and stands last
pub record IsAdded (old : List Entry) (route : Route) (operation : List ℕ) (new : List Entry) : Type 0 where
  pub apart : IsApartFrom route old
  pub last : new ≡ with_last old route operation

-- the outcome of adding a route: it is added exactly where it conflicts with none, want of memory aside
abbrev pub AddsRoute : List Entry → Route → List ℕ → List Entry → Result (Unit {0}) RouteError → Type 0
AddsRoute old route operation new (Ok _) = IsAdded old route operation new
AddsRoute old route operation new (Err fault.Template) = ⊥
AddsRoute old route operation new (Err (fault.Conflict other)) = ConflictsFirst old route other × (new ≡ old)
AddsRoute old route operation new (Err fault.OutOfMemory) = new ≡ old

-- the outcome of adding a template that has no route
abbrev pub IsUnroutable : List Entry → List Entry → Result (Unit {0}) RouteError → Type 0
IsUnroutable old new (Ok _) = ⊥
IsUnroutable old new (Err fault.Template) = new ≡ old
IsUnroutable old new (Err (fault.Conflict other)) = ⊥
IsUnroutable old new (Err fault.OutOfMemory) = new ≡ old

-- the outcome of adding a template by its route, if it has one
abbrev pub AddsTemplate :
    List Entry → Option Route → List ℕ → List Entry → Result (Unit {0}) RouteError → Type 0
AddsTemplate old None operation new = IsUnroutable old new
AddsTemplate old (Some route) operation new = AddsRoute old route operation new

-- the operation of the route that beats each other one that matches, or none where none matches
abbrev pub FindsBest : List ℕ → List ℕ → List Entry → Option (List ℕ) → Type 0
FindsBest method target entries None = NoneMatches method target entries
FindsBest method target entries (Some operation) =
    (e : Entry) × IsBest method target entries e × (e.operation ≡ operation)

-- a conflict with the route of this operation, or want of memory
abbrev pub IsConflict : RouteError → List ℕ → Type 0
IsConflict fault.Template operation = ⊥
IsConflict (fault.Conflict other) operation = other ≡ operation
IsConflict fault.OutOfMemory operation = Unit {0}

-- the refusal of a route that conflicts with an entry of the list, the first one, or want of memory
abbrev pub TellsConflict : List Entry → Route → RouteError → Type 0
TellsConflict entries route fault.Template = ⊥
TellsConflict entries route (fault.Conflict other) = ConflictsFirst entries route other
TellsConflict entries route fault.OutOfMemory = Unit {0}
