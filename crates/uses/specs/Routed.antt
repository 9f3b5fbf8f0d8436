-- The operation of a request, by routes.
use Rattle.std.specs.Prelude.{ℕ, List, Option, option_map}
use Rattle.std.specs.Borrow.{Bor}
use Rattle.smithy_router.specs.Adding.{FindsBest}
use Rattle.smithy_router.specs.Tables.{Entry}

-- that of the route that beats each other one that matches, or none where none matches
abbrev pub IsOperationOf : List Entry → List ℕ → List ℕ → Option (Bor (List ℕ)) → Type 0
IsOperationOf routes method target found = FindsBest method target routes (option_map (λ t. t.now) found)
