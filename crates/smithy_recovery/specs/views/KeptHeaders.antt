-- What is taken of headers that are gone through.
use Rattle.std.specs.Prelude.{ℕ, List, [], ◌∷◌, Option, Some, None}
use Rattle.std.specs.Borrow.{Bor}
use Rattle.smithy_http.specs.Facts.{values_of_name}

-- the values of a name, by its first one and the headers behind that, if it has one
abbrev pub values_taken : List ℕ → Option (Bor (List ℕ) × List (List ℕ × List ℕ)) → List (List ℕ)
values_taken name None = []
values_taken name (Some taken) = taken.0.now ∷ values_of_name name taken.1
