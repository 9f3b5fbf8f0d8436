-- Members put into an object one after another.
use Rattle.std.specs.Prelude.{ℕ, suc, List, [], ◌∷◌, Result, Ok, Err}
use Rattle.std.specs.Cmp.Lexicographic.{slice_cmp}
use Rattle.std.specs.Ordering.{nat_cmp, match_ordering}
use Rattle.serde_json.specs.Data.{Data, Members, put}

-- of those with one name the last value stays
abbrev pub put_all : List (List ℕ × Data) → Members → Members
put_all [] ms = ms
put_all (e ∷ es) ms = put_all es (put e.0 e.1 ms)

-- one place further on
abbrev pub further : Result ℕ ℕ → Result ℕ ℕ
further (Ok place) = Ok (suc place)
further (Err place) = Err (suc place)

-- the place of a name among entries in byte order, or else the place where it belongs
abbrev pub place_of : List ℕ → List (List ℕ × Data) → Result ℕ ℕ
place_of name [] = Err 0
place_of name (e ∷ es) = match_ordering (slice_cmp nat_cmp name e.0) (Err 0) (Ok 0) (further (place_of name es))
