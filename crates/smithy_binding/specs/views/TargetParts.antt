-- A target: the template filled, and behind it the query.
use Rattle.std.specs.Prelude.{◌≡◌, ℕ, Bool, codes, List, [], ◌∷◌, ◌++◌, Option, MatchOption, Result, if◌then◌else◌, ◌==◌}
use Rattle.smithy_binding.specs.Words.{Bor, has_byte, then_give, Hole, pieces}
use Rattle.smithy_binding.specs.Filling.{hole_text, filled_hole, fill}
use Rattle.smithy_binding.specs.Placing.{pair_text}
pub use Rattle.smithy_schema.specs.CutHoles.{is_close, is_open}

-- what stands before the first pair of a query
abbrev pub separator : Bool → List ℕ
separator has_query = if has_query then codes "&" else codes "?"

-- each pair behind a `&`
abbrev pub queries : List (List ℕ × List ℕ) → List ℕ
queries [] = []
queries (p ∷ ps) = codes "&" ++ (pair_text p ++ queries ps)

-- the path and the query of pairs that each stand behind a `&`
abbrev pub target_behind : List ℕ → List ℕ → List ℕ
target_behind path [] = path
target_behind path (b ∷ query) = if b == 38 then path ++ (separator (has_byte 63 path) ++ query) else path

-- the target of a template, of the texts of its labels, and of pairs that each stand behind a `&`
abbrev pub target_with : List ℕ → List (List ℕ × List ℕ) → List ℕ → Result (List ℕ) (List ℕ)
target_with template labels query = then_give (fill (pieces template) labels) λ path. target_behind path query

-- a hole with its text, where `texts` gives the text of a label by its name
abbrev pub text_in : (List ℕ → Option (List ℕ)) → Hole → Result (List ℕ) (List ℕ)
text_in texts hole = filled_hole hole (texts hole.name)

-- a text in a hole, greedy or not
abbrev pub text_by : Bool → List ℕ → List ℕ
text_by is_greedy text = hole_text (record { name = []; greedy = is_greedy }) text

-- a pair behind a `&`
abbrev pub one_query : List ℕ → List ℕ → List ℕ
one_query name text = queries ((name, text) ∷ [])

-- what stands behind the first `&` of a query, if it begins with one
abbrev pub IsBehindFirst : List ℕ → Option (Bor (List ℕ)) → Type 0
IsBehindFirst query behind =
    (path : List ℕ) → MatchOption behind (target_behind path query ≡ path) (λ q. target_behind path query ≡ path ++ (separator (has_byte 63 path) ++ q.now))
