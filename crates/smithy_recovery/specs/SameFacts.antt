-- Two requests have the same facts, as a test.
use Rattle.std.specs.Prelude.{ℕ, Bool, true, false, ◌&&◌, List, [], ◌∷◌, ◌++◌, map}
use Rattle.std.specs.List.{list_all}
use Rattle.smithy_types.specs.Grammars.{before_query}
use Rattle.smithy_types.specs.Texts.{same_text}
use Rattle.smithy_http.specs.Facts.{values_at, query_pieces, named_piece}
use Rattle.smithy_http.specs.Requests.{Request}

-- the same texts in order
abbrev pub same_texts : List (List ℕ) → List (List ℕ) → Bool
same_texts [] [] = true
same_texts (t ∷ ts) (u ∷ us) = same_text t u && same_texts ts us
same_texts _ _ = false

-- under each name that stands in one of both the same values
unfoldable pub has_same_values : List (List ℕ × List ℕ) → List (List ℕ × List ℕ) → Bool
has_same_values ps qs = list_all (λ p. same_texts (values_at p.0 ps) (values_at p.0 qs)) (ps ++ qs)

-- the pieces of a target's query by their names
abbrev pub query_pairs : List ℕ → List (List ℕ × List ℕ)
query_pairs target = map named_piece (query_pieces target)

-- two requests have the same facts
abbrev pub has_same_facts : Request → Request → Bool
has_same_facts p q =
    same_text p.method q.method
    && (same_text (before_query p.target) (before_query q.target)
    && (same_text p.body q.body
    && (has_same_values p.headers q.headers
    && has_same_values (query_pairs p.target) (query_pairs q.target))))
